-- `print::output::Output::write_steps` meets its contract. The invariant: the lines of the steps before k are written. Assumes nothing.
use mathlib.Core.Path.{◌≡◌}
use Prim.Native.Nat.{◌*◌}
use lib.ListN.{length, get_or}
use Rattle.vocabulary.specs.Steps.{zero_step}
use Rattle.text.specs.Print.{print_step}
use Rattle.print.specs.Inner.Output.{Appended}
use Rattle.print.specs.Inner.Room.{step_room}
use Rattle.print.proofs.Laws.Loops.{up_to}
use Rattle.print.proofs.output.Output.write_steps.Given as goal

abbrev pub invariant-loop-k : goal.invariant-loop-k
invariant-loop-k l =
    Appended l.initial.self (up_to (λ i. print_step (get_or l.steps i zero_step)) l.k) (step_room * l.k) l.self
    × (l.self.bytes.ghost_name ≡ l.initial.self.bytes.ghost_name)
