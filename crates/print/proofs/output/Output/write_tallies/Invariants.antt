-- `print::output::Output::write_tallies` meets its contract. The invariant: the lines of the conditions before k are written. Assumes nothing.
use mathlib.Core.Path.{◌≡◌}
use Prim.Native.Nat.{◌*◌}
use lib.ListN.{length}
use Rattle.vocabulary.specs.Facts.{tally_from}
use Rattle.text.specs.Print.{print_tally}
use Rattle.print.specs.Inner.Output.{Appended}
use Rattle.print.specs.Inner.Room.{tally_room}
use Rattle.print.proofs.Laws.Loops.{up_to}
use Rattle.print.proofs.output.Output.write_tallies.Given as goal

abbrev pub invariant-loop-k : goal.invariant-loop-k
invariant-loop-k l =
    Appended l.initial.self (up_to (λ i. print_tally i (tally_from l.tallies i)) l.k) (tally_room * l.k) l.self
    × (l.self.bytes.ghost_name ≡ l.initial.self.bytes.ghost_name)
