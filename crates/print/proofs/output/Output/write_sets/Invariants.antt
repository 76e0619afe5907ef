-- `print::output::Output::write_sets` meets its contract. The invariant: the lines of the tables before t are written. Assumes nothing.
use mathlib.Core.Path.{◌≡◌}
use Prim.Native.Nat.{◌*◌}
use lib.ListN.{length, get_or}
use Rattle.print.specs.Inner.Output.{Appended}
use Rattle.print.specs.Inner.Room.{table_room}
use Rattle.print.proofs.Laws.Loops.{up_to}
use Rattle.print.proofs.Laws.Lines.{set_line}
use Rattle.print.proofs.output.Output.write_sets.Given as goal

abbrev pub invariant-loop-t : goal.invariant-loop-t
invariant-loop-t l =
    Appended l.initial.self (up_to (λ i. set_line i (get_or l.sets i 0)) l.t) (table_room * l.t) l.self
    × (l.self.bytes.ghost_name ≡ l.initial.self.bytes.ghost_name)
