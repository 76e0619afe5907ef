-- `print::output::Output::write_entries` meets its contract. The invariant: the entries so far are written. Assumes nothing.
use mathlib.Core.Path.{◌≡◌}
use Prim.Native.Nat.{◌*◌}
use lib.ListN.{length, get_or}
use Rattle.print.specs.Inner.Output.{Appended}
use Rattle.print.specs.Inner.Room.{field_room}
use Rattle.print.proofs.Laws.Loops.{up_to}
use Rattle.print.specs.Inner.Fields.{entry_field}
use Rattle.print.proofs.output.Output.write_entries.Given as goal

abbrev pub invariant-loop-entry : goal.invariant-loop-entry
invariant-loop-entry l =
    Appended l.initial.self (up_to (λ i. entry_field (get_or l.row i 0)) l.entry-index) (field_room * l.entry-index) l.self
    × (l.self.bytes.ghost_name ≡ l.initial.self.bytes.ghost_name)
