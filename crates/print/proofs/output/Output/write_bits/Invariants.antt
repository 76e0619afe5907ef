-- `print::output::Output::write_bits` meets its contract. The invariant: the numbers of the bits below k are written. Assumes nothing.
use mathlib.Core.Path.{◌≡◌}
use Prim.Native.Nat.{◌*◌}
use lib.ListN.{length}
use Rattle.print.specs.Inner.Output.{Appended}
use Rattle.print.specs.Inner.Room.{field_room}
use Rattle.print.proofs.Laws.Loops.{up_to}
use Rattle.print.specs.Inner.Fields.{bit_field}
use Rattle.print.proofs.output.Output.write_bits.Given as goal

abbrev pub invariant-loop-k : goal.invariant-loop-k
invariant-loop-k l =
    Appended l.initial.self (up_to (bit_field l.set) l.k) (field_room * l.k) l.self
    × (l.self.bytes.ghost_name ≡ l.initial.self.bytes.ghost_name)
