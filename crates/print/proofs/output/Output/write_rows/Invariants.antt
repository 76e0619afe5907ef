-- `print::output::Output::write_rows` meets its contract. The invariant: the lines of the rows before i are written, and row i stands at `from`.
-- The measure is what is left of the rows. Assumes nothing.
use mathlib.Core.Path.{◌≡◌}
use Prim.Native.Nat.{◌*◌}
use lib.ListN.{length, take, drop}
use Rattle.text.specs.Print.{print_row}
use Rattle.print.specs.Inner.Output.{Appended}
use Rattle.print.specs.Inner.Room.{row_room}
use Rattle.print.proofs.Laws.Loops.{up_to}
use Rattle.print.proofs.output.Output.write_rows.Given as goal

abbrev pub invariant-loop-i : goal.invariant-loop-i
invariant-loop-i l =
    (l.from ≡ l.i * l.n)
    × Appended l.initial.self (up_to (λ k. print_row (take l.n (drop (k * l.n) l.res))) l.i) (row_room * l.i) l.self
    × (l.self.bytes.ghost_name ≡ l.initial.self.bytes.ghost_name)
