-- `print::output::Output::write_rows` meets its contract. The invariant: the lines of the rows before i are written, and row i stands at `from`.
-- Assumes nothing.
use mathlib.Core.Path.{◌≡◌, refl, ◌∙◌, ap, ap₂, sym}
use Prim.Native.Nat.{ℕ, ◌≤◌, ◌+◌, ◌-◌, ◌*◌}
use native.Mathlib.Omega.{arith}
use native.Mathlib.Nat.{zero-mul, suc-mul, le_refl}
use native.Mathlib.Numerals.{add-one}
use lib.ListN.{take, drop}
use borrow.Author.Rules.{rules}
use Rattle.text.specs.Print.{print_row}
use Rattle.print.proofs.Laws.OutputLaws.{appended_as, appended_none}
use Rattle.print.specs.Inner.Room.{row_room}
use Rattle.print.proofs.Laws.Loops.{up_to, appended-turn}
use Rattle.print.proofs.Laws.RowsLaws.{row_fits, rows_all}
use Rattle.print.proofs.output.Output.write_rows.Goals as goal

pub loop-i-init : goal.loop-i-init
unfolding up_to
loop-i-init c = (sym (zero-mul _), appended_none refl, refl)

pub write_row-requires : goal.write_row-requires
write_row-requires c =
    let h : c.loop-i.i * c.args.n + c.args.n ≤ c.args.rows * c.args.n = row_fits c.args.n c.loop-i-test.true in
    search rules

pub overflow_add-from : goal.overflow_add-from
overflow_add-from c =
    let t = c.loop-i-test.true in
    let h : c.loop-i.i * c.args.n + c.args.n ≤ c.args.rows * c.args.n = row_fits c.args.n t in
    search rules

pub loop-i-preserved : goal.loop-i-preserved
loop-i-preserved c =
    let next = ap (λ (k : ℕ). k * c.args.n) (add-one c.loop-i.i) ∙ suc-mul c.loop-i.i c.args.n in
    let wide : c.loop-i.from + c.args.n - c.loop-i.from ≡ c.args.n = omega arith in
    let row = appended_as (ap₂ (λ (m j : ℕ). print_row (take m (drop j c.args.res.now))) wide c.loop-i.invariant.0) (le_refl row_room) c.write_row.ensures.appended in (
      omega (arith, next, c.loop-i.invariant.0),
      appended-turn (λ k. print_row (take c.args.n (drop (k * c.args.n) c.args.res.now))) c.loop-i.i row_room c.loop-i.invariant.1 row,
      search rules,
    )

pub returns-clause-appended : goal.returns-clause-appended
returns-clause-appended c =
    let e : c.loop-i.i ≡ c.args.rows = omega arith in
    appended_as
    (ap (up_to (λ k. print_row (take c.args.n (drop (k * c.args.n) c.args.res.now)))) e ∙ rows_all print_row c.args.n c.args.rows c.args.res.now)
    (omega arith)
    c.loop-i.invariant.1
