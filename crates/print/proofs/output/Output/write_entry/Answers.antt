-- `print::output::Output::write_entry` meets its contract: a number of few digits by `entry-one`, `entry-two`, `entry-three`, a blank entry by
-- `entry-blank`, another number by `entry-number`. Assumes nothing.
use mathlib.Core.Path.{◌≡◌, sym, ap, ap₂, ◌∙◌}
use mathlib.Core.List.{◌∷◌, []}
use Prim.Native.Nat.{ℕ}
use native.Mathlib.Omega.{arith}
use Rattle.cells.specs.Row.{blank_row}
use Rattle.text.specs.Bytes.{Bytes, bytes, tab}
use Rattle.print.proofs.Laws.OutputLaws.{appended_as, appended_then}
use Rattle.print.proofs.Laws.FieldsLaws.{entry-one, entry-two, entry-three, entry-blank, entry-number}
use Rattle.print.proofs.output.Output.write_entry.Goals as goal

pub returns-then-x-lt10-clause-appended : goal.returns-then-x-lt10-clause-appended
unfolding tab
returns-then-x-lt10-clause-appended c =
    appended_as (sym (entry-one _ _ c.if-x-lt10.true c.digit.ensures)) (omega arith) c.put_all.ensures.appended

pub returns-then-x-lt100-clause-appended : goal.returns-then-x-lt100-clause-appended
unfolding tab
returns-then-x-lt100-clause-appended c =
    appended_as (sym (entry-two _ _ _ (omega arith) (omega arith) c.digit-then-x-lt100.ensures c.digit-then-x-lt100-2.ensures)) (omega arith) c.put_all-then-x-lt100.ensures.appended

pub returns-then-x-lt1000-clause-appended : goal.returns-then-x-lt1000-clause-appended
unfolding tab
returns-then-x-lt1000-clause-appended c =
    appended_as (sym (entry-three _ _ _ _ (omega arith) (omega arith) c.digit-then-x-lt1000.ensures c.digit-then-x-lt1000-2.ensures c.digit-then-x-lt1000-3.ensures)) (omega arith) c.put_all-then-x-lt1000.ensures.appended

pub returns-then-x-eq-BLANK-clause-appended : goal.returns-then-x-eq-BLANK-clause-appended
unfolding tab bytes blank_row
returns-then-x-eq-BLANK-clause-appended c =
    appended_as (sym (entry-blank _ c.if-x-eq-BLANK.true)) (omega arith) c.put_all-then-x-eq-BLANK.ensures.appended

pub returns-else-x-eq-BLANK-clause-appended : goal.returns-else-x-eq-BLANK-clause-appended
unfolding blank_row
returns-else-x-eq-BLANK-clause-appended c =
    appended_as (sym (entry-number _ c.if-x-eq-BLANK.false)) (omega arith) c.write_number.ensures.appended
