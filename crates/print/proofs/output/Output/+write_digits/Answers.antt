-- `print::output::Output::write_digits` meets its contract: one law of FieldsLaws for each way out. The measure is `most`. Assumes nothing.
use mathlib.Core.Path.{sym}
use native.Mathlib.Omega.{arith}
use Rattle.print.proofs.Laws.OutputLaws.{appended_as, appended_then, appended_none}
use Rattle.print.proofs.Laws.FieldsLaws.{digits-none, digits_last, digits_more}
use Rattle.print.proofs.output.Output.+write_digits.Goals as goal

pub returns-then-most-eq0-clause-appended : goal.returns-then-most-eq0-clause-appended
returns-then-most-eq0-clause-appended t c = appended_none (digits-none _ _ c.if-most-eq0.true)

pub returns-then-n-le9-clause-appended : goal.returns-then-n-le9-clause-appended
returns-then-n-le9-clause-appended t c =
    appended_as (sym (digits_last _ _ (omega arith) c.if-n-le9.true)) (omega arith) c.put.ensures.appended

pub returns-clause-appended : goal.returns-clause-appended
returns-clause-appended t c =
    appended_as (sym (digits_more _ _ (omega arith) c.if-n-le9.false)) (omega arith) (appended_then c.write_digits.ensures.appended c.put-2.ensures.appended)
