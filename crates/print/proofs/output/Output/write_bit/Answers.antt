-- `print::output::Output::write_bit` meets its contract: a bit that is set by `bit-set`, another by `bit-clear`. Assumes nothing.
use mathlib.Core.Path.{sym, ◌∙◌}
use native.Mathlib.Omega.{arith}
use Rattle.print.proofs.Laws.OutputLaws.{appended_as, appended_none}
use Rattle.print.proofs.Laws.FieldsLaws.{bit-set, bit-clear}
use Rattle.print.proofs.output.Output.write_bit.Goals as goal

pub returns-then-member-clause-appended : goal.returns-then-member-clause-appended
returns-then-member-clause-appended c =
    appended_as (sym (bit-set _ _ (sym c.member.ensures ∙ c.if-member.true))) (omega arith) c.write_number.ensures.appended

pub returns-else-member-clause-appended : goal.returns-else-member-clause-appended
returns-else-member-clause-appended c = appended_none (bit-clear _ _ (sym c.member.ensures ∙ c.if-member.false))
