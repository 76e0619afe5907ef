-- `print::output::Output::write_added` meets its contract: nothing, or its parts one behind the other. Assumes nothing.
use mathlib.Core.Path.{sym}
use native.Mathlib.Omega.{arith}
use Rattle.text.specs.Bytes.{bytes, line_feed}
use Rattle.print.proofs.Laws.OutputLaws.{appended_as, appended_then, appended_none}
use Rattle.print.proofs.Laws.Lines.{added-line, no-added-line}
use Rattle.print.proofs.output.Output.write_added.Goals as goal

pub returns-in_default-clause-appended : goal.returns-in_default-clause-appended
returns-in_default-clause-appended c = appended_none (no-added-line _ c.in_default.is)

pub returns-in-Some-clause-appended : goal.returns-in-Some-clause-appended
unfolding bytes line_feed
returns-in-Some-clause-appended c =
    appended_as (sym (added-line _ _ c.in-Some.is)) (omega arith)
    (appended_then (appended_then c.put.ensures.appended c.write_number.ensures.appended) c.put-in-Some.ensures.appended)
