-- `print::output::Output::write_tally` meets its contract: its parts one behind the other. Assumes nothing.
use mathlib.Core.Path.{sym}
use native.Mathlib.Omega.{arith}
use Rattle.text.specs.Bytes.{bytes, line_feed}
use Rattle.print.proofs.Laws.OutputLaws.{appended_as, appended_then}
use Rattle.print.proofs.Laws.Lines.{tally-line}
use Rattle.print.proofs.output.Output.write_tally.Goals as goal

pub returns-clause-appended : goal.returns-clause-appended
unfolding bytes line_feed
returns-clause-appended c =
    appended_as (sym (tally-line _ _)) (omega arith)
    (appended_then
    (appended_then
    (appended_then (appended_then (appended_then c.put.ensures.appended c.write_number.ensures.appended) c.write_number-2.ensures.appended) c.write_number-3.ensures.appended)
    c.write_number-4.ensures.appended)
    c.put-2.ensures.appended)
