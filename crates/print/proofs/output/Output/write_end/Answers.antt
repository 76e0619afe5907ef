-- `print::output::Output::write_end` meets its contract: its parts one behind the other. Assumes nothing.
use mathlib.Core.Path.{sym}
use native.Mathlib.Omega.{arith}
use Rattle.text.specs.Bytes.{line_feed}
use Rattle.print.proofs.Laws.OutputLaws.{appended_as, appended_then}
use Rattle.print.proofs.Laws.Lines.{end_line}
use Rattle.print.proofs.output.Output.write_end.Goals as goal

pub returns-clause-appended : goal.returns-clause-appended
unfolding line_feed
returns-clause-appended c =
    appended_as (sym (end_line _ _)) (omega arith)
    (appended_then (appended_then c.write_number.ensures.appended c.write_bits.ensures.appended) c.put.ensures.appended)
