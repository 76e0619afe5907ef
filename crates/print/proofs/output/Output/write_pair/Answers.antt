-- `print::output::Output::write_pair` meets its contract: its parts one behind the other. Assumes nothing.
use mathlib.Core.Path.{sym}
use native.Mathlib.Omega.{arith}
use Rattle.text.specs.Bytes.{bytes}
use Rattle.print.proofs.Laws.OutputLaws.{appended_as, appended_then}
use Rattle.print.proofs.Laws.Lines.{pair_line}
use Rattle.print.proofs.output.Output.write_pair.Goals as goal

pub returns-clause-appended : goal.returns-clause-appended
unfolding bytes
returns-clause-appended c =
    appended_as (sym (pair_line c.args.s c.requires.pair)) (omega arith)
    (appended_then
    (appended_then (appended_then (appended_then c.put.ensures.appended c.write_kind.ensures.appended) c.write_number.ensures.appended) c.write_number-2.ensures.appended)
    c.write_end.ensures.appended)
