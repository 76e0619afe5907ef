-- `print::output::Output::write_best_match` meets its contract: the letter and the line feed. Assumes nothing.
use Rattle.text.specs.Bytes.{bytes, line_feed}
use Rattle.text.specs.Print.{print_fields}
use Rattle.print.proofs.Laws.OutputLaws.{appended_then}
use Rattle.print.proofs.output.Output.write_best_match.Goals as goal

pub returns-clause-appended : goal.returns-clause-appended
unfolding bytes print_fields line_feed
returns-clause-appended c = appended_then c.put.ensures.appended c.put-2.ensures.appended
