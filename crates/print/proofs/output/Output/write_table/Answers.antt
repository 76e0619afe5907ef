-- `print::output::Output::write_table` meets its contract: the letter, and the rest of the line. Assumes nothing.
use Rattle.print.proofs.Laws.OutputLaws.{appended_then}
use Rattle.print.proofs.output.Output.write_table.Goals as goal

pub returns-clause-appended : goal.returns-clause-appended
returns-clause-appended c = appended_then c.put.ensures.appended c.write_end.ensures.appended
