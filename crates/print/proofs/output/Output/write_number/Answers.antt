-- `print::output::Output::write_number` meets its contract: the tab and the digits. Assumes nothing.
use Rattle.text.specs.Bytes.{tab}
use Rattle.text.specs.Print.{print_number}
use Rattle.print.proofs.Laws.OutputLaws.{appended_then}
use Rattle.print.specs.Inner.Fields.{printed_field, printed_number}
use Rattle.print.proofs.output.Output.write_number.Goals as goal

pub returns-clause-appended : goal.returns-clause-appended
unfolding printed_number printed_field tab print_number
returns-clause-appended c = appended_then c.put.ensures.appended c.write_digits.ensures.appended
