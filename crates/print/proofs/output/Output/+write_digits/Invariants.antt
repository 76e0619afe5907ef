-- `print::output::Output::write_digits` meets its contract: one law of FieldsLaws for each way out. The measure is `most`. Assumes nothing.
use Rattle.print.proofs.output.Output.+write_digits.Given as goal

abbrev pub decreases-write_digits : goal.decreases-write_digits
decreases-write_digits l = l.most
