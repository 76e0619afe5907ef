-- `print::output::Output::write_report` meets its contract: its parts one behind the other, in the room of an answer. Assumes nothing.
use mathlib.Core.Path.{refl}
use native.Mathlib.Omega.{arith}
use Rattle.print.proofs.Laws.OutputLaws.{appended_as, appended_then}
use Rattle.vocabulary.specs.Facts.{first_tallies}
use Rattle.print.specs.Inner.Printed.{report_bytes}
use Rattle.print.proofs.output.Output.write_report.Goals as goal

pub returns-clause-appended : goal.returns-clause-appended
unfolding report_bytes first_tallies
returns-clause-appended c =
    let h = c.requires.fitting in
    appended_as refl (omega (arith, h.rows_fit.tables_few, h.conditions_few, h.rows_fit.rows_few, h.steps_few))
    (appended_then (appended_then (appended_then (appended_then c.write_sets.ensures.appended c.write_tallies.ensures.appended) c.write_steps.ensures.appended) c.write_added.ensures.appended) c.write_rows.ensures.appended)
