-- `print::output::Output::write_entries` meets its contract. The invariant: the entries so far are written. Assumes nothing.
use mathlib.Core.Path.{◌≡◌, refl, ◌∙◌, ap}
use native.Mathlib.Omega.{arith}
use lib.ListN.{length, get_or}
use borrow.Author.Rules.{rules}
use Rattle.print.proofs.Laws.OutputLaws.{appended_as, appended_none}
use Rattle.print.specs.Inner.Room.{field_room}
use Rattle.print.proofs.Laws.Loops.{up_to, appended-turn}
use Rattle.print.specs.Inner.Fields.{entry_field}
use Rattle.print.proofs.Laws.FieldsLaws.{entries-all}
use Rattle.print.proofs.output.Output.write_entries.Goals as goal

pub loop-entry-init : goal.loop-entry-init
unfolding up_to
loop-entry-init c = (appended_none refl, refl)

pub loop-entry-preserved : goal.loop-entry-preserved
loop-entry-preserved c = (
  appended-turn (λ i. entry_field (get_or c.args.row.now i 0)) c.loop-entry.entry-index field_room c.loop-entry.invariant.0 c.write_entry.ensures.appended,
  search rules,
)

pub returns-clause-appended : goal.returns-clause-appended
returns-clause-appended c =
    let e : c.loop-entry.entry-index ≡ length c.args.row.now = omega arith in
    appended_as (ap (up_to (λ i. entry_field (get_or c.args.row.now i 0))) e ∙ entries-all c.args.row.now) (omega arith) c.loop-entry.invariant.0
