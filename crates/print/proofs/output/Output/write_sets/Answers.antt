-- `print::output::Output::write_sets` meets its contract. The invariant: the lines of the tables before t are written. The measure is what is left
-- of the tables. Assumes nothing.
use mathlib.Core.Path.{◌≡◌, refl, ◌∙◌, ap}
use native.Mathlib.Omega.{arith}
use lib.ListN.{length, get_or}
use borrow.Author.Rules.{rules}
use Rattle.text.specs.Bytes.{bytes}
use Rattle.print.proofs.Laws.OutputLaws.{appended_as, appended_none}
use Rattle.print.specs.Inner.Room.{table_room}
use Rattle.print.proofs.Laws.Loops.{up_to, appended-turn}
use Rattle.print.proofs.Laws.Lines.{set_line, sets-all}
use Rattle.print.proofs.output.Output.write_sets.Goals as goal

pub loop-t-init : goal.loop-t-init
unfolding up_to
loop-t-init c = (appended_none refl, refl)

pub loop-t-preserved : goal.loop-t-preserved
unfolding set_line bytes
loop-t-preserved c = (
  appended-turn (λ i. set_line i (get_or c.args.sets i 0)) c.loop-t.t table_room c.loop-t.invariant.0 c.write_table.ensures.appended,
  search rules,
)

pub returns-clause-appended : goal.returns-clause-appended
returns-clause-appended c =
    let e : c.loop-t.t ≡ c.args.n = omega arith in
    let h : length c.args.sets ≡ 8 = search rules in
    appended_as (ap (up_to (λ i. set_line i (get_or c.args.sets i 0))) e ∙ sets-all c.args.sets c.args.n (omega arith)) (omega arith) c.loop-t.invariant.0
