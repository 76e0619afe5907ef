-- `print::output::Output::write_steps` meets its contract. The invariant: the lines of the steps before k are written. The measure is what is left
-- of the steps. Assumes nothing.
use mathlib.Core.Path.{◌≡◌, refl, ◌∙◌, ap}
use native.Mathlib.Omega.{arith}
use lib.ListN.{length, get_or}
use borrow.Author.Rules.{rules}
use Rattle.vocabulary.specs.Steps.{zero_step}
use Rattle.text.specs.Print.{print_step}
use Rattle.print.proofs.Laws.OutputLaws.{appended_as, appended_none}
use Rattle.print.specs.Inner.Room.{step_room}
use Rattle.print.proofs.Laws.Loops.{up_to, appended-turn, up_to-flat_map}
use Rattle.print.proofs.output.Output.write_steps.Goals as goal

pub loop-k-init : goal.loop-k-init
unfolding up_to
loop-k-init c = (appended_none refl, refl)

pub loop-k-preserved : goal.loop-k-preserved
unfolding zero_step
loop-k-preserved c = (
  appended-turn (λ i. print_step (get_or c.args.steps i zero_step)) c.loop-k.k step_room c.loop-k.invariant.0 c.write_step.ensures.appended,
  search rules,
)

pub returns-clause-appended : goal.returns-clause-appended
returns-clause-appended c =
    let e : c.loop-k.k ≡ c.args.n = omega arith in
    let h : length c.args.steps ≡ 16 = search rules in
    appended_as
    (ap (up_to (λ i. print_step (get_or c.args.steps i zero_step))) e ∙ up_to-flat_map print_step c.args.steps zero_step c.args.n (omega arith))
    (omega arith)
    c.loop-k.invariant.0
