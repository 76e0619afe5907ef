-- `print::output::Output::write_tallies` meets its contract. The invariant: the lines of the conditions before k are written. The measure is what
-- is left of the conditions. Assumes nothing.
use mathlib.Core.Path.{◌≡◌, refl, ◌∙◌, ap}
use native.Mathlib.Omega.{arith}
use borrow.Author.Rules.{rules}
use Rattle.vocabulary.specs.Facts.{no_tally, tally_from}
use Rattle.text.specs.Print.{print_tally}
use Rattle.print.proofs.Laws.OutputLaws.{appended_as, appended_none}
use Rattle.print.specs.Inner.Room.{tally_room}
use Rattle.print.proofs.Laws.Loops.{up_to, appended-turn}
use Rattle.print.proofs.Laws.Lines.{tallies-all}
use Rattle.print.proofs.output.Output.write_tallies.Goals as goal

pub loop-k-init : goal.loop-k-init
unfolding up_to
loop-k-init c = (appended_none refl, refl)

pub loop-k-preserved : goal.loop-k-preserved
unfolding tally_from no_tally
loop-k-preserved c = (
  appended-turn (λ i. print_tally i (tally_from c.args.tallies i)) c.loop-k.k tally_room c.loop-k.invariant.0 c.write_tally.ensures.appended,
  search rules,
)

pub returns-clause-appended : goal.returns-clause-appended
returns-clause-appended c =
    let e : c.loop-k.k ≡ c.args.n = omega arith in
    appended_as
    (ap (up_to (λ i. print_tally i (tally_from c.args.tallies i))) e ∙ tallies-all (tally_from c.args.tallies) c.args.n)
    (omega arith)
    c.loop-k.invariant.0
