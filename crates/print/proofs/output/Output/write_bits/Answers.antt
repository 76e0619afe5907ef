-- `print::output::Output::write_bits` meets its contract. The invariant: the numbers of the bits below k are written. The measure is what is
-- left of the bits. Assumes nothing.
use mathlib.Core.Path.{◌≡◌, refl, ◌∙◌, ap}
use native.Mathlib.Omega.{arith}
use borrow.Author.Rules.{rules}
use Rattle.print.proofs.Laws.OutputLaws.{appended_as, appended_none}
use Rattle.print.specs.Inner.Room.{field_room}
use Rattle.print.proofs.Laws.Loops.{up_to, appended-turn}
use Rattle.print.specs.Inner.Fields.{bit_field}
use Rattle.print.proofs.Laws.FieldsLaws.{bits-all}
use Rattle.print.proofs.output.Output.write_bits.Goals as goal

pub loop-k-init : goal.loop-k-init
unfolding up_to
loop-k-init c = (appended_none refl, refl)

pub loop-k-preserved : goal.loop-k-preserved
loop-k-preserved c =
    (appended-turn (bit_field _) c.loop-k.k field_room c.loop-k.invariant.0 c.write_bit.ensures.appended, search rules)

pub returns-clause-appended : goal.returns-clause-appended
returns-clause-appended c =
    let e : c.loop-k.k ≡ 64 = omega arith in
    appended_as (ap (up_to (bit_field _)) e ∙ bits-all _) (omega arith) c.loop-k.invariant.0
