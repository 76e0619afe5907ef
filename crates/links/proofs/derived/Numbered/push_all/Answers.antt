-- `links::derived::Numbered::push_all` meets its contract: the derived conditions of the columns so far. Assumes nothing.
use Rattle.std.proofs.Common.{refl}
use Rattle.vocabulary.specs.Bits.{word_size}
use Rattle.links.specs.Inner.ClassWords.{derived_to}
use Rattle.links.proofs.Laws.ClassSteps.{column-none, derived-next}
use Rattle.links.proofs.derived.Numbered.push_all.Goals as goal
use Rattle.links.proofs.derived.Numbered.push_all.Goals.{then-word-ne0, else-word-ne0}

pub loop-i-init : goal.loop-i-init
unfolding derived_to
loop-i-init c = refl

pub loop-i-preserved : goal.loop-i-preserved
loop-i-preserved c =
    let n = derived-next c.args.self.now c.args.classes.now c.args.stated.now c.loop-i.i in
    let d = c.derived_with-word.ensures in elim c.if-word-ne0.branch [
      | then-word-ne0 w ↦ let p = w.push_column.ensures in rw n (cc)
      | else-word-ne0 w ↦ let e = column-none c.loop-i.self c.loop-i.i word_size in let z = w.if-word-ne0.false in rw n (cc)
    ]
