-- `links::derived::Numbered::push_column` meets its contract: the derived conditions of the columns so far. Assumes nothing.
use Rattle.std.proofs.Common.{refl, sym, ◌∙◌}
use Rattle.links.specs.Inner.ClassWords.{column_to}
use Rattle.links.proofs.Laws.ClassSteps.{column-next}
use Rattle.links.proofs.derived.Numbered.push_column.Goals as goal
use Rattle.links.proofs.derived.Numbered.push_column.Goals.{then-member, else-member}

pub loop-j-init : goal.loop-j-init
unfolding column_to
loop-j-init c = refl

pub loop-j-preserved : goal.loop-j-preserved
loop-j-preserved c = elim c.if-member.branch [
  | then-member w ↦ let t = sym c.member.ensures ∙ w.if-member.true in let p = w.push.ensures in let e = w.equal_at.ensures in let n = column-next c.args.self.now c.args.i c.args.word c.loop-j.j in rw (n, t) (cc)
  | else-member w ↦ let t = sym c.member.ensures ∙ w.if-member.false in let n = column-next c.args.self.now c.args.i c.args.word c.loop-j.j in rw (n, t) (cc)
]
