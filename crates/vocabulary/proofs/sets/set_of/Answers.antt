-- `vocabulary::sets::set_of` meets its contract: the numbers so far that pass the test. Assumes nothing.
use Rattle.std.proofs.Common.{refl}
use Rattle.rows.specs.Lists.{range, keep}
use Rattle.vocabulary.specs.Steps.{bits_of}
use Rattle.vocabulary.proofs.Laws.WordLaws.{keep-next}
use Rattle.vocabulary.proofs.sets.set_of.Goals as goal

pub loop-k-init : goal.loop-k-init
unfolding bits_of keep range
loop-k-init g c = λ p h. refl

pub loop-k-preserved : goal.loop-k-preserved
loop-k-preserved g c = λ p h.
    let inv = c.loop-k.invariant p h in
    let e = h c.loop-k.k c.test.result c.loop-k-test.true c.test.ensures in
    let o = c.only-set.ensures in
    let t = c.one.ensures in
    rw (keep-next, ← e, ← inv) (cc)
