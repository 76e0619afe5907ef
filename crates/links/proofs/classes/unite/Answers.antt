-- `links::classes::unite` meets its contract: all words are united. Assumes nothing.
use Rattle.std.proofs.Common.{get_or, bit_or, ℕ, arith}
use Rattle.links.specs.Inner.ClassWords.{either_words}
use Rattle.links.proofs.Laws.FoundLaws.{tab-is}
use Rattle.links.proofs.classes.unite.Goals as goal

pub returns : goal.returns
unfolding either_words
returns c =
    tab-is (λ (k : ℕ). bit_or (get_or c.args.all.now k 0) (get_or c.args.more.now k 0)) _ _ c.loop-i.invariant.room
    (λ k h. c.loop-i.invariant.done k (omega arith))
