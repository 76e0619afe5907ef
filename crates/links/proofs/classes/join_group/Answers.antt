-- `links::classes::join_group` meets its contract: all words have the group. Assumes nothing.
use Rattle.std.proofs.Common.{get_or, bit_or, ℕ, arith}
use Rattle.vocabulary.specs.Bits.{has_bit}
use Rattle.vocabulary.specs.Inner.Words.{only_if}
use Rattle.links.specs.Inner.ClassWords.{grouped_words}
use Rattle.links.proofs.Laws.FoundLaws.{tab-is}
use Rattle.links.proofs.classes.join_group.Goals as goal

pub returns : goal.returns
unfolding grouped_words
returns c =
    tab-is (λ (k : ℕ). bit_or (get_or c.args.classes.now k 0) (only_if (has_bit c.args.group k) c.args.group)) _ _ c.loop-i.invariant.room
    (λ k h. c.loop-i.invariant.done k (omega arith))
