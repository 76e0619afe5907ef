-- `links::classes::join_group` meets its contract: the words so far have the group, the others stay. Assumes nothing.
use Rattle.std.proofs.Common.{◌≡◌, ℕ, ◌<◌, ◌≤◌, get_or, length, bit_or}
use Rattle.vocabulary.specs.Bits.{has_bit}
use Rattle.vocabulary.specs.Inner.Words.{only_if}
use Rattle.links.proofs.classes.join_group.Given as goal

abbrev pub invariant-loop-i : goal.invariant-loop-i
invariant-loop-i l = record {
  room : length l.classes ≡ 64;
  done : (k : ℕ) → k < l.i → get_or l.classes k 0 ≡ bit_or (get_or l.fn.classes k 0) (only_if (has_bit l.group k) l.group);
  rest : (k : ℕ) → l.i ≤ k → get_or l.classes k 0 ≡ get_or l.fn.classes k 0;
}
