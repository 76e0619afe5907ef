-- `links::classes::unite` meets its contract: the words so far have the others', the rest stay. Assumes nothing.
use Rattle.std.proofs.Common.{◌≡◌, ℕ, ◌<◌, ◌≤◌, get_or, length, bit_or}
use Rattle.links.proofs.classes.unite.Given as goal

abbrev pub invariant-loop-i : goal.invariant-loop-i
invariant-loop-i l = record {
  room : length l.all ≡ 64;
  done : (k : ℕ) → k < l.i → get_or l.all k 0 ≡ bit_or (get_or l.fn.all k 0) (get_or l.more k 0);
  rest : (k : ℕ) → l.i ≤ k → get_or l.all k 0 ≡ get_or l.fn.all k 0;
}
