-- `vocabulary::sets::set_of` meets its contract: the numbers so far that pass the test. Assumes nothing.
use Rattle.std.proofs.Common.{◌≡◌, ℕ, Bool, ◌<◌}
use Rattle.rows.specs.Lists.{range, keep}
use Rattle.vocabulary.specs.Steps.{bits_of}
use Rattle.vocabulary.proofs.sets.set_of.Given as goal

abbrev pub invariant-loop-k : goal.invariant-loop-k
invariant-loop-k g l =
    (p : ℕ → Bool) → ((k : ℕ) (b : Bool) → k < l.count → goal.F-post g l.test k b → b ≡ p k) → l.set ≡ bits_of (keep p (range 0 l.k))
