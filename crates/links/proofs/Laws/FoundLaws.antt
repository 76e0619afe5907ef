-- Laws of what the code finds: links of columns below 64, the conditions that are kept, and arrays of words. Assumes nothing.
use mathlib.Core.Path.{◌≡◌, refl, sym, ◌∙◌}
use mathlib.Core.Bool.{Bool, true, false, ◌&&◌}
use mathlib.Core.List.{List, map}
use Prim.Native.Nat.{ℕ, ◌<◌, ◌≤◌}
use native.Mathlib.Omega.{arith}
use lib.Dec.{ltb}
use lib.ListN.{length, get_or, take}
use lib.Seq.{ext_get_or}
use borrow.Author.Tests.{lt-ltb}
use Rattle.std.specs.Prelude.{if◌then◌else◌, Some, None}
use Rattle.cells.proofs.Laws.TableLaws.{get_d-within}
use Rattle.cells.specs.declared.condition.Side.TheVariants.{Column}
use Rattle.rows.specs.Lists.{range}
use Rattle.vocabulary.specs.Bits.{word_size}
use Rattle.vocabulary.specs.Report.{condition_at, no_condition}
use Rattle.vocabulary.specs.Inner.Stored.{query_in}
use Rattle.vocabulary.specs.declared.query.StoredQuery.{StoredQuery}
use Rattle.vocabulary.proofs.Laws.WordLaws.{tab-length, tab-at}
use Rattle.links.specs.declared.column.ColumnLink.{ColumnLink}
use Rattle.links.specs.Inner.ClassWords.{is_link, no_link}
use Rattle.links.specs.Inner.LinksFound.{number_found, link_found}
use Rattle.links.proofs.Laws.ClassSteps.{link-below}

-- ---- links

-- two numbers below 64 are a link
pub link-both : (l : ColumnLink) → l.first < word_size → l.second < word_size → is_link l ≡ true
unfolding is_link
link-both l h g = rw (lt-ltb _ _ h, lt-ltb _ _ g)

-- no link is found where there is none
pub found-no : link_found no_link ≡ None
unfolding link_found is_link no_link
found-no = refl

module _ (a b : ℕ) where
  abbrev own : ColumnLink
  own = record { first = a; second = b }

  -- both columns are found
  pub found-both : (i j : ℕ) → number_found a ≡ Some i → number_found b ≡ Some j
      → link_found (record { first = a; second = b }) ≡ Some (record { first = i; second = j })
  unfolding number_found link_found is_link
  found-both i j = go (ltb a word_size) (ltb b word_size)
    where
      found : ColumnLink
      found = record { first = i; second = j }

      go : (s t : Bool) → (if s then Some a else None) ≡ Some i → (if t then Some b else None) ≡ Some j
          → (if s && t then Some own else None) ≡ Some found
      go true true g h = cc
      go true false g h = cc
      go false t g h = cc

  -- the first column is none that a table may have
  pub found-not-first : number_found a ≡ None → link_found (record { first = a; second = b }) ≡ None
  unfolding number_found link_found is_link
  found-not-first = go (ltb a word_size) (ltb b word_size)
    where
      go : (s t : Bool) → (if s then Some a else None) ≡ None → (if s && t then Some own else None) ≡ None
      go true t g = cc
      go false t g = refl

  -- the second column is none that a table may have
  pub found-not-second : number_found b ≡ None → link_found (record { first = a; second = b }) ≡ None
  unfolding number_found link_found is_link
  found-not-second = go (ltb a word_size) (ltb b word_size)
    where
      go : (s t : Bool) → (if t then Some b else None) ≡ None → (if s && t then Some own else None) ≡ None
      go true true g = cc
      go true false g = refl
      go false t g = refl

-- what is found is the link
pub found-link : (l i : ColumnLink) → link_found l ≡ Some i → (i ≡ l) × (is_link l ≡ true)
unfolding link_found
found-link l i = go (is_link l) refl
  where
    go : (b : Bool) → is_link l ≡ b → (if b then Some l else None) ≡ Some i → (i ≡ l) × (is_link l ≡ true)
    go true e h = (cc, e)
    go false e h = absurd cc

-- its columns have words
pub found-below : (l i : ColumnLink) → link_found l ≡ Some i → (i.first < word_size) × (i.second < word_size)
found-below l i h = let (e, t) = found-link l i h in rw e (link-below l t)

-- nothing is found of what is no link
pub found-none : (l : ColumnLink) → link_found l ≡ None → is_link l ≡ false
unfolding link_found
found-none l = go (is_link l) refl
  where
    go : (b : Bool) → is_link l ≡ b → (if b then Some l else None) ≡ None → is_link l ≡ false
    go true e h = cc
    go false e h = e

-- ---- conditions

module _ (q : StoredQuery) where
  -- a condition read from the part of the array that is kept
  pub condition-read : (k : ℕ) → k < length (take q.condition_count q.conditions)
      → get_or (take q.condition_count q.conditions) k (record { table = 0; column = 0; operator = 0; side = Column 0 0 }) ≡ condition_at (query_in q) k
  unfolding query_in condition_at
  condition-read k h = get_d-within (take q.condition_count q.conditions) k (record { table = 0; column = 0; operator = 0; side = Column 0 0 }) no_condition h

  -- all of them are read
  pub conditions-read : (k : ℕ) → k ≤ length (take q.condition_count q.conditions) → length (take q.condition_count q.conditions) ≤ k
      → k ≡ length (query_in q).conditions
  unfolding query_in
  conditions-read k h g = omega arith

-- ---- arrays of words

-- words by their numbers
pub tab-is : (f : ℕ → ℕ) (l : List ℕ) (n : ℕ) → length l ≡ n → ((k : ℕ) → k < n → get_or l k 0 ≡ f k) → l ≡ map f (range 0 n)
tab-is f l n h e =
    let m : length (map f (range 0 n)) ≡ n = tab-length f n in
    ext_get_or 0 l (map f (range 0 n)) (h ∙ sym m) (λ i b. let s : i < n = omega arith in e i s ∙ sym (tab-at f n i 0 s))
