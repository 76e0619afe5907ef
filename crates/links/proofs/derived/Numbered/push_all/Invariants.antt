-- `links::derived::Numbered::push_all` meets its contract: the derived conditions of the columns so far. Assumes nothing.
use Rattle.std.proofs.Common.{◌≡◌}
use Rattle.links.specs.Inner.ClassWords.{derived_to}
use Rattle.links.proofs.derived.Numbered.push_all.Given as goal

abbrev pub invariant-loop-i : goal.invariant-loop-i
invariant-loop-i l = l.self ≡ derived_to l.initial.self l.classes l.stated l.i
