-- `links::derived::Numbered::push_column` meets its contract: the derived conditions of the columns so far. Assumes nothing.
use Rattle.std.proofs.Common.{◌≡◌}
use Rattle.links.specs.Inner.ClassWords.{column_to}
use Rattle.links.proofs.derived.Numbered.push_column.Given as goal

abbrev pub invariant-loop-j : goal.invariant-loop-j
invariant-loop-j l = l.self ≡ column_to l.initial.self l.i l.word l.j
