-- `links::classes::join_link` meets its contract: the groups of both columns become one. Assumes nothing.
use Rattle.links.specs.Inner.ClassWords.{group_word}
use Rattle.links.proofs.Laws.ClassSteps.{linked-more}
use Rattle.links.proofs.Laws.FoundLaws.{link-both}
use Rattle.links.proofs.classes.join_link.Goals as goal

pub returns : goal.returns
unfolding group_word
returns c =
    let more = linked-more c.args.classes.now c.args.link (link-both _ c.requires.first c.requires.second) in
    let one = c.one.ensures in
    let two = c.one-2.ensures in rw more (cc)
