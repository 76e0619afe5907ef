-- `text::field::field_end` meets its contract: the field goes up to the next tab. Assumes nothing.
use Rattle.text.specs.Bytes.{tab}
use Rattle.text.proofs.field.field_end.Goals as goal

pub returns : goal.returns
unfolding tab
returns c = (c.if-line-at.false, c.part_end.ensures.place, c.part_end.ensures.behind, c.part_end.ensures.within)
