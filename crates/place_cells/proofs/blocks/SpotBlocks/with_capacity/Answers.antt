use Rattle.place_cells.proofs.StretchLaws.{spots_of-none}
use Rattle.place_cells.proofs.blocks.SpotBlocks.with_capacity.Goals as goal

pub returns : goal.returns
returns c = spots_of-none c.in_ok-stretches.stretches.items c.in_ok-stretches.ensures.items
