use Rattle.place_cells.proofs.StretchLaws.{spots_of-none}
use Rattle.place_cells.proofs.blocks.SpotBlocks.new.Goals as goal

pub returns : goal.returns
returns c = spots_of-none c.new.result.items c.new.ensures.items
