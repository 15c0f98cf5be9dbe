use Rattle.std.proofs.Common.{length, ap, arith}
use Rattle.place_cells.specs.Stretches.{Spots}
use Rattle.place_cells.proofs.StretchLaws.{length-spots}
use Rattle.place_cells.proofs.blocks.SpotBlocks.len.Goals as goal

pub returns-clause-count : goal.returns-clause-count
returns-clause-count c =
    omega (arith, length-spots c.self.inside.stretches.items, ap (λ (s : Spots). length s.items) c.self.view_is, c.len.ensures, c.self.inside.stretches.ok.0)
