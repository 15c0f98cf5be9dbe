use Rattle.std.proofs.Common.{◌≡◌, ◌+◌, ◌-◌, ◌*◌, ◌≤◌, ◌++◌, ◌<◌, ◌^◌, length}
use Rattle.std.specs.Prelude.{vec_len, vec_capacity}
use Rattle.place_cells.specs.Blocks.{block}
use Rattle.place_cells.specs.Stretches.{spots_of, AreBegun}
use Rattle.place_cells.proofs.blocks.SpotBlocks.push_block.Given as goal

-- so many are pushed, and there is room for the others
abbrev pub invariant-loop : goal.invariant-loop
invariant-loop l =
    (spots_of l.self-inside.stretches.items ≡ l.fn.self.items ++ block l.arc (8 * l.counter))
    × (vec_len l.self-inside.stretches + (l.stretches - l.counter) ≤ vec_capacity l.self-inside.stretches)
    × (length l.self-inside.stretches.items + (l.stretches - l.counter) < 2 ^ 29)
    × (l.first + 8 * l.counter ≡ 8 * length l.self-inside.stretches.items)
    × AreBegun l.self-inside.stretches.items
