-- Which second does a block tell?
use Rattle.std.specs.Prelude.{ℕ, Option, Some, None}
use Rattle.replies.specs.declared.block.Block.{Block}
use Rattle.replies.specs.declared.block.Block.TheVariants.{Route, NoRoute}

-- the second of a route, or none where no route is told; nothing of the kind in any other block
abbrev pub second_told : Block → Option (Option ℕ)
second_told (Route name second steps labels) = Some (Some second)
second_told (NoRoute labels) = Some None
second_told _ = None
