-- The text of a list, item by item.
use Rattle.std.proofs.Common.{ℕ, List, Bool, map}
use Rattle.serde_json.specs.Data.{Data}
use Rattle.serde_json.specs.View.{items_of}
use Rattle.serde_json.specs.Written.{items_text}

-- the text of the items that are left, with the closing bracket
abbrev pub left_text : {X : Type 0} → (X → Data) → Bool → List X → List ℕ
left_text object later rest = items_text later (items_of (map object rest))
