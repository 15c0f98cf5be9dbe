-- Where does a search stand that has a value of each cell that it came to, and settles cell after cell?
use Rattle.std.specs.Prelude.{◌≡◌, ℕ, ◌≤◌, ◌<◌, ◌⊎◌, Bool, Option, Some, true, false}
use Rattle.label_core.specs.Walks.{Network, Start}
use Rattle.label_core.specs.Labels.{IsStartEntry, IsExpansion}
use Rattle.label_core.specs.Tables.{IsBelow, HasAsGood, IsAttained}

-- cell c, which has value v, has been expanded: each known value is an old one or an expansion, and old ones and
-- expansions are known at least as good
pub record IsExpanded {C : Type 0} (net : Network C) (c : C) (v : ℕ) (Old New : C → ℕ → Type 0) : Type 0 where
  pub from_old : (d : C) (t : ℕ) → New d t → Old d t ⊎ IsExpansion net c v d t
  pub old_kept : (d : C) (t : ℕ) → Old d t → HasAsGood New d t
  pub expansions_in : (d : C) (t : ℕ) → IsExpansion net c v d t → HasAsGood New d t

-- no value that is not settled is below the bound
abbrev pub NoneLeftBelow : {C : Type 0} → (C → ℕ → Type 0) → (C → Bool) → Option ℕ → Type 0
NoneLeftBelow {C} Known settled bound = (c : C) (v : ℕ) → settled c ≡ false → Known c v → IsBelow bound v → ⊥

-- cell c has value v, which is a least one that is not settled
pub record IsLeastLeft {C : Type 0} (Known : C → ℕ → Type 0) (settled : C → Bool) (c : C) (v : ℕ) : Type 0 where
  pub known : Known c v
  pub is_left : settled c ≡ false
  pub least : NoneLeftBelow Known settled (Some v)

-- where the search stands: the known values are attained and have all start entries and all expansions of settled
-- cells, and no settled value is above a value that is not settled
pub record IsSearch {C : Type 0} (net : Network C) (starts : C → Option Start) (Known : C → ℕ → Type 0) (settled : C → Bool) : Type 0 where
  pub attained : IsAttained net starts Known
  pub starts_known : (c : C) (t : ℕ) → IsStartEntry net starts c t → HasAsGood Known c t
  pub expansions_known : (c d : C) (v t : ℕ) → settled c ≡ true → Known c v → IsExpansion net c v d t → HasAsGood Known d t
  pub settled_known : (c : C) → settled c ≡ true → (v : ℕ) × Known c v
  pub settled_first : (c d : C) (v w : ℕ) → settled c ≡ true → Known c v → settled d ≡ false → Known d w → v ≤ w

-- the search has come to a target with this value, which is a least one that is left
pub record IsArrived {C : Type 0} (Known : C → ℕ → Type 0) (settled target : C → Bool) (end : ℕ) : Type 0 where
  pub cell : C
  pub is_target : target cell ≡ true
  pub is_least : IsLeastLeft Known settled cell end

-- no target is settled
abbrev pub NoneSettled : {C : Type 0} → (C → Bool) → (C → Bool) → Type 0
NoneSettled {C} target settled = (c : C) → settled c ≡ true → target c ≡ false

-- the cell is a target with the value, and no smaller one is
pub record IsFirstTarget (Known : ℕ → ℕ → Type 0) (target : ℕ → Bool) (value cell : ℕ) : Type 0 where
  pub known : Known cell value
  pub is_target : target cell ≡ true
  pub first : (x : ℕ) → x < cell → target x ≡ true → Known x value → ⊥
