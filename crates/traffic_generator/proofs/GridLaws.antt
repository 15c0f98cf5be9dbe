-- Places, nodes and segments of a grid by their numbers.
use Rattle.std.proofs.Common.{◌≡◌, ℕ, ◌<◌, ◌≤◌, ◌+◌, ◌*◌, ◌-◌, ◌/◌, ◌%◌, true, false, refl, sym, ap, arith, ◌∙◌}
use Rattle.std.specs.Prelude.{nat_lt}
use Rattle.std.proofs.lemmas.Bool.Decides.{nat_tests}
use Rattle.std.proofs.lemmas.Nat.{mul-le, mul-add-lt, div-mul-add, mod-mul-add, div_below, mod_below, div-add-mod'}
use Rattle.traffic_generator.specs.declared.places.Place.{Place}
use Rattle.traffic_generator.specs.Places.{place_at}
use Rattle.traffic_generator.specs.Grid.{along_row, to_next_row, along_rows, way_at, node_of}
use Rattle.traffic_generator.proofs.PlaceNames.{IsNear}

-- the sides that a grid may have
pub record IsSide (side : ℕ) : Type 0 where
  pub least : 2 ≤ side
  pub most : side ≤ 40

-- a place of so many rows and columns
pub record IsWithin (rows columns : ℕ) (p : Place) : Type 0 where
  pub row : p.row < rows
  pub column : p.column < columns

pub place-within : (rows columns number : ℕ) → 0 < columns → number < rows * columns → IsWithin rows columns (place_at columns number)
place-within rows columns number some low = record { row = div_below number columns rows some low; column = mod_below number columns some }

pub within-near : (rows columns : ℕ) (p : Place) → rows ≤ 40 → columns ≤ 41 → IsWithin rows columns p → IsNear p
within-near rows columns p few narrow within =
    let row = within.row in
    let column = within.column in
    record { row = omega (arith, row, few); column = omega (arith, column, narrow) }

pub square-near : (side : ℕ) (p : Place) → IsSide side → IsWithin side side p → IsNear p
square-near side p is within = let most = is.most in within-near side side p is.most (omega (arith, most)) within

-- ---- the place of a number, and the number of a place

pub place-again : (columns : ℕ) (p : Place) → p.column < columns → place_at columns (p.row * columns + p.column) ≡ p
place-again columns p low = same (p.row * columns + p.column) (div-mul-add p.row columns p.column low) (mod-mul-add p.row columns p.column low)
  where
    same : (n : ℕ) → n / columns ≡ p.row → n % columns ≡ p.column → ◌≡◌ {A = Place} (record { row = n / columns; column = n % columns }) p
    same n r c = rw (r, c) refl

pub number-again : (columns number : ℕ) → (place_at columns number).row * columns + (place_at columns number).column ≡ number
number-again columns number = div-add-mod' number columns

-- numbers of one place are one
pub place-same : (columns i j : ℕ) → (place_at columns i).row ≡ (place_at columns j).row → (place_at columns i).column ≡ (place_at columns j).column → i ≡ j
place-same columns i j row column =
    sym (number-again columns i) ∙ ap (λ r. r * columns + (place_at columns i).column) row ∙ ap (λ c. (place_at columns j).row * columns + c) column ∙ number-again columns j

-- ---- how many there are

-- the same with its factors in the other order
pub along_rows-turned : (side : ℕ) → along_rows side ≡ (side - 1) * side
along_rows-turned side = omega arith

pub along_rows-most : (side : ℕ) → IsSide side → along_rows side ≤ 1560
along_rows-most side is =
    let most = is.most in
    mul-le side (side - 1) 40 39 most (omega (arith, most))

pub square-most : (side : ℕ) → IsSide side → side * side ≤ 1600
square-most side is = mul-le side side 40 40 is.most is.most

-- ---- segments

pub way-along : (side s : ℕ) → s < along_rows side → way_at side s ≡ along_row (place_at (side - 1) s)
way-along side s low =
    let test : nat_lt s (along_rows side) ≡ true = grind (arith, nat_tests, low) in
    rw test refl

pub way-down : (side s : ℕ) → along_rows side ≤ s → way_at side s ≡ to_next_row (place_at side (s - along_rows side))
way-down side s high =
    let test : nat_lt s (along_rows side) ≡ false = grind (arith, nat_tests, high) in
    rw test refl

-- the place where a segment along a row begins, and of one to the next row
pub along-within : (side s : ℕ) → IsSide side → s < along_rows side → IsWithin side (side - 1) (place_at (side - 1) s)
along-within side s is low = let least = is.least in place-within side (side - 1) s (omega (arith, least)) low

pub down-within : (side t : ℕ) → IsSide side → t < along_rows side → IsWithin (side - 1) side (place_at side t)
down-within side t is low =
    let least = is.least in
    let turned = along_rows-turned side in
    place-within (side - 1) side t (omega (arith, least)) (omega (arith, low, turned))

-- a node of the grid
pub node-low : (side : ℕ) (p : Place) → IsWithin side side p → (node_of side p).0 < side * side
node-low side p within = mul-add-lt p.row side p.column side within.row within.column
