-- The times and clearances of a table that is kept as a list of rows of any kind.
use Rattle.std.proofs.Common.{◌≡◌, ℕ, ◌<◌, ◌≤◌, List, [], length, map, get_or, set, Option, Some, None, sym, ◌∙◌, ap, subst}
use Rattle.std.specs.Prelude.{All, IfSome}
use Rattle.std.proofs.lemmas.List.{get_or_past, get_or-map, map-set, length-set, length-map}
use Rattle.std.proofs.lemmas.List.Elements.{All-nil, All-set}
use Rattle.taxi_base.proofs.ListLaws.{All-at}
use Rattle.aircraft_class.specs.Times.{Times, AreTimes, IsTime}

-- the row that is kept at a place
pub get_or-row : {V : Type 0} (f : V → List (Option ℕ)) (rows : List V) (k : ℕ) (row : V) → k < length rows → row ≡ get_or rows k row → get_or (map f rows) k [] ≡ f row
get_or-row f rows k row low is = get_or-map f rows k row [] low ∙ ap f (sym is)

-- past the rows stands an empty one
pub get_or-no_row : {V : Type 0} (f : V → List (Option ℕ)) (rows : List V) (k : ℕ) → length rows ≤ k → get_or (map f rows) k [] ≡ []
get_or-no_row f rows k past =
    let beyond : length (map f rows) ≤ k = rw (length-map rows f) past in
    get_or_past (map f rows) k [] beyond

abbrev IsPlace : Option ℕ → Type 0
IsPlace place = IfSome place IsTime

-- the times of a row, and of a place in it, are from a second to an hour
pub row-range : (table : List (List (Option ℕ))) (k : ℕ) → All (All (λ place. IfSome place IsTime)) table → All (λ place. IfSome place IsTime) (get_or table k [])
row-range table k range = All-at (All IsPlace) table k [] (All-nil IsPlace) range

pub place-range : (row : List (Option ℕ)) (k : ℕ) → All (λ place. IfSome place IsTime) row → IfSome (get_or row k None) IsTime
place-range row k range = All-at IsPlace row k None tt range

-- what a write to a place of a row leaves
pub map-set_place : {V : Type 0} (f : V → List (Option ℕ)) (rows : List V) (k : ℕ) (row new : V) (segment : ℕ) (place : Option ℕ) → k < length rows → row ≡ get_or rows k row
    → f new ≡ set (f row) segment place → map f (set rows k new) ≡ set (map f rows) k (set (get_or (map f rows) k []) segment place)
map-set_place f rows k row new segment place low is changed =
    map-set f rows k new ∙ ap (set (map f rows) k) (changed ∙ ap (λ r. set r segment place) (sym (get_or-row f rows k row low is)))

pub AreTimes-set : (times : Times) (class segment n : ℕ) → AreTimes times → class < length times.table → IsTime n
    → AreTimes (record times { table = set times.table class (set (get_or times.table class []) segment (Some n)) })
AreTimes-set times class segment n are low is_time =
    let row = get_or times.table class [] in
    record {
      few = rw (length-set times.table class (set row segment (Some n))) are.few;
      rows = All-set (λ r. length r ≡ times.segments) times.table class (set row segment (Some n)) (length-set row segment (Some n) ∙ are.rows class [] low) are.rows;
      range = All-set (All IsPlace) times.table class (set row segment (Some n)) (All-set IsPlace row segment (Some n) is_time (are.range class [] low)) are.range;
      clearances = (are.clearances.0 ∙ sym (length-set times.table class (set row segment (Some n))), are.clearances.1);
    }

-- ---- clearances

pub AreTimes-clearance : (times : Times) (class n : ℕ) → AreTimes times → n ≤ 600 → AreTimes (record times { clearances = set times.clearances class n })
AreTimes-clearance times class n are short = record {
  few = are.few;
  rows = are.rows;
  range = are.range;
  clearances = (length-set times.clearances class n ∙ are.clearances.0, All-set (λ g. g ≤ 600) times.clearances class n short are.clearances.1);
}

pub clearance-range : {V : Type 0} (f : V → ℕ) (rows : List V) (k : ℕ) (row : V) → k < length rows → row ≡ get_or rows k row → All (λ g. g ≤ 600) (map f rows) → f row ≤ 600
clearance-range f rows k row low is range =
    let kept : get_or (map f rows) k 0 ≡ f row = get_or-map f rows k row 0 low ∙ ap f (sym is) in
    subst (λ g. g ≤ 600) kept (range k 0 (rw (length-map rows f) low))
