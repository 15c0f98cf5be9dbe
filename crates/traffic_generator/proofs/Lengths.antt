-- How long the texts are at most.
use Rattle.std.proofs.Common.{◌≡◌, ℕ, ◌<◌, ◌≤◌, ◌+◌, ◌*◌, ◌-◌, ◌/◌, ◌^◌, zero, suc, List, [], ◌∷◌, ◌++◌, length, map, refl, ap, arith, length-append}
use Rattle.std.specs.Prelude.{All, flat_map, codes, decimal}
use Rattle.std.specs.List.{join_with_byte}
use Rattle.std.proofs.lemmas.List.{length-map}
use Rattle.std.proofs.lemmas.List.Elements.{All-nil, All-cons, All-head, All-tail}
use Rattle.std.proofs.lemmas.Grind.{flat_map-append}
use Rattle.std.proofs.lemmas.Nat.{mod_below}
use Rattle.taxi_base.specs.declared.rows.Kind.{Kind}
use Rattle.taxi_base.specs.declared.rows.Kind.TheVariants.{Runway, Junction, Stand}
use Rattle.airport_text.specs.Canonical.{Fields, numbers_below, kind_word}
use Rattle.traffic_generator.specs.declared.places.Place.{Place}
use Rattle.traffic_generator.specs.Draws.{draw, state_after}
use Rattle.traffic_generator.specs.Places.{place_at, places, place_name}
use Rattle.traffic_generator.specs.Texts.{text_of}
use Rattle.traffic_generator.specs.Grid.{node_record, kind_at, way_at, way_name, segment_record, along_rows, least_time, least_time_of_heavy, time_records, conflict_record, conflict_places, grid_records, airport_text}
use Rattle.traffic_generator.proofs.Below.{length-map-below}
use Rattle.traffic_generator.proofs.PlaceNames.{place_name-short, decimal-short}
use Rattle.traffic_generator.proofs.GridLaws.{IsSide, IsWithin, along_rows-most, square-most, square-near}
use Rattle.traffic_generator.proofs.GridAirport.{way-near, way-joins, few-conflicts}
use Rattle.traffic_generator.proofs.GridRecords.{after_first, all-records}

-- ---- a line

-- the bytes of the pieces, and one more for each
abbrev pub width : Fields → ℕ
width [] = 0
width (piece ∷ rest) = length piece + (1 + width rest)

line-width : (separator : ℕ) (line : Fields) → length (join_with_byte separator line) ≤ width line
line-width separator [] = omega arith
line-width separator (piece ∷ []) = omega arith
line-width separator (piece ∷ next ∷ rest) =
    let whole = length-append piece (separator ∷ join_with_byte separator (next ∷ rest)) in
    let behind = line-width separator (next ∷ rest) in
    omega (arith, whole, behind)

-- ---- lines

-- so many lines of less than so many bytes
pub lines-short : (separator bound : ℕ) (lines : List Fields) → All (λ l. width l < bound) lines → length (text_of separator lines) ≤ length lines * bound
lines-short separator bound [] all = omega arith
lines-short separator bound (l ∷ lines) all =
    let line : List ℕ = join_with_byte separator l in
    let whole = length-append line (10 ∷ text_of separator lines) in
    let one = line-width separator l in
    let short = All-head (λ (l : Fields). width l < bound) l lines all in
    let rest = lines-short separator bound lines (All-tail (λ (l : Fields). width l < bound) l lines all) in
    omega (arith, whole, one, short, rest)

-- ---- the records of a grid

IsShort : Fields → Type 0
IsShort line = width line < 80

kind-short : (side : ℕ) (p : Place) → length (kind_word (kind_at side p)) ≤ 8
kind-short side p = go (kind_at side p)
  where
    go : (kind : Kind) → length (kind_word kind) ≤ 8
    go Runway = omega arith
    go Junction = omega arith
    go Stand = omega arith

name-short : (side letter : ℕ) (p : Place) → IsSide side → IsWithin side side p → length (place_name letter p) ≤ 16
name-short side letter p is within = place_name-short letter p (square-near side p is within)

node-short : (side : ℕ) (p : Place) → IsSide side → IsWithin side side p → IsShort (node_record side p)
unfolding IsShort
node-short side p is within =
    let name = name-short side 78 p is within in
    let kind = kind-short side p in
    omega (arith, name, kind)

segment-short : (side s : ℕ) → IsSide side → s < 2 * along_rows side → IsShort (segment_record (way_at side s))
unfolding IsShort
segment-short side s is low =
    let joins = way-joins side s is low in
    let name = place_name-short (way_at side s).letter (way_at side s).from (way-near side s is low) in
    let from = name-short side 78 (way_at side s).from is joins.from in
    let to = name-short side 78 (way_at side s).to is joins.to in
    omega (arith, name, from, to)

time-short : (number side s least : ℕ) (class : List ℕ) → IsSide side → s < 2 * along_rows side → least ≤ 30 → length class ≤ 1
    → IsShort (codes "seconds" ∷ way_name (way_at side s) ∷ class ∷ decimal (least + draw number s 41) ∷ [])
unfolding IsShort
time-short number side s least class is low few one =
    let name = place_name-short (way_at side s).letter (way_at side s).from (way-near side s is low) in
    let drawn = mod_below (state_after number (s + 1) / 2 ^ 33) 41 (omega arith) in
    let digits = decimal-short (least + draw number s 41) (omega (arith, few, drawn)) in
    omega (arith, name, digits, one)

times-short : (number side s : ℕ) → IsSide side → s < 2 * along_rows side → All IsShort (time_records number side s)
times-short number side s is low =
    let medium : Fields = codes "seconds" ∷ way_name (way_at side s) ∷ codes "M" ∷ decimal (least_time number s) ∷ [] in
    let heavy : Fields = codes "seconds" ∷ way_name (way_at side s) ∷ codes "H" ∷ decimal (least_time_of_heavy number s) ∷ [] in
    All-cons IsShort medium (heavy ∷ []) (time-short number side s 20 (codes "M") is low (omega arith) (omega arith))
    (All-cons IsShort heavy [] (time-short number side s 30 (codes "H") is low (omega arith) (omega arith)) (All-nil IsShort))

conflict-short : (side : ℕ) (p : Place) → IsSide side → IsWithin (side - 1) (side - 1) p → IsShort (conflict_record p)
unfolding IsShort
conflict-short side p is within =
    let row = within.row in
    let column = within.column in
    let one = name-short side 86 p is (record { row = omega (arith, row); column = omega (arith, column) }) in
    let two = name-short side 86 (record { row = p.row; column = p.column + 1 }) is (record { row = omega (arith, row); column = omega (arith, column) }) in
    omega (arith, one, two)

records-short : (number side : ℕ) → IsSide side → All (λ l. width l < 80) (grid_records number side)
unfolding IsShort
records-short number side is =
    All-cons IsShort (codes "taxi-airport" ∷ codes "1" ∷ []) (after_first number side) (omega arith)
    (all-records IsShort number side is (omega arith) (omega arith) (omega arith) (λ p within. node-short side p is within) (λ s low. segment-short side s is low)
    (λ s low. times-short number side s is low) (λ p within. conflict-short side p is within))

-- ---- how many they are

length-times : (number side n : ℕ) → length (flat_map (time_records number side) (numbers_below n)) ≡ 2 * n
length-times number side zero = refl
length-times number side (suc n) =
    let split = ap (λ (rows : List Fields). length rows) (flat_map-append (time_records number side) (numbers_below n) (n ∷ [])) in
    let both = length-append (flat_map (time_records number side) (numbers_below n)) (time_records number side n ++ []) in
    let before = length-times number side n in
    omega (arith, split, both, before)

records-few : (number side : ℕ) → IsSide side → length (grid_records number side) ≤ 12600
records-few number side is =
    let nodes : List Fields = map (node_record side) (places side side) in
    let segments : List Fields = map (λ s. segment_record (way_at side s)) (numbers_below (2 * along_rows side)) in
    let times : List Fields = flat_map (time_records number side) (numbers_below (2 * along_rows side)) in
    let conflicts : List Fields = map conflict_record (conflict_places side) in
    let square = square-most side is in
    let most = along_rows-most side is in
    let a = length-map (places side side) (node_record side) in
    let b = length-map-below (place_at side) (side * side) in
    let c = length-map-below (λ s. segment_record (way_at side s)) (2 * along_rows side) in
    let d = length-times number side (2 * along_rows side) in
    let e = length-map (conflict_places side) conflict_record in
    let f = few-conflicts side is in
    let last = length-append times conflicts in
    let more = length-append segments (times ++ conflicts) in
    let all = length-append nodes ((codes "class" ∷ codes "M" ∷ []) ∷ (codes "class" ∷ codes "H" ∷ []) ∷ (segments ++ (times ++ conflicts))) in
    omega (arith, square, most, a, b, c, d, e, f, last, more, all)

pub airport-short : (number side : ℕ) → IsSide side → length (airport_text number side) ≤ 4194304
unfolding airport_text
airport-short number side is =
    let short = lines-short 44 80 (grid_records number side) (records-short number side is) in
    let few = records-few number side is in
    omega (arith, short, few)
