-- The records of the grid are those of its airport's canonical text, but for the version.
use Rattle.std.proofs.Common.{◌≡◌, ℕ, ◌<◌, ◌+◌, ◌*◌, ◌-◌, zero, suc, List, [], ◌∷◌, ◌++◌, length, map, get_or, refl, sym, ap, ap₂, subst, arith, ◌∙◌, inl, inr, Some, None}
use Rattle.std.specs.Prelude.{All, slice_get, flat_map, codes, decimal, unwrap_or, option_map}
use Rattle.std.specs.Fmt.{digits}
use Rattle.std.proofs.lemmas.List.{length-map}
use Rattle.std.proofs.lemmas.List.Elements.{All-nil, All-cons, All-append, All-map, All-weaker, All-head, All-tail}
use Rattle.std.proofs.lemmas.Grind.{flat_map-append}
use Rattle.std.proofs.lemmas.Option.{slice_get_cases}
use Rattle.std.proofs.lemmas.Nat.{mul-add-lt}
use Rattle.taxi_base.specs.Airport.{NodeRow, SegmentRow, seconds, seconds_in, node_word}
use Rattle.airport_file.specs.Words.{segment_word}
use Rattle.airport_text.specs.Canonical as canonical
use Rattle.airport_text.specs.Canonical.{Fields, numbers_below, canonical_records, times_on}
use Rattle.traffic_generator.specs.declared.places.Place.{Place}
use Rattle.traffic_generator.specs.Places.{place_at, places}
use Rattle.traffic_generator.specs.Grid.{node_name, node_record, to_next_row, along_rows, way_at, way_name, segment_record, least_time, least_time_of_heavy, time_records, conflict_record, conflict_places, conflict_set, node_of, node_row, segment_row, grid_airport}
use Rattle.traffic_generator.proofs.TextLaws.{map-map}
use Rattle.traffic_generator.proofs.Below.{length-map-below, All-below, get_or-below, map-below-same, flat_map-below-same}
use Rattle.traffic_generator.proofs.GridLaws.{IsSide, IsWithin, place-within, place-again, along_rows-turned, way-down, node-low}
use Rattle.traffic_generator.proofs.GridAirport.{way-joins, conflict-within}

-- ---- names by numbers

named-at : {A : Type 0} (name : A → List ℕ) (xs : List A) (k : ℕ) (x : A) → k < length xs → ((d : A) → get_or xs k d ≡ x) → unwrap_or (option_map name (slice_get xs k)) [] ≡ name x
named-at name xs k x low there = elim (slice_get_cases xs k).1 [
  | inl found ↦ ap (λ o. unwrap_or (option_map name o) []) found.2 ∙ ap name (sym found.3 ∙ there found.0)
  | inr past ↦ absurd (let far = past.0 in omega (arith, low, far))
]

node-word : (number side : ℕ) (p : Place) → IsWithin side side p → node_word (grid_airport number side) (node_of side p) ≡ node_name p
node-word number side p within =
    let low = node-low side p within in
    let k : ℕ = (node_of side p).0 in
    let row : NodeRow = node_row side p in
    named-at (λ n. n.name) (map (node_row side) (places side side)) k row
    (let long = length-map (places side side) (node_row side) in let all = length-map-below (place_at side) (side * side) in omega (arith, low, long, all))
    (λ d. ap (λ xs. get_or xs k d) (map-map (node_row side) (place_at side) (numbers_below (side * side)))
    ∙ get_or-below (λ n. node_row side (place_at side n)) (side * side) k d low
    ∙ ap (node_row side) (place-again side p within.column))

segment-word : (number side s : ℕ) → s < 2 * along_rows side → segment_word (grid_airport number side) (record { 0 = s }) ≡ way_name (way_at side s)
segment-word number side s low =
    let row : SegmentRow = segment_row side (way_at side s) in
    named-at (λ n. n.name) (map (λ s. segment_row side (way_at side s)) (numbers_below (2 * along_rows side))) s row
    (let long = length-map-below (λ s. segment_row side (way_at side s)) (2 * along_rows side) in omega (arith, low, long))
    (λ d. get_or-below (λ s. segment_row side (way_at side s)) (2 * along_rows side) s d low)

-- ---- each kind of record

horizon-same : decimal 86400 ≡ codes "86400"
unfolding digits
horizon-same = refl

nodes-same : (side : ℕ) → map canonical.node_record (map (node_row side) (places side side)) ≡ map (node_record side) (places side side)
nodes-same side = map-map canonical.node_record (node_row side) (places side side)

segments-same : (number side : ℕ) → IsSide side
    → map (canonical.segment_record (grid_airport number side)) (grid_airport number side).segments ≡ map (λ s. segment_record (way_at side s)) (numbers_below (2 * along_rows side))
segments-same number side is =
    map-map (canonical.segment_record (grid_airport number side)) (λ s. segment_row side (way_at side s)) (numbers_below (2 * along_rows side))
    ∙ map-below-same _ _ (2 * along_rows side) (λ s low.
    let joins = way-joins side s is low in
    ap₂ (λ from to. codes "segment" ∷ way_name (way_at side s) ∷ from ∷ to ∷ codes "both" ∷ []) (node-word number side (way_at side s).from joins.from) (node-word number side (way_at side s).to joins.to))

medium-time : (number side s : ℕ) → s < 2 * along_rows side → seconds (grid_airport number side) (record { 0 = 0 }) (record { 0 = s }) ≡ Some (least_time number s)
unfolding seconds_in
medium-time number side s low = get_or-below (λ s. Some (least_time number s)) (2 * along_rows side) s None low

heavy-time : (number side s : ℕ) → s < 2 * along_rows side → seconds (grid_airport number side) (record { 0 = 1 }) (record { 0 = s }) ≡ Some (least_time_of_heavy number s)
unfolding seconds_in
heavy-time number side s low = get_or-below (λ s. Some (least_time_of_heavy number s)) (2 * along_rows side) s None low

times-on-same : (number side s : ℕ) → s < 2 * along_rows side → times_on (grid_airport number side) s ≡ time_records number side s
times-on-same number side s low = rw (medium-time number side s low, heavy-time number side s low, segment-word number side s low) refl

times-same : (number side : ℕ) → canonical.time_records (grid_airport number side) ≡ flat_map (time_records number side) (numbers_below (2 * along_rows side))
times-same number side =
    ap (λ n. flat_map (times_on (grid_airport number side)) (numbers_below n)) (length-map-below (λ s. segment_row side (way_at side s)) (2 * along_rows side))
    ∙ flat_map-below-same (times_on (grid_airport number side)) (time_records number side) (2 * along_rows side) (times-on-same number side)

down-word : (number side : ℕ) (p : Place) → IsWithin (side - 1) side p → segment_word (grid_airport number side) (record { 0 = along_rows side + (p.row * side + p.column) }) ≡ way_name (to_next_row p)
down-word number side p within =
    let turned = along_rows-turned side in
    let low : p.row * side + p.column < side * (side - 1) = mul-add-lt p.row side p.column (side - 1) within.row within.column in
    let s : ℕ = along_rows side + (p.row * side + p.column) in
    let back : s - along_rows side ≡ p.row * side + p.column = omega arith in
    segment-word number side s (omega (arith, low))
    ∙ ap way_name (way-down side s (omega arith) ∙ ap (λ k. to_next_row (place_at side k)) back ∙ ap to_next_row (place-again side p within.column))

set-same : (number side : ℕ) (p : Place) → IsWithin (side - 1) (side - 1) p → canonical.conflict_record (grid_airport number side) (conflict_set side p) ≡ conflict_record p
set-same number side p within =
    let column = within.column in
    ap₂ (λ first second. codes "conflict" ∷ first ∷ second ∷ [])
    (down-word number side p (record { row = within.row; column = omega (arith, column) }))
    (down-word number side (record { row = p.row; column = p.column + 1 }) (record { row = within.row; column = omega (arith, column) }))

map-same : {A B : Type 0} (P : A → Type 0) (f g : A → B) (xs : List A) → ((x : A) → P x → f x ≡ g x) → All P xs → map f xs ≡ map g xs
map-same P f g [] same all = refl
map-same P f g (x ∷ xs) same all = ap₂ (λ y ys. y ∷ ys) (same x (All-head P x xs all)) (map-same P f g xs same (All-tail P x xs all))

conflicts-same : (number side : ℕ) → IsSide side
    → map (canonical.conflict_record (grid_airport number side)) (map (conflict_set side) (conflict_places side)) ≡ map conflict_record (conflict_places side)
conflicts-same number side is =
    map-map (canonical.conflict_record (grid_airport number side)) (conflict_set side) (conflict_places side)
    ∙ map-same (IsWithin (side - 1) (side - 1)) _ conflict_record (conflict_places side) (set-same number side) (conflict-within side is)

-- ---- all records

-- the records after the first
abbrev pub after_first : ℕ → ℕ → List Fields
after_first number side =
    (codes "horizon" ∷ codes "86400" ∷ [])
    ∷ (map (node_record side) (places side side)
    ++ ((codes "class" ∷ codes "M" ∷ [])
    ∷ (codes "class" ∷ codes "H" ∷ [])
    ∷ (map (λ s. segment_record (way_at side s)) (numbers_below (2 * along_rows side))
    ++ (flat_map (time_records number side) (numbers_below (2 * along_rows side))
    ++ map conflict_record (conflict_places side)))))

pub records-same : (number side : ℕ) → IsSide side → canonical_records (grid_airport number side) ≡ canonical.first_record ∷ after_first number side
records-same number side is =
    rw (horizon-same, nodes-same side, segments-same number side is, times-same number side, conflicts-same number side is) refl

-- ---- what holds of each record holds of all

All-flat_map-below : (P : Fields → Type 0) (f : ℕ → List Fields) (n : ℕ) → ((k : ℕ) → k < n → All P (f k)) → All P (flat_map f (numbers_below n))
All-flat_map-below P f zero each = All-nil P
All-flat_map-below P f (suc n) each =
    subst (All P) (sym (flat_map-append f (numbers_below n) (n ∷ [])))
    (All-append P (flat_map f (numbers_below n)) (f n ++ []) (All-flat_map-below P f n (λ k low. each k (omega (arith, low)))) (All-append P (f n) [] (each n (omega arith)) (All-nil P)))

pub all-records : (P : Fields → Type 0) (number side : ℕ) → IsSide side → P (codes "horizon" ∷ codes "86400" ∷ []) → P (codes "class" ∷ codes "M" ∷ []) → P (codes "class" ∷ codes "H" ∷ [])
    → ((p : Place) → IsWithin side side p → P (node_record side p)) → ((s : ℕ) → s < 2 * along_rows side → P (segment_record (way_at side s)))
    → ((s : ℕ) → s < 2 * along_rows side → All P (time_records number side s)) → ((p : Place) → IsWithin (side - 1) (side - 1) p → P (conflict_record p))
    → All P (after_first number side)
all-records P number side is first medium_class heavy_class node segment time conflict =
    let least = is.least in
    let horizon : Fields = codes "horizon" ∷ codes "86400" ∷ [] in
    let nodes : List Fields = map (node_record side) (places side side) in
    let medium : Fields = codes "class" ∷ codes "M" ∷ [] in
    let heavy : Fields = codes "class" ∷ codes "H" ∷ [] in
    let segments : List Fields = map (λ s. segment_record (way_at side s)) (numbers_below (2 * along_rows side)) in
    let times : List Fields = flat_map (time_records number side) (numbers_below (2 * along_rows side)) in
    let conflicts : List Fields = map conflict_record (conflict_places side) in
    All-cons P horizon (nodes ++ (medium ∷ heavy ∷ (segments ++ (times ++ conflicts)))) first
    (All-append P nodes (medium ∷ heavy ∷ (segments ++ (times ++ conflicts)))
    (All-map P (node_record side) (places side side)
    (All-below (λ p. P (node_record side p)) (place_at side) (side * side) (λ k low. node (place_at side k) (place-within side side k (omega (arith, least)) low))))
    (All-cons P medium (heavy ∷ (segments ++ (times ++ conflicts))) medium_class
    (All-cons P heavy (segments ++ (times ++ conflicts)) heavy_class
    (All-append P segments (times ++ conflicts) (All-below P (λ s. segment_record (way_at side s)) (2 * along_rows side) segment)
    (All-append P times conflicts (All-flat_map-below P (time_records number side) (2 * along_rows side) time)
    (All-map P conflict_record (conflict_places side)
    (All-weaker (IsWithin (side - 1) (side - 1)) (λ p. P (conflict_record p)) conflict (conflict_places side) (conflict-within side is))))))))
