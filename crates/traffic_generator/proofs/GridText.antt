-- The text of the grid is read as its airport.
use Rattle.std.proofs.Common.{◌≡◌, ℕ, ◌<◌, ◌+◌, ◌*◌, ◌^◌, ◌-◌, ◌/◌, ◌≤◌, false, List, [], ◌∷◌, ◌++◌, map, refl, sym, ap, subst, arith, ◌∙◌, Ok, Err, append_assoc, append-nil, Result, inl, inr}
use Rattle.std.specs.Prelude.{All, flat_map, codes, decimal, bytes_eq}
use Rattle.std.specs.List.{join_with_byte}
use Rattle.std.proofs.lemmas.List.Elements.{All-nil, All-cons, All-head, All-tail, All-weaker}
use Rattle.std.proofs.lemmas.Bool.{cases_lt}
use Rattle.std.proofs.lemmas.Nat.{mod_below}
use Rattle.csv.specs.Reading.{default_config, records, strip_bom}
use Rattle.csv.specs.Writing.{row_text, fields_text, is_blank, escaped}
use Rattle.taxi_base.specs.declared.rows.Kind.{Kind}
use Rattle.taxi_base.specs.declared.rows.Kind.TheVariants.{Runway, Junction, Stand}
use Rattle.airport_rules.specs.declared.version.Version.TheVariants.{One, Two}
use Rattle.airport_rules.specs.declared.faults.AirportFault.{AirportFault}
use Rattle.airport_rules.specs.Plan.{Plan, empty_plan}
use Rattle.airport_rules.specs.Rules.{judge}
use Rattle.airport_file.specs.Reading.{airport_of, airport_of_records, judged_after, judged_with}
use Rattle.airport_text.specs.Canonical.{Fields, record_writer, text_of_records, first_record, canonical_text, numbers_below, kind_word}
use Rattle.airport_text.proofs.Texts.{HasField, records-again}
use Rattle.airport_text.proofs.Again.{text-again}
use Rattle.traffic_generator.specs.declared.places.Place.{Place}
use Rattle.traffic_generator.specs.Texts.{text_of, and_lines}
use Rattle.traffic_generator.proofs.TextLaws.{lines-then}
use Rattle.traffic_generator.specs.Draws.{draw, state_after}
use Rattle.traffic_generator.specs.Places.{place_at, places}
use Rattle.traffic_generator.specs.Grid.{node_record, kind_at, way_at, segment_record, way_name, along_rows, least_time, least_time_of_heavy, time_records, conflict_record, conflict_places, grid_records, grid_airport, airport_text}
use Rattle.traffic_generator.proofs.PlaceNames.{IsNear}
use Rattle.traffic_generator.proofs.PlainFields.{IsPlain, ArePlain, decimal-plain, place_name-plain}
use Rattle.traffic_generator.proofs.GridLaws.{IsSide, IsWithin, square-near, way-along, way-down}
use Rattle.traffic_generator.proofs.GridAirport.{grid-well_formed, way-near, way-joins}
use Rattle.traffic_generator.proofs.GridRecords.{after_first, all-records, records-same}

-- ---- records that need no quotes

-- two or more fields that need no quotes, the first not the word of a clearance
abbrev IsPlainRow : Fields → Type 0
IsPlainRow [] = ⊥
IsPlainRow (first ∷ []) = ⊥
IsPlainRow (first ∷ second ∷ rest) = (bytes_eq first (codes "clearance") ≡ false) × IsPlain first × IsPlain second × ArePlain rest

fields-plain : (fields : Fields) (first : List ℕ) → ArePlain fields → first ++ fields_text record_writer fields ≡ join_with_byte 44 (first ∷ fields)
unfolding fields_text
fields-plain [] first all = append-nil first
fields-plain (f ∷ fields) first all =
    rw all.0 (ap (λ rest. first ++ (44 ∷ rest)) (fields-plain fields f all.1))

row-plain : (fields : Fields) → IsPlainRow fields → row_text record_writer fields ≡ join_with_byte 44 fields ++ 10 ∷ []
unfolding is_blank
row-plain [] plain = absurd plain
row-plain (first ∷ []) plain = absurd plain
row-plain (first ∷ second ∷ rest) plain =
    rw plain.1 (ap (λ row. row ++ 10 ∷ []) (fields-plain (second ∷ rest) first (plain.2, plain.3)))

text-plain : (rows : List Fields) → All IsPlainRow rows → text_of 44 rows ≡ text_of_records rows
text-plain [] all = refl
text-plain (row ∷ rows) all =
    let line : List ℕ = join_with_byte 44 row in
    ap (λ rest. line ++ (10 ∷ rest)) (text-plain rows (All-tail IsPlainRow row rows all))
    ∙ sym (append_assoc line (10 ∷ []) (text_of_records rows))
    ∙ ap (λ t. t ++ text_of_records rows) (sym (row-plain row (All-head IsPlainRow row rows all)))

-- ---- the records of the grid are plain

kind-plain : (side : ℕ) (p : Place) → IsPlain (kind_word (kind_at side p))
kind-plain side p = go (kind_at side p)
  where
    go : (kind : Kind) → IsPlain (kind_word kind)
    go Runway = refl
    go Junction = refl
    go Stand = refl

node-plain : (side : ℕ) (p : Place) → IsNear p → IsPlainRow (node_record side p)
node-plain side p near = (refl, refl, place_name-plain 78 p refl near, (kind-plain side p, tt))

way-plain : (side s : ℕ) → IsSide side → s < 2 * along_rows side → IsPlain (way_name (way_at side s))
way-plain side s is low = elim (cases_lt s (along_rows side)) [
  | inl along ↦ subst (λ w. IsNear w.from → IsPlain (way_name w)) (sym (way-along side s along)) (place_name-plain 69 (place_at (side - 1) s) refl) (way-near side s is low)
  | inr down ↦ subst (λ w. IsNear w.from → IsPlain (way_name w)) (sym (way-down side s down)) (place_name-plain 86 (place_at side (s - along_rows side)) refl) (way-near side s is low)
]

segment-plain : (side s : ℕ) → IsSide side → s < 2 * along_rows side → IsPlainRow (segment_record (way_at side s))
segment-plain side s is low =
    let joins = way-joins side s is low in (
      refl,
      refl,
      way-plain side s is low,
      (
        place_name-plain 78 (way_at side s).from refl (square-near side (way_at side s).from is joins.from),
        (place_name-plain 78 (way_at side s).to refl (square-near side (way_at side s).to is joins.to), (refl, tt)),
      ),
    )

drawn-plain : (least number s : ℕ) → least ≤ 30 → IsPlain (decimal (least + draw number s 41))
drawn-plain least number s few =
    let drawn = mod_below (state_after number (s + 1) / 2 ^ 33) 41 (omega arith) in
    decimal-plain (least + draw number s 41) (omega (arith, few, drawn))

time-plain : (number side s least : ℕ) (class : List ℕ) → IsSide side → s < 2 * along_rows side → least ≤ 30 → IsPlain class
    → IsPlainRow (codes "seconds" ∷ way_name (way_at side s) ∷ class ∷ decimal (least + draw number s 41) ∷ [])
time-plain number side s least class is low few plain = (refl, refl, way-plain side s is low, (plain, (drawn-plain least number s few, tt)))

times-plain : (number side s : ℕ) → IsSide side → s < 2 * along_rows side → All IsPlainRow (time_records number side s)
times-plain number side s is low =
    let medium : Fields = codes "seconds" ∷ way_name (way_at side s) ∷ codes "M" ∷ decimal (least_time number s) ∷ [] in
    let heavy : Fields = codes "seconds" ∷ way_name (way_at side s) ∷ codes "H" ∷ decimal (least_time_of_heavy number s) ∷ [] in
    All-cons IsPlainRow medium (heavy ∷ []) (time-plain number side s 20 (codes "M") is low (omega arith) refl)
    (All-cons IsPlainRow heavy [] (time-plain number side s 30 (codes "H") is low (omega arith) refl) (All-nil IsPlainRow))

conflict-plain : (side : ℕ) (p : Place) → IsSide side → IsWithin (side - 1) (side - 1) p → IsPlainRow (conflict_record p)
conflict-plain side p is within =
    let row = within.row in
    let column = within.column in
    let beside : Place = record { row = p.row; column = p.column + 1 } in
    let near : IsNear p = square-near side p is (record { row = omega (arith, row); column = omega (arith, column) }) in
    let close : IsNear beside = square-near side beside is (record { row = omega (arith, row); column = omega (arith, column) }) in
    (refl, refl, place_name-plain 86 p refl near, (place_name-plain 86 beside refl close, tt))

rest-plain : (number side : ℕ) → IsSide side → All IsPlainRow (after_first number side)
rest-plain number side is =
    all-records IsPlainRow number side is (refl, refl, refl, tt) (refl, refl, refl, tt) (refl, refl, refl, tt)
    (λ p within. node-plain side p (square-near side p is within))
    (λ s low. segment-plain side s is low)
    (λ s low. times-plain number side s is low)
    (λ p within. conflict-plain side p is within)

-- ---- the version

-- a record that gives no clearance is judged the same in both versions
judge-same : (plan : Plan) (row : Fields) → IsPlainRow row → judge One plan row ≡ judge Two plan row
unfolding judge
judge-same plan [] plain = absurd plain
judge-same plan (first ∷ []) plain = absurd plain
judge-same plan (first ∷ second ∷ rest) plain = rw plain.0 refl

judged-same : (last : ℕ) (plan : Plan) (rows : List Fields) → All IsPlainRow rows → judged_after One last plan rows ≡ judged_after Two last plan rows
judged-same last plan [] all = refl
judged-same last plan (row ∷ rows) all =
    ap (λ judged. judged_with (last + 1) judged (λ next. judged_after One (last + 1) next rows)) (judge-same plan row (All-head IsPlainRow row rows all))
    ∙ go (judge Two plan row) (λ next. judged-same (last + 1) next rows (All-tail IsPlainRow row rows all))
  where
    go : (judged : Result Plan AirportFault) → ((next : Plan) → judged_after One (last + 1) next rows ≡ judged_after Two (last + 1) next rows)
        → judged_with (last + 1) judged (λ next. judged_after One (last + 1) next rows) ≡ judged_with (last + 1) judged (λ next. judged_after Two (last + 1) next rows)
    go (Ok next) same = same next
    go (Err why) same = refl

-- ---- the text

row-has : (rows : List Fields) → All IsPlainRow rows → All HasField rows
row-has rows all = All-weaker IsPlainRow HasField has rows all
  where
    has : (row : Fields) → IsPlainRow row → HasField row
    has [] plain = absurd plain
    has (first ∷ rest) plain = omega arith

-- the text begins with no byte order mark
strip-grid : (rest : List ℕ) → strip_bom (row_text record_writer (codes "taxi-airport" ∷ codes "1" ∷ []) ++ rest) ≡ row_text record_writer (codes "taxi-airport" ∷ codes "1" ∷ []) ++ rest
unfolding strip_bom fields_text is_blank escaped
strip-grid rest = refl

strip-canonical : (rest : List ℕ) → strip_bom (row_text record_writer first_record ++ rest) ≡ row_text record_writer first_record ++ rest
unfolding strip_bom fields_text is_blank escaped
strip-canonical rest = refl

read-grid : (rows : List Fields) → All HasField rows → airport_of (text_of_records ((codes "taxi-airport" ∷ codes "1" ∷ []) ∷ rows)) ≡ judged_after One 1 empty_plan rows
unfolding airport_of
read-grid rows has =
    let first : Fields = codes "taxi-airport" ∷ codes "1" ∷ [] in
    ap (λ t. airport_of_records (records default_config t)) (strip-grid (text_of_records rows))
    ∙ ap airport_of_records (records-again (first ∷ rows) (All-cons HasField first rows (omega arith) has))

read-canonical : (rows : List Fields) → All HasField rows → airport_of (text_of_records (first_record ∷ rows)) ≡ judged_after Two 1 empty_plan rows
unfolding airport_of
read-canonical rows has =
    ap (λ t. airport_of_records (records default_config t)) (strip-canonical (text_of_records rows))
    ∙ ap airport_of_records (records-again (first_record ∷ rows) (All-cons HasField first_record rows (omega arith) has))

canonical-is : (number side : ℕ) → IsSide side → canonical_text (grid_airport number side) ≡ text_of_records (first_record ∷ after_first number side)
unfolding canonical_text
canonical-is number side is = ap text_of_records (records-same number side is)

text-is : (number side : ℕ) → IsSide side → airport_text number side ≡ text_of_records ((codes "taxi-airport" ∷ codes "1" ∷ []) ∷ after_first number side)
unfolding airport_text
text-is number side is =
    text-plain (grid_records number side)
    (All-cons IsPlainRow (codes "taxi-airport" ∷ codes "1" ∷ []) (after_first number side) (refl, refl, refl, tt) (rest-plain number side is))

pub grid-read : (number side : ℕ) → IsSide side → airport_of (airport_text number side) ≡ Ok (grid_airport number side)
grid-read number side is =
    let plain = rest-plain number side is in
    let has : All HasField (after_first number side) = row-has (after_first number side) plain in
    ap airport_of (text-is number side is)
    ∙ read-grid (after_first number side) has
    ∙ judged-same 1 empty_plan (after_first number side) plain
    ∙ sym (read-canonical (after_first number side) has)
    ∙ ap airport_of (sym (canonical-is number side is))
    ∙ text-again (grid_airport number side) (grid-well_formed number side is)

-- ---- how it is written

written-whole : (number side : ℕ) → and_lines 44 [] (grid_records number side) ≡ airport_text number side
unfolding and_lines airport_text
written-whole number side = refl

-- one kind of records after the other
pub grid-written : (number side : ℕ) (start first horizon nodes medium heavy segments times conflicts : List ℕ) → start ≡ []
    → first ≡ and_lines 44 start ((codes "taxi-airport" ∷ codes "1" ∷ []) ∷ []) → horizon ≡ and_lines 44 first ((codes "horizon" ∷ codes "86400" ∷ []) ∷ [])
    → nodes ≡ and_lines 44 horizon (map (node_record side) (places side side))
    → medium ≡ and_lines 44 nodes ((codes "class" ∷ codes "M" ∷ []) ∷ []) → heavy ≡ and_lines 44 medium ((codes "class" ∷ codes "H" ∷ []) ∷ [])
    → segments ≡ and_lines 44 heavy (map (λ s. segment_record (way_at side s)) (numbers_below (2 * along_rows side)))
    → times ≡ and_lines 44 segments (flat_map (time_records number side) (numbers_below (2 * along_rows side)))
    → conflicts ≡ and_lines 44 times (map conflict_record (conflict_places side)) → conflicts ≡ airport_text number side
grid-written number side start first horizon nodes medium heavy segments times conflicts empty a b c d e f g h =
    let version_row : List Fields = (codes "taxi-airport" ∷ codes "1" ∷ []) ∷ [] in
    let horizon_row : List Fields = (codes "horizon" ∷ codes "86400" ∷ []) ∷ [] in
    let node_rows : List Fields = map (node_record side) (places side side) in
    let medium_row : List Fields = (codes "class" ∷ codes "M" ∷ []) ∷ [] in
    let heavy_row : List Fields = (codes "class" ∷ codes "H" ∷ []) ∷ [] in
    let segment_rows : List Fields = map (λ s. segment_record (way_at side s)) (numbers_below (2 * along_rows side)) in
    let time_rows : List Fields = flat_map (time_records number side) (numbers_below (2 * along_rows side)) in
    let conflict_rows : List Fields = map conflict_record (conflict_places side) in
    let from_times = lines-then 44 segments times conflicts time_rows conflict_rows g h in
    let from_segments = lines-then 44 heavy segments conflicts segment_rows (time_rows ++ conflict_rows) f from_times in
    let from_heavy = lines-then 44 medium heavy conflicts heavy_row (segment_rows ++ (time_rows ++ conflict_rows)) e from_segments in
    let from_medium = lines-then 44 nodes medium conflicts medium_row (heavy_row ++ (segment_rows ++ (time_rows ++ conflict_rows))) d from_heavy in
    let from_nodes = lines-then 44 horizon nodes conflicts node_rows (medium_row ++ (heavy_row ++ (segment_rows ++ (time_rows ++ conflict_rows)))) c from_medium in
    let from_horizon = lines-then 44 first horizon conflicts horizon_row (node_rows ++ (medium_row ++ (heavy_row ++ (segment_rows ++ (time_rows ++ conflict_rows))))) b from_nodes in
    lines-then 44 start first conflicts version_row (horizon_row ++ (node_rows ++ (medium_row ++ (heavy_row ++ (segment_rows ++ (time_rows ++ conflict_rows)))))) a from_horizon
    ∙ ap (λ t. and_lines 44 t (grid_records number side)) empty
    ∙ written-whole number side
