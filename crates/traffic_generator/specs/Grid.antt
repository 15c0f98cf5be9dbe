-- The airport of a square grid, its records and its text.
use Rattle.std.specs.Prelude.{ℕ, ◌+◌, ◌-◌, ◌*◌, ◌%◌, ◌==◌, nat_lt, true, List, [], ◌∷◌, ◌++◌, map, flat_map, filter, Some, codes, decimal, if◌then◌else◌}
use Rattle.std.specs.Str.{byte}
use Rattle.taxi_base.specs.declared.numbers.Node.{Node}
use Rattle.taxi_base.specs.declared.numbers.Segment.{Segment}
use Rattle.taxi_base.specs.declared.rows.Kind.{Kind}
use Rattle.taxi_base.specs.declared.rows.Kind.TheVariants.{Runway, Junction, Stand}
use Rattle.taxi_base.specs.Airport.{Airport, NodeRow, SegmentRow}
use Rattle.airport_text.specs.Canonical.{Fields, kind_word, numbers_below}
use Rattle.traffic_generator.specs.declared.places.Place.{Place}
use Rattle.traffic_generator.specs.declared.places.Way.{Way}
use Rattle.traffic_generator.specs.Draws.{draw}
use Rattle.traffic_generator.specs.Places.{place_at, places, place_name}
use Rattle.traffic_generator.specs.Texts.{text_of}

-- ---- nodes

-- N, the row, a hyphen and the column
abbrev pub node_name : Place → List ℕ
node_name place = place_name (byte "N") place

-- the first row is runways, the last is stands
abbrev pub kind_at : ℕ → Place → Kind
kind_at side place = if place.row == 0 then Runway else (if place.row + 1 == side then Stand else Junction)

abbrev pub node_record : ℕ → Place → Fields
node_record side place = codes "node" ∷ node_name place ∷ kind_word (kind_at side place) ∷ []

-- ---- segments

-- a segment to the next place of the row, E and where it begins
abbrev pub along_row : Place → Way
along_row place = record { letter = byte "E"; from = place; to = record { row = place.row; column = place.column + 1 } }

-- a segment to the same column of the next row, V and where it begins
abbrev pub to_next_row : Place → Way
to_next_row place = record { letter = byte "V"; from = place; to = record { row = place.row + 1; column = place.column } }

-- how many segments lead along the rows
abbrev pub along_rows : ℕ → ℕ
along_rows side = side * (side - 1)

-- as many lead from row to row
abbrev pub segment_count : ℕ → ℕ
segment_count side = 2 * along_rows side

-- the segment of this number: those along the rows come first, and each kind goes row by row
abbrev pub way_at : ℕ → ℕ → Way
way_at side number =
    if nat_lt number (along_rows side) then along_row (place_at (side - 1) number)
    else to_next_row (place_at side (number - along_rows side))

abbrev pub way_name : Way → List ℕ
way_name way = place_name way.letter way.from

abbrev pub segment_record : Way → Fields
segment_record way = codes "segment" ∷ way_name way ∷ node_name way.from ∷ node_name way.to ∷ codes "both" ∷ []

-- each segment has one draw below 41, in order
abbrev pub least_time : ℕ → ℕ → ℕ
least_time number segment = 20 + draw number segment 41

-- ten seconds more, for class H
abbrev pub least_time_of_heavy : ℕ → ℕ → ℕ
least_time_of_heavy number segment = 30 + draw number segment 41

abbrev pub time_records : ℕ → ℕ → ℕ → List Fields
time_records number side segment =
    (codes "seconds" ∷ way_name (way_at side segment) ∷ codes "M" ∷ decimal (least_time number segment) ∷ [])
    ∷ (codes "seconds" ∷ way_name (way_at side segment) ∷ codes "H" ∷ decimal (least_time_of_heavy number segment) ∷ [])
    ∷ []

-- ---- conflicts

-- where the row and the column add up to a number that 5 divides
abbrev pub conflict_places : ℕ → List Place
conflict_places side = filter (λ p. (p.row + p.column) % 5 == 0) (places (side - 1) (side - 1))

-- the segment that leads to the next row from here conflicts with the one beside it
abbrev pub conflict_record : Place → Fields
conflict_record place =
    codes "conflict" ∷ way_name (to_next_row place) ∷ way_name (to_next_row (record { row = place.row; column = place.column + 1 })) ∷ []

-- ---- the text

-- the records of the airport, in order
abbrev pub grid_records : ℕ → ℕ → List Fields
grid_records number side =
    (codes "taxi-airport" ∷ codes "1" ∷ [])
    ∷ (codes "horizon" ∷ codes "86400" ∷ [])
    ∷ (map (node_record side) (places side side)
    ++ ((codes "class" ∷ codes "M" ∷ [])
    ∷ (codes "class" ∷ codes "H" ∷ [])
    ∷ (map (λ s. segment_record (way_at side s)) (numbers_below (segment_count side))
    ++ (flat_map (time_records number side) (numbers_below (segment_count side))
    ++ map conflict_record (conflict_places side)))))

-- fields between commas
unfoldable pub airport_text : ℕ → ℕ → List ℕ
airport_text number side = text_of (byte ",") (grid_records number side)

-- ---- the airport

-- the number of a place's node
abbrev pub node_of : ℕ → Place → Node
node_of side place = record { 0 = place.row * side + place.column }

abbrev pub node_row : ℕ → Place → NodeRow
node_row side place = record { name = node_name place; kind = kind_at side place }

abbrev pub segment_row : ℕ → Way → SegmentRow
segment_row side way = record { name = way_name way; from = node_of side way.from; to = node_of side way.to; both = true }

-- the segment that leads to the next row from here, and the one beside it, by their numbers
abbrev pub conflict_set : ℕ → Place → List Segment
conflict_set side place =
    record { 0 = along_rows side + (place.row * side + place.column) }
    ∷ record { 0 = along_rows side + (place.row * side + (place.column + 1)) }
    ∷ []

-- what the text gives
abbrev pub grid_airport : ℕ → ℕ → Airport
grid_airport number side = record {
  horizon = 86400;
  nodes = map (node_row side) (places side side);
  segments = map (λ s. segment_row side (way_at side s)) (numbers_below (segment_count side));
  classes =
      record { name = codes "M"; seconds = map (λ s. Some (least_time number s)) (numbers_below (segment_count side)) }
      ∷ record { name = codes "H"; seconds = map (λ s. Some (least_time_of_heavy number s)) (numbers_below (segment_count side)) }
      ∷ [];
  clearances = 0 ∷ 0 ∷ [];
  forbidden = [];
  conflicts = map (conflict_set side) (conflict_places side);
}
