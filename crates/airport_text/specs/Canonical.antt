-- The canonical text of an airport: one file for each airport, with its records in a fixed order.
use Rattle.std.specs.Prelude.{ℕ, zero, suc, Bool, true, if◌then◌else◌, List, [], ◌∷◌, ◌++◌, nat_lt, length, map, flat_map, filter_map, Option, Some, None, option_map, codes, decimal}
use Rattle.csv.specs.Writing.{default_writer, with_flexible, row_text}
use Rattle.csv.specs.declared.writer.WriterBuilder.{WriterBuilder}
use Rattle.taxi_base.specs.declared.numbers.Segment.{Segment}
use Rattle.taxi_base.specs.declared.numbers.Arc.{Arc}
use Rattle.taxi_base.specs.declared.numbers.Class.{Class}
use Rattle.taxi_base.specs.declared.rows.Kind.{Kind}
use Rattle.taxi_base.specs.declared.rows.Kind.TheVariants.{Runway, Junction, Stand}
use Rattle.taxi_base.specs.Airport.{Airport, NodeRow, SegmentRow, ClassRow, seconds, clearance_of, node_word}
use Rattle.airport_file.specs.Words.{class_word, segment_word, word_of_arc}

-- ---- records, each the list of its fields

abbrev pub Fields : Type 0
Fields = List (List ℕ)

abbrev pub kind_word : Kind → List ℕ
kind_word Runway = codes "runway"
kind_word Junction = codes "junction"
kind_word Stand = codes "stand"

abbrev pub direction_word : Bool → List ℕ
direction_word both = if both then codes "both" else codes "one"

abbrev pub first_record : Fields
first_record = codes "taxi-airport" ∷ codes "2" ∷ []

abbrev pub horizon_record : Airport → Fields
horizon_record airport = codes "horizon" ∷ decimal airport.horizon ∷ []

abbrev pub node_record : NodeRow → Fields
node_record node = codes "node" ∷ node.name ∷ kind_word node.kind ∷ []

abbrev pub class_record : ClassRow → Fields
class_record class = codes "class" ∷ class.name ∷ []

abbrev pub segment_record : Airport → SegmentRow → Fields
segment_record airport segment =
    codes "segment" ∷ segment.name ∷ node_word airport segment.from ∷ node_word airport segment.to ∷ direction_word segment.both ∷ []

-- a class's least time on a segment; none where it may not use it
abbrev pub time_record : Airport → Segment → Class → Option Fields
time_record airport segment class =
    option_map (λ n. codes "seconds" ∷ segment_word airport segment ∷ class_word airport class ∷ decimal n ∷ []) (seconds airport class segment)

-- a class's clearance; none where it is 0
abbrev pub clearance_record : Airport → Class → Option Fields
clearance_record airport class =
    if nat_lt 0 (clearance_of airport class) then Some (codes "clearance" ∷ class_word airport class ∷ decimal (clearance_of airport class) ∷ []) else None

abbrev pub forbid_record : Airport → Arc × Arc → Fields
forbid_record airport turn = codes "forbid" ∷ word_of_arc airport turn.0 ∷ word_of_arc airport turn.1 ∷ []

abbrev pub conflict_record : Airport → List Segment → Fields
conflict_record airport members = codes "conflict" ∷ map (segment_word airport) members

-- ---- the order of the records

-- the numbers below n, in order
abbrev pub numbers_below : ℕ → List ℕ
numbers_below zero = []
numbers_below (suc n) = numbers_below n ++ n ∷ []

-- the times of every class on a segment
abbrev pub times_on : Airport → ℕ → List Fields
times_on airport segment =
    filter_map (λ class. time_record airport (record { 0 = segment }) (record { 0 = class })) (numbers_below (length airport.classes))

-- by segment and then class
abbrev pub time_records : Airport → List Fields
time_records airport = flat_map (times_on airport) (numbers_below (length airport.segments))

abbrev pub clearance_records : Airport → List Fields
clearance_records airport = filter_map (λ class. clearance_record airport (record { 0 = class })) (numbers_below (length airport.classes))

abbrev pub canonical_records : Airport → List Fields
canonical_records airport =
    first_record
    ∷ horizon_record airport
    ∷ (map node_record airport.nodes
    ++ (map class_record airport.classes
    ++ (map (segment_record airport) airport.segments
    ++ (time_records airport
    ++ (clearance_records airport
    ++ (map (forbid_record airport) airport.forbidden
    ++ map (conflict_record airport) airport.conflicts))))))

-- ---- the text

-- how records are written: between commas, each ended by LF, with as many fields as it has
abbrev pub record_writer : WriterBuilder
record_writer = with_flexible default_writer true

abbrev pub text_of_records : List Fields → List ℕ
text_of_records records = flat_map (row_text record_writer) records

unfoldable pub canonical_text : Airport → List ℕ
canonical_text airport = text_of_records (canonical_records airport)
