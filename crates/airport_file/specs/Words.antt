-- The words by which an airport names what it has.
use Rattle.std.specs.Prelude.{ℕ, ◌==◌, ◌%◌, List, [], unwrap_or}
use Rattle.taxi_base.specs.declared.numbers.Segment.{Segment}
use Rattle.taxi_base.specs.declared.numbers.Arc.{Arc}
use Rattle.taxi_base.specs.declared.numbers.Class.{Class}
use Rattle.taxi_base.specs.Airport.{Airport, segment_of, class_name, segment_name}
use Rattle.taxi_text.specs.Fields.{arc_word}

abbrev pub class_word : Airport → Class → List ℕ
class_word airport class = unwrap_or (class_name airport class) []

abbrev pub segment_word : Airport → Segment → List ℕ
segment_word airport segment = unwrap_or (segment_name airport segment) []

-- the segment's name, and + for its forward arc or - for its backward one
abbrev pub word_of_arc : Airport → Arc → List ℕ
word_of_arc airport arc = arc_word (segment_word airport (segment_of arc)) (arc.0 % 2 == 0)
