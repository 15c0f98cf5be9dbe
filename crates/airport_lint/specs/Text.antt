-- How is the advice on an airport written?
use Rattle.std.specs.Prelude.{ℕ, ◌≡◌, ◌+◌, List, ◌++◌, length, flat_map, codes, decimal}
use Rattle.taxi_base.specs.Airport.{Airport, node_word}
use Rattle.airport_file.specs.Words.{class_word, segment_word, word_of_arc}
use Rattle.airport_lint.specs.declared.advice.Advice.{Advice}
use Rattle.airport_lint.specs.declared.advice.Advice.TheVariants.{ClassNoSeconds, ClassNoArrival, ClassNoDeparture, SegmentNoSeconds, NodeNoArrival, NodeNoDeparture, NodeUnused, DeadEnd, IdleTurn, SameSet, NeedlessSet}
use Rattle.airport_lint.specs.Advice.{AreTold, all_advice}

-- sets are counted from 1
abbrev pub set_word : ℕ → List ℕ
set_word set = decimal (set + 1)

-- what is odd
abbrev pub subject_of : Airport → Advice → List ℕ
subject_of airport (ClassNoSeconds class) = codes "class " ++ class_word airport class
subject_of airport (ClassNoArrival class) = codes "class " ++ class_word airport class
subject_of airport (ClassNoDeparture class) = codes "class " ++ class_word airport class
subject_of airport (SegmentNoSeconds segment) = codes "segment " ++ segment_word airport segment
subject_of airport (NodeNoArrival node) = codes "node " ++ node_word airport node
subject_of airport (NodeNoDeparture node) = codes "node " ++ node_word airport node
subject_of airport (NodeUnused node) = codes "node " ++ node_word airport node
subject_of airport (DeadEnd arc) = codes "arc " ++ word_of_arc airport arc
subject_of airport (IdleTurn x y) = (codes "forbid " ++ word_of_arc airport x) ++ (codes " " ++ word_of_arc airport y)
subject_of airport (SameSet set first) = codes "conflict " ++ set_word set
subject_of airport (NeedlessSet set) = codes "conflict " ++ set_word set

-- and in which way
abbrev pub matter_of : Advice → List ℕ
matter_of (ClassNoSeconds class) = codes "no-seconds"
matter_of (ClassNoArrival class) = codes "no-arrival"
matter_of (ClassNoDeparture class) = codes "no-departure"
matter_of (SegmentNoSeconds segment) = codes "no-seconds"
matter_of (NodeNoArrival node) = codes "no-arrival"
matter_of (NodeNoDeparture node) = codes "no-departure"
matter_of (NodeUnused node) = codes "unused"
matter_of (DeadEnd arc) = codes "dead-end"
matter_of (IdleTurn x y) = codes "idle"
matter_of (SameSet set first) = codes "same " ++ set_word first
matter_of (NeedlessSet set) = codes "needless"

unfoldable pub line_of : Airport → Advice → List ℕ
line_of airport advice = subject_of airport advice ++ (codes " " ++ (matter_of advice ++ codes "\n"))

-- a line for each thing that is told, and then how many there are
unfoldable pub advice_text : Airport → List Advice → List ℕ
advice_text airport told = flat_map (line_of airport) told ++ (codes "done " ++ (decimal (length told) ++ codes "\n"))

-- the text tells all that is odd about an airport, in order, and nothing else
abbrev pub IsAdviceText : Airport → List ℕ → Type 0
IsAdviceText airport text = (told : List Advice) × AreTold airport (all_advice airport) told × (text ≡ advice_text airport told)
