-- Which spans stand in the lists of the segments, of which holders, and for how many more is there room?
use Rattle.std.specs.Prelude.{ℕ, ◌≡◌, ◌+◌, ◌≤◌, ◌==◌, if◌then◌else◌, List, [], ◌∷◌, ◌++◌, map, slice_get, sum_by, count_by}
use Rattle.std.specs.Option.{option_map_or}
use Rattle.taxi_base.specs.declared.numbers.Segment.{Segment}
use Rattle.taxi_base.specs.declared.rows.Step.{Step}
use Rattle.taxi_base.specs.declared.rows.Span.{Span}
use Rattle.taxi_base.specs.Airport.{segment_of}
use Rattle.taxi_base.specs.Windows.{Hold}
use Rattle.held_spans.specs.declared.spans.HeldSpans.{HeldSpans}

-- the spans in the list of a segment, each with the name of its holder, and the spans alone
abbrev pub rows_at : HeldSpans → Segment → List (Span × List ℕ)
rows_at held s = option_map_or (λ list. list.rows) (slice_get held.lists.items s.0) []

abbrev pub spans_at : HeldSpans → Segment → List Span
spans_at held s = map (λ row. row.0) (rows_at held s)

-- what a weight of spans comes to over those holds that are of just this segment
abbrev pub weight_on : (Span → ℕ) → Segment → List Hold → ℕ
weight_on weight s holds = sum_by (λ h. if h.segment.0 == s.0 then weight h.span else 0) holds

-- The lists have the spans of some holds, each as often, in any order: whatever is summed over them comes to the same.
pub record AreSpansOf (holds : List Hold) (held : HeldSpans) : Type 0 where
  pub each : (s : Segment) (weight : Span → ℕ) → sum_by weight (spans_at held s) ≡ weight_on weight s holds

-- ---- by whom

-- a hold, and the name of its holder
pub record NamedHold : Type 0 where
  pub hold : Hold
  pub holder : List ℕ

-- what one holder holds
abbrev pub held_by : List ℕ → List Hold → List NamedHold
held_by holder holds = map (λ hold. record { hold = hold; holder = holder }) holds

-- what a weight of spans and names comes to over those holds that are of just this segment
abbrev pub weight_by : (Span × List ℕ → ℕ) → Segment → List NamedHold → ℕ
weight_by weight s holds = sum_by (λ h. if h.hold.segment.0 == s.0 then weight (h.hold.span, h.holder) else 0) holds

-- The lists have the spans of some holds, each with the name of its holder and as often as there, in any order.
pub record AreHeldBy (holds : List NamedHold) (held : HeldSpans) : Type 0 where
  pub each : (s : Segment) (weight : Span × List ℕ → ℕ) → sum_by weight (rows_at held s) ≡ weight_by weight s holds

-- ---- all holds of the lists, segment by segment

abbrev pub named_from : ℕ → List (List (Span × List ℕ)) → List NamedHold
named_from s [] = []
named_from s (rows ∷ lists) = map (λ row. record { hold = record { segment = record { 0 = s }; span = row.0 }; holder = row.1 }) rows ++ named_from (s + 1) lists

abbrev pub named_in_lists : HeldSpans → List NamedHold
named_in_lists held = named_from 0 (map (λ list. list.rows) held.lists.items)

abbrev pub holds_in_lists : HeldSpans → List Hold
holds_in_lists held = map (λ h. h.hold) (named_in_lists held)

-- ---- room

-- for how many more spans a segment's list has room
abbrev pub room_at : HeldSpans → Segment → ℕ
room_at held s = option_map_or (λ list. list.room) (slice_get held.lists.items s.0) 0

-- how many of the steps are on a segment
abbrev pub steps_on : Segment → List Step → ℕ
steps_on s steps = count_by (λ step. (segment_of step.arc).0 == s.0) steps

-- there is room for what the steps hold
abbrev pub HasRoomFor : List Step → HeldSpans → Type 0
HasRoomFor steps held = (s : Segment) → steps_on s steps ≤ room_at held s

-- no list has less room than before
abbrev pub KeepsRoom : HeldSpans → HeldSpans → Type 0
KeepsRoom old new = (s : Segment) → room_at old s ≤ room_at new s

-- each list has gained room for what steps on its segment hold
abbrev pub GainsRoom : List Step → HeldSpans → HeldSpans → Type 0
GainsRoom steps old new = (s : Segment) → room_at old s + steps_on s steps ≤ room_at new s
