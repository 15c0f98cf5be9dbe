-- Stays: what steps hold of a segment one after the other without a gap. No public clause cites this module.
use Rattle.std.specs.Prelude.{ℕ, zero, suc, ◌≡◌, ◌+◌, ◌<◌, ◌≤◌, Bool, true, not, ◌&&◌, if◌then◌else◌, nat_le, IsTrue, List, [], ◌∷◌, length, map, take, drop, slice_index_or, All}
use Rattle.taxi_base.specs.declared.numbers.Segment.{Segment}
use Rattle.taxi_base.specs.declared.rows.Span.{Span}
use Rattle.taxi_base.specs.declared.rows.Step.{Step}
use Rattle.taxi_base.specs.Airport.{conflict, segment_of}
use Rattle.taxi_base.specs.Windows.{hold_of, covers, span_has}
use Rattle.interval_list.specs.declared.window.Window.{Window}
use Rattle.window_store.specs.Kept.{IsClearOf}
use Rattle.window_store.specs.declared.stays.Stay.{Stay}

abbrev pub step_at : List Step → ℕ → Step
step_at steps k = slice_index_or steps k (record { arc = record { 0 = 0 }; enter = 0; leave = 0 })

-- a step begins while the one before it is on its segment
abbrev pub joins : Step → Step → Bool
joins before step = nat_le before.enter step.enter && nat_le step.enter before.leave

-- a step that holds a segment begins a stay there: the one before it does not hold it up to then
abbrev pub begins_stay : List (List Segment) → Segment → List Step → ℕ → Bool
begins_stay sets s steps zero = true
begins_stay sets s steps (suc k) = not (conflict sets s (segment_of (step_at steps k).arc) && joins (step_at steps k) (step_at steps (suc k)))

-- how many steps behind one that holds a segment hold it on
abbrev pub holding_on : List (List Segment) → Segment → Step → List Step → ℕ
holding_on sets s before [] = 0
holding_on sets s before (step ∷ steps) = if conflict sets s (segment_of step.arc) && joins before step then suc (holding_on sets s step steps) else 0

-- how many steps are done for a segment once the stays are that begin at the first so many
abbrev pub done_by : List (List Segment) → Segment → List Step → ℕ → ℕ
done_by sets s steps zero = 0
done_by sets s steps (suc k) =
    suc k + (if conflict sets s (segment_of (step_at steps k).arc) then holding_on sets s (step_at steps k) (drop (suc k) steps) else 0)

-- for which seconds steps hold their segments
abbrev pub spans_held : ℕ → ℕ → List Step → List Span
spans_held horizon clearance steps = map (λ step. (hold_of horizon clearance step).span) steps

-- some spans have the seconds of one
abbrev pub HaveSecondsOf : Span → List Span → Type 0
HaveSecondsOf whole spans = (t : ℕ) → covers spans t ≡ span_has whole t

-- Spans join to a whole: they have its seconds, and what is clear of each is clear of the whole.
pub record JoinTo (spans : List Span) (whole : Span) : Type 0 where
  pub some : whole.from < whole.until
  pub seconds : HaveSecondsOf whole spans
  pub clear : (w : Window) → w.from < w.until → All (IsClearOf w) spans → IsClearOf w whole

-- the stay that the first of some steps begins at a segment
pub record IsStay (sets : List (List Segment)) (horizon clearance : ℕ) (s : Segment) (steps : List Step) (stay : Stay) : Type 0 where
  pub number : stay.steps ≡ 1 + holding_on sets s (step_at steps 0) (drop 1 steps)
  pub few : stay.steps ≤ length steps
  pub met : All (λ step. IsTrue (conflict sets s (segment_of step.arc))) (take stay.steps steps)
  pub joined : JoinTo (spans_held horizon clearance (take stay.steps steps)) stay.span
  pub in_time : stay.span.until ≤ horizon
