use Rattle.std.proofs.Common.{length, ◌-◌, ◌≡◌, IsTrue, ◌+◌, ◌≤◌, take, drop}
use Rattle.std.specs.Prelude.{All, min}
use Rattle.taxi_base.specs.Airport.{conflict, segment_of}
use Rattle.window_store.specs.Stays.{step_at, holding_on, spans_held, JoinTo}
use Rattle.window_store.proofs.stays.stay_from.Given as goal

-- so many more steps hold the segment on
abbrev pub invariant-loop-more : goal.invariant-loop-more
invariant-loop-more l = record {
  number : holding_on l.conflicts.sets l.segment (step_at l.steps 0) (drop 1 l.steps) ≡ l.more + holding_on l.conflicts.sets l.segment (step_at l.steps l.more) (drop (l.more + 1) l.steps);
  few : l.more + 1 ≤ length l.steps;
  met : All (λ step. IsTrue (conflict l.conflicts.sets l.segment (segment_of step.arc))) (take (l.more + 1) l.steps);
  joined : JoinTo (spans_held l.term.horizon l.term.clearance (take (l.more + 1) l.steps)) l.span;
  begun : l.span.from ≤ (step_at l.steps l.more).enter;
  lasts : min l.term.horizon ((step_at l.steps l.more).leave + l.term.clearance) ≤ l.span.until;
  in_time : l.span.until ≤ l.term.horizon;
}

abbrev pub decreases-loop-more : goal.decreases-loop-more
decreases-loop-more l = length l.steps - l.more
