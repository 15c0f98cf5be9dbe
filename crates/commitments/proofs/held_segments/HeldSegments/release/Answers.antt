use Rattle.std.proofs.Common.{◌/◌, ◌<◌, ◌≤◌, ◌++◌, List, length, drop, subst, sym, arith}
use Rattle.std.proofs.lemmas.List.{take_all}
use Rattle.std.proofs.lemmas.List.Elements.{All-take, All-drop}
use Rattle.taxi_base.specs.declared.rows.Step.{Step}
use Rattle.taxi_base.specs.Windows.{holds_of}
use Rattle.window_store.specs.Kept.{IsClearOf, KeepsWindows}
use Rattle.commitments.specs.Held.{clearance_after, steps_with, AreAsMany}
use Rattle.commitments.proofs.Returned.{next-among, next-gone, windows-kept, nodes-both, room-again}
use Rattle.commitments.proofs.held_segments.HeldSegments.release.Goals as goal

pub release_at_once-requires-clause-steps : goal.release_at_once-requires-clause-steps
release_at_once-requires-clause-steps c =
    let On : Step → Type 0 = λ (s : Step). s.arc.0 / 2 < length c.args.airport.now.segments in
    All-take On _ (drop c.loop-done.done c.args.steps.now) (All-drop On c.loop-done.done c.args.steps.now c.requires.steps)

pub release_at_once-requires-clause-time : goal.release_at_once-requires-clause-time
release_at_once-requires-clause-time c =
    let TakesTime : Step → Type 0 = λ (s : Step). s.enter < s.leave in
    All-take TakesTime _ (drop c.loop-done.done c.args.steps.now) (All-drop TakesTime c.loop-done.done c.args.steps.now c.requires.time)

pub release_at_once-requires-clause-in_time : goal.release_at_once-requires-clause-in_time
release_at_once-requires-clause-in_time c =
    let IsInTime : Step → Type 0 = λ (s : Step). s.leave ≤ c.args.airport.now.horizon in
    All-take IsInTime _ (drop c.loop-done.done c.args.steps.now) (All-drop IsInTime c.loop-done.done c.args.steps.now c.requires.in_time)

pub release_at_once-requires-clause-among : goal.release_at_once-requires-clause-among
release_at_once-requires-clause-among c =
    let l = c.loop-done in
    next-among c.args.holder.now c.args.steps.now l.done _ (omega arith) c.args.self.now.steps l.self.steps c.requires.among l.invariant.steps

pub loop-done-preserved : goal.loop-done-preserved
loop-done-preserved c =
    let airport = c.args.airport.now in let holder = c.args.holder.now in let steps = c.args.steps.now in
    let old = c.args.self.now in let l = c.loop-done in let new = c.release_at_once.new.self in
    let clearance = clearance_after airport holder in
    record {
      few = omega (arith, c.min.ensures, c.loop-done-test.true);
      stands = c.release_at_once.ensures.stands;
      steps = next-gone holder steps l.done _ (omega arith) old.steps l.self.steps new.steps l.invariant.steps c.release_at_once.ensures.steps;
      kept = windows-kept holder steps l.done _ (omega arith) airport.conflicts airport.horizon clearance old.store l.self.store new.store l.invariant.nodes l.invariant.kept c.release_at_once.ensures.kept;
      nodes = nodes-both old.store l.self.store new.store l.invariant.nodes c.release_at_once.ensures.nodes;
    }

-- in the end all steps are given back
pub returns-clause-room : goal.returns-clause-room
returns-clause-room c =
    let l = c.loop-done in
    let gone : AreAsMany c.args.self.now.steps (l.self.steps ++ steps_with c.args.holder.now c.args.steps.now) = rw (sym (take_all l.done c.args.steps.now c.loop-done-test.false)) l.invariant.steps in
    room-again c.args.airport.now c.args.holder.now c.args.steps.now c.args.self.now.steps l.self.steps c.args.self.now.store l.self.store gone c.requires.stands l.invariant.stands l.invariant.nodes

pub returns-clause-kept : goal.returns-clause-kept
returns-clause-kept c =
    let l = c.loop-done in let airport = c.args.airport.now in
    subst (λ (done : List Step). KeepsWindows IsClearOf airport.conflicts (holds_of airport.horizon (clearance_after airport c.args.holder.now) done) c.args.self.now.store l.self.store)
    (take_all l.done c.args.steps.now c.loop-done-test.false) l.invariant.kept
