use Rattle.std.proofs.Common.{◌<◌, length, get_or, List, sym, subst}
use Rattle.std.proofs.lemmas.List.{take_all}
use Rattle.taxi_base.specs.declared.numbers.Segment.{Segment}
use Rattle.taxi_base.specs.declared.rows.Step.{Step}
use Rattle.taxi_base.proofs.AirportLaws.{arc_exists-segment}
use Rattle.conflict_sets.specs.Conflicts.{ConflictSets, AreConflicts}
use Rattle.check_rows.specs.Known.{AreStill}
use Rattle.check_rows.proofs.KnownLaws.{AreStill-more, still-known}
use Rattle.check_rows.proofs.known.KnownWindows.forget.Goals as goal

abbrev none : Step
none = record { arc = record { 0 = 0 }; enter = 0; leave = 0 }

pub of-segments-requires : goal.of-segments-requires
of-segments-requires c =
    let low = arc_exists-segment c.args.airport.now (get_or c.args.steps.now c.loop-step.step-index none).arc (c.requires c.loop-step.step-index none c.loop-step-test.true) in
    subst (λ (x : ConflictSets). c.segment.result.0 < x.segments) (sym c.conflicts.ensures) (subst (λ (s : Segment). s.0 < length c.args.airport.now.segments) (sym c.segment.ensures) low)

pub loop-step-preserved : goal.loop-step-preserved
loop-step-preserved c =
    let all = subst (λ (x : ConflictSets). AreConflicts x.sets c.segment.result c.of-segments.result.now) c.conflicts.ensures c.of-segments.ensures.all in
    let its = subst (λ (s : Segment). AreConflicts c.args.airport.now.conflicts s c.of-segments.result.now) c.segment.ensures all in
    AreStill-more c.args.airport.now.conflicts c.args.steps.now c.loop-step.step-index none _ _ _ c.of-segments.result.now c.loop-step-test.true its c.loop-step.invariant c.forget_lists.ensures

pub returns : goal.returns
returns c =
    still-known c.args.airport.now c.args.steps.now c.args.self.now c.loop-step.self
    (subst (λ (steps : List Step). AreStill c.args.airport.now.conflicts steps c.args.self.now.lists.items c.loop-step.self.lists.items) (take_all c.loop-step.step-index c.args.steps.now c.loop-step-test.false) c.loop-step.invariant)
