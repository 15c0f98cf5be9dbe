use Rattle.std.proofs.Common.{◌≡◌, ◌<◌, ◌≤◌, ◌+◌, ◌∷◌, List, length, get_or, drop, sym, ◌∙◌, ap, subst, arith}
use Rattle.std.proofs.lemmas.List.{drop_more, drop_all}
use Rattle.taxi_base.specs.declared.numbers.Segment.{Segment}
use Rattle.taxi_base.specs.declared.rows.Span.{Span}
use Rattle.taxi_base.specs.declared.rows.Step.{Step}
use Rattle.taxi_base.specs.Airport.{segment_of}
use Rattle.taxi_base.specs.Windows.{Hold, hold_of, holds_of}
use Rattle.taxi_base.specs.Walks.{free_among}
use Rattle.taxi_base.proofs.AirportLaws.{arc_exists-segment}
use Rattle.conflict_sets.specs.Conflicts.{ConflictSets, AreConflicts}
use Rattle.check_rows.specs.Returns.{AreListsBack, AreKnownBut}
use Rattle.check_rows.proofs.ListCuts.{known-apart}
use Rattle.check_rows.proofs.ListReturns.{lists-apart}
use Rattle.check_rows.proofs.ReturnLaws.{but-first, but-next, but-none}
use Rattle.check_rows.proofs.known.KnownWindows.give_back.Goals as goal

abbrev none : Step
none = record { arc = record { 0 = 0 }; enter = 0; leave = 0 }

one : Segment → Span → Hold
one segment span = record { segment = segment; span = span }

pub loop-step-init : goal.loop-step-init
loop-step-init g c =
    let airport = c.args.airport.now in
    record {
      apart = known-apart (length airport.segments) (free_among airport c.requires.known.0) c.args.self.now c.requires.known.1;
      known = λ before more are. but-first airport (g.H.HoldsOf.held c.args.holds.now) (holds_of airport.horizon c.args.clearance c.args.steps.now) before c.args.self.now more are;
    }

pub of-conflicting-requires : goal.of-conflicting-requires
of-conflicting-requires g c =
    let low = arc_exists-segment c.args.airport.now (get_or c.args.steps.now c.loop-step.step-index none).arc (c.requires.arcs c.loop-step.step-index none c.loop-step-test.true) in
    subst (λ (x : ConflictSets). c.segment.result.0 < x.segments) (sym c.conflicts-conflicts.ensures) (subst (λ (s : Segment). s.0 < length c.args.airport.now.segments) (sym c.segment.ensures) low)

pub loop-step-preserved : goal.loop-step-preserved
unfolding one
loop-step-preserved g c =
    let airport = c.args.airport.now in let holds = g.H.HoldsOf.held c.args.holds.now in
    let steps = c.args.steps.now in let i = c.loop-step.step-index in
    let step : Step = get_or steps i none in
    let span = c.held-held.result in
    let segments = c.of-conflicting.result.now in
    let hold : Hold = record { segment = c.segment.result; span = span } in
    let is : hold ≡ hold_of airport.horizon c.args.clearance step =
    ap (λ (s : Segment). one s span) c.segment.ensures ∙ ap (λ (w : Span). one (segment_of step.arc) w) c.held-held.ensures ∙ ap (λ n. hold_of n c.args.clearance step) c.horizon.ensures.horizon in
    let in_time : span.until ≤ airport.horizon = omega (arith, ap (λ (h : Hold). h.span.until) is) in
    let rest = holds_of airport.horizon c.args.clearance (drop (i + 1) steps) in
    let next : holds_of airport.horizon c.args.clearance (drop i steps) ≡ hold ∷ rest =
    ap (holds_of airport.horizon c.args.clearance) (drop_more steps i none c.loop-step-test.true) ∙ ap (λ (h : Hold). h ∷ rest) (sym is) in
    let all : AreConflicts airport.conflicts c.segment.result segments = subst (λ (x : ConflictSets). AreConflicts x.sets c.segment.result segments) c.conflicts-conflicts.ensures c.of-conflicting.ensures.all in
    let back : AreListsBack airport.conflicts holds segments span c.loop-step.self.lists.items c.give_back_lists.new.lists.items =
    subst (λ (x : ConflictSets). AreListsBack x.sets holds segments span c.loop-step.self.lists.items c.give_back_lists.new.lists.items) c.conflicts-conflicts.ensures c.give_back_lists.ensures in
    record {
      apart = lists-apart airport.conflicts holds segments span c.loop-step.self.lists.items c.give_back_lists.new.lists.items back;
      known = λ before more are.
          but-next airport holds rest hold in_time segments all c.loop-step.self _ back
          (subst (λ (left : List Hold). AreKnownBut airport holds left c.loop-step.self) next (c.loop-step.invariant.known before more are));
    }

pub returns : goal.returns
returns g c before more are =
    let airport = c.args.airport.now in let holds = g.H.HoldsOf.held c.args.holds.now in
    but-none airport holds c.loop-step.self
    (subst (λ (left : List Step). AreKnownBut airport holds (holds_of airport.horizon c.args.clearance left) c.loop-step.self) (drop_all c.loop-step.step-index c.args.steps.now c.loop-step-test.false)
    (c.loop-step.invariant.known before more are))
