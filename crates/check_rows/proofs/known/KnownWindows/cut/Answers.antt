use Rattle.std.proofs.Common.{◌≡◌, ◌<◌, ◌+◌, ◌++◌, ◌∷◌, [], List, length, get_or, take, sym, ◌∙◌, ap, subst}
use Rattle.std.proofs.lemmas.List.{take_all, take_more, map-append, append_assoc}
use Rattle.taxi_base.specs.declared.numbers.Segment.{Segment}
use Rattle.taxi_base.specs.declared.rows.Span.{Span}
use Rattle.taxi_base.specs.declared.rows.Step.{Step}
use Rattle.taxi_base.specs.Airport.{segment_of}
use Rattle.taxi_base.specs.Windows.{Hold, hold_of, holds_of}
use Rattle.taxi_base.specs.Walks.{free_among}
use Rattle.taxi_base.proofs.AirportLaws.{arc_exists-segment}
use Rattle.check_rows.specs.Known.{AreKnown}
use Rattle.held_spans.specs.Holds.{held_at}
use Rattle.check_rows.proofs.ListCuts.{same-known}
use Rattle.check_rows.proofs.known.KnownWindows.cut.Goals as goal

abbrev none : Step
none = record { arc = record { 0 = 0 }; enter = 0; leave = 0 }

one : Segment → Span → Hold
one segment span = record { segment = segment; span = span }

pub cut_segment-requires-clause-on : goal.cut_segment-requires-clause-on
cut_segment-requires-clause-on c =
    let low = arc_exists-segment c.args.airport.now (get_or c.args.steps.now c.loop-step.step-index none).arc (c.requires.arcs c.loop-step.step-index none c.loop-step-test.true) in
    subst (λ (s : Segment). s.0 < length c.args.airport.now.segments) (sym c.segment.ensures) low

pub cut_segment-requires-clause-known : goal.cut_segment-requires-clause-known
cut_segment-requires-clause-known c = (_, c.loop-step.invariant c.requires.known.0 c.requires.known.1)

pub loop-step-preserved : goal.loop-step-preserved
unfolding one
loop-step-preserved c holds are =
    let steps = c.args.steps.now in
    let i = c.loop-step.step-index in
    let horizon = c.args.airport.now.horizon in
    let hold : Hold = record { segment = c.segment.result; span = c.held-held.result } in
    let is : hold ≡ hold_of horizon c.args.clearance (get_or steps i none) =
    ap (λ (s : Segment). one s c.held-held.result) c.segment.ensures ∙ ap (λ (w : Span). one (segment_of (get_or steps i none).arc) w) c.held-held.ensures
    ∙ ap (λ n. hold_of n c.args.clearance (get_or steps i none)) c.horizon.ensures.horizon in
    let all : (holds ++ holds_of horizon c.args.clearance (take i steps)) ++ hold ∷ [] ≡ holds ++ holds_of horizon c.args.clearance (take (i + 1) steps) =
    append_assoc holds (holds_of horizon c.args.clearance (take i steps)) (hold ∷ [])
    ∙ ap (λ (l : List Hold). holds ++ l) (ap (λ (h : Hold). holds_of horizon c.args.clearance (take i steps) ++ h ∷ []) is ∙ sym (map-append (hold_of horizon c.args.clearance) (take i steps) (get_or steps i none ∷ [])) ∙ ap (holds_of horizon c.args.clearance) (sym (take_more steps i none c.loop-step-test.true))) in
    c.cut_segment.ensures (holds ++ holds_of horizon c.args.clearance (take i steps)) (holds ++ holds_of horizon c.args.clearance (take (i + 1) steps))
    (λ s t. ap (λ (l : List Hold). held_at l s t) (sym all)) (c.loop-step.invariant holds are)

pub returns : goal.returns
returns c holds others more are =
    let all = subst (λ (steps : List Step). AreKnown (length c.args.airport.now.segments) (free_among c.args.airport.now (holds ++ holds_of c.args.airport.now.horizon c.args.clearance steps)) c.loop-step.self) (take_all c.loop-step.step-index c.args.steps.now c.loop-step-test.false) (c.loop-step.invariant holds are) in
    same-known c.args.airport.now c.loop-step.self (holds ++ holds_of c.args.airport.now.horizon c.args.clearance c.args.steps.now) others more all
