-- What is held changes on the segments of a flight, or of a work party, alone; the spans of the lists leave the same seconds free, so the same windows are known by them.
use Rattle.std.proofs.Common.{◌≡◌, ◌≢◌, ◌↔◌, ◌∙◌, ℕ, ◌<◌, Bool, true, false, ◌&&◌, ◌==◌, eqb, cond, not, ltb, List, [], ◌∷◌, ◌++◌, length, map, IsTrue, Some, None, refl, sym, ap, subst, arith}
use Rattle.std.specs.Prelude.{Contains}
use Rattle.std.specs.List.{list_any}
use Rattle.std.proofs.lemmas.Bool.{eqb-true, false_from_ne_true}
use Rattle.taxi_base.proofs.InOrder.{same_answer}
use Rattle.taxi_base.proofs.ListLaws.{Contains-first, Contains-rest}
use Rattle.taxi_base.specs.declared.numbers.Class.{Class}
use Rattle.taxi_base.specs.declared.numbers.Segment.{Segment}
use Rattle.taxi_base.specs.declared.rows.Span.{Span}
use Rattle.taxi_base.specs.declared.rows.Step.{Step}
use Rattle.taxi_base.specs.declared.answers.Flight.{Flight}
use Rattle.taxi_base.specs.declared.answers.Party.{Party}
use Rattle.taxi_base.specs.Airport.{Airport, segment_of, clearance_of}
use Rattle.taxi_base.specs.Windows.{Hold, hold_of, holds_of, span_has, blocks}
use Rattle.taxi_base.specs.Walks.{free_among, conditions_among}
use Rattle.taxi_base.specs.State.{State, flight_named, party_named, parties_without, with_flight, with_party, without, flight_holds, party_hold, holds_in}
use Rattle.held_spans.specs.Holds.{held_at}
use Rattle.check_rows.specs.declared.known.KnownWindows.{KnownWindows}
use Rattle.check_rows.specs.Known.{AreKnown, DifferOn, DifferAt, HaveMore}
use Rattle.check_rows.proofs.KnownLaws.{blocked}
use Rattle.held_spans.specs.declared.spans.HeldSpans.{HeldSpans}
use Rattle.held_spans.specs.Spans.{weight_on, AreSpansOf, holds_in_lists}
use Rattle.checked_state.specs.Order.{AreInOrder, ArePartiesInOrder}
use Rattle.held_spans.proofs.SumLaws.{any-sum}
use Rattle.held_spans.proofs.SpanLaws.{covers-held, AreSpansOf-own, weight-cons, weight-append}
use Rattle.checked_state.proofs.FlightLaws.{held-with, held-without, held-with_party, held-without_party}
use Rattle.due_refusals.specs.KnownIn.{AreKnownIn}

-- ---- held by weight

abbrev second : ℕ → Span → ℕ
second t span = cond (span_has span t) 1 0

held-weight : (holds : List Hold) (s : Segment) (t : ℕ) → IsTrue (held_at holds s t) ↔ (0 < weight_on (second t) s holds)
held-weight holds s t = any-sum (λ (h : Hold). cond (h.segment.0 == s.0) (second t h.span) 0) (λ (h : Hold). h.segment.0 == s.0 && span_has h.span t) (λ h. two (h.segment.0 == s.0) (span_has h.span t)) holds where
  one : (b : Bool) → IsTrue b ↔ (0 < cond b 1 0)
  one true = (λ _. omega arith, λ _. refl)
  one false = (λ e. absurd (cc e), λ some. absurd (omega (arith, some)))

  two : (a b : Bool) → IsTrue (a && b) ↔ (0 < cond a (cond b 1 0) 0)
  two true b = one b
  two false b = (λ e. absurd (cc e), λ some. absurd (omega (arith, some)))

held-same : (holds others : List Hold) (s : Segment) (t : ℕ) → weight_on (second t) s holds ≡ weight_on (second t) s others → held_at holds s t ≡ held_at others s t
held-same holds others s t same =
    let a = held-weight holds s t in
    let b = held-weight others s t in
    same_answer _ _ (λ e. b.1 (subst (λ n. 0 < n) same (a.0 e))) (λ e. a.1 (subst (λ n. 0 < n) (sym same) (b.0 e)))

-- steps weigh nothing on a segment that is none of theirs
away-weight : (weight : Span → ℕ) (s : Segment) (horizon clearance : ℕ) (steps : List Step) → (Contains (map (λ (step : Step). segment_of step.arc) steps) s → ⊥) → weight_on weight s (holds_of horizon clearance steps) ≡ 0
away-weight weight s horizon clearance [] away = refl
away-weight weight s horizon clearance (step ∷ steps) away =
    let rest = away-weight weight s horizon clearance steps (λ on. away (Contains-rest (segment_of step.arc) s (map (λ (step : Step). segment_of step.arc) steps) on)) in
    let other : eqb (segment_of step.arc).0 s.0 ≡ false =
    false_from_ne_true _ (λ e. away (subst (Contains (segment_of step.arc ∷ map (λ (step : Step). segment_of step.arc) steps)) (same-segment (eqb-true _ _ e))
    (Contains-first (segment_of step.arc) (map (λ (step : Step). segment_of step.arc) steps)))) in
    let none = alone other in
    omega (arith, none, rest, weight-cons weight s (hold_of horizon clearance step) (holds_of horizon clearance steps))
  where
    same-segment : {a b : Segment} → a.0 ≡ b.0 → a ≡ b
    same-segment e = λ i. record { 0 = e i }

    alone : eqb (segment_of step.arc).0 s.0 ≡ false → weight_on weight s (hold_of horizon clearance step ∷ []) ≡ 0
    alone other = rw other (omega arith)

module _ (airport : Airport) (x : Flight) (state : State) where
  its-none : (s : Segment) (t : ℕ) → (Contains (map (λ (step : Step). segment_of step.arc) x.steps) s → ⊥) → weight_on (second t) s (flight_holds airport x) ≡ 0
  its-none s t away = away-weight (second t) s airport.horizon (clearance_of airport x.class) x.steps away

  pub differ-without : (name : List ℕ) → AreInOrder state.flights → party_named name state.parties ≡ None → flight_named name state.flights ≡ Some x
      → DifferOn x.steps (holds_in airport state) (holds_in airport (without name state))
  differ-without name ordered alone found s t away =
      held-same (holds_in airport state) (holds_in airport (without name state)) s t (omega (arith, its-none s t away, held-without airport s (second t) name state x ordered alone found))

  -- with it the others hold what it holds, and without it all hold that beside the others
  pub more-with : HaveMore (flight_holds airport x) (holds_in airport state) (holds_in airport (with_flight x state))
  more-with s t =
      held-same (holds_in airport (with_flight x state)) (holds_in airport state ++ flight_holds airport x) s t
      (omega (arith, weight-append (second t) s (holds_in airport state) (flight_holds airport x), held-with airport s (second t) x state))

  pub more-without : (name : List ℕ) → AreInOrder state.flights → party_named name state.parties ≡ None → flight_named name state.flights ≡ Some x
      → HaveMore (flight_holds airport x) (holds_in airport (without name state)) (holds_in airport state)
  more-without name ordered alone found s t =
      held-same (holds_in airport state) (holds_in airport (without name state) ++ flight_holds airport x) s t
      (omega (arith, weight-append (second t) s (holds_in airport (without name state)) (flight_holds airport x), held-without airport s (second t) name state x ordered alone found))

-- a party shuts its own segment alone
module _ (airport : Airport) (x : Party) (state : State) where
  shut-none : (s : Segment) (t : ℕ) → s ≢ x.segment → weight_on (second t) s (party_hold x ∷ []) ≡ 0
  shut-none s t away = alone (false_from_ne_true _ (λ e. away (let number = sym (eqb-true x.segment.0 s.0 e) in λ i. record { 0 = number i }))) where
    alone : eqb x.segment.0 s.0 ≡ false → weight_on (second t) s (party_hold x ∷ []) ≡ 0
    alone other = rw other (omega arith)

  pub more-with_party : HaveMore (party_hold x ∷ []) (holds_in airport state) (holds_in airport (with_party x state))
  more-with_party s t =
      held-same (holds_in airport (with_party x state)) (holds_in airport state ++ party_hold x ∷ []) s t
      (omega (arith, weight-append (second t) s (holds_in airport state) (party_hold x ∷ []), held-with_party airport s (second t) x state))

  pub differ-without_party : (name : List ℕ) → ArePartiesInOrder state.parties → party_named name state.parties ≡ Some x
      → DifferAt x.segment (holds_in airport state) (holds_in airport (record state { parties = parties_without name state.parties }))
  differ-without_party name ordered found s t away =
      held-same (holds_in airport state) (holds_in airport (record state { parties = parties_without name state.parties })) s t
      (omega (arith, shut-none s t away, held-without_party airport s (second t) name state x ordered found))

-- ---- what the lists leave free

pub same-free : (airport : Airport) (held : HeldSpans) (holds : List Hold) → AreSpansOf holds held → free_among airport (holds_in_lists held) ≡ free_among airport holds
same-free airport held holds are = λ i s t. free-at s t i where
  same_held : (s : Segment) (t : ℕ) → held_at (holds_in_lists held) s t ≡ held_at holds s t
  same_held s t = sym (covers-held held (holds_in_lists held) (AreSpansOf-own held) s t) ∙ covers-held held holds are s t

  differ : DifferOn [] (holds_in_lists held) holds
  differ s t away = same_held s t

  back : DifferOn [] holds (holds_in_lists held)
  back s t away = sym (same_held s t)

  free-at : (s : Segment) (t : ℕ) → free_among airport (holds_in_lists held) s t ≡ free_among airport holds s t
  free-at s t =
      ap (λ (b : Bool). ltb s.0 (length airport.segments) && (ltb t airport.horizon && not b))
      (same_answer (list_any (blocks airport.conflicts s t) (holds_in_lists held)) (list_any (blocks airport.conflicts s t) holds)
      (blocked airport.conflicts [] s (λ k d on. absurd (omega arith)) (holds_in_lists held) holds t differ)
      (blocked airport.conflicts [] s (λ k d on. absurd (omega arith)) holds (holds_in_lists held) t back))

pub same-conditions : (airport : Airport) (class : Class) (held : HeldSpans) (holds : List Hold) → AreSpansOf holds held → conditions_among airport class (holds_in_lists held) ≡ conditions_among airport class holds
same-conditions airport class held holds are = λ i. record { airport = airport; class = class; clearance = clearance_of airport class; free = same-free airport held holds are i }

-- ---- the windows by the lists' own holds, and by those of the state

module _ (airport : Airport) (state : State) (spans : HeldSpans) (has : AreSpansOf (holds_in airport state) spans) (known : KnownWindows) where
  pub known-own : AreKnownIn airport state known → AreKnown (length airport.segments) (free_among airport (holds_in_lists spans)) known
  known-own are = subst (λ (free : Segment → ℕ → Bool). AreKnown (length airport.segments) free known) (sym (same-free airport spans (holds_in airport state) has)) are

  pub own-known : AreKnown (length airport.segments) (free_among airport (holds_in_lists spans)) known → AreKnownIn airport state known
  own-known are = subst (λ (free : Segment → ℕ → Bool). AreKnown (length airport.segments) free known) (same-free airport spans (holds_in airport state) has) are
