-- The first fault of a route: there is none just where the route is a feasible walk. The same of shutting a segment.
use Rattle.std.proofs.Common.{◌≡◌, ℕ, zero, suc, ◌+◌, ◌-◌, ◌<◌, ◌≤◌, Bool, not, List, [], ◌∷◌, length, map, inl, inr, IsTrue, IsFalse, Option, Some, None, refl, sym, ap, subst, arith, ◌↔◌}
use Rattle.std.specs.Prelude.{All, flat_map, option_map}
use Rattle.std.specs.List.{list_any, find, range_with_len}
use Rattle.std.specs.Option.{option_map_or}
use Rattle.std.proofs.lemmas.Bool.{cases_Bool, cases_lt, and_from, lt-ltb, le-ltb, le-leb, lt-leb, both_ways}
use Rattle.std.proofs.lemmas.Option.{none-some}
use Rattle.std.proofs.lemmas.List.Elements.{All-head, All-tail, Contains-append_cases}
use Rattle.taxi_base.specs.declared.numbers.Segment.{Segment}
use Rattle.taxi_base.specs.declared.numbers.Arc.{Arc}
use Rattle.taxi_base.specs.declared.numbers.Class.{Class}
use Rattle.taxi_base.specs.declared.rows.Step.{Step}
use Rattle.taxi_base.specs.declared.rows.Span.{Span}
use Rattle.taxi_base.specs.declared.answers.Flight.{Flight}
use Rattle.taxi_base.specs.declared.answers.Party.{Party}
use Rattle.taxi_base.specs.declared.answers.StepCause.{StepCause}
use Rattle.taxi_base.specs.declared.answers.StepFault.{StepFault}
use Rattle.taxi_base.specs.Airport.{Airport, layout_of, segment_of, arc_exists, seconds}
use Rattle.taxi_base.specs.Windows.{Hold, AllFree, blocks}
use Rattle.taxi_base.specs.Walks.{free_among, hold_under, IsFreeAmong, IsFeasibleStep, IsFeasibleWalk, AreJoined}
use Rattle.taxi_base.specs.State.{State, name_precedes, holds_in, flight_holds, party_hold, IsFeasibleHold}
use Rattle.taxi_base.specs.Faults.{first_taken, first_name, party_at, flight_at, holder_at, taken_by, conditions_in, may_follow, cause_of, fault_after, route_fault, hold_cause, hold_fault}
use Rattle.taxi_base.proofs.ListLaws.{list_any-true, list_any-member, map-Contains, flat_map-Contains}
use Rattle.taxi_base.proofs.AirportLaws.{arc_exists-segment}
use Rattle.taxi_base.proofs.HoldLaws.{is_free-from}
use Rattle.taxi_base.proofs.WalkLaws.{IsSomeAnd-value}

-- ---- the first second that is taken

taken-none : (free : ℕ → Bool) (a n : ℕ) → find (λ t. not (free t)) (range_with_len a n) ≡ None → (t : ℕ) → a ≤ t → t < a + n → IsTrue (free t)
taken-none free a zero h t low high = absurd (omega arith)
taken-none free a (suc n) h t low high =
    elim (cases_Bool (free a)) [
      | inl unheld ↦ elim (cases_lt a t) [
        | inl later ↦ taken-none free (a + 1) n (rw unheld at h) t (omega arith) (omega arith)
        | inr here ↦ let e : t ≡ a = omega arith in rw e unheld
      ]
      | inr shut ↦ absurd (cc (rw shut at h))
    ]

none-taken : (free : ℕ → Bool) (a n : ℕ) → ((t : ℕ) → a ≤ t → t < a + n → IsTrue (free t)) → find (λ t. not (free t)) (range_with_len a n) ≡ None
none-taken free a zero all = refl
none-taken free a (suc n) all = rw (all a (omega arith) (omega arith)) (none-taken free (a + 1) n (λ t low high. all t (omega arith) (omega arith)))

taken-some : (free : ℕ → Bool) (a n t : ℕ) → find (λ t. not (free t)) (range_with_len a n) ≡ Some t → (a ≤ t) × (t < a + n) × IsFalse (free t)
taken-some free a zero t h = absurd (none-some t h)
taken-some free a (suc n) t h =
    elim (cases_Bool (free a)) [
      | inl unheld ↦ let r = taken-some free (a + 1) n t (rw unheld at h) in (omega arith, omega arith, r.2)
      | inr shut ↦ let e : a ≡ t = some_same (rw shut at h) in (omega arith, omega arith, subst (λ s. IsFalse (free s)) e shut)
    ]
  where
    some_same : Some a ≡ Some t → a ≡ t
    some_same e = cc

-- a second that is taken, with none before it, is the first
taken-at : (free : ℕ → Bool) (a n t : ℕ) → a ≤ t → t < a + n → IsFalse (free t) → ((u : ℕ) → a ≤ u → u < t → IsTrue (free u)) → find (λ t. not (free t)) (range_with_len a n) ≡ Some t
taken-at free a zero t low high shut before = absurd (omega arith)
taken-at free a (suc n) t low high shut before =
    elim (cases_lt a t) [
      | inl later ↦ rw (before a (omega arith) later) (taken-at free (a + 1) n t (omega arith) (omega arith) shut (λ u from until. before u (omega arith) until))
      | inr now ↦ let e : t ≡ a = omega arith in rw (rw e at shut) (ap Some (sym e))
    ]

pub first_taken-at : (free : ℕ → Bool) (span : Span) (t : ℕ) → span.from ≤ t → t < span.until → IsFalse (free t) → ((u : ℕ) → span.from ≤ u → u < t → IsTrue (free u))
    → first_taken free span ≡ Some t
first_taken-at free span t low high shut before = taken-at free span.from (span.until - span.from) t low (omega arith) shut before

-- there is none just where each second of the span is free
pub first_taken-None : (free : ℕ → Bool) (span : Span) → (first_taken free span ≡ None) ↔ AllFree free span
first_taken-None free span = (
  λ h t low high. taken-none free span.from (span.until - span.from) h t low (omega arith),
  λ all. none-taken free span.from (span.until - span.from) (λ t low high. all t low (omega arith)),
)

-- it is a second of the span
pub first_taken-Some : (free : ℕ → Bool) (span : Span) (t : ℕ) → first_taken free span ≡ Some t → (span.from ≤ t) × (t < span.until) × IsFalse (free t)
first_taken-Some free span t h = let r = taken-some free span.from (span.until - span.from) t h in (r.0, omega arith, r.2)

abbrev fault : ℕ → StepCause → StepFault
fault number cause = record { number = number; cause = cause }

-- ---- who takes it

find-some : {X : Type 0} (p : X → Bool) (xs : List X) → IsTrue (list_any p xs) → (x : X) × (find p xs ≡ Some x)
find-some p [] h = absurd (cc h)
find-some p (x ∷ xs) h =
    elim (cases_Bool (p x)) [
      | inl here ↦ (x, rw here refl)
      | inr not_here ↦ let r = find-some p xs (rw not_here at h) in (r.0, rw not_here r.1)
    ]

-- a holder of either kind suffices
first_name-party : (a b : Option (List ℕ)) (x : List ℕ) → a ≡ Some x → (name : List ℕ) × (first_name a b ≡ Some name)
first_name-party _ None x e = (x, rw e refl)
first_name-party _ (Some y) x e = elim (cases_Bool (name_precedes y x)) [ inl before ↦ (y, rw (e, before) refl) | inr not_before ↦ (x, rw (e, not_before) refl) ]

first_name-flight : (a b : Option (List ℕ)) (y : List ℕ) → b ≡ Some y → (name : List ℕ) × (first_name a b ≡ Some name)
first_name-flight None b y e = (y, e)
first_name-flight (Some x) b y e = first_name-party (Some x) b x refl

module _ (airport : Airport) (state : State) where
  -- a second before the horizon that is not free has a holder
  pub holder_at-some : (s : Segment) (t : ℕ) → s.0 < length airport.segments → t < airport.horizon → IsFalse (free_among airport (holds_in airport state) s t)
      → (name : List ℕ) × (holder_at airport state s t ≡ Some name)
  holder_at-some s t on_segment in_time shut =
      let hold = list_any-true (blocks airport.conflicts s t) (holds_in airport state) held_by_some in
      elim (Contains-append_cases (map party_hold state.parties) (flat_map (flight_holds airport) state.flights) hold.0 hold.1) [
        | inl by_party ↦
            let found = map-Contains party_hold state.parties hold.0 by_party in
            let first = find-some (λ (p : Party). blocks airport.conflicts s t (party_hold p)) state.parties
            (list_any-member (λ (p : Party). blocks airport.conflicts s t (party_hold p)) state.parties found.0 found.1 (subst (λ h. IsTrue (blocks airport.conflicts s t h)) (sym found.2) hold.2)) in
            first_name-party (party_at airport state s t) (flight_at airport state s t) first.0.name (rw first.1 refl)
        | inr by_flight ↦
            let found = flat_map-Contains (flight_holds airport) state.flights hold.0 by_flight in
            let first = find-some (λ (f : Flight). list_any (blocks airport.conflicts s t) (flight_holds airport f)) state.flights
            (list_any-member (λ (f : Flight). list_any (blocks airport.conflicts s t) (flight_holds airport f)) state.flights found.0 found.1
            (list_any-member (blocks airport.conflicts s t) (flight_holds airport found.0) hold.0 found.2 hold.2)) in
            first_name-flight (party_at airport state s t) (flight_at airport state s t) first.0.name (rw first.1 refl)
      ]
    where
      held_by_some : IsTrue (list_any (blocks airport.conflicts s t) (holds_in airport state))
      held_by_some = elim (cases_Bool (list_any (blocks airport.conflicts s t) (holds_in airport state))) [
        | inl some ↦ some
        | inr none ↦ absurd (both_ways _ shut (and_from _ _ (lt-ltb _ _ on_segment) (is_free-from airport.conflicts airport.horizon (holds_in airport state) s t in_time none)))
      ]

  -- none is taken just where the hold is free
  pub taken_by-None : (hold : Hold) → hold.segment.0 < length airport.segments → hold.span.until ≤ airport.horizon
      → (taken_by airport state hold ≡ None) ↔ IsFreeAmong airport (holds_in airport state) hold
  taken_by-None hold on_segment in_time = (
    λ h. forward (first_taken (free_among airport (holds_in airport state) hold.segment) hold.span) refl h,
    λ all. rw ((first_taken-None (free_among airport (holds_in airport state) hold.segment) hold.span).1 all) refl,
  ) where
    forward : (o : Option ℕ) → first_taken (free_among airport (holds_in airport state) hold.segment) hold.span ≡ o → taken_by airport state hold ≡ None
        → AllFree (free_among airport (holds_in airport state) hold.segment) hold.span
    forward None e h = (first_taken-None (free_among airport (holds_in airport state) hold.segment) hold.span).0 e
    forward (Some t) e h =
        let at = first_taken-Some (free_among airport (holds_in airport state) hold.segment) hold.span t e in
        let holder = holder_at-some hold.segment t on_segment (omega arith) at.2 in
        absurd (cc (rw (e, holder.1) at h))

  -- ---- why a segment may not be shut

  hold_cause-None : (hold : Hold) → hold.segment.0 < length airport.segments → (hold_cause airport state hold ≡ None) ↔ IsFeasibleHold airport state hold
  hold_cause-None hold on_segment = (forward, backward) where
    forward : hold_cause airport state hold ≡ None → IsFeasibleHold airport state hold
    forward h =
        elim (cases_lt hold.span.from hold.span.until) [
          | inr empty ↦ absurd (cc (rw (le-leb _ _ empty) at h))
          | inl some ↦
              let h₁ = rw (lt-leb _ _ some) at h in
              elim (cases_lt airport.horizon hold.span.until) [
                | inl past ↦ absurd (cc (rw (lt-ltb _ _ past) at h₁))
                | inr in_time ↦
                    record { on_segment = on_segment; some = some; in_time = in_time; free = (taken_by-None hold on_segment in_time).0 (rw (le-ltb _ _ in_time) at h₁) }
              ]
        ]

    backward : IsFeasibleHold airport state hold → hold_cause airport state hold ≡ None
    backward feasible =
        rw (lt-leb hold.span.until hold.span.from feasible.some, le-ltb airport.horizon hold.span.until feasible.in_time) ((taken_by-None hold on_segment feasible.in_time).1 feasible.free)

  -- A span has no fault just where a segment of the airport may be shut for it.
  pub hold_fault-None : (hold : Hold) → hold.segment.0 < length airport.segments → (hold_fault airport state hold ≡ None) ↔ IsFeasibleHold airport state hold
  unfolding hold_fault
  hold_fault-None hold on_segment = (
    λ h. (hold_cause-None hold on_segment).0 (no_cause (hold_cause airport state hold) h),
    λ feasible. rw ((hold_cause-None hold on_segment).1 feasible) refl,
  ) where
    no_cause : (o : Option StepCause) → option_map (λ cause. fault 1 cause) o ≡ None → o ≡ None
    no_cause None h = refl
    no_cause (Some cause) h = absurd (none-some (fault 1 cause) (sym h))

module _ (airport : Airport) (class : Class) (state : State) where
  -- ---- why a step fails

  -- No cause stands just where the class can make the step, and the turn is permitted.
  pub cause_of-None : (before : Option Arc) (step : Step) → IsTrue (arc_exists (layout_of airport) step.arc)
      → (cause_of airport class state before step ≡ None) ↔ (IsFeasibleStep (conditions_in airport class state) step × IsTrue (may_follow airport before step.arc))
  cause_of-None before step on_arc = (λ h. forward (seconds airport class (segment_of step.arc)) refl h, λ h. backward h.0 h.1) where
    on_segment : (segment_of step.arc).0 < length airport.segments
    on_segment = arc_exists-segment airport step.arc on_arc

    forward : (o : Option ℕ) → seconds airport class (segment_of step.arc) ≡ o → cause_of airport class state before step ≡ None
        → IsFeasibleStep (conditions_in airport class state) step × IsTrue (may_follow airport before step.arc)
    forward None e h = absurd (cc (rw e at h))
    forward (Some n) e h =
        let h₁ = rw e at h in
        elim (cases_Bool (may_follow airport before step.arc)) [
          | inr barred ↦ absurd (cc (rw barred at h₁))
          | inl allowed ↦
              let h₂ = rw allowed at h₁ in
              elim (cases_lt step.leave (step.enter + n)) [
                | inl fast ↦ absurd (cc (rw (lt-ltb _ _ fast) at h₂))
                | inr lasts ↦
                    let h₃ = rw (le-ltb _ _ lasts) at h₂ in
                    elim (cases_lt airport.horizon step.leave) [
                      | inl past ↦ absurd (cc (rw (lt-ltb _ _ past) at h₃))
                      | inr in_time ↦
                          let none = rw (le-ltb _ _ in_time) at h₃ in (
                            record { on_arc = on_arc; lasts = rw e lasts; in_time = in_time; free = (taken_by-None airport state (hold_under (conditions_in airport class state) step) on_segment (omega arith)).0 none },
                            allowed,
                          )
                    ]
              ]
        ]

    backward : IsFeasibleStep (conditions_in airport class state) step → IsTrue (may_follow airport before step.arc) → cause_of airport class state before step ≡ None
    backward made allowed =
        let known = IsSomeAnd-value (seconds airport class (segment_of step.arc)) (λ n. step.enter + n ≤ step.leave) made.lasts in
        let none = (taken_by-None airport state (hold_under (conditions_in airport class state) step) on_segment (omega arith)).1 made.free in
        rw (known.1, allowed, le-ltb step.leave (step.enter + known.0) known.2, le-ltb airport.horizon step.leave made.in_time) none

  -- ---- the first step that fails

  abbrev HasArcs : List Step → Type 0
  HasArcs steps = All (λ s. IsTrue (arc_exists (layout_of airport) s.arc)) steps

  no_fault-parts : (number : ℕ) (o : Option StepCause) (rest : Option StepFault) → option_map_or (λ cause. Some (fault number cause)) o rest ≡ None
      → (o ≡ None) × (rest ≡ None)
  no_fault-parts number None rest h = (refl, h)
  no_fault-parts number (Some cause) rest h = absurd (none-some (fault number cause) (sym h))

  no_fault-walk : (number : ℕ) (before : Option Arc) (s : Step) (steps : List Step) → HasArcs (s ∷ steps) → AreJoined (s ∷ steps)
      → fault_after airport class state number before (s ∷ steps) ≡ None
      → IsFeasibleWalk (conditions_in airport class state) (s ∷ steps) × IsTrue (may_follow airport before s.arc)
  no_fault-walk number before s [] arcs joined h =
      (cause_of-None before s (All-head (λ s. IsTrue (arc_exists (layout_of airport) s.arc)) s [] arcs)).0
      (no_fault-parts number (cause_of airport class state before s) None h).0
  no_fault-walk number before s (t ∷ steps) arcs joined h =
      let parts = no_fault-parts number (cause_of airport class state before s) (fault_after airport class state (number + 1) (Some s.arc) (t ∷ steps)) h in
      let here = (cause_of-None before s (All-head (λ s. IsTrue (arc_exists (layout_of airport) s.arc)) s (t ∷ steps) arcs)).0 parts.0 in
      let rest = no_fault-walk (number + 1) (Some s.arc) t steps (All-tail (λ s. IsTrue (arc_exists (layout_of airport) s.arc)) s (t ∷ steps) arcs) joined.1 parts.1 in
      ((here.0, record { at_once = joined.0; permitted = rest.1 }, rest.0), here.1)

  walk-no_fault : (number : ℕ) (before : Option Arc) (s : Step) (steps : List Step) → HasArcs (s ∷ steps)
      → IsFeasibleWalk (conditions_in airport class state) (s ∷ steps) → IsTrue (may_follow airport before s.arc)
      → fault_after airport class state number before (s ∷ steps) ≡ None
  walk-no_fault number before s [] arcs walk allowed =
      rw ((cause_of-None before s (All-head (λ s. IsTrue (arc_exists (layout_of airport) s.arc)) s [] arcs)).1 (walk, allowed)) refl
  walk-no_fault number before s (t ∷ steps) arcs walk allowed =
      rw ((cause_of-None before s (All-head (λ s. IsTrue (arc_exists (layout_of airport) s.arc)) s (t ∷ steps) arcs)).1 (walk.0, allowed))
      (walk-no_fault (number + 1) (Some s.arc) t steps (All-tail (λ s. IsTrue (arc_exists (layout_of airport) s.arc)) s (t ∷ steps) arcs) walk.2 walk.1.permitted)

  -- A route whose steps are joined and go by arcs of the airport has no fault just where it is a feasible walk.
  pub route_fault-None : (steps : List Step) → 0 < length steps → HasArcs steps → AreJoined steps
      → (route_fault airport class state steps ≡ None) ↔ IsFeasibleWalk (conditions_in airport class state) steps
  unfolding route_fault
  route_fault-None [] some arcs joined = absurd (omega arith)
  route_fault-None (s ∷ steps) some arcs joined =
      (λ h. (no_fault-walk 1 None s steps arcs joined h).0, λ walk. walk-no_fault 1 None s steps arcs walk refl)
