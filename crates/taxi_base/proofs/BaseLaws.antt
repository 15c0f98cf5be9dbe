-- The base state of a late repair is feasible: what is held in it was held before, but for the prolonged hold, and that is clear.
use Rattle.std.proofs.Common.{◌≡◌, ℕ, not, ◌||◌, ◌+◌, ◌<◌, ◌≤◌, List, [], ◌∷◌, ◌++◌, length, map, get_or, IsTrue, IsFalse, IsSomeAnd, Option, Some, None, refl, sym, ◌∙◌, ap, subst, arith, inl, inr, ◌⊎◌}
use Rattle.std.specs.Prelude.{Contains, All, AllPairs, bytes_eq, flat_map, unwrap_or}
use Rattle.std.proofs.lemmas.Bool.{cases_Bool, cases_lt, or_cases, or_left, or_right, false_from_ne_true, both_ways, not-true}
use Rattle.std.proofs.lemmas.List.Elements.{All-filter, All-weaker, Contains-get_or, All-contains, All-head, All-contains_itself, Contains-append_cases, Contains-append_left, Contains-append_right}
use Rattle.std.proofs.lemmas.List.Kept.{AllPairs-filter}
use Rattle.std.proofs.lemmas.List.{length-append}
use Rattle.std.proofs.lemmas.List.Sums.{length-filter, count_by-le-length}
use Rattle.std.specs.Cmp.Lexicographic.{bytes_decides}
use Rattle.taxi_base.specs.declared.rows.Step.{Step}
use Rattle.taxi_base.specs.declared.answers.Flight.{Flight}
use Rattle.taxi_base.specs.declared.answers.Party.{Party}
use Rattle.taxi_base.specs.Airport.{Airport, conflict, clearance_of, segment_of, seconds}
use Rattle.taxi_base.specs.Windows.{Hold, span_has, clash, hold_of, holds_of}
use Rattle.taxi_base.specs.Walks.{free_among, hold_under, IsFreeAmong, IsFeasibleStep, IsFeasibleWalk}
use Rattle.taxi_base.specs.State.{State, name_precedes, without, flight_holds, party_hold, holds_in, conditions_of, step_begun, IsFeasibleHold, IsFeasibleState}
use Rattle.taxi_base.specs.Late.{Delay, IsDelay, prolonged_hold, soonest_leave, is_late, steps_kept, party_meets, flight_meets, on_steps, flight_at_once, base_state}
use Rattle.taxi_base.proofs.ListLaws.{Contains-first, Contains-cons_cases, Contains-map, map-Contains, flat_map-Contains, filter-Contains, AllPairs-append, AllPairs-first, AllPairs-rest, list_any-true, list_any-false_member}
use Rattle.taxi_base.proofs.AirportLaws.{arc_exists-segment}
use Rattle.taxi_base.proofs.HoldLaws.{IsFree-clash, IsFree-more, IsFree-from_clash, clash-turned, clash-true, clash-from, conflict-turned}
use Rattle.taxi_base.proofs.WindowLaws.{span_has-from, span_has-true}
use Rattle.taxi_base.proofs.WalkLaws.{IsFeasibleWalk-steps, IsFeasibleWalk-kept}
use Rattle.taxi_base.proofs.NameLaws.{differ-turned}
use Rattle.taxi_base.proofs.KeptSteps.{IsAbout, about-kept, walk-about, IsFeasibleWalk-front, IsFeasibleWalk-leave, seam, seam-next}
use Rattle.taxi_base.proofs.OtherHolds.{named-there, named-once, other-of, of-other, IsWithin, within-itself, within-clash, within-free}

-- ---- lists of which each element gives at most one, of the same name

module _ (g : Flight → List Flight) (one : (x : Flight) → length (g x) ≤ 1) (same : (x y : Flight) → Contains (g x) y → y.name ≡ x.name) where
  length-each : (xs : List Flight) → length (flat_map g xs) ≤ length xs
  length-each [] = omega arith
  length-each (x ∷ xs) = omega (arith, length-append (g x) (flat_map g xs), one x, length-each xs)

  all-each : (P : Flight → Type 0) (xs : List Flight) → ((x y : Flight) → Contains xs x → Contains (g x) y → P y) → All P (flat_map g xs)
  all-each P xs each =
      All-weaker (Contains (flat_map g xs)) P (λ y there. let found = flat_map-Contains g xs y there in each found.0 y found.1 found.2)
      (flat_map g xs) (All-contains_itself (flat_map g xs))

  ordered-each : (xs : List Flight) → AllPairs (λ a b. IsTrue (name_precedes a.name b.name)) xs → AllPairs (λ a b. IsTrue (name_precedes a.name b.name)) (flat_map g xs)
  ordered-each [] ordered = ordered
  ordered-each (x ∷ xs) ordered =
      AllPairs-append (λ a b. IsTrue (name_precedes a.name b.name)) (g x) (flat_map g xs)
      (λ i j d low high. absurd (omega (arith, low, high, one x)))
      (ordered-each xs (AllPairs-rest (λ a b. IsTrue (name_precedes a.name b.name)) x xs ordered))
      (All-weaker (Contains (g x)) (λ y. All (λ z. IsTrue (name_precedes y.name z.name)) (flat_map g xs))
      (λ y there. all-each (λ z. IsTrue (name_precedes y.name z.name)) xs (λ w z w_there z_there.
      subst (λ n. IsTrue (name_precedes n z.name)) (sym (same x y there))
      (subst (λ n. IsTrue (name_precedes x.name n)) (sym (same w z z_there))
      (All-contains (λ b. IsTrue (name_precedes x.name b.name)) xs w (AllPairs-first (λ a b. IsTrue (name_precedes a.name b.name)) x xs ordered) w_there))))
      (g x) (All-contains_itself (g x)))

-- ---- who is in force at once

-- of a flight on some steps: it is the flight, and there are some
on_steps-cases : (x y : Flight) (steps : List Step) → Contains (on_steps x steps) y → (y ≡ record x { steps = steps }) × (0 < length steps)
on_steps-cases x y [] h = absurd (omega (arith, h.1))
on_steps-cases x y (s ∷ steps) h =
    elim (Contains-cons_cases (record x { steps = s ∷ steps }) y [] h) [
      | inl e ↦ (sym e, omega arith)
      | inr none ↦ absurd (omega (arith, none.1))
    ]

pub on_steps-there : (x : Flight) (steps : List Step) → 0 < length steps → Contains (on_steps x steps) (record x { steps = steps })
on_steps-there x [] some = absurd (omega arith)
on_steps-there x (s ∷ steps) some = Contains-first (record x { steps = s ∷ steps }) []

-- A flight of the base state is one of before, as it was, or on the steps that it keeps.
pub record IsAtOnce (airport : Airport) (delay : Delay) (x y : Flight) : Type 0 where
  pub same : y ≡ record x { steps = y.steps }
  pub either : (IsFalse (is_late delay x) × IsFalse (flight_meets airport delay x) × (y ≡ x))
      ⊎ (IsTrue (is_late delay x || flight_meets airport delay x) × (y ≡ record x { steps = steps_kept airport delay x }) × (0 < length (steps_kept airport delay x)))

pub at_once-cases : (airport : Airport) (delay : Delay) (x y : Flight) → Contains (flight_at_once airport delay x) y → IsAtOnce airport delay x y
at_once-cases airport delay x y h =
    elim (cases_Bool (is_late delay x || flight_meets airport delay x)) [
      | inl moves ↦
          let cases = on_steps-cases x y (steps_kept airport delay x) (rw moves at h) in
          record { same = cases.0 ∙ ap (λ (z : Flight). record x { steps = z.steps }) (sym cases.0); either = inr (moves, cases.0, cases.1) }
      | inr stays ↦
          elim (Contains-cons_cases x y [] (rw stays at h)) [
            | inl e ↦ record {
              same = sym e ∙ ap (λ (z : Flight). record x { steps = z.steps }) e;
              either = inl (false_from_ne_true _ (λ t. both_ways _ stays (or_left _ _ t)), false_from_ne_true _ (λ t. both_ways _ stays (or_right _ _ t)), sym e);
            }
            | inr none ↦ absurd (omega (arith, none.1))
          ]
    ]

module _ (airport : Airport) (state : State) (delay : Delay) (feasible : IsFeasibleState airport state) (is : IsDelay airport state delay) where
  abbrev f0 : Flight
  f0 = delay.flight

  abbrev P : Hold
  P = prolonged_hold airport delay

  abbrev base : State
  base = base_state airport state delay

  pub late-there : Contains state.flights f0
  late-there = (named-there (λ (f : Flight). f.name) f0.name state.flights f0 is.in_force).0

  -- of the state's flights that one alone has its name
  pub late-once : (x : Flight) → Contains state.flights x → IsTrue (is_late delay x) → x ≡ f0
  late-once x there e = named-once (λ (f : Flight). f.name) state.flights x f0 feasible.ordered there late-there ((bytes_decides x.name f0.name).0 e)

  walk-of : (x : Flight) → Contains state.flights x → IsFeasibleWalk (conditions_of airport state x) x.steps
  walk-of x there = All-contains (λ f. IsFeasibleWalk (conditions_of airport state f) f.steps) state.flights x feasible.walks there

  pub late-about : (front back : List Step) × IsAbout delay.time f0.steps front delay.begun back
  late-about = walk-about (conditions_of airport state f0) delay.time f0.steps delay.begun (walk-of f0 late-there) is.under_way

  late-made : IsFeasibleStep (conditions_of airport state f0) delay.begun
  late-made = seam (conditions_of airport state f0) late-about.0 delay.begun late-about.1
      (subst (IsFeasibleWalk (conditions_of airport state f0)) late-about.2.joined (walk-of f0 late-there))

  late-entered : delay.begun.enter ≤ delay.time
  late-entered = All-contains (λ (s : Step). s.enter ≤ delay.time) (late-about.0 ++ delay.begun ∷ []) delay.begun late-about.2.entered
      (Contains-append_right late-about.0 (delay.begun ∷ []) delay.begun (Contains-first delay.begun []))

  -- what the step held as planned
  abbrev planned : Hold
  planned = hold_under (conditions_of airport state f0) delay.begun

  planned-there : Contains (flight_holds airport f0) planned
  planned-there = Contains-map (hold_under (conditions_of airport state f0)) f0.steps delay.begun
      (subst (λ ss. Contains ss delay.begun) (sym late-about.2.joined)
      (Contains-append_right late-about.0 (delay.begun ∷ late-about.1) delay.begun (Contains-first delay.begun late-about.1)))

  -- What is free among the others of another name, and meets the prolonged hold, was not entered by the time.
  pub free-later : (name : List ℕ) (h : Hold) → IsFalse (bytes_eq f0.name name) → IsFreeAmong airport (holds_in airport (without name state)) h → IsTrue (clash airport.conflicts P h)
      → delay.time < h.span.from
  free-later name h differ free meets =
      elim (cases_lt delay.time h.span.from) [
        | inl later ↦ later
        | inr by ↦ absurd (both_ways _
            (IsFree-clash airport (holds_in airport (without name state)) h planned free (of-other airport state name planned (inr (f0, late-there, differ, planned-there))))
            (elim (cases_lt delay.time parts.1.0) [
              | inl after ↦ clash-from airport.conflicts h planned delay.time (conflict-turned airport.conflicts P.segment h.segment parts.0)
                  (span_has-from h.span delay.time by (omega (arith, in_h.1)))
                  (span_has-from planned.span delay.time late-entered (omega (arith, late-made.in_time, is.on_it)))
              | inr before ↦ clash-from airport.conflicts h planned parts.1.0 (conflict-turned airport.conflicts P.segment h.segment parts.0) parts.1.2
                  (span_has-from planned.span parts.1.0 in_p.0 (omega (arith, late-made.in_time, is.on_it)))
            ]))
      ]
    where
      parts : IsTrue (conflict airport.conflicts P.segment h.segment) × ((t : ℕ) × IsTrue (span_has P.span t) × IsTrue (span_has h.span t))
      parts = clash-true airport.conflicts P h meets

      in_h : (h.span.from ≤ parts.1.0) × (parts.1.0 < h.span.until)
      in_h = span_has-true h.span parts.1.0 parts.1.2

      in_p : (P.span.from ≤ parts.1.0) × (parts.1.0 < P.span.until)
      in_p = span_has-true P.span parts.1.0 parts.1.1

  differ-late : (x : Flight) → IsFalse (is_late delay x) → IsFalse (bytes_eq f0.name x.name)
  differ-late x other = differ-turned x.name f0.name other

  step-free : (x : Flight) → Contains state.flights x → (s : Step) → Contains x.steps s
      → IsFreeAmong airport (holds_in airport (without x.name state)) (hold_under (conditions_of airport state x) s)
  step-free x there s in_steps =
      (All-contains (IsFeasibleStep (conditions_of airport state x)) x.steps s (IsFeasibleWalk-steps (conditions_of airport state x) x.steps (walk-of x there)) in_steps).free

  -- No step of another flight that meets the prolonged hold was entered by the time.
  pub steps-later : (x : Flight) → Contains state.flights x → IsFalse (is_late delay x) → (s : Step) → Contains x.steps s
      → IsTrue (clash airport.conflicts P (hold_of airport.horizon (clearance_of airport x.class) s)) → delay.time < s.enter
  steps-later x there other s in_steps meets =
      free-later x.name (hold_under (conditions_of airport state x) s) (differ-late x other) (step-free x there s in_steps) meets

  -- Nor did a party that meets it begin by then.
  pub party-later : (p : Party) → Contains state.parties p → IsTrue (party_meets airport delay p) → delay.time < p.from
  party-later p there meets =
      free-later p.name (party_hold p)
      (All-contains (λ (f : Flight). IsFalse (bytes_eq f.name p.name)) state.flights f0 (All-contains (λ q. All (λ (f : Flight). IsFalse (bytes_eq f.name q.name)) state.flights) state.parties p feasible.differ there) late-there)
      (All-contains (λ q. IsFeasibleHold airport (without q.name state) (party_hold q)) state.parties p feasible.shut there).free meets

  -- ---- a flight that is cut

  -- a flight that is in the way, about the step that it has begun by the time; it has not left that step by then
  pub record IsCut (x : Flight) : Type 0 where
    pub front : List Step
    pub begun : Step
    pub back : List Step
    pub about : IsAbout delay.time x.steps front begun back
    pub on_it : delay.time < begun.leave
    pub kept : steps_kept airport delay x ≡ front ++ record begun { leave = soonest_leave airport x.class delay.time begun } ∷ []

  meeting-step : (x : Flight) → IsTrue (flight_meets airport delay x) → (s : Step) × Contains x.steps s × IsTrue (clash airport.conflicts P (hold_of airport.horizon (clearance_of airport x.class) s))
  meeting-step x meets =
      let held = list_any-true (clash airport.conflicts P) (flight_holds airport x) meets in
      let step = map-Contains (hold_of airport.horizon (clearance_of airport x.class)) x.steps held.0 held.1 in
      (step.0, step.1, subst (λ h. IsTrue (clash airport.conflicts P h)) (sym step.2) held.2)

  pub cut-flight : (x : Flight) → Contains state.flights x → IsFalse (is_late delay x) → IsTrue (flight_meets airport delay x) → (begun : Step) → step_begun delay.time x.steps ≡ Some begun
      → IsCut x
  cut-flight x there other meets begun e =
      let parts = walk-about (conditions_of airport state x) delay.time x.steps begun (walk-of x there) e in
      record {
        front = parts.0;
        begun = begun;
        back = parts.1;
        about = parts.2;
        on_it = go parts.0 parts.1 parts.2;
        kept = rw other (about-kept delay.time x.steps parts.0 begun parts.1 parts.2 (soonest_leave airport x.class delay.time));
      }
    where
      met : (s : Step) × Contains x.steps s × IsTrue (clash airport.conflicts P (hold_of airport.horizon (clearance_of airport x.class) s))
      met = meeting-step x meets

      later : delay.time < met.0.enter
      later = steps-later x there other met.0 met.1 met.2

      behind : (front back : List Step) → IsAbout delay.time x.steps front begun back → Contains back met.0
      behind front back about =
          elim (Contains-append_cases front (begun ∷ back) met.0 (subst (λ ss. Contains ss met.0) about.joined met.1)) [
            | inl early ↦ absurd (omega (arith, later, All-contains (λ (s : Step). s.enter ≤ delay.time) (front ++ begun ∷ []) met.0 about.entered (Contains-append_left front (begun ∷ []) met.0 early)))
            | inr rest ↦ elim (Contains-cons_cases begun met.0 back rest) [
              | inl e ↦ absurd (omega (
                arith,
                later,
                subst (λ (s : Step). s.enter ≤ delay.time) e
                    (All-contains (λ (s : Step). s.enter ≤ delay.time) (front ++ begun ∷ []) begun about.entered (Contains-append_right front (begun ∷ []) begun (Contains-first begun []))),
              ))
              | inr there ↦ there
            ]
          ]

      go : (front back : List Step) → IsAbout delay.time x.steps front begun back → delay.time < begun.leave
      go front [] about = absurd (omega (arith, (behind front [] about).1))
      go front (t ∷ back) about =
          let e : begun.leave ≡ t.enter = seam-next (conditions_of airport state x) front begun t back (subst (IsFeasibleWalk (conditions_of airport state x)) about.joined (walk-of x there)) in
          omega (arith, e, All-head (λ s. delay.time < s.enter) t back about.later)

  module _ (x : Flight) (there : Contains state.flights x) (cut : IsCut x) where
    cut-made : IsFeasibleStep (conditions_of airport state x) cut.begun
    cut-made = seam (conditions_of airport state x) cut.front cut.begun cut.back
        (subst (IsFeasibleWalk (conditions_of airport state x)) cut.about.joined (walk-of x there))

    lasts : (o : Option ℕ) (begun : Step) → IsSomeAnd o (λ n. begun.enter + n ≤ begun.leave) → begun.enter + unwrap_or o 0 ≤ begun.leave
    lasts None begun h = absurd h
    lasts (Some n) begun h = h

    abbrev leave : ℕ
    leave = soonest_leave airport x.class delay.time cut.begun

    cut-sooner : leave ≤ cut.begun.leave
    cut-sooner = omega (arith, cut.on_it, lasts (seconds airport x.class (segment_of cut.begun.arc)) cut.begun cut-made.lasts)

    begun-there : Contains x.steps cut.begun
    begun-there = subst (λ ss. Contains ss cut.begun) (sym cut.about.joined) (Contains-append_right cut.front (cut.begun ∷ cut.back) cut.begun (Contains-first cut.begun cut.back))

    front-there : (s : Step) → Contains cut.front s → Contains x.steps s
    front-there s h = subst (λ ss. Contains ss s) (sym cut.about.joined) (Contains-append_left cut.front (cut.begun ∷ cut.back) s h)

    cut-within : IsWithin (hold_under (conditions_of airport state x) (record cut.begun { leave = leave })) (hold_under (conditions_of airport state x) cut.begun)
    cut-within = record { segment = refl; span = (omega arith, omega (arith, cut-sooner)) }

    -- what it keeps is a walk
    pub cut-walk : IsFeasibleWalk (conditions_of airport state x) (steps_kept airport delay x)
    cut-walk =
        subst (IsFeasibleWalk (conditions_of airport state x)) (sym cut.kept)
        (IsFeasibleWalk-leave (conditions_of airport state x) cut.front cut.begun leave
        (IsFeasibleWalk-front (conditions_of airport state x) cut.front cut.begun cut.back (subst (IsFeasibleWalk (conditions_of airport state x)) cut.about.joined (walk-of x there)))
        cut-made (omega arith) (omega (arith, cut-sooner, cut-made.in_time))
        (within-free airport (holds_in airport (without x.name state)) (hold_under (conditions_of airport state x) (record cut.begun { leave = leave }))
        (hold_under (conditions_of airport state x) cut.begun) cut-within cut-made.free))

    -- each step that it keeps holds no more than one of before, and none of them meets the prolonged hold
    pub cut-held : IsFalse (is_late delay x) → (h : Hold) → Contains (flight_holds airport (record x { steps = steps_kept airport delay x })) h
        → (outer : Hold) × Contains (flight_holds airport x) outer × IsWithin h outer × IsFalse (clash airport.conflicts P h)
    cut-held other h held =
        let step = map-Contains (hold_under (conditions_of airport state x)) (cut.front ++ record cut.begun { leave = leave } ∷ []) h
        (subst (λ ss. Contains (map (hold_under (conditions_of airport state x)) ss) h) cut.kept held) in
        elim (Contains-append_cases cut.front (record cut.begun { leave = leave } ∷ []) step.0 step.1) [
          | inl early ↦ (
            hold_under (conditions_of airport state x) step.0,
            Contains-map (hold_under (conditions_of airport state x)) x.steps step.0 (front-there step.0 early),
            subst (λ h. IsWithin h (hold_under (conditions_of airport state x) step.0)) step.2 (within-itself (hold_under (conditions_of airport state x) step.0)),
            subst (λ h. IsFalse (clash airport.conflicts P h)) step.2 (false_from_ne_true _ (λ meets.
                let later : delay.time < step.0.enter = steps-later x there other step.0 (front-there step.0 early) meets in
                omega (arith, later, All-contains (λ (s : Step). s.enter ≤ delay.time) (cut.front ++ cut.begun ∷ []) step.0 cut.about.entered (Contains-append_left cut.front (cut.begun ∷ []) step.0 early)))),
          )
          | inr rest ↦ elim (Contains-cons_cases (record cut.begun { leave = leave }) step.0 [] rest) [
            | inl e ↦
                let same : hold_under (conditions_of airport state x) (record cut.begun { leave = leave }) ≡ h = ap (hold_under (conditions_of airport state x)) e ∙ step.2 in (
                  hold_under (conditions_of airport state x) cut.begun,
                  Contains-map (hold_under (conditions_of airport state x)) x.steps cut.begun begun-there,
                  subst (λ h. IsWithin h (hold_under (conditions_of airport state x) cut.begun)) same cut-within,
                  subst (λ h. IsFalse (clash airport.conflicts P h)) same (false_from_ne_true _ (λ meets.
                      let later : delay.time < cut.begun.enter = steps-later x there other cut.begun begun-there
                      (within-clash airport.conflicts P (hold_under (conditions_of airport state x) (record cut.begun { leave = leave })) (hold_under (conditions_of airport state x) cut.begun) cut-within meets) in
                      omega (
                        arith,
                        later,
                        All-contains (λ (s : Step). s.enter ≤ delay.time) (cut.front ++ cut.begun ∷ []) cut.begun cut.about.entered
                            (Contains-append_right cut.front (cut.begun ∷ []) cut.begun (Contains-first cut.begun [])),
                      ))),
                )
            | inr none ↦ absurd (omega (arith, none.1))
          ]
        ]

  -- ---- what is held in the base state

  kept-some : (x : Flight) → IsFalse (is_late delay x) → (o : Option Step) → step_begun delay.time x.steps ≡ o → 0 < length (steps_kept airport delay x)
      → (begun : Step) × (step_begun delay.time x.steps ≡ Some begun)
  kept-some x other None e some = absurd (omega (arith, length-none))
    where
      length-none : length (steps_kept airport delay x) ≡ 0
      length-none = rw (other, e) refl
  kept-some x other (Some begun) e some = (begun, e)

  cut-of : (x y : Flight) → Contains state.flights x → IsFalse (is_late delay x)
      → IsTrue (is_late delay x || flight_meets airport delay x) × (y ≡ record x { steps = steps_kept airport delay x }) × (0 < length (steps_kept airport delay x)) → IsCut x
  cut-of x y there other moves =
      let meets : IsTrue (flight_meets airport delay x) = elim (or_cases _ _ moves.0) [
        | inl late ↦ absurd (both_ways _ other late)
        | inr meets ↦ meets
      ] in
      let begun = kept-some x other (step_begun delay.time x.steps) refl moves.2 in
      cut-flight x there other meets begun.0 begun.1

  -- a flight of the state that is another, and in force at once on some steps, holds no more than before, and none of it meets the prolonged hold
  pub other-held : (x y : Flight) → Contains state.flights x → IsFalse (is_late delay x) → IsAtOnce airport delay x y → (h : Hold) → Contains (flight_holds airport y) h
      → (outer : Hold) × Contains (flight_holds airport x) outer × IsWithin h outer × IsFalse (clash airport.conflicts P h)
  other-held x y there other at_once h held = elim at_once.either [
    | inl stays ↦
        let in_x : Contains (flight_holds airport x) h = subst (λ (z : Flight). Contains (flight_holds airport z) h) stays.2 held in
        (h, in_x, within-itself h, list_any-false_member (clash airport.conflicts P) (flight_holds airport x) h in_x stays.1)
    | inr moves ↦
        cut-held x there (cut-of x y there other moves) other h (subst (λ (z : Flight). Contains (flight_holds airport z) h) moves.1 held)
  ]

  pub late-kept : steps_kept airport delay f0 ≡ late-about.0 ++ record delay.begun { leave = delay.until } ∷ []
  late-kept = rw ((bytes_decides f0.name f0.name).1 refl) (about-kept delay.time f0.steps late-about.0 delay.begun late-about.1 late-about.2 (λ _. delay.until))

  late-held : (y : Flight) → IsAtOnce airport delay f0 y → (h : Hold) → Contains (flight_holds airport y) h → Contains (flight_holds airport f0) h ⊎ (h ≡ P)
  late-held y at_once h held = elim at_once.either [
    | inl stays ↦ absurd (both_ways _ stays.0 ((bytes_decides f0.name f0.name).1 refl))
    | inr moves ↦
        let step = map-Contains (hold_under (conditions_of airport state f0)) (late-about.0 ++ record delay.begun { leave = delay.until } ∷ []) h
        (subst (λ ss. Contains (map (hold_under (conditions_of airport state f0)) ss) h) late-kept (subst (λ (z : Flight). Contains (flight_holds airport z) h) moves.1 held)) in
        elim (Contains-append_cases late-about.0 (record delay.begun { leave = delay.until } ∷ []) step.0 step.1) [
          | inl early ↦ inl (subst (Contains (flight_holds airport f0)) step.2 (Contains-map (hold_under (conditions_of airport state f0)) f0.steps step.0
              (subst (λ ss. Contains ss step.0) (sym late-about.2.joined) (Contains-append_left late-about.0 (delay.begun ∷ late-about.1) step.0 early))))
          | inr rest ↦ elim (Contains-cons_cases (record delay.begun { leave = delay.until }) step.0 [] rest) [
            | inl e ↦ inr (sym step.2 ∙ sym (ap (hold_under (conditions_of airport state f0)) e))
            | inr none ↦ absurd (omega (arith, none.1))
          ]
        ]
  ]

  flight-name : (x y : Flight) → Contains (flight_at_once airport delay x) y → y.name ≡ x.name
  flight-name x y h = ap (λ (z : Flight). z.name) (at_once-cases airport delay x y h).same

  flight-one : (x : Flight) → length (flight_at_once airport delay x) ≤ 1
  flight-one x = elim (cases_Bool (is_late delay x || flight_meets airport delay x)) [
    | inl moves ↦ rw moves (short (steps_kept airport delay x))
    | inr stays ↦ rw stays (omega arith)
  ] where
    short : (steps : List Step) → length (on_steps x steps) ≤ 1
    short [] = omega arith
    short (s ∷ steps) = omega arith

  -- a flight of the base state, with what it was
  pub from-before : (y : Flight) → Contains base.flights y → (x : Flight) × Contains state.flights x × IsAtOnce airport delay x y
  from-before y there =
      let found = flat_map-Contains (flight_at_once airport delay) state.flights y there in (found.0, found.1, at_once-cases airport delay found.0 y found.2)

  -- what the others of a name hold in the base state: no more than they held, or the prolonged hold
  others-at_once : (name : List ℕ) (h : Hold) → Contains (holds_in airport (without name base)) h
      → ((outer : Hold) × Contains (holds_in airport (without name state)) outer × IsWithin h outer) ⊎ ((h ≡ P) × IsFalse (bytes_eq f0.name name))
  others-at_once name h held = elim (other-of airport base name h held) [
    | inl party ↦
        let kept = filter-Contains (λ (p : Party). not (party_meets airport delay p)) state.parties party.0 party.1 in
        inl (h, of-other airport state name h (inl (party.0, kept.0, party.2, party.3)), within-itself h)
    | inr flight ↦
        let before = from-before flight.0 flight.1 in
        let differ : IsFalse (bytes_eq before.0.name name) = subst (λ n. IsFalse (bytes_eq n name)) (ap (λ (z : Flight). z.name) before.2.same) flight.2 in
        elim (cases_Bool (is_late delay before.0)) [
          | inl late ↦
              let e : before.0 ≡ f0 = late-once before.0 before.1 late in
              elim (late-held flight.0 (subst (λ x. IsAtOnce airport delay x flight.0) e before.2) h flight.3) [
                | inl old ↦ inl (h, of-other airport state name h (inr (f0, late-there, subst (λ (z : Flight). IsFalse (bytes_eq z.name name)) e differ, old)), within-itself h)
                | inr prolonged ↦ inr (prolonged, subst (λ (z : Flight). IsFalse (bytes_eq z.name name)) e differ)
              ]
          | inr other ↦
              let outer = other-held before.0 flight.0 before.1 other before.2 h flight.3 in
              inl (outer.0, of-other airport state name outer.0 (inr (before.0, before.1, differ, outer.1)), outer.2)
        ]
  ]

  -- none of the others of the flight that is late meets the prolonged hold any more
  clear-at_once : (h : Hold) → Contains (holds_in airport (without f0.name base)) h → IsFalse (clash airport.conflicts P h)
  clear-at_once h held = elim (other-of airport base f0.name h held) [
    | inl party ↦
        let kept = filter-Contains (λ (p : Party). not (party_meets airport delay p)) state.parties party.0 party.1 in
        subst (λ h. IsFalse (clash airport.conflicts P h)) party.3 (not-true _ kept.1)
    | inr flight ↦
        let before = from-before flight.0 flight.1 in
        let other : IsFalse (is_late delay before.0) = subst (λ n. IsFalse (bytes_eq n f0.name)) (ap (λ (z : Flight). z.name) before.2.same) flight.2 in
        (other-held before.0 flight.0 before.1 other before.2 h flight.3).3
  ]

  -- What is free among the others stays free among them, where it does not meet the prolonged hold, or is held by the flight that is late.
  free-at_once : (name : List ℕ) (h : Hold) → IsFreeAmong airport (holds_in airport (without name state)) h
      → (IsFalse (bytes_eq f0.name name) → IsFalse (clash airport.conflicts P h)) → IsFreeAmong airport (holds_in airport (without name base)) h
  free-at_once name h free clear =
      IsFree-more airport (holds_in airport (without name state)) (holds_in airport (without name base)) h free (λ other held.
      elim (others-at_once name other held) [
        | inl old ↦ inr (false_from_ne_true _ (λ meets.
            both_ways _ (IsFree-clash airport (holds_in airport (without name state)) h old.0 free old.1) (within-clash airport.conflicts h other old.0 old.2 meets)))
        | inr prolonged ↦ inr (false_from_ne_true _ (λ meets.
            both_ways _ (clear prolonged.1) (clash-turned airport.conflicts h P (subst (λ o. IsTrue (clash airport.conflicts h o)) prolonged.0 meets))))
      ])

  -- ---- it is feasible

  -- the walk of another flight
  other-walk : (x y : Flight) → Contains state.flights x → IsFalse (is_late delay x) → IsAtOnce airport delay x y → IsFeasibleWalk (conditions_of airport state x) y.steps
      → IsFeasibleWalk (conditions_of airport base x) y.steps
  other-walk x y there other at_once walk =
      IsFeasibleWalk-kept (conditions_of airport state x) (free_among airport (holds_in airport (without x.name base))) y.steps walk
      (λ k d low.
      let s : Step = get_or y.steps k d in
      let in_y : Contains (flight_holds airport y) (hold_under (conditions_of airport state x) s) =
      subst (λ class. Contains (holds_of airport.horizon (clearance_of airport class) y.steps) (hold_under (conditions_of airport state x) s)) (sym (ap (λ (z : Flight). z.class) at_once.same))
      (Contains-map (hold_under (conditions_of airport state x)) y.steps s (Contains-get_or y.steps k d low)) in
      free-at_once x.name (hold_under (conditions_of airport state x) s) (IsFeasibleWalk-steps (conditions_of airport state x) y.steps walk k d low).free
      (λ _. (other-held x y there other at_once (hold_under (conditions_of airport state x) s) in_y).3))

  other-steps : (x y : Flight) → Contains state.flights x → IsFalse (is_late delay x) → IsAtOnce airport delay x y → IsFeasibleWalk (conditions_of airport state x) y.steps
  other-steps x y there other at_once = elim at_once.either [
    | inl stays ↦ subst (λ (z : Flight). IsFeasibleWalk (conditions_of airport state x) z.steps) (sym stays.2) (walk-of x there)
    | inr moves ↦ subst (λ (z : Flight). IsFeasibleWalk (conditions_of airport state x) z.steps) (sym moves.1) (cut-walk x there (cut-of x y there other moves))
  ]

  -- the walk of the flight that is late
  pub late-walk : IsFeasibleWalk (conditions_of airport base f0) (steps_kept airport delay f0)
  late-walk =
      subst (IsFeasibleWalk (conditions_of airport base f0)) (sym late-kept)
      (IsFeasibleWalk-leave (conditions_of airport base f0) late-about.0 delay.begun delay.until
      (IsFeasibleWalk-kept (conditions_of airport state f0) (free_among airport (holds_in airport (without f0.name base))) (late-about.0 ++ delay.begun ∷ []) planned-walk
      (λ k d low. stays (hold_under (conditions_of airport state f0) (get_or (late-about.0 ++ delay.begun ∷ []) k d))
      (IsFeasibleWalk-steps (conditions_of airport state f0) (late-about.0 ++ delay.begun ∷ []) planned-walk k d low).free))
      (record {
        on_arc = late-made.on_arc;
        lasts = late-made.lasts;
        in_time = late-made.in_time;
        free = stays (hold_under (conditions_of airport state f0) delay.begun) late-made.free;
      })
      (omega (arith, is.late, lasts-by (seconds airport f0.class (segment_of delay.begun.arc)) delay.begun late-made.lasts)) is.in_time
      (IsFree-from_clash airport (holds_in airport (without f0.name base)) P (arc_exists-segment airport delay.begun.arc late-made.on_arc) (omega arith)
      (false_from_ne_true _ (λ some.
      let found = list_any-true (clash airport.conflicts P) (holds_in airport (without f0.name base)) some in
      both_ways _ (clear-at_once found.0 found.1) found.2))))
    where
      planned-walk : IsFeasibleWalk (conditions_of airport state f0) (late-about.0 ++ delay.begun ∷ [])
      planned-walk = IsFeasibleWalk-front (conditions_of airport state f0) late-about.0 delay.begun late-about.1
          (subst (IsFeasibleWalk (conditions_of airport state f0)) late-about.2.joined (walk-of f0 late-there))

      stays : (h : Hold) → IsFreeAmong airport (holds_in airport (without f0.name state)) h → IsFreeAmong airport (holds_in airport (without f0.name base)) h
      stays h free = free-at_once f0.name h free (λ differ. absurd (both_ways _ differ ((bytes_decides f0.name f0.name).1 refl)))

      lasts-by : (o : Option ℕ) (begun : Step) → IsSomeAnd o (λ n. begun.enter + n ≤ begun.leave) → begun.enter + unwrap_or o 0 ≤ begun.leave
      lasts-by None begun h = absurd h
      lasts-by (Some n) begun h = h

  walk-at_once : (x y : Flight) → Contains state.flights x → IsAtOnce airport delay x y → IsFeasibleWalk (conditions_of airport base y) y.steps
  walk-at_once x y there at_once = elim (cases_Bool (is_late delay x)) [
    | inl late ↦
        let e : x ≡ f0 = late-once x there late in
        elim at_once.either [
          | inl stays ↦ absurd (both_ways _ stays.0 late)
          | inr moves ↦ subst (λ (z : Flight). IsFeasibleWalk (conditions_of airport base z) z.steps) (sym (moves.1 ∙ ap (λ (z : Flight). record z { steps = steps_kept airport delay z }) e)) late-walk
        ]
    | inr other ↦
        subst (λ (z : Flight). IsFeasibleWalk (conditions_of airport base z) z.steps) (sym at_once.same)
        (other-walk x y there other at_once (other-steps x y there other at_once))
  ]

  -- The base state is feasible.
  pub base-feasible : IsFeasibleState airport base
  base-feasible = record {
    few = omega (
      arith,
      length-each (flight_at_once airport delay) flight-one flight-name state.flights,
      length-filter (λ (p : Party). not (party_meets airport delay p)) state.parties,
      count_by-le-length (λ (p : Party). not (party_meets airport delay p)) state.parties,
      feasible.few,
    );
    ordered = ordered-each (flight_at_once airport delay) flight-one flight-name state.flights feasible.ordered;
    parties_ordered = AllPairs-filter (λ (p q : Party). IsTrue (name_precedes p.name q.name)) (λ (p : Party). not (party_meets airport delay p)) state.parties feasible.parties_ordered;
    differ = All-filter (λ (p : Party). not (party_meets airport delay p)) (λ p. All (λ f. IsFalse (bytes_eq f.name p.name)) base.flights) state.parties
        (All-weaker (λ p. All (λ f. IsFalse (bytes_eq f.name p.name)) state.flights) (λ p. All (λ f. IsFalse (bytes_eq f.name p.name)) base.flights)
        (λ p others. all-each (flight_at_once airport delay) flight-one flight-name (λ f. IsFalse (bytes_eq f.name p.name)) state.flights (λ x y x_there y_there.
        subst (λ n. IsFalse (bytes_eq n p.name)) (sym (flight-name x y y_there)) (All-contains (λ (f : Flight). IsFalse (bytes_eq f.name p.name)) state.flights x others x_there)))
        state.parties feasible.differ);
    walks = all-each (flight_at_once airport delay) flight-one flight-name (λ f. IsFeasibleWalk (conditions_of airport base f) f.steps) state.flights
        (λ x y x_there y_there. walk-at_once x y x_there (at_once-cases airport delay x y y_there));
    shut = All-weaker (Contains base.parties) (λ p. IsFeasibleHold airport (without p.name base) (party_hold p)) (λ p there.
        let kept = filter-Contains (λ (p : Party). not (party_meets airport delay p)) state.parties p there in
        let hold = All-contains (λ q. IsFeasibleHold airport (without q.name state) (party_hold q)) state.parties p feasible.shut kept.0 in
        record {
          on_segment = hold.on_segment;
          some = hold.some;
          in_time = hold.in_time;
          free = free-at_once p.name (party_hold p) hold.free (λ _. not-true _ kept.1);
        }) base.parties (All-contains_itself base.parties);
  }
