-- The cause of a step whose segment is taken, from the first second and holder that were found among the steps of all holders.
use Rattle.std.proofs.Common.{◌≡◌, ℕ, ◌<◌, ◌≤◌, Bool, List, [], ◌∷◌, length, map, IsTrue, IsFalse, Option, Some, None, refl, sym, ap, subst, ◌∙◌, inl, inr, arith}
use Rattle.std.specs.Prelude.{Contains, option_map, option_and_then}
use Rattle.std.specs.List.{list_any}
use Rattle.std.proofs.lemmas.Bool.{and_parts, and_from, lt-ltb, false_from_ne_true, both_ways}
use Rattle.std.proofs.lemmas.List.Elements.{All-contains, Contains-append_cases, Contains-append_left, Contains-append_right}
use Rattle.taxi_base.specs.declared.numbers.Segment.{Segment}
use Rattle.taxi_base.specs.declared.rows.Step.{Step}
use Rattle.taxi_base.specs.declared.answers.Flight.{Flight}
use Rattle.taxi_base.specs.declared.answers.Party.{Party}
use Rattle.taxi_base.specs.declared.answers.StepCause.{StepCause}
use Rattle.taxi_base.specs.declared.answers.StepFault.{StepFault}
use Rattle.taxi_base.specs.declared.answers.StepCause.TheVariants.{Taken}
use Rattle.taxi_base.specs.Airport.{Airport, clearance_of}
use Rattle.taxi_base.specs.Windows.{Hold, blocks, hold_of, is_free}
use Rattle.taxi_base.specs.Walks.{free_among}
use Rattle.taxi_base.specs.State.{State, IsFeasibleState, flight_holds, party_hold, party_step, holds_in}
use Rattle.taxi_base.specs.Faults.{first_taken, holder_at, IsHolderAt, taken_by, hold_cause, hold_fault}
use Rattle.taxi_base.proofs.HoldLaws.{is_free-true, is_free-from}
use Rattle.taxi_base.proofs.HolderLaws.{holder_at-told}
use Rattle.taxi_base.proofs.FaultLaws.{first_taken-None, first_taken-at}
use Rattle.taxi_base.proofs.ListLaws.{Contains-first, Contains-cons_cases, Contains-map, map-Contains, Contains-flat_map, flat_map-Contains, list_any-member, list_any-true}
use Rattle.taxi_base.proofs.StateLaws.{party_step-holds}
use Rattle.taxi_base.proofs.WindowLaws.{AreWindows-member}
use Rattle.window_store.specs.Store.{Store, spans_at}
use Rattle.window_store.specs.Stands.{StandsFor}
use Rattle.window_store.specs.Kept.{LiesInOne}
use Rattle.commitments.specs.declared.segment_holds.HeldStep.{HeldStep}
use Rattle.commitments.specs.Held.{hold_by, party_holder, flight_holder, party_steps, flight_steps, steps_of_each, steps_in, AreAsMany}
use Rattle.commitments.specs.Taken.{takes, IsNamed, IsFirstNamed, is_taken, IsFirstTaken}
use Rattle.commitments.proofs.Arranged.{as_many-there}
use Rattle.commitments.proofs.HoldRoom.{any-as_many}
use Rattle.commitments.proofs.Routes.{parties-over}
use Rattle.commitments.proofs.StepsIn.{all-hold}

-- a second that a holder is named for is taken
pub named-taken : (airport : Airport) (s : Segment) (steps : List HeldStep) (t : ℕ) (name : List ℕ) → IsNamed (takes airport s t) steps name → IsTrue (is_taken airport s steps t)
named-taken airport s steps t name h =
    list_any-member (blocks airport.conflicts s t) (map (hold_by airport) steps) (hold_by airport h.0) (Contains-map (hold_by airport) steps h.0 h.1) h.3

-- and one that is taken has a holder
pub taken-named : (airport : Airport) (s : Segment) (steps : List HeldStep) (t : ℕ) → IsTrue (is_taken airport s steps t) → IsFirstNamed (takes airport s t) steps None → ⊥
taken-named airport s steps t taken none =
    let hold = list_any-true (blocks airport.conflicts s t) (map (hold_by airport) steps) taken in
    let held = map-Contains (hold_by airport) steps hold.0 hold.1 in
    none held.0.holder.name (held.0, held.1, refl, subst (λ (h : Hold). IsTrue (blocks airport.conflicts s t h)) (sym held.2) hold.2)

module _ (airport : Airport) (state : State) (hold : Hold) (on_segment : hold.segment.0 < length airport.segments) (in_time : hold.span.until ≤ airport.horizon) where
  abbrev free : ℕ → Bool
  free = free_among airport (holds_in airport state) hold.segment

  -- whom a second that is taken is taken by
  abbrev causes : ℕ → Option StepCause
  causes t = option_map (λ name. Taken t name) (holder_at airport state hold.segment t)

  module _ (feasible : IsFeasibleState airport state) (steps : List HeldStep) (same : AreAsMany steps (steps_in state)) where
    holds-same : (t : ℕ) → is_taken airport hold.segment steps t ≡ list_any (blocks airport.conflicts hold.segment t) (holds_in airport state)
    holds-same t =
        any-as_many airport steps (steps_in state) same (blocks airport.conflicts hold.segment t)
        ∙ ap (list_any (blocks airport.conflicts hold.segment t)) (all-hold airport state (parties-over airport state feasible))

    unheld : (t : ℕ) → t < hold.span.until → IsFalse (is_taken airport hold.segment steps t) → IsTrue (free t)
    unheld t high none =
        and_from _ _ (lt-ltb _ _ on_segment) (is_free-from airport.conflicts airport.horizon (holds_in airport state) hold.segment t (omega (arith, high, in_time)) (sym (holds-same t) ∙ none))

    held : (t : ℕ) → IsTrue (is_taken airport hold.segment steps t) → IsFalse (free t)
    held t taken =
        false_from_ne_true (free t) (λ e.
        let unblocked = (is_free-true airport.conflicts airport.horizon (holds_in airport state) hold.segment t (and_parts _ _ e).1).1 in
        both_ways _ unblocked (sym (holds-same t) ∙ taken))

    -- ---- who holds by the steps holds by the state

    module _ (t : ℕ) where
      abbrev blocked : Hold → Bool
      blocked = blocks airport.conflicts hold.segment t

      by-party : (p : Party) → Contains state.parties p → hold_of airport.horizon 0 (party_step p) ≡ party_hold p
      by-party p there = party_step-holds airport.horizon p (All-contains (λ (p : Party). p.until ≤ airport.horizon) state.parties p (parties-over airport state feasible) there)

      in-state : (name : List ℕ) → IsNamed (takes airport hold.segment t) steps name → IsHolderAt airport state hold.segment t name
      in-state name h =
          let each = flat_map-Contains (λ (steps : List HeldStep). steps) (steps_of_each state) h.0 (as_many-there steps (steps_in state) same h.0 h.1) in
          elim (Contains-append_cases (map party_steps state.parties) (map flight_steps state.flights) each.0 each.1) [
            | inl of_party ↦
                let p = map-Contains party_steps state.parties each.0 of_party in
                let own : HeldStep = record { step = party_step p.0; holder = party_holder p.0 } in
                let is : own ≡ h.0 = only own h.0 (subst (λ (xs : List HeldStep). Contains xs h.0) (sym p.2) each.2) in
                inl (
                  p.0,
                  p.1,
                  ap (λ (held : HeldStep). held.holder.name) is ∙ h.2,
                  subst (λ (hold : Hold). IsTrue (blocked hold)) (by-party p.0 p.1) (subst (λ (held : HeldStep). IsTrue (blocked (hold_by airport held))) (sym is) h.3),
                )
            | inr of_flight ↦
                let f = map-Contains flight_steps state.flights each.0 of_flight in
                let step = map-Contains (held_by f.0) f.0.steps h.0 (subst (λ (xs : List HeldStep). Contains xs h.0) (sym f.2) each.2) in
                inr (
                  f.0,
                  f.1,
                  ap (λ (held : HeldStep). held.holder.name) step.2 ∙ h.2,
                  list_any-member blocked (flight_holds airport f.0) (hold_by airport (held_by f.0 step.0))
                      (Contains-map (hold_of airport.horizon (clearance_of airport f.0.class)) f.0.steps step.0 step.1)
                      (subst (λ (held : HeldStep). IsTrue (blocked (hold_by airport held))) (sym step.2) h.3),
                )
          ]
        where
          held_by : Flight → Step → HeldStep
          held_by f step = record { step = step; holder = flight_holder f }

          only : (x y : HeldStep) → Contains (x ∷ []) y → x ≡ y
          only x y h = elim (Contains-cons_cases x y [] h) [ inl e ↦ e | inr none ↦ absurd (omega (arith, none.1)) ]

      among-steps : (x : HeldStep) → Contains (steps_in state) x → Contains steps x
      among-steps x there = as_many-there (steps_in state) steps (λ test. sym (same test)) x there

      from-state : (name : List ℕ) → IsHolderAt airport state hold.segment t name → IsNamed (takes airport hold.segment t) steps name
      from-state name (inl p) =
          let own : HeldStep = record { step = party_step p.0; holder = party_holder p.0 } in
          let there : Contains (steps_in state) own =
          Contains-flat_map (λ (steps : List HeldStep). steps) (steps_of_each state) (party_steps p.0) own
          (Contains-append_left (map party_steps state.parties) (map flight_steps state.flights) (party_steps p.0) (Contains-map party_steps state.parties p.0 p.1))
          (Contains-first own []) in
          (own, among-steps own there, p.2, subst (λ (hold : Hold). IsTrue (blocked hold)) (sym (by-party p.0 p.1)) p.3)
      from-state name (inr f) =
          let one = list_any-true blocked (flight_holds airport f.0) f.3 in
          let step = map-Contains (hold_of airport.horizon (clearance_of airport f.0.class)) f.0.steps one.0 one.1 in
          let own : HeldStep = record { step = step.0; holder = flight_holder f.0 } in
          let there : Contains (steps_in state) own =
          Contains-flat_map (λ (steps : List HeldStep). steps) (steps_of_each state) (flight_steps f.0) own
          (Contains-append_right (map party_steps state.parties) (map flight_steps state.flights) (flight_steps f.0) (Contains-map flight_steps state.flights f.0 f.1))
          (Contains-map (λ (step : Step). record { step = step; holder = flight_holder f.0 }) f.0.steps step.0 step.1) in
          (own, among-steps own there, f.2, subst (λ (hold : Hold). IsTrue (blocked hold)) (sym step.2) one.2)

      whom : (name : List ℕ) → IsFirstNamed (takes airport hold.segment t) steps (Some name) → holder_at airport state hold.segment t ≡ Some name
      whom name first =
          (holder_at-told airport state hold.segment t (feasible.ordered, feasible.parties_ordered) name).1
          (record { one = in-state name first.0; first = λ other h. first.1 other (from-state other h) })

    pub taken_by-found : (r : Option (ℕ × List ℕ)) → IsFirstTaken airport hold.segment steps hold.span r → taken_by airport state hold ≡ option_map (λ found. Taken found.0 found.1) r
    taken_by-found None none =
        let unfound : first_taken free hold.span ≡ None = (first_taken-None free hold.span).1 (λ t low high. unheld t high (none t low high)) in
        ap (option_and_then causes) unfound
    taken_by-found (Some (t, name)) taken =
        let first : first_taken free hold.span ≡ Some t =
        first_taken-at free hold.span t taken.0 taken.1 (held t (named-taken airport hold.segment steps t name taken.2.0))
        (λ u low high. unheld u (omega (arith, taken.1)) (taken.3 u low high)) in
        ap (option_and_then causes) first ∙ ap (option_map (λ name. Taken t name)) (whom t name taken.2)

  -- nothing is taken where the span lies in one of its segment's free windows
  pub taken_by-in_window : (store : Store) → StandsFor airport.conflicts airport.horizon (holds_in airport state) store → hold.segment.0 < length store.lists
      → LiesInOne (spans_at store hold.segment) hold.span → taken_by airport state hold ≡ None
  taken_by-in_window store stands on_list inside =
      let window = AreWindows-member (is_free airport.conflicts airport.horizon (holds_in airport state) hold.segment) (spans_at store hold.segment) inside.0 (stands hold.segment on_list).windows inside.1 in
      let unfound : first_taken free hold.span ≡ None = (first_taken-None free hold.span).1
      (λ t low high. and_from _ _ (lt-ltb _ _ on_segment) (window.all t (omega (arith, inside.2.0)) (omega (arith, inside.2.1)))) in
      ap (option_and_then causes) unfound

-- the cause, told as of a first step
pub hold_fault-is : (airport : Airport) (state : State) (hold : Hold) (o : Option StepCause) → o ≡ hold_cause airport state hold
    → option_map (λ (cause : StepCause). record { number = 1; cause = cause }) o ≡ hold_fault airport state hold
unfolding hold_fault
hold_fault-is airport state hold o is = ap (option_map {T = StepCause} {U = StepFault} (λ (cause : StepCause). record { number = 1; cause = cause })) is
