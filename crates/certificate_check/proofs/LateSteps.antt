-- The steps that a flight keeps, and what holds of them.
use Rattle.std.proofs.Common.{◌≡◌, ℕ, ◌≤◌, List, [], ◌∷◌, ◌++◌, Option, Some, None, IsTrue, inl, inr, refl, sym, subst}
use Rattle.std.specs.Prelude.{All, Contains}
use Rattle.std.proofs.lemmas.Bool.{cases_Bool}
use Rattle.std.proofs.lemmas.List.Elements.{All-nil, All-push, All-contains, All-weaker, All-contains_itself, Contains-append_left, Contains-append_right}
use Rattle.taxi_base.specs.declared.rows.Step.{Step}
use Rattle.taxi_base.specs.declared.answers.Flight.{Flight}
use Rattle.taxi_base.specs.Airport.{Airport, layout_of, arc_exists}
use Rattle.taxi_base.specs.Walks.{Conditions}
use Rattle.taxi_base.specs.State.{State, flight_named, step_begun, steps_done, conditions_of, IsSound}
use Rattle.taxi_base.specs.Late.{Delay, is_late, steps_kept}
use Rattle.taxi_base.proofs.AgainLaws.{begun-parts}
use Rattle.taxi_base.proofs.ListLaws.{Contains-first}
use Rattle.taxi_base.proofs.WalkLaws.{IsFeasibleWalk-steps}
use Rattle.replies.specs.Repairs.{delay_of}
use Rattle.check_walks.proofs.StepLaws.{walk-some}
use Rattle.certificate_check.specs.Late.{IsOnSteps, leave_kept}
use Rattle.certificate_check.proofs.DeskLaws.{flight-walk, flight-arcs}

-- of steps the one that was begun, and those that are done
module _ (time : ℕ) (steps : List Step) (begun : Step) (is : step_begun time steps ≡ Some begun) where
  pub begun-there : Contains steps begun
  begun-there =
      let parts = begun-parts time steps begun is in
      subst (λ ss. Contains ss begun) (sym parts.1) (Contains-append_right (steps_done time steps) (begun ∷ parts.0) begun (Contains-first begun parts.0))

  pub done-all : (P : Step → Type 0) → All P steps → All P (steps_done time steps)
  done-all P all =
      let parts = begun-parts time steps begun is in
      All-weaker (Contains (steps_done time steps)) P
      (λ s there. All-contains P steps s all (subst (λ ss. Contains ss s) (sym parts.1) (Contains-append_left (steps_done time steps) (begun ∷ parts.0) s there)))
      (steps_done time steps) (All-contains_itself (steps_done time steps))

module _ (airport : Airport) (delay : Delay) (x : Flight) where
  pub kept-none : step_begun delay.time x.steps ≡ None → steps_kept airport delay x ≡ []
  kept-none none = elim (cases_Bool (is_late delay x)) [
    | inl late ↦ rw (late, none) refl
    | inr other ↦ rw (other, none) refl
  ]

  pub kept-some : (begun : Step) → step_begun delay.time x.steps ≡ Some begun
      → steps_kept airport delay x ≡ steps_done delay.time x.steps ++ record begun { leave = leave_kept airport delay x begun } ∷ []
  kept-some begun is = elim (cases_Bool (is_late delay x)) [
    | inl late ↦ rw (late, is) refl
    | inr other ↦ rw (other, is) refl
  ]

  -- what holds of each step, whenever it leaves, holds of those that are kept
  pub kept-all : (P : Step → Type 0) → ((s : Step) (leave : ℕ) → P s → P (record s { leave = leave })) → All P x.steps → All P (steps_kept airport delay x)
  kept-all P change all = go (step_begun delay.time x.steps) refl where
    go : (o : Option Step) → step_begun delay.time x.steps ≡ o → All P (steps_kept airport delay x)
    go None none = subst (All P) (sym (kept-none none)) (All-nil P)
    go (Some begun) is =
        subst (All P) (sym (kept-some begun is))
        (All-push P (steps_done delay.time x.steps) (record begun { leave = leave_kept airport delay x begun }) (done-all delay.time x.steps begun is P all)
        (change begun (leave_kept airport delay x begun) (All-contains P x.steps begun all (begun-there delay.time x.steps begun is))))

  pub kept-arcs : All (λ step. IsTrue (arc_exists (layout_of airport) step.arc)) x.steps → All (λ step. IsTrue (arc_exists (layout_of airport) step.arc)) (steps_kept airport delay x)
  kept-arcs all = kept-all (λ step. IsTrue (arc_exists (layout_of airport) step.arc)) (λ s leave h. h) all

  pub kept-early : All (λ step. step.enter ≤ 9999999) x.steps → All (λ step. step.enter ≤ 9999999) (steps_kept airport delay x)
  kept-early all = kept-all (λ step. step.enter ≤ 9999999) (λ s leave h. h) all

-- the steps of a flight in force are there, on arcs of the airport, and take as long as they need
pub on-steps : (airport : Airport) (state : State) (sound : IsSound airport state) (name : List ℕ) (x : Flight) → flight_named name state.flights ≡ Some x → IsOnSteps airport x
on-steps airport state sound name x found =
    let c : Conditions = conditions_of airport state x in
    let walk = flight-walk airport state sound name x found in
    record {
      some = walk-some c x.steps walk;
      arcs = flight-arcs airport state sound name x found;
      lasts = λ k d low. (IsFeasibleWalk-steps c x.steps walk k d low).lasts;
    }

-- the step that a late flight is on is on an arc of the airport
pub delay-arc : (airport : Airport) (state : State) → IsSound airport state → (name : List ℕ) (time until : ℕ) (delay : Delay) → delay_of state name time until ≡ Some delay
    → IsTrue (arc_exists (layout_of airport) delay.begun.arc)
delay-arc airport state sound name time until delay is = go (flight_named name state.flights) refl where
  go : (o : Option Flight) → flight_named name state.flights ≡ o → IsTrue (arc_exists (layout_of airport) delay.begun.arc)
  go None none = absurd (cc (rw none at is))
  go (Some f) found = on (step_begun time f.steps) refl where
    on : (o : Option Step) → step_begun time f.steps ≡ o → IsTrue (arc_exists (layout_of airport) delay.begun.arc)
    on None none = absurd (cc (rw (found, none) at is))
    on (Some begun) there =
        let same : begun ≡ delay.begun = cc (rw (found, there) at is) in
        subst (λ (s : Step). IsTrue (arc_exists (layout_of airport) s.arc)) same
        (All-contains (λ (s : Step). IsTrue (arc_exists (layout_of airport) s.arc)) f.steps begun (flight-arcs airport state sound name f found) (begun-there time f.steps begun there))
