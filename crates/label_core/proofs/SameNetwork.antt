-- In two networks that agree on the cells of which walks are made the same steps are picked.
use Rattle.label_core.specs.Picked.IsPicked.{at_start, going_back}
use Rattle.std.proofs.Common.{[], ◌-◌, max, ◌≡◌, ℕ, List, ◌∷◌, true, Option, Some, arith, sym, subst}
use Rattle.label_core.specs.Labels.{IsStartEntry, IsExpansion}
use Rattle.label_core.specs.Picked.{IsPicked}
use Rattle.label_core.specs.Walks.{Network, Start, Step}

-- the second network and its starts are the first at each cell that a walk of the first can use
pub record Agrees {C : Type 0} (Inside : C → Type 0) (one two : Network C) (starts_one starts_two : C → Option Start) : Type 0 where
  pub same_from : (c : C) → Inside c → one.from c ≡ two.from c
  pub same_last : (c : C) → Inside c → one.last c ≡ two.last c
  pub same_seconds : (c : C) → Inside c → one.seconds c ≡ two.seconds c
  pub same_turn : (c d : C) → one.turn c d ≡ true → two.turn c d ≡ true
  pub turn_inside : (c d : C) → one.turn c d ≡ true → Inside c × Inside d
  pub same_start : (c : C) (s : Start) → starts_one c ≡ Some s → starts_two c ≡ Some s
  pub start_inside : (c : C) (s : Start) → starts_one c ≡ Some s → Inside c

module _ {C : Type 0} (Inside : C → Type 0) (one two : Network C) (starts_one starts_two : C → Option Start) (agrees : Agrees Inside one two starts_one starts_two) where
  entry_agrees : (c : C) (t : ℕ) → IsStartEntry one starts_one c t → IsStartEntry two starts_two c t
  entry_agrees c t e =
      let inside = agrees.start_inside c e.start e.here in
      record {
        start = e.start;
        here = agrees.same_start c e.start e.here;
        value = omega (arith, e.value, agrees.same_from c inside, agrees.same_seconds c inside);
        not_late = omega (arith, e.not_late, agrees.same_from c inside);
        in_time = omega (arith, e.in_time, agrees.same_last c inside);
      }

  expansion_agrees : (c d : C) (v t : ℕ) → IsExpansion one c v d t → IsExpansion two c v d t
  expansion_agrees c d v t e =
      let inside = agrees.turn_inside c d e.by_turn in
      record {
        by_turn = agrees.same_turn c d e.by_turn;
        value = omega (arith, e.value, agrees.same_from d inside.1, agrees.same_seconds d inside.1);
        still_held = omega (arith, e.still_held, agrees.same_from d inside.1, agrees.same_last c inside.0);
        in_time = omega (arith, e.in_time, agrees.same_last d inside.1);
      }

module _ {C : Type 0} (Inside : C → Type 0) (one two : Network C) (starts_one starts_two : C → Option Start)
    (there : Agrees Inside one two starts_one starts_two) (back : Agrees Inside two one starts_two starts_one)
    (Before : C → C → Type 0) (V W : C → ℕ → Type 0) (v_to_w : (c : C) (t : ℕ) → V c t → W c t) (w_to_v : (c : C) (t : ℕ) → W c t → V c t) where
  pub picked_agrees : {c : C} {v t : ℕ} {steps : List (Step C)} → IsPicked one starts_one Before V c v t steps → IsPicked two starts_two Before W c v t steps
  unfolding entry_agrees
  picked_agrees (at_start {c} {v} {t} e) =
      let e' = entry_agrees Inside one two starts_one starts_two there c v e in
      let from = there.same_from c (there.start_inside c e.start e.here) in
      subst (λ (n : ℕ). IsPicked two starts_two Before W c v t (record { cell = c; enter = max e.start.earliest n; leave = t } ∷ [])) (sym from) (at_start e')
  picked_agrees (going_back {c} {d} {v} {w} {t} {steps} none first before) =
      let seconds = there.same_seconds c (there.turn_inside d c first.expands.by_turn).1 in
      let rest : IsPicked two starts_two Before W d w (v - two.seconds c) steps = subst (λ (n : ℕ). IsPicked two starts_two Before W d w (v - n) steps) seconds (picked_agrees before) in
      subst (λ (n : ℕ). IsPicked two starts_two Before W c v t (record { cell = c; enter = v - n; leave = t } ∷ steps)) (sym seconds)
      (going_back
      (λ e. none (entry_agrees Inside two one starts_two starts_one back c v e))
      (record {
        has = v_to_w d w first.has;
        expands = expansion_agrees Inside one two starts_one starts_two there d c w v first.expands;
        first = λ x u is has e. first.first x u is (w_to_v x u has) (expansion_agrees Inside two one starts_two starts_one back x c u v e);
      })
      rest)

-- what is picked from values is picked from the same values in other words
module _ {C : Type 0} (net : Network C) (starts : C → Option Start) (Before : C → C → Type 0) (V W : C → ℕ → Type 0)
    (v_to_w : (c : C) (t : ℕ) → V c t → W c t) (w_to_v : (c : C) (t : ℕ) → W c t → V c t) where
  pub picked_of_same_values : {c : C} {v t : ℕ} {steps : List (Step C)} → IsPicked net starts Before V c v t steps → IsPicked net starts Before W c v t steps
  picked_of_same_values (at_start e) = at_start e
  picked_of_same_values (going_back {c} {d} {v} {w} none first before) =
      going_back none
      (record { has = v_to_w d w first.has; expands = first.expands; first = λ x u is has e. first.first x u is (w_to_v x u has) e })
      (picked_of_same_values before)
