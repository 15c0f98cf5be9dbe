-- The steps that are picked on from a cell are a walk, and finish entries are begins of walks.
use Rattle.std.proofs.Common.{◌≡◌, ℕ, ◌+◌, ◌-◌, ◌≤◌, min, List, [], ◌∷◌, IsTrue, Option, refl, sym, ◌∙◌, subst, arith}
use Rattle.label_core.specs.Walks.{Network, Step, IsStep, NextComesAfter}
use Rattle.label_core.specs.BackwardWalks.{Finish, Finishes, LastFinishes, IsWalkTo, BeginsAt, Leads}
use Rattle.label_core.specs.BackwardLabels.{IsFinishEntry}
use Rattle.label_core.specs.BackwardPicked.{IsPickedOn}
use Rattle.label_core.specs.BackwardPicked.IsPickedOn.{at_finish, going_on}

module _ {C : Type 0} (net : Network C) (finishes : C → Option Finish) where
  -- a finish entry is the begin of a walk of one step
  pub finish_entry_leads : (x : C) (t : ℕ) → IsFinishEntry net finishes x t → Leads net finishes x t
  finish_entry_leads x t e = record {
    walk = record { cell = x; enter = t; leave = t + net.seconds x } ∷ [];
    is_walk = record {
      chain = (record { not_before = e.in_window; long_enough = omega arith; in_time = omega (arith, e.value) }, tt, tt);
      ends = record { finish = e.finish; here = e.here; not_early = omega (arith, e.value, e.not_early); not_late = omega (arith, e.value) };
    };
    begins = (refl, refl);
  }

  -- a step that finishes enters by the finish entry
  pub finish_entry_of : (s : Step C) → IsStep net s → Finishes finishes s → (t : ℕ) × IsFinishEntry net finishes s.cell t × (s.enter ≤ t)
  finish_entry_of s step ends = (
    min ends.finish.latest_out (net.last s.cell) - net.seconds s.cell,
    record {
      finish = ends.finish;
      here = ends.here;
      value = omega (arith, step.long_enough, step.in_time, ends.not_late);
      not_early = omega (arith, step.in_time, ends.not_late, ends.not_early);
      in_window = omega (arith, step.long_enough, step.in_time, ends.not_late, step.not_before);
    },
    omega (arith, step.long_enough, step.in_time, ends.not_late),
  )

  last_of_more : (s : Step C) (steps : List (Step C)) (d : C) (t : ℕ) → BeginsAt steps d t → LastFinishes finishes steps → LastFinishes finishes (s ∷ steps)
  last_of_more s [] d t begins ends = absurd begins
  last_of_more s (u ∷ rest) d t begins ends = ends

  next_of : (s : Step C) (steps : List (Step C)) (d : C) (t : ℕ) → BeginsAt steps d t → s.leave ≡ t → IsTrue (net.turn s.cell d) → NextComesAfter net s steps
  next_of s [] d t begins leaves turn = absurd begins
  next_of s (u ∷ rest) d t begins leaves turn =
      record { at_once = leaves ∙ sym begins.1; by_turn = subst (λ y. IsTrue (net.turn s.cell y)) (sym begins.0) turn }

  -- the steps that are picked on from a cell are a walk
  pub picked_on_walk : (Before : C → C → Type 0) (Value : C → ℕ → Type 0) {x : C} {v t : ℕ} {steps : List (Step C)} → IsPickedOn net finishes Before Value x v t steps
      → t ≤ v → net.from x ≤ t → IsWalkTo net finishes steps × BeginsAt steps x t
  picked_on_walk Before Value (at_finish {c = x} {v} {t} e) le from = (
    record {
      chain = (record { not_before = from; long_enough = omega arith; in_time = omega (arith, e.value) }, tt, tt);
      ends = record { finish = e.finish; here = e.here; not_early = omega (arith, e.value, e.not_early); not_late = omega (arith, e.value) };
    },
    (refl, refl),
  )
  picked_on_walk Before Value (going_on {c = x} {d} {v} {w} {t} {steps} none first picked) le from =
      let later = picked_on_walk Before Value picked (omega (arith, first.expands.value)) (omega (arith, first.expands.value, first.expands.already_held)) in
      let s : Step C = record { cell = x; enter = t; leave = v + net.seconds x } in (
        record {
          chain = (
            record { not_before = from; long_enough = omega arith; in_time = omega (arith, first.expands.value) },
            next_of s steps d (v + net.seconds x) later.1 refl first.expands.by_turn,
            later.0.chain,
          );
          ends = last_of_more s steps d (v + net.seconds x) later.1 later.0.ends;
        },
        (refl, refl),
      )

  -- a walk begins in the window of its first cell
  pub leads_from : (x : C) (t : ℕ) → Leads net finishes x t → net.from x ≤ t
  leads_from x t leads = go leads.walk leads.is_walk leads.begins
    where
      go : (walk : List (Step C)) → IsWalkTo net finishes walk → BeginsAt walk x t → net.from x ≤ t
      go [] is_walk begins = absurd begins
      go (s ∷ rest) is_walk begins = subst (λ y. net.from y ≤ t) begins.0 (omega (arith, begins.1, is_walk.chain.0.not_before))
