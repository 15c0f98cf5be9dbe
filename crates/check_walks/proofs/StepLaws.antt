-- Which steps can be made among holds, and which of them are a walk?
use Rattle.std.proofs.Common.{◌≡◌, ◌↔◌, ℕ, ◌+◌, ◌<◌, ◌≤◌, Bool, true, false, List, [], ◌∷◌, length, All, Option, Some, None, IsTrue, refl, sym, arith}
use Rattle.std.specs.Prelude.{nat_le, IsSomeAnd, Contains, Result, Ok, Err, IfOk}
use Rattle.std.specs.Option.{option_map_or}
use Rattle.std.specs.List.{AllAdjacentBelow, IsAllAdjacentAnswer}
use Rattle.std.proofs.lemmas.Bool.{both_ways, and_parts, and_from, eqb-true, eq-eqb, leb-true, false≢true}
use Rattle.taxi_base.specs.declared.numbers.Class.{Class}
use Rattle.taxi_base.specs.declared.rows.Span.{Span}
use Rattle.taxi_base.specs.declared.rows.Step.{Step}
use Rattle.taxi_base.specs.Airport.{Airport, IsWellFormed, Layout, layout_of, segment_of, seconds}
use Rattle.taxi_base.specs.Windows.{Hold, AreWindows, IsPart}
use Rattle.taxi_base.specs.Walks.{Conditions, conditions_among, hold_under, IsFeasibleStep, IsFeasibleWalk, Follows}
use Rattle.taxi_base.proofs.AirportLaws.{seconds-range}
use Rattle.taxi_base.proofs.WindowLaws.{AreWindows-member, AreWindows-whole}
use Rattle.taxi_base.proofs.WalkLaws.{IsFree-inside, window_of_step, conditions_among-bounded, IsFeasibleStep-takes, IsFeasibleWalk-steps, IsFeasibleWalk-follows, IsFeasibleWalk-from_each}
use Rattle.held_spans.proofs.LoopLaws.{no_step}
use Rattle.check_walks.specs.Steps.{follows, is_possible, IsChain}

-- a test by another
pub same-test : {A B C : Type 0} → A ↔ B → B ↔ C → A ↔ C
same-test same by = (λ h. by.0 (same.0 h), λ h. same.1 (by.1 h))

pub ok-weaker : {A E : Type 0} (r : Result A E) (P Q : A → Type 0) → ((x : A) → P x → Q x) → IfOk r P → IfOk r Q
ok-weaker (Ok x) P Q weaker h = weaker x h
ok-weaker (Err e) P Q weaker h = h

-- ---- one step

lasts-some : (enter leave : ℕ) (o : Option ℕ) → IsTrue (option_map_or (λ n. nat_le (enter + n) leave) o false) → IsSomeAnd o (λ n. enter + n ≤ leave)
lasts-some enter leave None h = absurd (false≢true h)
lasts-some enter leave (Some n) h = leb-true _ _ h

module _ (airport : Airport) (class : Class) (holds : List Hold) (step : Step) where
  abbrev c : Conditions
  c = conditions_among airport class holds

  pub feasible-inside : IsWellFormed airport → IsTrue (is_possible airport class step) → (ws : List Span) → AreWindows (c.free (segment_of step.arc)) ws
      → ((w : Span) × Contains ws w × IsPart (hold_under c step).span w) ↔ IsFeasibleStep c step
  feasible-inside well possible ws are =
      let parts = and_parts _ _ possible in
      let rest = and_parts _ _ parts.1 in (
        λ one. record {
          on_arc = parts.0;
          lasts = lasts-some step.enter step.leave (seconds airport class (segment_of step.arc)) rest.1;
          in_time = leb-true _ _ rest.0;
          free = IsFree-inside c one.0 step (AreWindows-member (c.free (segment_of step.arc)) ws one.0 are one.1) one.2;
        },
        λ made. (
            let takes = IsFeasibleStep-takes c (λ s n e. (seconds-range airport class s n well e).0) step made in
            let found = window_of_step c (conditions_among-bounded airport class holds) step made takes in
            (found.0, AreWindows-whole (c.free (segment_of step.arc)) ws found.0 are found.1, found.2)),
      )

-- ---- one after the other

of-follows : (layout : Layout) (s t : Step) → IsTrue (follows layout s t) → Follows layout s t
of-follows layout s t h = let parts = and_parts _ _ h in record { at_once = eqb-true _ _ parts.0; permitted = parts.1 }

to-follows : (layout : Layout) (s t : Step) → Follows layout s t → IsTrue (follows layout s t)
to-follows layout s t f = and_from _ _ (eq-eqb _ _ f.at_once) f.permitted

pub follows-by_neighbours : (layout : Layout) (steps : List Step) (r : Bool) → IsAllAdjacentAnswer (λ s t b. b ≡ follows layout s t) steps r
    → IsTrue r ↔ AllAdjacentBelow (Follows layout) steps (length steps)
follows-by_neighbours layout steps true adjacent = (λ _ k d on. of-follows layout _ _ (sym (adjacent k d on)), λ _. refl)
follows-by_neighbours layout steps false broken =
    (λ e. absurd (false≢true e), λ chain. absurd (both_ways _ (sym (broken.2 no_step)) (to-follows layout _ _ (chain broken.0 no_step broken.1))))

pub walk-some : (c : Conditions) (steps : List Step) → IsFeasibleWalk c steps → 0 < length steps
walk-some c [] walk = absurd walk
walk-some c (s ∷ steps) walk = omega arith

pub walk-chain : (c : Conditions) (steps : List Step) → IsFeasibleWalk c steps → IsChain (layout_of c.airport) steps
walk-chain c steps walk = (walk-some c steps walk, IsFeasibleWalk-follows c steps walk)

pub chain-walk : (c : Conditions) (steps : List Step) → IsChain (layout_of c.airport) steps → All (IsFeasibleStep c) steps ↔ IsFeasibleWalk c steps
chain-walk c steps chain = (λ each. IsFeasibleWalk-from_each c steps chain.0 each chain.1, λ walk. IsFeasibleWalk-steps c steps walk)
