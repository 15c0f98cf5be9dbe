-- Picking back, step by step.
use Rattle.std.proofs.Common.{◌≡◌, ℕ, ◌-◌, ◌<◌, ◌≤◌, List, [], ◌∷◌, ◌++◌, map, Option, Some, refl, sym, ap, ◌∙◌, subst, inl, inr, arith}
use Rattle.std.specs.Prelude.{⊤}
use Rattle.std.proofs.lemmas.Bool.{cases_Bool}
use Rattle.label_core.specs.Walks.{Network, Start, Step, IsEarliestExit}
use Rattle.label_core.specs.Labels.{entry, IsStartEntry, IsExpansion}
use Rattle.label_core.specs.Picked.{IsFirstBefore, IsPicked}
use Rattle.label_core.specs.Picked.IsPicked.{at_start, going_back}
use Rattle.label_core.proofs.SettledCells.{settled_exact}
use Rattle.label_search.specs.declared.labels.Label.{Label}
use Rattle.label_search.specs.declared.pick.CellStep.{CellStep}
use Rattle.label_search.specs.declared.settle.Goal.{Goal}
use Rattle.label_search.specs.Problem.{Problem, IsProblem}
use Rattle.label_search.specs.declared.pick.Entering.{Entering}
use Rattle.label_search.specs.Entering.{leave_of, IsFirstOf, AreInWindows}
use Rattle.label_search.proofs.Settling.{HasValue-single}
use Rattle.label_search.specs.Labels.{Standing, label_of, HasValue}
use Rattle.label_search.specs.Standing.{SettledValue, IsTraced, IsAtEnd}
use Rattle.label_search.specs.Answer.{step_of, ComesBefore}

-- one more step at the end of those taken, before the rest
pub taken_more : (steps : List CellStep) (s : CellStep) (rest : List (Step ℕ)) → map step_of (steps ++ s ∷ []) ++ rest ≡ map step_of steps ++ step_of s ∷ rest
taken_more [] s rest = refl
taken_more (x ∷ steps) s rest = ap (λ more. step_of x ∷ more) (taken_more steps s rest)

-- and at the very end
pub taken_last : (steps : List CellStep) (s : CellStep) → map step_of (steps ++ s ∷ []) ≡ map step_of steps ++ step_of s ∷ []
taken_last [] s = refl
taken_last (x ∷ steps) s = ap (λ more. step_of x ∷ more) (taken_last steps s)

module _ {C : Type 0} (net : Network C) (starts : C → Option Start) (Before : C → C → Type 0) (Value : C → ℕ → Type 0) where
  pub at_start_by : (c : C) (v t enter : ℕ) (e : IsStartEntry net starts c v) → enter ≡ entry net c e.start.earliest
      → IsPicked net starts Before Value c v t (record { cell = c; enter = enter; leave = t } ∷ [])
  at_start_by c v t enter e same = subst (λ (n : ℕ). IsPicked net starts Before Value c v t (record { cell = c; enter = n; leave = t } ∷ [])) (sym same) (at_start e)

  pub going_back_by : (c d : C) (v w t enter : ℕ) (steps : List (Step C)) → (IsStartEntry net starts c v → ⊥) → IsFirstBefore net Before Value c v d w
      → enter ≡ v - net.seconds c → IsPicked net starts Before Value d w enter steps
      → IsPicked net starts Before Value c v t (record { cell = c; enter = enter; leave = t } ∷ steps)
  going_back_by c d v w t enter steps none first same picked =
      subst (λ (n : ℕ). IsPicked net starts Before Value c v t (record { cell = c; enter = n; leave = t } ∷ steps)) (sym same)
      (going_back none first (subst (λ (n : ℕ). IsPicked net starts Before Value d w n steps) same picked))

-- a start entry enters as the start at hand says
pub same_enter : {C : Type 0} (net : Network C) (starts : C → Option Start) (c : C) (t : ℕ) (s : Start) → Some s ≡ starts c → (e : IsStartEntry net starts c t)
    → entry net c s.earliest ≡ entry net c e.start.earliest
same_enter net starts c t s is e =
    let both : Some s ≡ Some e.start = is ∙ e.here in
    let same : s ≡ e.start = cc in
    ap (λ x. entry net c x.earliest) same

module _ (p : Problem) (sound : IsProblem p) (s : Standing) (goal : Goal) (ended : IsAtEnd p s (Some goal)) where
  exact : (c v : ℕ) → v < goal.end → (SettledValue s ended.settled c v → IsEarliestExit p.network p.starts c v) × (IsEarliestExit p.network p.starts c v → SettledValue s ended.settled c v)
  exact c v below = settled_exact p.network p.starts sound.takes (HasValue s.known) ended.settled ended.search (Some goal.end) ended.some.least.least c v below

  -- a label below the best end is a settled one
  settled_below : (x u : ℕ) → HasValue s.known x u → u < goal.end → SettledValue s ended.settled x u
  settled_below x u has below = elim (cases_Bool (ended.settled x)) [ inl is ↦ (is, has) | inr not ↦ absurd (ended.some.least.least x u not has below) ]

  -- no label is before the window of its cell
  pub in_windows : AreInWindows p s.known
  in_windows x u has = go (ended.traced x has.0 has.1)
    where
      go : IsTraced p (SettledValue s ended.settled) x has.0 → p.network.from x ≤ u
      go (inl start) = omega (arith, start.value, has.2)
      go (inr (w, row, e)) = omega (arith, e.value, has.2)

  module _ (c : ℕ) (label : Label) (is : label_of s.known c ≡ Some label) (by : label.value ≤ goal.end) (not_start : IsStartEntry p.network p.starts c label.value → ⊥) where
    -- the label came by a cell that expands to it
    pub came_by : (u : ℕ) × HasValue s.known label.via u × IsExpansion p.network label.via u c label.value
    came_by = go (ended.traced c label is)
      where
        go : IsTraced p (SettledValue s ended.settled) c label → (u : ℕ) × HasValue s.known label.via u × IsExpansion p.network label.via u c label.value
        go (inl start) = absurd (not_start start)
        go (inr (w, row, e)) = (w, row.1, e)

    -- the first cell that does so is the first whose earliest exit expands to it
    pub first_is_picked : (to : Entering) (x : ℕ) → to.cell ≡ c → leave_of p to ≡ label.value → IsFirstOf p s.known to (λ d. ⊤) x
        → (before : Label) → label_of s.known x ≡ Some before → IsFirstBefore p.network ComesBefore (IsEarliestExit p.network p.starts) c label.value x before.value
    first_is_picked to x cell value first before there = record {
      has = (exact x before.value (omega (arith, below))).0 (settled_below x before.value here (omega (arith, below)));
      expands = e;
      first = λ y u less earliest other. (
          let row = (exact y u (omega (arith, other.value, sound.takes c, by))).1 earliest in
          let moved : IsExpansion p.network y u to.cell label.value = subst (λ d. IsExpansion p.network y u d label.value) (sym cell) other in
          first.none_before y less tt (u, row.1, subst (λ n. IsExpansion p.network y u to.cell n) (sym value) moved));
    }
      where
        here : HasValue s.known x before.value
        here = (before, there, refl)

        same : first.leads.0 ≡ before.value
        same = HasValue-single s.known x first.leads.0 before.value first.leads.1 here

        e : IsExpansion p.network x before.value c label.value
        e =
            let at : IsExpansion p.network x first.leads.0 to.cell label.value = subst (λ n. IsExpansion p.network x first.leads.0 to.cell n) value first.leads.2 in
            subst (λ u. IsExpansion p.network x u c label.value) same (subst (λ d. IsExpansion p.network x first.leads.0 d label.value) cell at)

        below : before.value < goal.end
        below = omega (arith, e.value, sound.takes c, by)
