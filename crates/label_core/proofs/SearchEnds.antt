-- What a search has found when it ends.
use Rattle.std.proofs.Common.{◌≡◌, ℕ, ◌≤◌, ◌<◌, ◌↔◌, Bool, true, false, Option, Some, None, IfSome, IfNone, sym, ◌∙◌, ◌⊎◌, inl, inr, arith}
use Rattle.std.proofs.lemmas.Bool.{false≢true, cases_Bool}
use Rattle.label_core.specs.Walks.{Network, Start, IsEarliestExit}
use Rattle.label_core.specs.Labels.{IsStartEntry}
use Rattle.label_core.specs.Tables.{IsBelow}
use Rattle.label_core.specs.Settling.{IsSearch, NoneLeftBelow, IsArrived, NoneSettled, IsFirstTarget}
use Rattle.label_core.specs.Best.{IsBestEnd, HasNoWalk, IsFirstBest}
use Rattle.label_core.proofs.AttainedValues.{start_entry_reached}
use Rattle.label_core.proofs.SettledCells.{SettledRow, settled_closed, settled_exact, least_earliest, earliest_known}
use Rattle.label_core.proofs.NoneSooner.{none_sooner, none_at_all}

-- a search begins with the start entries, and no cell settled
pub search_begins : {C : Type 0} (net : Network C) (starts : C → Option Start) (Known : C → ℕ → Type 0) (settled : C → Bool)
    → ((c : C) (t : ℕ) → Known c t ↔ IsStartEntry net starts c t) → ((c : C) (t u : ℕ) → Known c t → Known c u → t ≡ u) → ((c : C) → settled c ≡ false) → IsSearch net starts Known settled
search_begins net starts Known settled exact single none = record {
  attained = record { reached = λ c t known. start_entry_reached net starts c t ((exact c t).0 known); single = single };
  starts_known = λ c t e. (t, (exact c t).1 e, omega arith);
  expansions_known = λ c d v t is known e. absurd (false≢true (sym (none c) ∙ is));
  settled_known = λ c is. absurd (false≢true (sym (none c) ∙ is));
  settled_first = λ c d v w is known not later. absurd (false≢true (sym (none c) ∙ is));
}

module _ {C : Type 0} (net : Network C) (starts : C → Option Start) (takes : (d : C) → 1 ≤ net.seconds d) (Known : C → ℕ → Type 0) (settled target : C → Bool)
    (search_ok : IsSearch net starts Known settled) (passed : NoneSettled target settled) where
  none_left : (best : Option ℕ) → IfSome best (IsArrived Known settled target) → IfNone best (NoneLeftBelow Known settled None) → NoneLeftBelow Known settled best
  none_left None some none = none
  none_left (Some end) some none = some.is_least.least

  no_target_row : (c : C) (v : ℕ) → target c ≡ true → SettledRow Known settled c v → ⊥
  no_target_row c v is row = false≢true (sym (passed c row.0) ∙ is)

  -- the settled values below the best end are the earliest exits below it
  pub outcome_table : (best : Option ℕ) → IfSome best (IsArrived Known settled target) → IfNone best (NoneLeftBelow Known settled None)
      → (c : C) (v : ℕ) → ((settled c ≡ true) × Known c v × IsBelow best v) ↔ (IsEarliestExit net starts c v × IsBelow best v)
  outcome_table best some none c v = (
    λ h. ((settled_exact net starts takes Known settled search_ok best (none_left best some none) c v h.2).0 (h.0, h.1), h.2),
    λ h. let row = (settled_exact net starts takes Known settled search_ok best (none_left best some none) c v h.1).1 h.0 in (row.0, row.1, h.1),
  )

  -- the value at which the search has arrived is the best end
  pub outcome_best : (best : Option ℕ) → IfSome best (IsArrived Known settled target) → IfSome best (IsBestEnd net starts target)
  outcome_best None some = tt
  outcome_best (Some end) some = record {
    cell = some.cell;
    is_target = some.is_target;
    attained = search_ok.attained.reached some.cell end some.is_least.known;
    least = none_sooner net starts (SettledRow Known settled) (λ c. target c ≡ true) takes no_target_row end (settled_closed net starts takes Known settled search_ok (Some end) some.is_least.least);
  }

  -- if it has arrived at none, there is no walk
  pub outcome_none : (best : Option ℕ) → IfNone best (NoneLeftBelow Known settled None) → IfNone best (HasNoWalk net starts target)
  outcome_none (Some end) none = tt
  outcome_none None none = none_at_all net starts (SettledRow Known settled) (λ c. target c ≡ true) takes no_target_row (settled_closed net starts takes Known settled search_ok None none)

-- the first target with the value at which the search has arrived is the first with that earliest exit
pub outcome_first : (net : Network ℕ) (starts : ℕ → Option Start) (takes : (d : ℕ) → 1 ≤ net.seconds d) (Known : ℕ → ℕ → Type 0) (settled target : ℕ → Bool)
    → IsSearch net starts Known settled → NoneSettled target settled → (value cell : ℕ) → IsArrived Known settled target value → IsFirstTarget Known target value cell
    → IsFirstBest net starts (λ x y. x < y) target value cell
outcome_first net starts takes Known settled target search_ok passed value cell arrived first = record {
  is_target = first.is_target;
  earliest = least_earliest net starts takes Known settled search_ok cell value not_settled first.known arrived.is_least.least;
  first = λ x before is earliest. first.first x before is (earliest_known net starts takes Known settled search_ok value arrived.is_least.least x value earliest (omega arith));
}
  where
    not_settled : settled cell ≡ false
    not_settled = go (cases_Bool (settled cell))
      where
        go : (settled cell ≡ true) ⊎ (settled cell ≡ false) → settled cell ≡ false
        go (inl is) = absurd (false≢true (sym (passed cell is) ∙ first.is_target))
        go (inr not) = not
