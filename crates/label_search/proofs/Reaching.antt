-- What runs have reached, as time goes on and labels get less.
use Rattle.std.proofs.Common.{◌≡◌, ℕ, ◌+◌, ◌<◌, ◌≤◌, max, List, length, get_or, set, Option, refl, subst, inl, inr, arith}
use Rattle.std.proofs.lemmas.Bool.{cases_eq, cases_lt}
use Rattle.std.proofs.lemmas.Grind.{get_or-set_at}
use Rattle.std.proofs.lemmas.List.{get_or-set_other}
use Rattle.label_core.specs.Labels.{entry, IsExpansion}
use Rattle.label_core.specs.Tables.{HasAsGood}
use Rattle.label_search.specs.declared.labels.Label.{Label}
use Rattle.label_search.specs.declared.cells.Run.{Run}
use Rattle.label_search.specs.Problem.{Problem, IsIn, IsPartOf}
use Rattle.label_search.specs.Labels.{Standing, HasValue}
use Rattle.label_search.specs.Expanding.{IsExpanded}
use Rattle.label_search.specs.Reached.{IsReached, AreReached}
use Rattle.label_search.proofs.Expansions.{good_still}

module _ (p : Problem) where
  -- nothing is reached yet
  pub reached_none : (known : List (Option Label)) (reached : List ℕ) → ((r : ℕ) → get_or reached r 0 ≡ 0) → AreReached p known 0 reached
  reached_none known reached none r b d is turn before in_time = absurd (omega (arith, before, none r))

  -- later
  pub reached_later : (known : List (Option Label)) (now at : ℕ) (reached : List ℕ) → AreReached p known now reached → now ≤ at → AreReached p known at reached
  reached_later known now at reached are later r b d is turn before in_time =
      let good = are r b d is turn (omega (arith, before)) (omega (arith, in_time)) in
      (good.0, good.1, omega (arith, good.2))

  module _ (c at : ℕ) where
    -- what a run has reached need not be looked at
    pub done_by_reached : (known : List (Option Label)) (reached : List ℕ) (r : ℕ) → AreReached p known at reached → p.network.last c < get_or reached r 0
        → (d t : ℕ) → IsIn (p.run r) d → IsExpansion p.network c at d t → HasAsGood (HasValue known) d t
    done_by_reached known reached r are past d t is e =
        let good = are r c d is e.by_turn (omega (arith, e.still_held, past)) (omega (arith, e.value, e.in_time)) in
        (good.0, good.1, omega (arith, good.2, e.value))

    -- the rest of a run is looked at
    pub reached_more : (old new : Standing) (reached : List ℕ) (r last : ℕ) (part : Run) → last ≡ p.network.last c → r < length reached
        → IsPartOf p c (max at (get_or reached r 0)) last (p.run r) part → IsExpanded p.network c at (IsIn part) old new
        → AreReached p old.known at reached → AreReached p new.known at (set reached r (last + 1))
    reached_more old new reached r last part is_last inside is_part expanded are s = elim (cases_eq s r) [
      | inl same ↦ (λ b d is turn before in_time. here b d (subst (λ n. IsIn (p.run n) d) same is) turn
          (omega (arith, before, get_or-set_at reached r s (last + 1) 0 same inside)) in_time)
      | inr other ↦ (λ b d is turn before in_time. good_still p.network c at old new d _ (expanded.each d)
          (are s b d is turn (omega (arith, before, get_or-set_other reached r s (last + 1) 0 other)) in_time))
    ]
      where
        here : IsReached p new.known at (p.run r) (last + 1)
        here b d is turn before in_time = elim (cases_lt (entry p.network d at) (get_or reached r 0)) [
          | inl earlier ↦ good_still p.network c at old new d _ (expanded.each d) (are r b d is turn earlier in_time)
          | inr from ↦ (
              let same : entry p.network d (max at (get_or reached r 0)) ≡ entry p.network d at = omega (arith, from) in
              let wanted = is_part.wanted_in b d is turn (omega (arith, same, before)) (omega (arith, same, in_time)) in
              expanded.done d (entry p.network d at + p.network.seconds d) wanted
              (record { by_turn = is_part.permitted d wanted; value = refl; still_held = omega (arith, before, is_last); in_time = in_time }))
        ]
