-- What is told with one holder left out after the other.
use Rattle.std.proofs.Common.{◌≡◌, ◌∙◌, inl, inr, ℕ, ◌+◌, ◌≤◌, List, [], ◌∷◌, ◌++◌, length, take, map, Option, Some, None, IsFalse, refl, sym, ap, subst, append_assoc, append-nil}
use Rattle.std.specs.Prelude.{slice_get, All}
use Rattle.std.proofs.lemmas.Bool.{cases_Bool, both_ways}
use Rattle.std.proofs.lemmas.List.{map-append, take_all}
use Rattle.std.proofs.lemmas.List.Elements.{All-nil, All-cons, All-append}
use Rattle.std.proofs.lemmas.Option.{get_or_from_slice_get, slice_get_within}
use Rattle.std.proofs.lemmas.Grind.{take_at_read}
use Rattle.taxi_base.specs.Airport.{Airport}
use Rattle.taxi_base.specs.State.{State, no_holder, without}
use Rattle.reply_reasons.specs.declared.asking.Asking.{Asking}
use Rattle.reply_reasons.specs.declared.reason.Reason.{Reason}
use Rattle.reply_reasons.specs.declared.reason.Reason.TheVariants as reason
use Rattle.reply_reasons.specs.Routes.{IsBestSecond, is_better, is_gain}
use Rattle.reply_reasons.specs.Explained.{without_reason, IsWithout, IsGainWithin, AreWithout}
use Rattle.reply_reasons.proofs.FewerLaws.{alone-no_gain, same-no_gain, no_gain-through}

module _ (airport : Airport) (asking : Asking) (others : State) (answer : Option ℕ) where
  pub without-both : (names more : List (List ℕ)) (reasons later : List Reason) → AreWithout airport asking others answer names reasons → AreWithout airport asking others answer more later
      → AreWithout airport asking others answer (names ++ more) (reasons ++ later)
  without-both [] more reasons later none are = subst (AreWithout airport asking others answer more) (sym (ap (λ (r : List Reason). r ++ later) none)) are
  without-both (name ∷ names) more reasons later (told, rest, one, is, behind) are =
      (told, rest ++ later, one, ap (λ (r : List Reason). r ++ later) is ∙ append_assoc told rest later, without-both names more rest later behind are)

  -- by the best second that is found with one left out
  found-without : (name : List ℕ) (second : Option ℕ) → IsBestSecond airport asking (without name others) second
      → IsWithout airport asking others answer name (without_reason asking.request answer name second)
  found-without name None best = inr (refl, λ other is. absurd (cc (same-no_gain airport asking (without name others) (Some other) None is best)))
  found-without name (Some second) best =
      elim (cases_Bool (is_better asking.request second answer)) [
        | inl better ↦ rw better (inl (second, best, better, refl))
        | inr other ↦
            rw other (inr (refl, λ else is. no_gain-through asking.request (Some else) (Some second) answer (same-no_gain airport asking (without name others) (Some else) (Some second) is best) other))
      ]

  -- Where nothing better is found with no holder at all, there is nothing to tell of any.
  pub none-without : (alone : Option ℕ) → IsBestSecond airport asking no_holder alone → IsFalse (is_gain asking.request alone answer) → (names : List (List ℕ))
      → AreWithout airport asking others answer names []
  none-without alone best no_gain [] = refl
  none-without alone best no_gain (name ∷ names) = (
    [],
    [],
    inr (refl, λ second is. no_gain-through asking.request (Some second) alone answer (alone-no_gain airport asking (without name others) (Some second) alone is best) no_gain),
    refl,
    none-without alone best no_gain names,
  )

  module _ {X : Type 0} (name_of : X → List ℕ) (xs : List X) where
    -- the reasons after the old ones tell of the holders before a place
    abbrev pub AreTold : ℕ → List Reason → List Reason → Type 0
    AreTold place old new = (more : List Reason) × AreWithout airport asking others answer (map name_of (take place xs)) more × (new ≡ old ++ more)

    -- one more
    pub told-more : (place : ℕ) (x : X) (second : Option ℕ) (old mid new : List Reason) → slice_get xs place ≡ Some x → AreTold place old mid → IsBestSecond airport asking (without (name_of x) others) second
        → new ≡ mid ++ without_reason asking.request answer (name_of x) second → AreTold (place + 1) old new
    told-more place x second old mid new found (reasons, are, before) best next =
        let taken : take (place + 1) xs ≡ take place xs ++ x ∷ [] =
        rw (get_or_from_slice_get xs place x x found) at ((take_at_read xs place x (slice_get_within xs place x found)).1) in
        let told = without_reason asking.request answer (name_of x) second in (
          reasons ++ told,
          rw (taken, map-append name_of (take place xs) (x ∷ []))
              (without-both (map name_of (take place xs)) (name_of x ∷ []) reasons told are (told, [], found-without (name_of x) second best, sym (append-nil told), refl)),
          next ∙ ap (λ (r : List Reason). r ++ told) before ∙ append_assoc old reasons told,
        )

    -- all of them
    pub told-all : (place : ℕ) (old new : List Reason) → length xs ≤ place → AreTold place old new → (more : List Reason) × AreWithout airport asking others answer (map name_of xs) more × (new ≡ old ++ more)
    told-all place old new past (reasons, are, whole) =
        (reasons, subst (λ (xs : List X). AreWithout airport asking others answer (map name_of xs) reasons) (take_all place xs past) are, whole)

-- ---- what is told of some holders, beside what is found with none

module _ (airport : Airport) (asking : Asking) (others : State) (answer alone : Option ℕ) (best : IsBestSecond airport asking no_holder alone) where
  within-one : (name : List ℕ) (told : List Reason) → IsWithout airport asking others answer name told → All (IsGainWithin asking.request answer alone) told
  within-one name told (inl (second, is, better, one)) =
      rw one
      (All-cons (IsGainWithin asking.request answer alone) (reason.Without name second) []
      (better, alone-no_gain airport asking (without name others) (Some second) alone is best) (All-nil (IsGainWithin asking.request answer alone)))
  within-one name told (inr (none, unbettered)) = rw none (All-nil (IsGainWithin asking.request answer alone))

  pub gains-within : (names : List (List ℕ)) (reasons : List Reason) → AreWithout airport asking others answer names reasons → All (IsGainWithin asking.request answer alone) reasons
  gains-within [] reasons none = rw none (All-nil (IsGainWithin asking.request answer alone))
  gains-within (name ∷ names) reasons (told, later, one, is, behind) =
      rw is (All-append (IsGainWithin asking.request answer alone) told later (within-one name told one) (gains-within names later behind))

  module _ (no_gain : IsFalse (is_gain asking.request alone answer)) where
    none-one : (name : List ℕ) (told : List Reason) → IsWithout airport asking others answer name told → told ≡ []
    none-one name told (inl (second, is, better, one)) =
        absurd (both_ways _ (no_gain-through asking.request (Some second) alone answer (alone-no_gain airport asking (without name others) (Some second) alone is best) no_gain) better)
    none-one name told (inr (none, unbettered)) = none

    pub gains-none : (names : List (List ℕ)) (reasons : List Reason) → AreWithout airport asking others answer names reasons → reasons ≡ []
    gains-none [] reasons none = none
    gains-none (name ∷ names) reasons (told, later, one, is, behind) =
        is ∙ ap (λ (r : List Reason). r ++ later) (none-one name told one) ∙ gains-none names later behind
