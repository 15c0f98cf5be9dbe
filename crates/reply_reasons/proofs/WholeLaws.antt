-- The parts of an explanation in their order.
use Rattle.std.proofs.Common.{◌≡◌, ◌∙◌, ℕ, List, [], ◌∷◌, ◌++◌, Option, ap, subst, append_assoc}
use Rattle.std.specs.Option.{option_map_or}
use Rattle.taxi_base.specs.declared.rows.Step.{Step}
use Rattle.taxi_base.specs.Airport.{Airport}
use Rattle.taxi_base.specs.State.{State, no_holder}
use Rattle.reply_reasons.specs.declared.asking.Asking.{Asking}
use Rattle.reply_reasons.specs.declared.reason.Reason.{Reason}
use Rattle.reply_reasons.specs.declared.reason.Reason.TheVariants as reason
use Rattle.reply_reasons.specs.Asking.{asking_freed}
use Rattle.reply_reasons.specs.Routes.{IsFoundAmong, IsBestSecond, second_found}
use Rattle.reply_reasons.specs.Waits.{route_reasons}
use Rattle.reply_reasons.specs.Explained.{AreWithout, holder_names, freed_reasons, IsRouteExplained}

module _ (airport : Airport) (asking : Asking) (others : State) (answer : Option (List Step)) (alone second : Option ℕ) (is_second : second ≡ second_found asking.request answer) where
  -- the holders are the same at the end
  pub route-explained : (later : State) → later ≡ others → (left : List Reason) (free : Option (List Step)) (r0 r1 r2 r3 r4 r5 : List Reason)
      → IsFoundAmong airport asking others answer → IsBestSecond airport asking no_holder alone
      → AreWithout airport asking others second (holder_names others) left → IsFoundAmong airport (asking_freed airport asking) later free
      → r0 ≡ [] → r1 ≡ r0 ++ reason.Answer second ∷ [] → r2 ≡ r1 ++ reason.Alone alone ∷ [] → r3 ≡ r2 ++ left → r4 ≡ r3 ++ freed_reasons asking.request second free
      → r5 ≡ r4 ++ option_map_or (route_reasons airport asking.class later asking.request) answer [] → IsRouteExplained airport asking others r5
  route-explained later same left free r0 r1 r2 r3 r4 r5 found best without found_free e0 e1 e2 e3 e4 e5 =
      let freed = freed_reasons asking.request second free in
      let waits = option_map_or (route_reasons airport asking.class later asking.request) answer [] in
      let front : List Reason = reason.Answer second ∷ reason.Alone alone ∷ [] in
      let two : r2 ≡ front = e2 ∙ ap (λ (r : List Reason). r ++ reason.Alone alone ∷ []) (e1 ∙ ap (λ (r : List Reason). r ++ reason.Answer second ∷ []) e0) in
      let whole : r5 ≡ front ++ (left ++ (freed ++ waits)) =
      e5 ∙ ap (λ (r : List Reason). r ++ waits) (e4 ∙ ap (λ (r : List Reason). r ++ freed) (e3 ∙ ap (λ (r : List Reason). r ++ left) two))
      ∙ append_assoc (front ++ left) freed waits ∙ append_assoc front left (freed ++ waits) in
      record {
        answer = answer;
        found = found;
        alone = alone;
        best_alone = best;
        others_left_out = left;
        best_without = subst (λ (s : Option ℕ). AreWithout airport asking others s (holder_names others) left) is_second without;
        free = free;
        found_free = subst (λ (s : State). IsFoundAmong airport (asking_freed airport asking) s free) same found_free;
        whole = by_second second is_second (by_state later same whole);
      }
    where
      by_state : (s : State) → s ≡ others
          → r5 ≡ (reason.Answer second ∷ reason.Alone alone ∷ []) ++ (left ++ (freed_reasons asking.request second free ++ option_map_or (route_reasons airport asking.class s asking.request) answer []))
          → r5 ≡ (reason.Answer second ∷ reason.Alone alone ∷ []) ++ (left ++ (freed_reasons asking.request second free ++ option_map_or (route_reasons airport asking.class others asking.request) answer []))
      by_state s is e =
          subst (λ (s : State). r5 ≡ (reason.Answer second ∷ reason.Alone alone ∷ []) ++ (left ++ (freed_reasons asking.request second free ++ option_map_or (route_reasons airport asking.class s asking.request) answer []))) is e

      by_second : (s : Option ℕ) → s ≡ second_found asking.request answer
          → r5 ≡ (reason.Answer s ∷ reason.Alone alone ∷ []) ++ (left ++ (freed_reasons asking.request s free ++ option_map_or (route_reasons airport asking.class others asking.request) answer []))
          → r5 ≡ (reason.Answer (second_found asking.request answer) ∷ reason.Alone alone ∷ [])
          ++ (left ++ (freed_reasons asking.request (second_found asking.request answer) free ++ option_map_or (route_reasons airport asking.class others asking.request) answer []))
      by_second s is e =
          subst (λ (s : Option ℕ). r5 ≡ (reason.Answer s ∷ reason.Alone alone ∷ []) ++ (left ++ (freed_reasons asking.request s free ++ option_map_or (route_reasons airport asking.class others asking.request) answer []))) is e
