-- The step begun and the steps done, from the steps that were entered by a time.
use Rattle.std.proofs.Common.{◌≡◌, ℕ, ◌-◌, ◌≤◌, List, [], ◌∷◌, ◌++◌, length, take, drop, Some, None, refl, sym, ◌∙◌, ap, subst, arith}
use Rattle.std.specs.Prelude.{slice_get}
use Rattle.std.specs.List.{IsLastAndRest}
use Rattle.std.proofs.lemmas.List.{length-take-le, nil_from_length, take-append-le, take-append-drop, take_at}
use Rattle.taxi_base.specs.declared.rows.Step.{Step}
use Rattle.taxi_base.specs.State.{entered_count, step_begun, steps_done}

last-found : (front : List Step) (s : Step) (n : ℕ) → length front ≡ n → slice_get (front ++ s ∷ []) n ≡ Some s
last-found [] s n e = subst (λ k. slice_get (s ∷ []) k ≡ Some s) e refl
last-found (f ∷ front) s n e = subst (λ k. slice_get (f ∷ front ++ s ∷ []) k ≡ Some s) e (last-found front s (length front) refl)

module _ (time : ℕ) (steps : List Step) (n : ℕ) (e : n ≡ entered_count time steps) where
  -- where no step was entered
  pub none-begun : length (take n steps) ≡ 0 → step_begun time steps ≡ None
  none-begun none = subst (λ k. slice_get (take k steps) (k - 1) ≡ None) e (rw (nil_from_length (take n steps) none) refl)

  module _ (begun : Step) (done : List Step) (within : n ≤ length steps) (last : IsLastAndRest (take n steps) begun done) where
    count : length done ≡ n - 1
    count = omega (arith, last.1, length-take-le n steps within)

    pub last-begun : step_begun time steps ≡ Some begun
    last-begun = subst (λ k. slice_get (take k steps) (k - 1) ≡ Some begun) e (ap (λ us. slice_get us (n - 1)) last.0 ∙ last-found done begun (n - 1) count)

    pub last-done : steps_done time steps ≡ done
    last-done =
        subst (λ k. take (k - 1) steps ≡ done) e
        (sym (ap (take (n - 1)) (take-append-drop n steps))
        ∙ take-append-le (n - 1) (take n steps) (drop n steps) (omega (arith, length-take-le n steps within))
        ∙ ap (take (n - 1)) last.0 ∙ take_at done (begun ∷ []) (n - 1) count)
