-- After an offer a label still says why.
use Rattle.std.proofs.Common.{◌≡◌, ℕ, Option, Some, subst, inl, inr}
use Rattle.label_core.specs.Labels.{IsExpansion}
use Rattle.label_search.specs.declared.labels.Label.{Label}
use Rattle.label_search.specs.Problem.{Problem}
use Rattle.label_search.specs.Labels.{IsOffered}
use Rattle.label_search.specs.Labels.IsOffered.{first, lower, kept}
use Rattle.label_search.specs.Expanding.{label_by}
use Rattle.label_search.specs.Standing.{IsTraced}

-- cell c with value k is one more row
module _ (p : Problem) (c k : ℕ) (Old New : ℕ → ℕ → Type 0) (here : New c k) (kept_row : (x u : ℕ) → Old x u → New x u) where
  pub traced_still : (d : ℕ) (label : Label) → IsTraced p Old d label → IsTraced p New d label
  traced_still d label (inl start) = inl start
  traced_still d label (inr (w, row, e)) = inr (w, kept_row label.via w row, e)

  pub traced_offered : (d t : ℕ) → IsExpansion p.network c k d t → {l m : Option Label} {i j : Option ℕ} → IsOffered (label_by c t) l i m j
      → ((o : Label) → l ≡ Some o → IsTraced p Old d o) → (n : Label) → m ≡ Some n → IsTraced p New d n
  traced_offered d t e (first key) traced n is =
      let some : Some (label_by c t) ≡ Some n = is in
      let same : label_by c t ≡ n = cc in
      subst (λ y. IsTraced p New d y) same (inr (k, here, e))
  traced_offered d t e (lower old key less) traced n is =
      let some : Some (label_by c t) ≡ Some n = is in
      let same : label_by c t ≡ n = cc in
      subst (λ y. IsTraced p New d y) same (inr (k, here, e))
  traced_offered d t e (kept old key by) traced n is = traced_still d n (traced n is)
