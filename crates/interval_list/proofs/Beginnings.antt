-- Taking seconds out and giving them back may begin at a later window, where those before are over.
use Rattle.std.proofs.Common.{◌≡◌, ℕ, zero, suc, ◌+◌, ◌-◌, ◌<◌, ◌≤◌, inl, List, [], ◌∷◌, ◌++◌, length, refl, sym, ap, ◌∙◌, subst, arith}
use Rattle.taxi_base.specs.declared.rows.Span.{Span}
use Rattle.taxi_base.specs.Windows.{AreApart}
use Rattle.interval_list.specs.declared.window.Window.{Window}
use Rattle.interval_list.specs.Cells.{no_window}
use Rattle.interval_list.specs.Edits.{item}
use Rattle.interval_list.specs.Intervals.{spans_of}
use Rattle.interval_list.specs.Steps.{cut_window, cut_spare, cut, merged, HasRoomToCut, HasRoomToMerge}
use Rattle.interval_list.proofs.Cuts.{cut_window-away, cut_left, room-rest, merged-past, room-past}
use Rattle.interval_list.proofs.Progress.{IsCutting, IsMerging}

-- no later window ends sooner than the first
first_sooner : (low : ℕ) (w : Window) (ws : List Window) → AreApart low (spans_of (w ∷ ws)) → (i : ℕ) → i < length (w ∷ ws) → w.until ≤ (item no_window (w ∷ ws) i).until
first_sooner low w ws apart zero on = omega arith
first_sooner low w [] apart (suc i) on = absurd (omega (arith, on))
first_sooner low w (v ∷ vs) apart (suc i) on = omega (arith, apart.2.0, apart.2.1, first_sooner (w.until + 1) v vs apart.2 i (omega (arith, on)))

module _ (s : Span) (some : s.from < s.until) where
  pub cut-begins : (low : ℕ) (ws : List Window) (ss : List ℕ) (i : ℕ) → AreApart low (spans_of ws) → HasRoomToCut s ws ss → i ≤ length ws
      → ((n : ℕ) → i ≡ suc n → (item no_window ws n).until ≤ s.from) → IsCutting s ws ss ws ss i
  cut-begins low ws ss zero apart room on over = (refl, refl, (low, apart), room)
  cut-begins low [] ss (suc i) apart room on over = absurd (omega (arith, on))
  cut-begins low (w ∷ ws) ss (suc i) apart room on over =
      let past : w.until ≤ s.from = omega (arith, over i refl, first_sooner low w ws apart i (omega (arith, on))) in
      let here : cut_window s w ss ≡ w ∷ [] = cut_window-away s w ss some apart.1 (inl past) in
      let spare : cut_spare s w ss ≡ ss = (cut_left s w ss (omega (arith, past, apart.1)) (omega (arith, past, some))).1 in
      let whole : cut s (w ∷ ws) ss ≡ (w ∷ (cut s ws ss).0, (cut s ws ss).1) = λ k. (here k ++ (cut s ws (spare k)).0, (cut s ws (spare k)).1) in
      let rest = cut-begins (w.until + 1) ws ss i apart.2 (subst (λ (zs : List ℕ). HasRoomToCut s ws zs) spare (room-rest s w ws low ss some apart room)) (omega (arith, on)) (λ n e. subst (λ k. (item no_window (w ∷ ws) k).until ≤ s.from) e (over i refl)) in
      (ap (λ zs. w ∷ zs) rest.0 ∙ sym (ap (λ p. p.0) whole), rest.1 ∙ sym (ap (λ p. p.1) whole), rest.2, rest.3)

  pub merge-begins : (low : ℕ) (ws : List Window) (ss : List ℕ) (i : ℕ) → AreApart low (spans_of ws) → HasRoomToMerge s ws ss → i ≤ length ws
      → ((n : ℕ) → i ≡ suc n → (item no_window ws n).until ≤ s.from - 1) → IsMerging ws ss (merged s ws ss) s ws ss i
  merge-begins low ws ss zero apart room on over = (refl, refl, room)
  merge-begins low [] ss (suc i) apart room on over = absurd (omega (arith, on))
  merge-begins low (w ∷ ws) ss (suc i) apart room on over =
      let past : w.until < s.from = omega (arith, over i refl, first_sooner low w ws apart i (omega (arith, on)), apart.1) in
      let near : w.from ≤ s.until = omega (arith, past, apart.1, some) in
      let whole : merged s (w ∷ ws) ss ≡ (w ∷ (merged s ws ss).0, (merged s ws ss).1) = merged-past s w ws ss near past in
      let rest = merge-begins (w.until + 1) ws ss i apart.2 (room-past s w ws ss near past room) (omega (arith, on)) (λ n e. subst (λ k. (item no_window (w ∷ ws) k).until ≤ s.from - 1) e (over i refl)) in
      (ap (λ zs. w ∷ zs) rest.0 ∙ sym (ap (λ p. p.0) whole), rest.1 ∙ sym (ap (λ p. p.1) whole), rest.2)
