-- In which span of a row another lies, and what taking a span out of a row makes of it.
use Rattle.std.proofs.Common.{◌≡◌, ℕ, zero, suc, ◌+◌, ◌-◌, ◌<◌, ◌≤◌, max, min, List, [], ◌∷◌, ◌++◌, length, take, drop, refl, ap, sym, ◌∙◌, inl, inr, subst, arith}
use Rattle.std.proofs.lemmas.Bool.{cases_lt}
use Rattle.std.proofs.lemmas.List.{get_or_default}
use Rattle.std.specs.Prelude.{insert, remove, slice_set}
use Rattle.taxi_base.specs.declared.rows.Span.{Span}
use Rattle.taxi_base.specs.Windows.{AreApart}
use Rattle.interval_list.specs.Intervals.{span, before, behind, without_span, hull, with_span}
use Rattle.interval_list.proofs.Seconds.{before-yes, before-no, behind-yes, behind-no, without_span-after, with_span-stops, with_span-past, with_span-joins}
use Rattle.window_rows.proofs.RowLaws.{apart_at, apart_in_order}
use Rattle.window_store.specs.Kept.{LiesInOne}
use Rattle.window_store.specs.Rows.{no_span, AreOverBy, span_in, cut_in}

-- ---- in which span of a row another lies

-- it lies in one that begins no later and ends no sooner
pub lies-at : (row : List Span) (s : Span) (n : ℕ) → n < length row → (span_in row n).from ≤ s.from → s.until ≤ (span_in row n).until → LiesInOne row s
lies-at row s n on low high = (span_in row n, (n, on, get_or_default row n (span_in row n) no_span on), (low, high))

-- where it lies in one, that is the first that ends after it begins
pub lies-only-at : (row : List Span) (s : Span) (n : ℕ) → AreApart 0 row → AreOverBy row s.from n → s.from < s.until → LiesInOne row s
    → (n < length row) × ((span_in row n).from ≤ s.from) × (s.until ≤ (span_in row n).until)
lies-only-at row s n apart over some lies =
    let k = lies.1.0 in
    let on : k < length row = lies.1.1 in
    let same : span_in row k ≡ lies.0 = sym (get_or_default row k lies.0 no_span on) ∙ lies.1.2 in
    let low : (span_in row k).from ≤ s.from = subst (λ (x : Span). x.from ≤ s.from) (sym same) lies.2.0 in
    let high : s.until ≤ (span_in row k).until = subst (λ (x : Span). s.until ≤ x.until) (sym same) lies.2.1 in
    elim (cases_lt k n) [
      | inl below ↦ absurd (omega (arith, over.over k below))
      | inr from ↦ elim (cases_lt n k) [
        | inl after ↦ absurd (omega (arith, over.later n (omega arith) (omega arith), (apart_in_order 0 row apart n k after on).1))
        | inr until ↦
            let here : k ≡ n = omega arith in
            subst (λ (j : ℕ). (j < length row) × ((span_in row j).from ≤ s.from) × (s.until ≤ (span_in row j).until)) here (on, low, high)
      ]
    ]

-- ---- what taking a span out makes of a row

module _ (s : Span) (some : s.from < s.until) where
  -- one that ends before s stays
  without_over : (w : Span) (ws : List Span) → w.from < w.until → w.until ≤ s.from → without_span s (w ∷ ws) ≡ w ∷ without_span s ws
  without_over w ws whole over =
      let same : min w.until s.from ≡ w.until = omega (arith, over) in
      rw (before-yes s w (omega (arith, whole, over))) (rw (behind-no s w (omega (arith, over, some))) (λ k. span w.from (same k) ∷ without_span s ws))

  -- where all end before s, all stay
  pub without-over : (low : ℕ) (ws : List Span) → AreApart low ws → ((k : ℕ) → k < length ws → (span_in ws k).until ≤ s.from) → without_span s ws ≡ ws
  without-over low [] apart over = refl
  without-over low (w ∷ ws) apart over =
      without_over w ws apart.1 (over 0 (omega arith)) ∙ ap (λ zs. w ∷ zs) (without-over (w.until + 1) ws apart.2 (λ k on. over (suc k) (omega (arith, on))))

  without_rest : (w : Span) (ws : List Span) → AreApart (w.until + 1) ws → (0 < length ws → s.until ≤ (span_in ws 0).from) → without_span s ws ≡ ws
  without_rest w [] apart next = refl
  without_rest w (v ∷ vs) apart next = without_span-after s.until s (v ∷ vs) some (omega arith) (next (omega arith), apart.1, apart.2)

  -- where s meets one span at most, what is left of that one stands in its place
  pub without-one : (low : ℕ) (ws : List Span) (at : ℕ) → AreApart low ws → at < length ws → ((k : ℕ) → k < at → (span_in ws k).until ≤ s.from)
      → (suc at < length ws → s.until ≤ (span_in ws (suc at)).from) → without_span s ws ≡ cut_in ws at s
  without-one low [] at apart on over next = absurd (omega arith)
  without-one low (w ∷ ws) zero apart on over next = ap (λ zs. before s w ++ (behind s w ++ zs)) (without_rest w ws apart.2 (λ more. next (omega (arith, more))))
  without-one low (w ∷ ws) (suc at) apart on over next =
      without_over w ws apart.1 (over 0 (omega arith))
      ∙ ap (λ zs. w ∷ zs) (without-one (w.until + 1) ws at apart.2 (omega (arith, on)) (λ k below. over (suc k) (omega (arith, below))) (λ more. next (omega (arith, more))))

-- ---- the row with what is left of one span

set-split : {X : Type 0} (xs : List X) (at : ℕ) (x : X) → at < length xs → slice_set xs at x ≡ take at xs ++ x ∷ drop (suc at) xs
set-split [] at x on = absurd (omega arith)
set-split (y ∷ xs) zero x on = refl
set-split (y ∷ xs) (suc at) x on = ap (λ zs. y ∷ zs) (set-split xs at x (omega (arith, on)))

module _ (row : List Span) (at : ℕ) (s w : Span) (on : at < length row) (is : w ≡ span_in row at) where
  abbrev rest : List Span
  rest = drop (suc at) row

  pub cut-left : (x : Span) → w.from < s.from → w.until ≤ s.until → x ≡ span w.from (min w.until s.from) → slice_set row at x ≡ cut_in row at s
  cut-left x begins ends are =
      set-split row at x on
      ∙ ap (λ y. take at row ++ y ∷ rest) are
      ∙ sym (ap (λ zs. take at row ++ (zs ++ (behind s w ++ rest))) (before-yes s w begins) ∙ ap (λ zs. take at row ++ span w.from (min w.until s.from) ∷ (zs ++ rest)) (behind-no s w ends))
      ∙ ap (λ v. take at row ++ (before s v ++ (behind s v ++ rest))) is

  pub cut-right : (x : Span) → s.from ≤ w.from → s.until < w.until → x ≡ span (max w.from s.until) w.until → slice_set row at x ≡ cut_in row at s
  cut-right x begins ends are =
      set-split row at x on
      ∙ ap (λ y. take at row ++ y ∷ rest) are
      ∙ sym (ap (λ zs. take at row ++ (zs ++ (behind s w ++ rest))) (before-no s w begins) ∙ ap (λ zs. take at row ++ (zs ++ rest)) (behind-yes s w ends))
      ∙ ap (λ v. take at row ++ (before s v ++ (behind s v ++ rest))) is

-- ---- what putting a span in makes of a row

-- where it neither meets nor touches the first, it stands before all
with_span-first : (s : Span) (ws : List Span) → (0 < length ws → s.until < (span_in ws 0).from) → with_span s ws ≡ s ∷ ws
with_span-first s [] next = refl
with_span-first s (w ∷ ws) next = with_span-stops s w ws (next (omega arith))

module _ (s : Span) (some : s.from < s.until) where
  with_past : (w : Span) (ws : List Span) → w.from < w.until → w.until < s.from → with_span s (w ∷ ws) ≡ w ∷ with_span s ws
  with_past w ws whole past = with_span-past s w ws (omega (arith, whole, past, some)) past

  -- those that end by the second before s end before s, since none is empty
  pub past-of : (ws : List Span) (second at : ℕ) → AreApart 0 ws → second ≡ s.from - 1 → AreOverBy ws second at
      → ((k : ℕ) → k < at → (span_in ws k).until < s.from) × (at < length ws → s.from ≤ (span_in ws at).until)
  past-of ws second at apart before over = (
    λ k below. omega (arith, over.over k below, before, (apart_at 0 ws apart k (omega (arith, below, over.few))).1),
    λ on. omega (arith, over.later at (omega arith) on, before),
  )

  -- where it touches none
  pub with-gap : (low : ℕ) (ws : List Span) (at : ℕ) → AreApart low ws → at ≤ length ws → ((k : ℕ) → k < at → (span_in ws k).until < s.from)
      → (at < length ws → s.until < (span_in ws at).from) → with_span s ws ≡ insert ws at s
  with-gap low ws zero apart on past next = with_span-first s ws next
  with-gap low [] (suc at) apart on past next = absurd (omega arith)
  with-gap low (w ∷ ws) (suc at) apart on past next =
      with_past w ws apart.1 (past 0 (omega arith))
      ∙ ap (λ zs. w ∷ zs) (with-gap (w.until + 1) ws at apart.2 (omega (arith, on)) (λ k below. past (suc k) (omega (arith, below))) (λ more. next (omega (arith, more))))

  -- where it is joined with one
  pub with-one : (low : ℕ) (ws : List Span) (at : ℕ) → AreApart low ws → at < length ws → ((k : ℕ) → k < at → (span_in ws k).until < s.from)
      → s.from ≤ (span_in ws at).until → (span_in ws at).from ≤ s.until → (suc at < length ws → s.until < (span_in ws (suc at)).from)
      → with_span s ws ≡ slice_set ws at (hull s (span_in ws at))
  with-one low [] at apart on past ends begins next = absurd (omega arith)
  with-one low (w ∷ ws) zero apart on past ends begins next =
      with_span-joins s w ws begins ends
      ∙ with_span-first (hull s w) ws (λ more. omega (arith, next (omega (arith, more)), (apart_at (w.until + 1) ws apart.2 0 more).0))
  with-one low (w ∷ ws) (suc at) apart on past ends begins next =
      with_past w ws apart.1 (past 0 (omega arith))
      ∙ ap (λ zs. w ∷ zs) (with-one (w.until + 1) ws at apart.2 (omega (arith, on)) (λ k below. past (suc k) (omega (arith, below))) ends begins (λ more. next (omega (arith, more))))

  -- where it is joined with two
  pub with-two : (low : ℕ) (ws : List Span) (at : ℕ) → AreApart low ws → suc at < length ws → ((k : ℕ) → k < at → (span_in ws k).until < s.from)
      → s.from ≤ (span_in ws at).until → (span_in ws (suc at)).from ≤ s.until → (suc (suc at) < length ws → s.until < (span_in ws (suc (suc at))).from)
      → with_span s ws ≡ slice_set (remove ws (suc at)) at (hull (hull s (span_in ws at)) (span_in ws (suc at)))
  with-two low [] at apart on past ends begins next = absurd (omega arith)
  with-two low (w ∷ []) at apart on past ends begins next = absurd (omega (arith, on))
  with-two low (w ∷ v ∷ ws) zero apart on past ends begins next =
      with_span-joins s w (v ∷ ws) (omega (arith, begins, apart.1, apart.2.0)) ends
      ∙ with_span-joins (hull s w) v ws (omega (arith, begins)) (omega (arith, apart.1, apart.2.0, apart.2.1))
      ∙ with_span-first (hull (hull s w) v) ws (λ more. omega (arith, next (omega (arith, more)), apart.2.0, apart.2.1, (apart_at (v.until + 1) ws apart.2.2 0 more).0))
  with-two low (w ∷ v ∷ ws) (suc at) apart on past ends begins next =
      with_past w (v ∷ ws) apart.1 (past 0 (omega arith))
      ∙ ap (λ zs. w ∷ zs) (with-two (w.until + 1) (v ∷ ws) at apart.2 (omega (arith, on)) (λ k below. past (suc k) (omega (arith, below))) ends begins (λ more. next (omega (arith, more))))
