-- How far an edit has come: what stands before the place, and what is still to be made of what stands behind it.
use Rattle.std.proofs.Common.{◌≡◌, ℕ, suc, ◌+◌, ◌<◌, ◌≤◌, List, [], ◌∷◌, ◌++◌, length, take, drop, sym, ap, ◌∙◌, subst, arith}
use Rattle.std.proofs.lemmas.List.{length-append}
use Rattle.taxi_base.specs.declared.rows.Span.{Span}
use Rattle.taxi_base.specs.Windows.{AreApart}
use Rattle.interval_list.specs.declared.window.Window.{Window}
use Rattle.interval_list.specs.Cells.{no_window}
use Rattle.interval_list.specs.Edits.{inserted, removed, item}
use Rattle.interval_list.specs.Intervals.{span_of, spans_of, hull}
use Rattle.interval_list.specs.Steps.{window, top, below_top, cut_window, cut_spare, cut, merged, HasRoomToCut, HasRoomToMerge}
use Rattle.interval_list.proofs.Cuts.{room-split, room-rest, cut-after, merged-stops, merged-past, merged-joins, room-past, room-join, room-stop, length-cut_window}
use Rattle.interval_list.proofs.Edited.{drop-item, take-item, take-pieces, drop-pieces, take-removed, drop-removed, drop-end, take_drop, append-again, inserted-split, length-take_within}

-- ---- a span is taken out

module _ (s : Span) (ws₀ : List Window) (ss₀ : List ℕ) where
  abbrev pub StillToCut : List Window → List Window → List ℕ → Type 0
  StillToCut front rest ss =
      (front ++ (cut s rest ss).0 ≡ (cut s ws₀ ss₀).0) × ((cut s rest ss).1 ≡ (cut s ws₀ ss₀).1) × ((low : ℕ) × AreApart low (spans_of rest)) × HasRoomToCut s rest ss

  abbrev pub IsCutting : List Window → List ℕ → ℕ → Type 0
  IsCutting ws ss i = StillToCut (take i ws) (drop i ws) ss

  module _ (ws : List Window) (ss : List ℕ) (i : ℕ) (some : s.from < s.until) (cutting : IsCutting ws ss i) where
    abbrev here : Window
    here = item no_window ws i

    at_window : i < length ws → StillToCut (take i ws) (here ∷ drop (suc i) ws) ss
    at_window within = subst (λ rest. StillToCut (take i ws) rest ss) (drop-item no_window ws i within) cutting

    pub cut-spare : i < length ws → here.from < s.from → s.until < here.until → 0 < length ss
    cut-spare within l r = let now = at_window within in room-split s here (drop (suc i) ws) now.2.0 ss some now.2.1 now.3 l r

    pub cut-on : (ws' : List Window) (ss' : List ℕ) (i' : ℕ) → i < length ws → ws' ≡ take i ws ++ (cut_window s here ss ++ drop (i + 1) ws) → ss' ≡ cut_spare s here ss
        → i' ≡ i + length (cut_window s here ss) → IsCutting ws' ss' i'
    cut-on ws' ss' i' within wrote used stands =
        let now = at_window within in let rest = drop (suc i) ws in let pieces = cut_window s here ss in
        let on : i + 1 ≡ suc i = omega arith in
        let wrote' : ws' ≡ take i ws ++ (pieces ++ rest) = subst (λ k. ws' ≡ take i ws ++ (pieces ++ drop k ws)) on wrote in
        let front : take i' ws' ≡ take i ws ++ pieces = (λ k. take (stands k) (wrote' k)) ∙ take-pieces ws pieces rest i (omega (arith, within)) in
        let back : drop i' ws' ≡ rest = (λ k. drop (stands k) (wrote' k)) ∙ drop-pieces ws pieces rest i (omega (arith, within)) in
        let next : StillToCut (take i ws ++ pieces) rest (cut_spare s here ss) = (
          append-again (take i ws) pieces (cut s rest (cut_spare s here ss)).0 ∙ now.0,
          now.1,
          (here.until + 1, now.2.1.2),
          room-rest s here rest now.2.0 ss some now.2.1 now.3,
        ) in
        subst (λ (p : List Window × List Window × List ℕ). StillToCut p.0 p.1 p.2) (λ k. (sym front k, sym back k, sym used k)) next

    -- how many windows stand before the place that the cutting goes on at, and how many behind it
    pub cut-lengths : (ws' : List Window) (i' : ℕ) → i < length ws → ws' ≡ take i ws ++ (cut_window s here ss ++ drop (i + 1) ws) → i' ≡ i + length (cut_window s here ss)
        → (length ws' ≡ i' + length (drop (suc i) ws)) × (length ws ≡ i + 1 + length (drop (suc i) ws)) × (length (cut_window s here ss) + length (cut_spare s here ss) ≡ 1 + length ss)
    cut-lengths ws' i' within wrote stands =
        let rest = drop (suc i) ws in let pieces = cut_window s here ss in
        let on : i + 1 ≡ suc i = omega arith in
        let wrote' : ws' ≡ take i ws ++ (pieces ++ rest) = subst (λ k. ws' ≡ take i ws ++ (pieces ++ drop k ws)) on wrote in
        let all : ws ≡ take i ws ++ here ∷ rest = sym (take_drop ws i) ∙ ap (λ zs. take i ws ++ zs) (drop-item no_window ws i within) in
        let front = length-take_within ws i (omega (arith, within)) in (
          omega (arith, ap length wrote', front, stands, length-append (take i ws) (pieces ++ rest), length-append pieces rest),
          omega (arith, ap length all, front, length-append (take i ws) (here ∷ rest)),
          length-cut_window s here ss (cut-spare within),
        )

    pub cut-stops : i < length ws → s.until ≤ here.from → (ws ≡ (cut s ws₀ ss₀).0) × (ss ≡ (cut s ws₀ ss₀).1)
    cut-stops within past =
        let now = at_window within in let rest = drop (suc i) ws in
        let apart : AreApart here.from (spans_of (here ∷ rest)) = (omega arith, now.2.1.1, now.2.1.2) in
        let same : cut s (here ∷ rest) ss ≡ (here ∷ rest, ss) = cut-after s (here ∷ rest) ss here.from some past apart in
        let all : take i ws ++ (here ∷ rest) ≡ ws = ap (λ zs. take i ws ++ zs) (sym (drop-item no_window ws i within)) ∙ take_drop ws i in
        (sym all ∙ ap (λ (r : List Window × List ℕ). take i ws ++ r.0) (sym same) ∙ now.0, ap (λ (r : List Window × List ℕ). r.1) (sym same) ∙ now.1)

-- ---- a span is given back

module _ (ws₀ : List Window) (ss₀ : List ℕ) (whole : List Window × List ℕ) where
  abbrev pub StillToMerge : Span → List Window → List Window → List ℕ → Type 0
  StillToMerge s front rest ss = (front ++ (merged s rest ss).0 ≡ whole.0) × ((merged s rest ss).1 ≡ whole.1) × HasRoomToMerge s rest ss

  abbrev pub IsMerging : Span → List Window → List ℕ → ℕ → Type 0
  IsMerging s ws ss i = StillToMerge s (take i ws) (drop i ws) ss

  module _ (s : Span) (ws : List Window) (ss : List ℕ) (i : ℕ) (merging : IsMerging s ws ss i) where
    abbrev this : Window
    this = item no_window ws i

    at_this : i < length ws → StillToMerge s (take i ws) (this ∷ drop (suc i) ws) ss
    at_this within = subst (λ rest. StillToMerge s (take i ws) rest ss) (drop-item no_window ws i within) merging

    pub merge-past : i < length ws → this.from ≤ s.until → this.until < s.from → IsMerging s ws ss (i + 1)
    merge-past within near past =
        let now = at_this within in let rest = drop (suc i) ws in
        let on : suc i ≡ i + 1 = omega arith in
        let step = merged-past s this rest ss near past in
        let next : StillToMerge s (take i ws ++ this ∷ []) rest ss = (
          append-again (take i ws) (this ∷ []) (merged s rest ss).0 ∙ ap (λ (r : List Window × List ℕ). take i ws ++ r.0) (sym step) ∙ now.0,
          ap (λ (r : List Window × List ℕ). r.1) (sym step) ∙ now.1,
          room-past s this rest ss near past now.2,
        ) in
        subst (λ k. IsMerging s ws ss k) on (subst (λ front. StillToMerge s front rest ss) (sym (take-item no_window ws i within)) next)

    pub merge-join : (s' : Span) (ws' : List Window) (ss' : List ℕ) → i < length ws → this.from ≤ s.until → s.from ≤ this.until
        → s' ≡ hull s (span_of this) → ws' ≡ removed ws i → ss' ≡ this.id ∷ ss → IsMerging s' ws' ss' i
    merge-join s' ws' ss' within near low hulls went used =
        let now = at_this within in let rest = drop (suc i) ws in
        let step = merged-joins s this rest ss near low in
        let front : take i ws' ≡ take i ws = ap (take i) went ∙ take-removed ws i in
        let back : drop i ws' ≡ rest = ap (drop i) went ∙ drop-removed ws i within in
        let next : StillToMerge (hull s (span_of this)) (take i ws) rest (this.id ∷ ss) = (
          ap (λ (r : List Window × List ℕ). take i ws ++ r.0) (sym step) ∙ now.0,
          ap (λ (r : List Window × List ℕ). r.1) (sym step) ∙ now.1,
          room-join s this rest ss near low now.2,
        ) in
        subst (λ (p : Span × List Window × List Window × List ℕ). StillToMerge p.0 p.1 p.2 p.3) (λ k. (sym hulls k, sym front k, sym back k, sym used k)) next

    -- the window to be made stands in the gap, and has a node
    pub merge-stops : i < length ws → s.until < this.from → (whole.0 ≡ inserted ws i (window s.from s.until (top ss))) × (whole.1 ≡ below_top ss) × (0 < length ss)
    merge-stops within stop =
        let now = at_this within in let rest = drop (suc i) ws in
        let step = merged-stops s this rest ss stop in
        let made : Window = window s.from s.until (top ss) in
        let place : inserted ws i made ≡ take i ws ++ made ∷ this ∷ rest = inserted-split ws i made (omega (arith, within)) ∙ ap (λ zs. take i ws ++ made ∷ zs) (drop-item no_window ws i within) in (
          sym now.0 ∙ ap (λ (r : List Window × List ℕ). take i ws ++ r.0) step ∙ sym place,
          sym now.1 ∙ ap (λ (r : List Window × List ℕ). r.1) step,
          room-stop s this rest ss stop now.2,
        )

    pub merge-ends : i ≡ length ws → (whole.0 ≡ inserted ws i (window s.from s.until (top ss))) × (whole.1 ≡ below_top ss) × (0 < length ss)
    merge-ends past =
        let end : drop i ws ≡ [] = drop-end ws i (omega (arith, past)) in
        let now : StillToMerge s (take i ws) [] ss = subst (λ rest. StillToMerge s (take i ws) rest ss) end merging in
        let made : Window = window s.from s.until (top ss) in
        let place : inserted ws i made ≡ take i ws ++ made ∷ [] = inserted-split ws i made (omega (arith, past)) ∙ ap (λ zs. take i ws ++ made ∷ zs) end in
        (sym now.0 ∙ sym place, sym now.1, omega (arith, now.2))
