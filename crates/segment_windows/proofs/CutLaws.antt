-- Where a span is cut out of windows that lie apart, what is left lies apart, and has just the other seconds.
use Rattle.std.proofs.Common.{◌≡◌, ℕ, ◌+◌, ◌<◌, ◌≤◌, Bool, true, false, ◌&&◌, ◌||◌, not, get_or, set, take, drop, suc, List, [], ◌∷◌, ◌++◌, length, All, max, min, refl, sym, ◌∙◌, ap, subst, arith}
use Rattle.std.specs.Prelude.{nat_lt, nat_le}
use Rattle.std.specs.List.{insert}
use Rattle.std.specs.List.Sorted.{IsPartitionPoint}
use Rattle.std.proofs.lemmas.Bool.{cond_both, ltb-true, ltb-false, lt-ltb}
use Rattle.std.proofs.lemmas.Bool.Decides.{nat_tests}
use Rattle.std.proofs.lemmas.List.{append_assoc, take-append-drop, take_more, drop_more, set_split, take-set, drop-set, take_at, drop_at, get_or_at, get_or-take, get_or-drop, get_or_default, length-take, length-drop, length-append}
use Rattle.std.proofs.lemmas.List.Folds.{list_any-append}
use Rattle.taxi_base.specs.declared.rows.Span.{Span}
use Rattle.taxi_base.specs.Windows.{span_has, covers, AreApart}
use Rattle.taxi_base.proofs.WindowsMade.{AreApart-lower}
use Rattle.segment_windows.specs.Gaps.{gap}
use Rattle.segment_windows.specs.Cuts.{AreCut, parts_of, cut_out}
use Rattle.segment_windows.proofs.GapLaws.{gap-covers}
use Rattle.segment_windows.proofs.ApartLaws.{apart-some, apart-ends_ordered}

-- ---- they lie apart

-- a span behind a second, and then others
gap-behind : (low from until next : ℕ) (ws : List Span) → low ≤ from → low ≤ next → until + 1 ≤ next → AreApart next ws → AreApart low (gap from until ++ ws)
gap-behind low from until next ws first over high apart =
    cond_both (nat_lt from until) (record { from = from; until = until } ∷ []) [] (λ g. AreApart low (g ++ ws))
    (λ some. (first, ltb-true from until some, AreApart-lower (until + 1) next ws high apart))
    (λ none. AreApart-lower low next ws over apart)

pub cut-apart : (span : Span) → span.from < span.until → (low : ℕ) (ws : List Span) → AreApart low ws → AreApart low (cut_out span ws)
cut-apart span some low [] apart = tt
cut-apart span some low (w ∷ ws) apart =
    let rest = cut-apart span some (w.until + 1) ws apart.2 in
    let first = min w.until span.from in
    let second = max w.from span.until in
    let behind = gap-behind (max (first + 1) w.from) second w.until (w.until + 1) (cut_out span ws) (omega (arith, some)) (omega (arith, apart.1)) (omega arith) rest in
    subst (AreApart low) (sym (append_assoc (gap w.from first) (gap second w.until) (cut_out span ws)))
    (gap-behind low w.from first (max (first + 1) w.from) (gap second w.until ++ cut_out span ws) apart.0 (omega (arith, apart.0)) (omega arith) behind)

-- ---- they have the other seconds

part-has : (wf wu sf su t : ℕ) (later : Bool) → sf < su
    → ((nat_le wf t && nat_lt t (min wu sf)) || ((nat_le (max wf su) t && nat_lt t wu) || (later && not (nat_le sf t && nat_lt t su)))) ≡ (((nat_le wf t && nat_lt t wu) || later) && not (nat_le sf t && nat_lt t su))
part-has wf wu sf su t later some = grind (arith, nat_tests)

pub cut-covers : (span : Span) → span.from < span.until → (t : ℕ) (ws : List Span) → covers (cut_out span ws) t ≡ (covers ws t && not (span_has span t))
cut-covers span some t [] = refl
cut-covers span some t (w ∷ ws) =
    let first = gap w.from (min w.until span.from) in
    let second = gap (max w.from span.until) w.until in
    ap (λ l. covers l t) (append_assoc first second (cut_out span ws))
    ∙ list_any-append (λ v. span_has v t) first (second ++ cut_out span ws)
    ∙ rw (list_any-append (λ v. span_has v t) second (cut_out span ws), gap-covers w.from (min w.until span.from) t, gap-covers (max w.from span.until) w.until t, cut-covers span some t ws)
    (part-has w.from w.until span.from span.until t (covers ws t) some)

-- ---- windows that the span does not touch stay

-- a window is over by a second, or begins from one on
abbrev pub IsOver : ℕ → Span → Type 0
IsOver t w = (w.from < w.until) × (w.until ≤ t)

abbrev pub IsBehind : ℕ → Span → Type 0
IsBehind t w = (w.from < w.until) × (t ≤ w.from)

pub gap-some : (from until : ℕ) → from < until → gap from until ≡ record { from = from; until = until } ∷ []
gap-some from until some = rw (lt-ltb from until some) refl

gap-none : (from until : ℕ) → until ≤ from → gap from until ≡ []
gap-none from until none =
    cond_both (nat_lt from until) (record { from = from; until = until } ∷ []) [] (λ g. g ≡ [])
    (λ some. absurd (omega (arith, none, ltb-true from until some))) (λ _. refl)

part-over : (span w : Span) → span.from < span.until → IsOver span.from w → parts_of span w ≡ w ∷ []
part-over span w some over =
    let e : min w.until span.from ≡ w.until = omega (arith, over.1) in
    rw (e, gap-some w.from w.until over.0, gap-none (max w.from span.until) w.until (omega (arith, over.1, some))) refl

part-behind : (span w : Span) → span.from < span.until → IsBehind span.until w → parts_of span w ≡ w ∷ []
part-behind span w some behind =
    let e : max w.from span.until ≡ w.from = omega (arith, behind.1) in
    rw (e, gap-some w.from w.until behind.0, gap-none w.from (min w.until span.from) (omega (arith, behind.1, some))) refl

cut-kept : (P : Span → Type 0) (span : Span) → ((w : Span) → P w → parts_of span w ≡ w ∷ []) → (ws : List Span) → All P ws → cut_out span ws ≡ ws
cut-kept P span kept [] all = refl
cut-kept P span kept (w ∷ ws) all = rw (kept w (all 0 w (omega arith)), cut-kept P span kept ws (λ k d on. all (suc k) d (omega arith))) refl

pub cut-over : (span : Span) → span.from < span.until → (ws : List Span) → All (IsOver span.from) ws → cut_out span ws ≡ ws
cut-over span some = cut-kept (IsOver span.from) span (λ w over. part-over span w some over)

pub cut-behind : (span : Span) → span.from < span.until → (ws : List Span) → All (IsBehind span.until) ws → cut_out span ws ≡ ws
cut-behind span some = cut-kept (IsBehind span.until) span (λ w behind. part-behind span w some behind)

pub cut-append : (span : Span) (ws vs : List Span) → cut_out span (ws ++ vs) ≡ cut_out span ws ++ cut_out span vs
cut-append span [] vs = refl
cut-append span (w ∷ ws) vs = ap (λ l. parts_of span w ++ l) (cut-append span ws vs) ∙ sym (append_assoc (parts_of span w) (cut_out span ws) (cut_out span vs))

pub set-parts : (ws : List Span) (place : ℕ) (x : Span) → place < length ws → set ws place x ≡ take place ws ++ x ∷ drop (place + 1) ws
set-parts ws place x on = let e : suc place ≡ place + 1 = omega arith in set_split ws place x on ∙ ap (λ n. take place ws ++ x ∷ drop n ws) e

-- ---- a window that the span touches

module _ (span w : Span) (some : span.from < span.until) (early : w.from < span.until) (late : span.from < w.until) where
  abbrev before : Span
  before = record { from = w.from; until = span.from }

  abbrev after : Span
  after = record { from = span.until; until = w.until }

  first-is : gap w.from (min w.until span.from) ≡ gap w.from span.from
  first-is = let e : min w.until span.from ≡ span.from = omega (arith, late) in rw e refl

  second-is : gap (max w.from span.until) w.until ≡ gap span.until w.until
  second-is = let e : max w.from span.until ≡ span.until = omega (arith, early) in rw e refl

  pub parts-both : w.from < span.from → span.until < w.until → parts_of span w ≡ before ∷ after ∷ []
  parts-both low high = rw (first-is, second-is, gap-some w.from span.from low, gap-some span.until w.until high) refl

  pub parts-before : w.from < span.from → w.until ≤ span.until → parts_of span w ≡ before ∷ []
  parts-before low high = rw (first-is, second-is, gap-some w.from span.from low, gap-none span.until w.until high) refl

  -- nothing is left before the span
  pub list-after : span.from ≤ w.from → parts_of span w ≡ gap after.from after.until
  list-after low = rw (first-is, second-is, gap-none w.from span.from low) refl

  -- ---- the same in its place in a list

  module _ (ws : List Span) (place : ℕ) (on : place < length ws) where
    pub list-both : w.from < span.from → span.until < w.until → insert (set ws place after) place before ≡ take place ws ++ (parts_of span w ++ drop (place + 1) ws)
    list-both low high = rw (parts-both low high, take-set ws place after, drop-set ws place after on) refl

    pub list-before : w.from < span.from → w.until ≤ span.until → set ws place before ≡ take place ws ++ (parts_of span w ++ drop (place + 1) ws)
    list-before low high = rw (parts-before low high, set-parts ws place before on) refl

-- ---- from the last window on

module _ (span : Span) (some : span.from < span.until) (ws : List Span) (apart : AreApart 0 ws) where
  -- none of those behind is touched
  pub cut-begins : (begun : ℕ) → IsPartitionPoint (λ (w : Span). nat_lt w.from span.until ≡ true) (λ w. nat_lt w.from span.until ≡ false) ws begun
      → ws ≡ take begun ws ++ cut_out span (drop begun ws)
  cut-begins begun point =
      sym (take-append-drop begun ws) ∙ ap (λ l. take begun ws ++ l) (sym (cut-behind span some (drop begun ws) (λ k d on.
      let inside : begun + k < length ws = omega (arith, on, length-drop begun ws) in
      subst (IsBehind span.until) (sym (get_or-drop begun ws k d))
      (apart-some 0 ws apart (begun + k) d inside, ltb-false (get_or ws (begun + k) d).from span.until (point.1 (begun + k) d (omega arith) inside)))))

  -- one more window is cut
  pub cut-more : (place : ℕ) (now : List Span) → place < length ws → now ≡ take (place + 1) ws ++ cut_out span (drop (place + 1) ws)
      → (get_or now place span ≡ get_or ws place span) × (take place now ++ (parts_of span (get_or now place span) ++ drop (place + 1) now) ≡ take place ws ++ cut_out span (drop place ws))
  cut-more place now on is =
      let rest = cut_out span (drop (place + 1) ws) in
      let here = get_or ws place span in
      let low : length (take place ws) ≡ place = omega (arith, on, length-take place ws) in
      let long : length (take (place + 1) ws) ≡ place + 1 = omega (arith, on, length-take (place + 1) ws) in
      let split : now ≡ take place ws ++ here ∷ rest = is ∙ ap (λ l. l ++ rest) (take_more ws place span on) ∙ append_assoc (take place ws) (here ∷ []) rest in
      let at : get_or now place span ≡ here = ap (λ l. get_or l place span) split ∙ get_or_at (take place ws) here rest span place low in
      let front : take place now ≡ take place ws = ap (take place) split ∙ take_at (take place ws) (here ∷ rest) place low in
      let back : drop (place + 1) now ≡ rest = ap (drop (place + 1)) is ∙ drop_at (take (place + 1) ws) rest (place + 1) long in
      (at, rw (front, back, at, drop_more ws place span on) refl)

  pub cut-on : (place : ℕ) (now : List Span) → place < length ws → now ≡ take (place + 1) ws ++ cut_out span (drop (place + 1) ws) → place < length now
  cut-on place now on is = omega (arith, on, ap (λ l. length l) is, length-append (take (place + 1) ws) (cut_out span (drop (place + 1) ws)), length-take (place + 1) ws)

  -- those before a window that is over are over too
  pub cut-done : (place : ℕ) (now : List Span) → place < length ws → now ≡ take (place + 1) ws ++ cut_out span (drop (place + 1) ws) → (get_or ws place span).until ≤ span.from → now ≡ cut_out span ws
  cut-done place now on is over =
      let front : cut_out span (take (place + 1) ws) ≡ take (place + 1) ws = cut-over span some (take (place + 1) ws) (λ k d low.
      let before : k < place + 1 = omega (arith, low, length-take (place + 1) ws) in
      let at_place = subst (λ (v : Span). v.until ≤ span.from) (get_or_default ws place span d on) over in
      subst (IsOver span.from) (sym (get_or-take (place + 1) ws k d before))
      (apart-some 0 ws apart k d (omega (arith, on)), omega (arith, at_place, apart-ends_ordered ws apart k place d (omega (arith, before)) on))) in
      is ∙ ap (λ l. l ++ cut_out span (drop (place + 1) ws)) (sym front) ∙ sym (cut-append span (take (place + 1) ws) (drop (place + 1) ws)) ∙ ap (cut_out span) (take-append-drop (place + 1) ws)

-- what is left has the other seconds, and lies apart
pub cut-is : (span : Span) (old new : List Span) → span.from < span.until → AreApart 0 old → new ≡ cut_out span old → AreCut true span old new
cut-is span old new some apart is = record {
  apart = subst (AreApart 0) (sym is) (cut-apart span some 0 old apart);
  seconds = λ t. ap (λ l. covers l t) is ∙ cut-covers span some t old;
}

-- a span without a second takes none
pub cut-empty : (span : Span) (old : List Span) → span.until ≤ span.from → AreApart 0 old → AreCut true span old old
cut-empty span old none apart = record { apart = apart; seconds = λ t. same t (covers old t) } where
  same : (t : ℕ) (b : Bool) → b ≡ (b && not (nat_le span.from t && nat_lt t span.until))
  same t b = grind (arith, nat_tests)
