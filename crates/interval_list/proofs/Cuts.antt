-- What an edit's steps through a list come to: the spans, the ids, the windows that stay, and how many there are.
use Rattle.std.proofs.Common.{◌≡◌, ℕ, suc, ◌+◌, ◌<◌, ◌≤◌, max, min, inl, inr, ◌⊎◌, List, [], ◌∷◌, ◌++◌, length, refl, sym, ap, ◌∙◌, subst, arith}
use Rattle.std.specs.Prelude.{nat_lt, Contains}
use Rattle.std.proofs.lemmas.Bool.{cases_lt, cond-true, cond-false, lt-ltb, le-ltb}
use Rattle.std.proofs.lemmas.List.{length-append}
use Rattle.std.proofs.lemmas.List.Elements.{Contains-append_left, Contains-append_right}
use Rattle.taxi_base.specs.declared.rows.Span.{Span}
use Rattle.taxi_base.specs.Windows.{AreApart}
use Rattle.taxi_base.proofs.ListLaws.{Contains-cons_cases, Contains-first, Contains-rest}
use Rattle.interval_list.specs.declared.window.Window.{Window}
use Rattle.interval_list.specs.Intervals.{span, span_of, spans_of, ids_of, times, before, behind, without_span, hull, with_span}
use Rattle.interval_list.specs.Steps.{window, top, below_top, cut_window, cut_spare, cut, merged, HasRoomToCut, HasRoomToMerge}
use Rattle.interval_list.proofs.Owning.{times-append}
use Rattle.interval_list.proofs.Seconds.{before-yes, before-no, behind-yes, behind-no, without_span-after, with_span-stops, with_span-past, with_span-joins}

module _ (s : Span) (w : Window) (ss : List ℕ) where
  abbrev left_part : Window
  left_part = window w.from (min w.until s.from) w.id

  abbrev right_part : ℕ → Window
  right_part id = window (max w.from s.until) w.until id

  -- ---- the four cases of one window

  pub cut_both : w.from < s.from → s.until < w.until → (cut_window s w ss ≡ left_part ∷ right_part (top ss) ∷ []) × (cut_spare s w ss ≡ below_top ss)
  cut_both l r = (
    cond-true (nat_lt w.from s.from) _ _ (lt-ltb w.from s.from l) ∙ cond-true (nat_lt s.until w.until) _ _ (lt-ltb s.until w.until r),
    cond-true (nat_lt w.from s.from) _ _ (lt-ltb w.from s.from l) ∙ cond-true (nat_lt s.until w.until) _ _ (lt-ltb s.until w.until r),
  )

  pub cut_left : w.from < s.from → w.until ≤ s.until → (cut_window s w ss ≡ left_part ∷ []) × (cut_spare s w ss ≡ ss)
  cut_left l r = (
    cond-true (nat_lt w.from s.from) _ _ (lt-ltb w.from s.from l) ∙ cond-false (nat_lt s.until w.until) _ _ (le-ltb s.until w.until r),
    cond-true (nat_lt w.from s.from) _ _ (lt-ltb w.from s.from l) ∙ cond-false (nat_lt s.until w.until) _ _ (le-ltb s.until w.until r),
  )

  pub cut_right : s.from ≤ w.from → s.until < w.until → (cut_window s w ss ≡ right_part w.id ∷ []) × (cut_spare s w ss ≡ ss)
  cut_right l r = (
    cond-false (nat_lt w.from s.from) _ _ (le-ltb w.from s.from l) ∙ cond-true (nat_lt s.until w.until) _ _ (lt-ltb s.until w.until r),
    cond-false (nat_lt w.from s.from) _ _ (le-ltb w.from s.from l) ∙ cond-true (nat_lt s.until w.until) _ _ (lt-ltb s.until w.until r),
  )

  pub cut_none : s.from ≤ w.from → w.until ≤ s.until → (cut_window s w ss ≡ []) × (cut_spare s w ss ≡ w.id ∷ ss)
  cut_none l r = (
    cond-false (nat_lt w.from s.from) _ _ (le-ltb w.from s.from l) ∙ cond-false (nat_lt s.until w.until) _ _ (le-ltb s.until w.until r),
    cond-false (nat_lt w.from s.from) _ _ (le-ltb w.from s.from l) ∙ cond-false (nat_lt s.until w.until) _ _ (le-ltb s.until w.until r),
  )

  pub spans_of-cut_window : (rest : List Span) → spans_of (cut_window s w ss) ++ rest ≡ before s (span_of w) ++ (behind s (span_of w) ++ rest)
  spans_of-cut_window rest =
      elim (cases_lt w.from s.from) [
        | inl l ↦ elim (cases_lt s.until w.until) [
          | inl r ↦ rw ((cut_both l r).0) (rw (before-yes s (span_of w) l) (rw (behind-yes s (span_of w) r) refl))
          | inr r ↦ rw ((cut_left l r).0) (rw (before-yes s (span_of w) l) (rw (behind-no s (span_of w) r) refl))
        ]
        | inr l ↦ elim (cases_lt s.until w.until) [
          | inl r ↦ rw ((cut_right l r).0) (rw (before-no s (span_of w) l) (rw (behind-yes s (span_of w) r) refl))
          | inr r ↦ rw ((cut_none l r).0) (rw (before-no s (span_of w) l) (rw (behind-no s (span_of w) r) refl))
        ]
      ]

spans_of-append : (xs ys : List Window) → spans_of (xs ++ ys) ≡ spans_of xs ++ spans_of ys
spans_of-append [] ys = refl
spans_of-append (x ∷ xs) ys = ap (λ zs. span_of x ∷ zs) (spans_of-append xs ys)

ids_of-append : (xs ys : List Window) → ids_of (xs ++ ys) ≡ ids_of xs ++ ids_of ys
ids_of-append [] ys = refl
ids_of-append (x ∷ xs) ys = ap (λ zs. x.id ∷ zs) (ids_of-append xs ys)

-- ---- a span is taken out

pub spans_of-cut : (s : Span) (ws : List Window) (ss : List ℕ) → spans_of (cut s ws ss).0 ≡ without_span s (spans_of ws)
spans_of-cut s [] ss = refl
spans_of-cut s (w ∷ ws) ss =
    spans_of-append (cut_window s w ss) (cut s ws (cut_spare s w ss)).0 ∙ ap (λ zs. spans_of (cut_window s w ss) ++ zs) (spans_of-cut s ws (cut_spare s w ss))
    ∙ spans_of-cut_window s w ss (without_span s (spans_of ws))

pub length-spans_of : (ws : List Window) → length (spans_of ws) ≡ length ws
length-spans_of [] = refl
length-spans_of (w ∷ ws) = ap suc (length-spans_of ws)

split_room : (m n : ℕ) (ts : List ℕ) → 0 < length ts → 2 + m ≤ suc n + length ts → m ≤ n + length (below_top ts)
split_room m n [] none h = absurd (omega (arith, none))
split_room m n (t ∷ ts) more h = omega (arith, h)

module _ (s : Span) (w : Window) (ws : List Window) (low : ℕ) (ss : List ℕ) (some : s.from < s.until) (apart : AreApart low (spans_of (w ∷ ws))) (room : HasRoomToCut s (w ∷ ws) ss) where
  -- where a window is split, there is a spare node
  pub room-split : w.from < s.from → s.until < w.until → 0 < length ss
  room-split l r =
      let rest : without_span s (spans_of ws) ≡ spans_of ws = without_span-after (w.until + 1) s (spans_of ws) some (omega (arith, r)) apart.2 in
      let pieces : without_span s (spans_of (w ∷ ws)) ≡ span w.from (min w.until s.from) ∷ span (max w.from s.until) w.until ∷ spans_of ws = rw (before-yes s (span_of w) l) (rw (behind-yes s (span_of w) r) (rw rest refl)) in
      omega (arith, room, ap length pieces, length-spans_of ws)

  pub room-rest : HasRoomToCut s ws (cut_spare s w ss)
  room-rest =
      elim (cases_lt w.from s.from) [
        | inl l ↦ elim (cases_lt s.until w.until) [
          | inl r ↦ rw ((cut_both s w ss l r).1) (let pieces : without_span s (spans_of (w ∷ ws)) ≡ span w.from (min w.until s.from) ∷ span (max w.from s.until) w.until ∷ without_span s (spans_of ws) = rw (before-yes s (span_of w) l) (rw (behind-yes s (span_of w) r) refl) in split_room (length (without_span s (spans_of ws))) (length ws) ss (room-split l r) (omega (arith, room, ap length pieces)))
          | inr r ↦ rw ((cut_left s w ss l r).1) (let pieces : without_span s (spans_of (w ∷ ws)) ≡ span w.from (min w.until s.from) ∷ without_span s (spans_of ws) = rw (before-yes s (span_of w) l) (rw (behind-no s (span_of w) r) refl) in omega (arith, room, ap length pieces))
        ]
        | inr l ↦ elim (cases_lt s.until w.until) [
          | inl r ↦ rw ((cut_right s w ss l r).1) (let pieces : without_span s (spans_of (w ∷ ws)) ≡ span (max w.from s.until) w.until ∷ without_span s (spans_of ws) = rw (before-no s (span_of w) l) (rw (behind-yes s (span_of w) r) refl) in omega (arith, room, ap length pieces))
          | inr r ↦ rw ((cut_none s w ss l r).1) (let pieces : without_span s (spans_of (w ∷ ws)) ≡ without_span s (spans_of ws) = rw (before-no s (span_of w) l) (rw (behind-no s (span_of w) r) refl) in omega (arith, room, ap length pieces))
        ]
      ]

-- the ids of what stands in a window's place and the spare ids after it are those before
step_ids : (id wid : ℕ) (ss : List ℕ) → 0 < length ss → times id (wid ∷ top ss ∷ []) + times id (below_top ss) ≡ times id (wid ∷ ss)
step_ids id wid [] none = absurd (omega (arith, none))
step_ids id wid (t ∷ ts) some = omega arith

step_length : (ss : List ℕ) → 0 < length ss → 2 + length (below_top ss) ≡ 1 + length ss
step_length [] none = absurd (omega (arith, none))
step_length (t ∷ ts) some = omega arith

module _ (s : Span) (w : Window) (ss : List ℕ) (spare : w.from < s.from → s.until < w.until → 0 < length ss) where
  times-cut_window : (id : ℕ) → times id (ids_of (cut_window s w ss)) + times id (cut_spare s w ss) ≡ times id (w.id ∷ ss)
  times-cut_window id =
      elim (cases_lt w.from s.from) [
        | inl l ↦ elim (cases_lt s.until w.until) [
          | inl r ↦ rw ((cut_both s w ss l r).0) (rw ((cut_both s w ss l r).1) (step_ids id w.id ss (spare l r)))
          | inr r ↦ rw ((cut_left s w ss l r).0) (rw ((cut_left s w ss l r).1) (omega arith))
        ]
        | inr l ↦ elim (cases_lt s.until w.until) [
          | inl r ↦ rw ((cut_right s w ss l r).0) (rw ((cut_right s w ss l r).1) (omega arith))
          | inr r ↦ rw ((cut_none s w ss l r).0) (rw ((cut_none s w ss l r).1) (omega arith))
        ]
      ]

  pub length-cut_window : length (cut_window s w ss) + length (cut_spare s w ss) ≡ 1 + length ss
  length-cut_window =
      elim (cases_lt w.from s.from) [
        | inl l ↦ elim (cases_lt s.until w.until) [
          | inl r ↦ rw ((cut_both s w ss l r).0) (rw ((cut_both s w ss l r).1) (step_length ss (spare l r)))
          | inr r ↦ rw ((cut_left s w ss l r).0) (rw ((cut_left s w ss l r).1) (omega arith))
        ]
        | inr l ↦ elim (cases_lt s.until w.until) [
          | inl r ↦ rw ((cut_right s w ss l r).0) (rw ((cut_right s w ss l r).1) (omega arith))
          | inr r ↦ rw ((cut_none s w ss l r).0) (rw ((cut_none s w ss l r).1) (omega arith))
        ]
      ]

pub times-cut : (s : Span) (ws : List Window) (ss : List ℕ) (low : ℕ) → s.from < s.until → AreApart low (spans_of ws) → HasRoomToCut s ws ss
    → (id : ℕ) → times id (ids_of (cut s ws ss).0 ++ (cut s ws ss).1) ≡ times id (ids_of ws ++ ss)
times-cut s [] ss low some apart room id = refl
times-cut s (w ∷ ws) ss low some apart room id =
    let spare = room-split s w ws low ss some apart room in
    let rest = cut s ws (cut_spare s w ss) in
    let here = cut_window s w ss in
    let later = times-cut s ws (cut_spare s w ss) (w.until + 1) some apart.2 (room-rest s w ws low ss some apart room) id in
    omega (
      arith,
      later,
      times-cut_window s w ss spare id,
      times-append id (ids_of (here ++ rest.0)) rest.1,
      ap (times id) (ids_of-append here rest.0),
      times-append id (ids_of here) (ids_of rest.0),
      times-append id (ids_of rest.0) rest.1,
      times-append id (ids_of ws) (cut_spare s w ss),
      times-append id (ids_of ws) ss,
    )

pub length-cut : (s : Span) (ws : List Window) (ss : List ℕ) (low : ℕ) → s.from < s.until → AreApart low (spans_of ws) → HasRoomToCut s ws ss
    → length (cut s ws ss).0 + length (cut s ws ss).1 ≡ length ws + length ss
length-cut s [] ss low some apart room = refl
length-cut s (w ∷ ws) ss low some apart room =
    let spare = room-split s w ws low ss some apart room in
    let rest = cut s ws (cut_spare s w ss) in
    let later = length-cut s ws (cut_spare s w ss) (w.until + 1) some apart.2 (room-rest s w ws low ss some apart room) in
    omega (arith, later, length-cut_window s w ss spare, length-append (cut_window s w ss) rest.0)

pub cut_window-away : (s : Span) (w : Window) (ss : List ℕ) → s.from < s.until → w.from < w.until → (w.until ≤ s.from) ⊎ (s.until ≤ w.from) → cut_window s w ss ≡ w ∷ []
cut_window-away s w ss some whole away =
    elim away [
      | inl past ↦
          let same : min w.until s.from ≡ w.until = omega (arith, past) in
          (cut_left s w ss (omega (arith, past, whole)) (omega (arith, past, some))).0 ∙ (λ k. window w.from (same k) w.id ∷ [])
      | inr ahead ↦
          let same : max w.from s.until ≡ w.from = omega (arith, ahead) in
          (cut_right s w ss (omega (arith, ahead, some)) (omega (arith, ahead, whole))).0 ∙ (λ k. window (same k) w.until w.id ∷ [])
    ]

pub kept-cut : (s : Span) (ws : List Window) (ss : List ℕ) (low : ℕ) → s.from < s.until → AreApart low (spans_of ws)
    → (v : Window) → Contains ws v → (v.until ≤ s.from) ⊎ (s.until ≤ v.from) → Contains (cut s ws ss).0 v
kept-cut s [] ss low some apart v h away = h
kept-cut s (w ∷ ws) ss low some apart v h away =
    let rest = cut s ws (cut_spare s w ss) in
    elim (Contains-cons_cases w v ws h) [
      | inl e ↦
          let away' : (w.until ≤ s.from) ⊎ (s.until ≤ w.from) = subst (λ (x : Window). (x.until ≤ s.from) ⊎ (s.until ≤ x.from)) (sym e) away in
          Contains-append_left (cut_window s w ss) rest.0 v (subst (λ (xs : List Window). Contains xs v) (sym (cut_window-away s w ss some apart.1 away')) (subst (Contains (w ∷ [])) e (Contains-first w [])))
      | inr later ↦ Contains-append_right (cut_window s w ss) rest.0 v (kept-cut s ws (cut_spare s w ss) (w.until + 1) some apart.2 v later away)
    ]

-- windows that begin at or behind the end of s stay as they are
pub cut-after : (s : Span) (ws : List Window) (ss : List ℕ) (low : ℕ) → s.from < s.until → s.until ≤ low → AreApart low (spans_of ws) → cut s ws ss ≡ (ws, ss)
cut-after s [] ss low some past apart = refl
cut-after s (w ∷ ws) ss low some past apart =
    let ahead : s.until ≤ w.from = omega (arith, past, apart.0) in
    let here = cut_window-away s w ss some apart.1 (inr ahead) in
    let spare = (cut_right s w ss (omega (arith, ahead, some)) (omega (arith, ahead, apart.1))).1 in
    let later = cut-after s ws ss (w.until + 1) some (omega (arith, ahead, apart.1)) apart.2 in
    rw spare (λ k. (here k ++ (later k).0, (later k).1))

-- ---- a span is given back

pub merged-stops : (s : Span) (w : Window) (ws : List Window) (ss : List ℕ) → s.until < w.from → merged s (w ∷ ws) ss ≡ (window s.from s.until (top ss) ∷ w ∷ ws, below_top ss)
merged-stops s w ws ss stop = cond-true (nat_lt s.until w.from) _ _ (lt-ltb s.until w.from stop)

pub merged-past : (s : Span) (w : Window) (ws : List Window) (ss : List ℕ) → w.from ≤ s.until → w.until < s.from → merged s (w ∷ ws) ss ≡ (w ∷ (merged s ws ss).0, (merged s ws ss).1)
merged-past s w ws ss near past = cond-false (nat_lt s.until w.from) _ _ (le-ltb s.until w.from near) ∙ cond-true (nat_lt w.until s.from) _ _ (lt-ltb w.until s.from past)

pub merged-joins : (s : Span) (w : Window) (ws : List Window) (ss : List ℕ) → w.from ≤ s.until → s.from ≤ w.until → merged s (w ∷ ws) ss ≡ merged (hull s (span_of w)) ws (w.id ∷ ss)
merged-joins s w ws ss near low = cond-false (nat_lt s.until w.from) _ _ (le-ltb s.until w.from near) ∙ cond-false (nat_lt w.until s.from) _ _ (le-ltb w.until s.from low)

pub spans_of-merged : (s : Span) (ws : List Window) (ss : List ℕ) → spans_of (merged s ws ss).0 ≡ with_span s (spans_of ws)
spans_of-merged s [] ss = refl
spans_of-merged s (w ∷ ws) ss =
    elim (cases_lt s.until w.from) [
      | inl stop ↦ rw (merged-stops s w ws ss stop) (sym (with_span-stops s (span_of w) (spans_of ws) stop))
      | inr near ↦ elim (cases_lt w.until s.from) [
        | inl past ↦ rw (merged-past s w ws ss near past) (ap (λ zs. span_of w ∷ zs) (spans_of-merged s ws ss) ∙ sym (with_span-past s (span_of w) (spans_of ws) near past))
        | inr low ↦ rw (merged-joins s w ws ss near low) (spans_of-merged (hull s (span_of w)) ws (w.id ∷ ss) ∙ sym (with_span-joins s (span_of w) (spans_of ws) near low))
      ]
    ]

-- what is to stand has room still, once a window is passed or joined
pub room-past : (s : Span) (w : Window) (ws : List Window) (ss : List ℕ) → w.from ≤ s.until → w.until < s.from → HasRoomToMerge s (w ∷ ws) ss → HasRoomToMerge s ws ss
room-past s w ws ss near past room = omega (arith, room, ap length (with_span-past s (span_of w) (spans_of ws) near past))

pub room-join : (s : Span) (w : Window) (ws : List Window) (ss : List ℕ) → w.from ≤ s.until → s.from ≤ w.until → HasRoomToMerge s (w ∷ ws) ss → HasRoomToMerge (hull s (span_of w)) ws (w.id ∷ ss)
room-join s w ws ss near low room = omega (arith, room, ap length (with_span-joins s (span_of w) (spans_of ws) near low))

pub room-stop : (s : Span) (w : Window) (ws : List Window) (ss : List ℕ) → s.until < w.from → HasRoomToMerge s (w ∷ ws) ss → 0 < length ss
room-stop s w ws ss stop room = omega (arith, room, ap length (with_span-stops s (span_of w) (spans_of ws) stop), length-spans_of ws)

use_top : (id : ℕ) (ss : List ℕ) → 0 < length ss → times id (top ss ∷ []) + times id (below_top ss) ≡ times id ss
use_top id [] none = absurd (omega (arith, none))
use_top id (t ∷ ts) some = omega arith

use_length : (ss : List ℕ) → 0 < length ss → 1 + length (below_top ss) ≡ length ss
use_length [] none = absurd (omega (arith, none))
use_length (t ∷ ts) some = omega arith

pub times-merged : (s : Span) (ws : List Window) (ss : List ℕ) → HasRoomToMerge s ws ss
    → (id : ℕ) → times id (ids_of (merged s ws ss).0 ++ (merged s ws ss).1) ≡ times id (ids_of ws ++ ss)
times-merged s [] ss room id = omega (arith, use_top id ss (omega (arith, room)))
times-merged s (w ∷ ws) ss room id =
    elim (cases_lt s.until w.from) [
      | inl stop ↦ rw (merged-stops s w ws ss stop)
          (omega (arith, use_top id ss (room-stop s w ws ss stop room), times-append id (ids_of (w ∷ ws)) (below_top ss), times-append id (ids_of (w ∷ ws)) ss))
      | inr near ↦ elim (cases_lt w.until s.from) [
        | inl past ↦ rw (merged-past s w ws ss near past) (omega (arith, times-merged s ws ss (room-past s w ws ss near past room) id))
        | inr low ↦ rw (merged-joins s w ws ss near low)
            (omega (arith, times-merged (hull s (span_of w)) ws (w.id ∷ ss) (room-join s w ws ss near low room) id, times-append id (ids_of ws) (w.id ∷ ss), times-append id (ids_of ws) ss))
      ]
    ]

pub length-merged : (s : Span) (ws : List Window) (ss : List ℕ) → HasRoomToMerge s ws ss → length (merged s ws ss).0 + length (merged s ws ss).1 ≡ length ws + length ss
length-merged s [] ss room = omega (arith, use_length ss (omega (arith, room)))
length-merged s (w ∷ ws) ss room =
    elim (cases_lt s.until w.from) [
      | inl stop ↦ rw (merged-stops s w ws ss stop) (omega (arith, use_length ss (room-stop s w ws ss stop room)))
      | inr near ↦ elim (cases_lt w.until s.from) [
        | inl past ↦ rw (merged-past s w ws ss near past) (omega (arith, length-merged s ws ss (room-past s w ws ss near past room)))
        | inr low ↦ rw (merged-joins s w ws ss near low) (omega (arith, length-merged (hull s (span_of w)) ws (w.id ∷ ss) (room-join s w ws ss near low room)))
      ]
    ]

-- a window of the list lies from the list's start on, and is not empty
member_lies : (low : ℕ) (ws : List Window) (v : Window) → AreApart low (spans_of ws) → Contains ws v → (low ≤ v.from) × (v.from < v.until)
member_lies low [] v apart h = absurd (omega (arith, h.1))
member_lies low (w ∷ ws) v apart h =
    elim (Contains-cons_cases w v ws h) [
      | inl e ↦ subst (λ (x : Window). (low ≤ x.from) × (x.from < x.until)) e (apart.0, apart.1)
      | inr later ↦ let r = member_lies (w.until + 1) ws v apart.2 later in (omega (arith, r.0, apart.0, apart.1), r.1)
    ]

pub kept-merged : (s : Span) (ws : List Window) (ss : List ℕ) (low : ℕ) → AreApart low (spans_of ws)
    → (v : Window) → Contains ws v → (v.until < s.from) ⊎ (s.until < v.from) → Contains (merged s ws ss).0 v
kept-merged s [] ss low apart v h away = absurd (omega (arith, h.1))
kept-merged s (w ∷ ws) ss low apart v h away =
    elim (cases_lt s.until w.from) [
      | inl stop ↦ rw (merged-stops s w ws ss stop) (Contains-rest (window s.from s.until (top ss)) v (w ∷ ws) h)
      | inr near ↦ elim (cases_lt w.until s.from) [
        | inl past ↦ rw (merged-past s w ws ss near past) (elim (Contains-cons_cases w v ws h) [
          | inl e ↦ subst (Contains (w ∷ (merged s ws ss).0)) e (Contains-first w (merged s ws ss).0)
          | inr later ↦ Contains-rest w v (merged s ws ss).0 (kept-merged s ws ss (w.until + 1) apart.2 v later away)
        ])
        | inr touch ↦ rw (merged-joins s w ws ss near touch) (elim (Contains-cons_cases w v ws h) [
          | inl e ↦
              let away' : (w.until < s.from) ⊎ (s.until < w.from) = subst (λ (x : Window). (x.until < s.from) ⊎ (s.until < x.from)) (sym e) away in
              elim away' [ inl a ↦ absurd (omega (arith, a, touch)) | inr a ↦ absurd (omega (arith, a, near)) ]
          | inr later ↦
              let lies = member_lies (w.until + 1) ws v apart.2 later in
              let far : max s.until w.until < v.from = elim away [ inl a ↦ absurd (omega (arith, a, lies.0, lies.1, touch)) | inr a ↦ omega (arith, a, lies.0) ] in
              kept-merged (hull s (span_of w)) ws (w.id ∷ ss) (w.until + 1) apart.2 v later (inr far)
        ])
      ]
    ]
