-- One step of the search: a least cell is taken and expanded; or the search is at its end.
use Rattle.std.proofs.Common.{◌≡◌, ℕ, zero, suc, ◌+◌, ◌^◌, ◌<◌, ◌≤◌, Bool, true, false, Some, None, refl, sym, ap, ◌∙◌, ◌⊎◌, inl, inr, arith}
use Rattle.std.proofs.lemmas.Bool.{cases_eq, cases_Bool, false≢true}
use Rattle.std.specs.Prelude.{⊤}
use Rattle.std.proofs.lemmas.List.{length-set}
use Rattle.label_queue.specs.Keys.{key_of}
use Rattle.label_queue.specs.Least.{IsLeast}
use Rattle.label_core.proofs.SettledCells.{IsSettling}
use Rattle.label_search.specs.declared.labels.Label.{Label}
use Rattle.label_search.specs.Problem.{Problem, IsProblem, MayComeTo}
use Rattle.label_search.specs.Labels.{Standing, label_of, HasValue, Same}
use Rattle.label_search.specs.Expanding.{WasExpandedTo, IsExpanded}
use Rattle.label_search.specs.Standing.{is_settled, SettledValue, IsTraced, AreTraced, IsUnderway, IsAtEnd}
use Rattle.label_search.proofs.Settling.{taken, least_known, least_not_settled, key_of_left, least_left, settling_new, queued_new, search_new, settled_value_on}
use Rattle.label_search.proofs.Traced.{traced_still, traced_offered}

-- 1 for a cell that isn't settled
abbrev left_here : Bool → ℕ
left_here true = 0
left_here false = 1

-- how many cells below the limit are not settled
abbrev pub left_below : (ℕ → Bool) → ℕ → ℕ
left_below settled zero = 0
left_below settled (suc n) = left_below settled n + left_here (settled n)

module _ (old new : ℕ → Bool) (kept : (d : ℕ) → old d ≡ true → new d ≡ true) where
  one_left : (a b : Bool) → (a ≡ true → b ≡ true) → left_here b ≤ left_here a
  one_left a true h = omega arith
  one_left true false h = absurd (false≢true (h refl))
  one_left false false h = omega arith

  not_more_left : (n : ℕ) → left_below new n ≤ left_below old n
  not_more_left zero = omega arith
  not_more_left (suc n) = omega (arith, not_more_left n, one_left (old n) (new n) (kept n))

  pub fewer_left : (c n : ℕ) → c < n → old c ≡ false → new c ≡ true → left_below new n < left_below old n
  fewer_left c zero lt was is = omega arith
  fewer_left c (suc n) lt was is = elim (cases_eq c n) [
    | inl same ↦ (
        let here : left_here (old n) ≡ 1 = ap left_here (ap old (sym same) ∙ was) in
        let now : left_here (new n) ≡ 0 = ap left_here (ap new (sym same) ∙ is) in
        omega (arith, not_more_left n, here, now))
    | inr other ↦ omega (arith, fewer_left c n (omega arith) was is, one_left (old n) (new n) (kept n))
  ]

-- walks may come to a cell with a label that says why
pub traced_come_to : (p : Problem) (Row : ℕ → ℕ → Type 0) (d : ℕ) (label : Label) → IsTraced p Row d label → MayComeTo p d
traced_come_to p Row d label (inl start) = inl (start.start, start.here)
traced_come_to p Row d label (inr before) = inr (label.via, before.2.by_turn)

-- and such a cell is below the count
pub come_to_inside : (p : Problem) → IsProblem p → (d : ℕ) → MayComeTo p d → d < p.count
come_to_inside p sound d (inl start) = sound.starts_inside d start.0 start.1
come_to_inside p sound d (inr turn) = (sound.turns_inside turn.0 d turn.1).1

pub traced_inside : (p : Problem) → IsProblem p → (Row : ℕ → ℕ → Type 0) (d : ℕ) (label : Label) → IsTraced p Row d label → d < p.count
traced_inside p sound Row d label traced = come_to_inside p sound d (traced_come_to p Row d label traced)

-- and its value is small
traced_small : (p : Problem) → IsProblem p → (Row : ℕ → ℕ → Type 0) (d : ℕ) (label : Label) → IsTraced p Row d label → label.value < 2 ^ 31
traced_small p sound Row d label (inl start) = omega (arith, start.in_time, sound.small_last d)
traced_small p sound Row d label (inr before) = omega (arith, before.2.in_time, sound.small_last d)

module _ (p : Problem) (sound : IsProblem p) (s : Standing) (under : IsUnderway p s) (c k : ℕ) (least : IsLeast s.keys c k) where
  pub cell_come_to : MayComeTo p c
  cell_come_to = let known = least_known p sound s under c k least in traced_come_to p (SettledValue s (is_settled s)) c known.0 (under.traced c known.0 known.1)

  pub cell_inside : c < p.count
  cell_inside = come_to_inside p sound c cell_come_to

  pub key_small : k < 2 ^ 31
  key_small = let known = least_known p sound s under c k least in omega (arith, traced_small p sound (SettledValue s (is_settled s)) c known.0 (under.traced c known.0 known.1), known.2)

  module _ (new : Standing) (expanded : IsExpanded p.network c k (λ d. ⊤) (taken p sound s under c k least) new) where
    settling : IsSettling (is_settled s) (is_settled new) c
    settling = settling_new p sound s under c k least new expanded

    on : (x u : ℕ) → is_settled new x ≡ true → HasValue s.known x u → HasValue new.known x u
    on = settled_value_on p sound s under c k least new expanded

    row_kept : (x u : ℕ) → SettledValue s (is_settled s) x u → SettledValue new (is_settled new) x u
    row_kept x u row = let is = settling.kept x row.0 in (is, on x u is row.1)

    row_here : SettledValue new (is_settled new) c k
    row_here = (settling.here, on c k settling.here (least_known p sound s under c k least))

    traced_new : AreTraced p new (is_settled new)
    traced_new d label is = go (expanded.each d)
      where
        go : Same (taken p sound s under c k least) new d ⊎ WasExpandedTo p.network c k (taken p sound s under c k least) new d → IsTraced p (SettledValue new (is_settled new)) d label
        go (inl same) =
            let was : label_of s.known d ≡ Some label = sym same.label ∙ is in
            traced_still p c k (SettledValue s (is_settled s)) (SettledValue new (is_settled new)) row_here row_kept d label (under.traced d label was)
        go (inr to) =
            traced_offered p c k (SettledValue s (is_settled s)) (SettledValue new (is_settled new)) row_here row_kept d to.value to.expands to.offered
            (under.traced d) label is

    -- the search goes on
    pub underway_new : p.target c ≡ false → IsUnderway p new
    underway_new no_target = record {
      room = record { known = omega (arith, expanded.lengths.known, under.room.known); keys = omega (arith, expanded.lengths.keys, length-set s.keys c None, under.room.keys) };
      search = search_new p sound s under c k least new expanded;
      queued = queued_new p sound s under c k least new expanded;
      traced = traced_new;
      passed = λ d is. elim (settling.only d is) [ inl was ↦ under.passed d was | inr same ↦ ap p.target same ∙ no_target ];
    }

    -- no key is below the value of the cell
    pub ahead_new : (d q : ℕ) → key_of new.keys d ≡ Some q → k ≤ q
    ahead_new d q is =
        let has = queued_new p sound s under c k least new expanded d q is in
        let left : is_settled new d ≡ false = rw (has.1, is) refl in
        (search_new p sound s under c k least new expanded).settled_first c d k q settling.here row_here.1 left has

    -- with one cell less to settle
    pub fewer_new : left_below (is_settled new) p.count < left_below (is_settled s) p.count
    fewer_new = fewer_left (is_settled s) (is_settled new) settling.kept c p.count cell_inside (least_not_settled p sound s under c k least) settling.here

  -- the cell is a target
  pub at_goal : p.target c ≡ true → IsAtEnd p (taken p sound s under c k least) (Some (record { cell = c; end = k }))
  at_goal is_target = record {
    room = record { known = under.room.known; keys = omega (arith, length-set s.keys c None, under.room.keys) };
    settled = is_settled s;
    search = under.search;
    traced = under.traced;
    passed = under.passed;
    some = record {
      is_target = is_target;
      least = least_left p sound s under c k least;
      first = λ x before target has. first x before target has (cases_Bool (is_settled s x));
    };
    none = tt;
  }
    where
      first : (x : ℕ) → x < c → p.target x ≡ true → HasValue s.known x k → (is_settled s x ≡ true) ⊎ (is_settled s x ≡ false) → ⊥
      first x before target has (inl is) = false≢true (sym (under.passed x is) ∙ target)
      first x before target has (inr not) =
          elim (least.comes_first x k (λ same. omega (arith, same)) (key_of_left p sound s under c k least x k not has)) [ inl less ↦ omega arith | inr tie ↦ omega (arith, tie.1) ]
