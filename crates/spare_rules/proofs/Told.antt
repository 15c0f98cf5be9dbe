-- What an airport is spared is what is told of it: the idle turns, and the sets that are the same as others or needless.
use Rattle.std.proofs.Common.{◌≡◌, ◌∙◌, ◌<◌, ◌≤◌, ◌&&◌, ◌++◌, ◌∷◌, [], ℕ, zero, suc, Bool, true, true≢false, not, nat_lt, List, length, take, Contains, IsTrue, IsFalse, ◌⊎◌, inl, inr, refl, sym, ap, subst, append_assoc, append-nil, length-take, arith}
use Rattle.std.specs.Prelude.{◌↔◌, ◌==◌, slice_index_or}
use Rattle.std.specs.List.{list_any, list_all, prefix_len}
use Rattle.std.proofs.lemmas.Bool.{and_from, and_parts, cases_Bool, or_cases, or_left, or_right, eqb-true, ltb-true, ltb-false}
use Rattle.std.proofs.lemmas.Bool.Decides.{nat_tests}
use Rattle.std.proofs.lemmas.List.Folds.{list_any-append}
use Rattle.std.proofs.lemmas.List.Sums.{prefix_len-le-length}
use Rattle.taxi_base.specs.declared.numbers.Arc.{Arc}
use Rattle.taxi_base.specs.declared.numbers.Segment.{Segment}
use Rattle.taxi_base.specs.Airport.{Airport, segment_of, conflict, has_member}
use Rattle.taxi_base.proofs.ListLaws.{Contains-filter, filter-Contains}
use Rattle.airport_lint.specs.Advice.{is_shared, IsSo}
use Rattle.airport_lint.specs.declared.advice.Advice.TheVariants.{IdleTurn, SameSet, NeedlessSet}
use Rattle.airport_lint.specs.Sets.{are_same, first_like, is_covered, marked, needed_marks}
use Rattle.spare_rules.specs.Spared.{spared}

-- ---- turns

pub turn-told : (airport : Airport) (turn : Arc × Arc) → Contains (spared airport).forbidden turn ↔ (Contains airport.forbidden turn × (IsSo airport (IdleTurn turn.0 turn.1) → ⊥))
turn-told airport turn = (forward, backward) where
  shared : Arc × Arc → Bool
  shared pair = is_shared airport (segment_of pair.0) (segment_of pair.1)

  forward : Contains (spared airport).forbidden turn → Contains airport.forbidden turn × (IsSo airport (IdleTurn turn.0 turn.1) → ⊥)
  forward h = let kept = filter-Contains shared airport.forbidden turn h in (kept.0, λ idle. true≢false (sym kept.1 ∙ idle))

  backward : Contains airport.forbidden turn × (IsSo airport (IdleTurn turn.0 turn.1) → ⊥) → Contains (spared airport).forbidden turn
  backward (h, busy) = elim (cases_Bool (shared turn)) [
    | inl kept ↦ Contains-filter shared airport.forbidden turn h kept
    | inr idle ↦ absurd (busy idle)
  ]

-- ---- sets

member-same : (one rival : List Segment) (s : Segment) → IsTrue (are_same one rival) → IsTrue (has_member one s) → IsTrue (has_member rival s)
member-same [] rival s same has = absurd (cc has)
member-same (x ∷ one) [] s same has = absurd (cc same)
member-same (x ∷ one) (y ∷ rival) s same has =
    let parts = and_parts (x.0 == y.0) (are_same one rival) same in
    elim (or_cases (x.0 == s.0) (has_member one s) has) [
      | inl here ↦ or_left (y.0 == s.0) (has_member rival s) (subst (λ n. IsTrue (n == s.0)) (eqb-true x.0 y.0 parts.0) here)
      | inr later ↦ or_right (y.0 == s.0) (has_member rival s) (member-same one rival s parts.1 later)
    ]

both-there : (sets : List (List Segment)) (one : List Segment) (s t : Segment) → IsTrue (list_any (are_same one) sets) → IsTrue (has_member one s) → IsTrue (has_member one t)
    → IsTrue (list_any (λ set. has_member set s && has_member set t) sets)
both-there [] one s t some has_s has_t = absurd (cc some)
both-there (set ∷ sets) one s t some has_s has_t = elim (or_cases (are_same one set) (list_any (are_same one) sets) some) [
  | inl same ↦ or_left (has_member set s && has_member set t) _ (and_from (has_member set s) (has_member set t) (member-same one set s same has_s) (member-same one set t same has_t))
  | inr later ↦ or_right (has_member set s && has_member set t) _ (both-there sets one s t later has_s has_t)
]

conflict-there : (sets : List (List Segment)) (one : List Segment) (s t : Segment) → IsTrue (list_any (are_same one) sets) → IsTrue (has_member one s) → IsTrue (has_member one t) → IsTrue (conflict sets s t)
unfolding conflict
conflict-there sets one s t some has_s has_t = or_right (s.0 == t.0) (list_any (λ set. has_member set s && has_member set t) sets) (both-there sets one s t some has_s has_t)

all-from : (f : Segment → Bool) (xs : List Segment) → ((s : Segment) → IsTrue (has_member xs s) → IsTrue (f s)) → IsTrue (list_all f xs)
all-from f [] each = refl
all-from f (x ∷ xs) each =
    let own : IsTrue (x.0 == x.0) = grind (arith, nat_tests) in
    and_from (f x) (list_all f xs) (each x (or_left (x.0 == x.0) (has_member xs x) own)) (all-from f xs (λ s h. each s (or_right (x.0 == s.0) (has_member xs s) h)))

covered-there : (sets : List (List Segment)) (one : List Segment) → IsTrue (list_any (are_same one) sets) → IsTrue (is_covered sets one)
covered-there sets one some = all-from (λ s. list_all (conflict sets s) one) one (λ s has_s. all-from (conflict sets s) one (λ t has_t. conflict-there sets one s t some has_s has_t))

mark-at : (before sets : List (List Segment)) (k : ℕ) → k < length sets → IsTrue (list_any (are_same (slice_index_or sets k [])) (before ++ take k sets)) → IsFalse (slice_index_or (needed_marks before sets) k true)
mark-at before [] k low some = absurd (omega (arith, low))
mark-at before (one ∷ after) zero low some =
    let later = needed_marks (before ++ one ∷ []) after in
    let front : IsTrue (list_any (are_same one) before) = subst (λ (l : List (List Segment)). IsTrue (list_any (are_same one) l)) (append-nil before) some in
    let there : IsTrue (list_any (are_same one) (before ++ marked after later)) =
    rw (list_any-append (are_same one) before (marked after later)) (or_left (list_any (are_same one) before) (list_any (are_same one) (marked after later)) front) in
    ap not (covered-there (before ++ marked after later) one there)
mark-at before (one ∷ after) (suc k) low some =
    mark-at (before ++ one ∷ []) after k (omega (arith, low))
    (subst (λ (l : List (List Segment)). IsTrue (list_any (are_same (slice_index_or after k [])) l)) (sym (append_assoc before (one ∷ []) (take k after))) some)

any-from : (p : List Segment → Bool) (xs : List (List Segment)) → prefix_len (λ x. not (p x)) xs < length xs → IsTrue (list_any p xs)
any-from p [] low = absurd (omega (arith, low))
any-from p (x ∷ xs) low = elim (cases_Bool (p x)) [
  | inl is ↦ or_left (p x) (list_any p xs) is
  | inr fails ↦ or_right (p x) (list_any p xs) (any-from p xs (let h = rw fails at low in omega (arith, h)))
]

pub set-told : (airport : Airport) (k : ℕ) → k < length airport.conflicts
    → IsFalse (slice_index_or (needed_marks [] airport.conflicts) k true) ↔ (IsSo airport (SameSet k (first_like airport.conflicts k)) ⊎ IsSo airport (NeedlessSet k))
set-told airport k low = (forward, backward) where
  first : ℕ
  first = first_like airport.conflicts k

  long : length (take k airport.conflicts) ≡ k
  long = let h = length-take k airport.conflicts in omega (arith, h, low)

  few : first ≤ k
  few = let h = prefix_len-le-length (λ x. not (are_same (slice_index_or airport.conflicts k []) x)) (take k airport.conflicts) in omega (arith, h, long)

  forward : IsFalse (slice_index_or (needed_marks [] airport.conflicts) k true) → IsSo airport (SameSet k first) ⊎ IsSo airport (NeedlessSet k)
  forward spare = elim (cases_Bool (nat_lt first k)) [
    | inl before ↦ inl before
    | inr own ↦ let h = ltb-false first k own in inr (omega (arith, h, few), spare)
  ]

  backward : IsSo airport (SameSet k first) ⊎ IsSo airport (NeedlessSet k) → IsFalse (slice_index_or (needed_marks [] airport.conflicts) k true)
  backward (inl before) =
      let h = ltb-true first k before in
      mark-at [] airport.conflicts k low (any-from (are_same (slice_index_or airport.conflicts k [])) (take k airport.conflicts) (omega (arith, h, long)))
  backward (inr needless) = needless.1
