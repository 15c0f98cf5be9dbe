-- Membership in a list of segments by number, and conflict as one more set is counted.
use Rattle.std.proofs.Common.{◌≡◌, ℕ, ◌<◌, Bool, true, false, ◌&&◌, ◌||◌, List, [], ◌∷◌, ◌++◌, inl, inr, IsTrue, refl, sym, ◌∙◌, ap, arith}
use Rattle.std.specs.Prelude.{Contains, All, ◌==◌}
use Rattle.std.specs.List.{list_any}
use Rattle.std.proofs.lemmas.Bool.{or_cases}
use Rattle.std.proofs.lemmas.Bool.Decides.{nat_tests}
use Rattle.std.proofs.lemmas.List.Folds.{list_any-append}
use Rattle.std.proofs.lemmas.List.Elements.{All-contains}
use Rattle.taxi_base.specs.declared.numbers.Segment.{Segment}
use Rattle.taxi_base.specs.Airport.{has_member, conflict}
use Rattle.taxi_base.proofs.InOrder.{same_answer, test-Contains, Contains-test}
use Rattle.conflict_sets.specs.Conflicts.{AreConflicts}
use Rattle.taxi_base.proofs.ListLaws.{list_any-true}

pub same_segment : (s t : Segment) → s.0 ≡ t.0 → s ≡ t
same_segment s t e = ap (λ n. let r : Segment = record { 0 = n } in r) e

pub has_member-Contains : (set : List Segment) (s : Segment) → Contains set s → IsTrue (has_member set s)
has_member-Contains set s h = test-Contains (λ (m : Segment). m.0) set s h

pub Contains-has_member : (set : List Segment) (s : Segment) → IsTrue (has_member set s) → Contains set s
Contains-has_member set s h = Contains-test (λ (m : Segment). m.0) same_segment set s h

pub has_member-append : (xs ys : List Segment) (s : Segment) → has_member (xs ++ ys) s ≡ (has_member xs s || has_member ys s)
has_member-append xs ys s = list_any-append (λ m. m.0 == s.0) xs ys

pub or_assoc : (a b c : Bool) → ((a || b) || c) ≡ (a || (b || c))
or_assoc true b c = refl
or_assoc false b c = refl

pub or_false : (a : Bool) → (a || false) ≡ a
or_false true = refl
or_false false = refl

pub and_second : (a b : Bool) → IsTrue (a && b) → IsTrue b
and_second true b h = h
and_second false b h = absurd (cc h)

-- one more set
pub conflict-push : (sets : List (List Segment)) (set : List Segment) (s t : Segment) → conflict (sets ++ set ∷ []) s t ≡ (conflict sets s t || (has_member set s && has_member set t))
unfolding conflict
conflict-push sets set s t =
    ap (λ b. (s.0 == t.0) || b) (list_any-append (λ c. has_member c s && has_member c t) sets (set ∷ []) ∙ ap (λ b. list_any (λ c. has_member c s && has_member c t) sets || b) (or_false (has_member set s && has_member set t)))
    ∙ sym (or_assoc (s.0 == t.0) (list_any (λ c. has_member c s && has_member c t) sets) (has_member set s && has_member set t))

pub has_member-conflicts : (sets : List (List Segment)) (s : Segment) (row : List Segment) (t : Segment) → AreConflicts sets s row → has_member row t ≡ conflict sets s t
has_member-conflicts sets s row t all =
    same_answer (has_member row t) (conflict sets s t) (λ h. (all.each t).0 (Contains-has_member row t h)) (λ h. has_member-Contains row t ((all.each t).1 h))

-- only segments that exist conflict with one that does
pub conflict-exists : (sets : List (List Segment)) (segments : ℕ) (s t : Segment) → All (All (λ m. m.0 < segments)) sets → s.0 < segments → IsTrue (conflict sets s t) → t.0 < segments
unfolding conflict
conflict-exists sets segments s t exist low h =
    elim (or_cases (s.0 == t.0) (list_any (λ set. has_member set s && has_member set t) sets) h) [
      | inl same ↦ let e : s.0 ≡ t.0 = grind (arith, nat_tests, same) in omega arith
      | inr some ↦
          let found = list_any-true (λ set. has_member set s && has_member set t) sets some in
          let in_set = Contains-has_member found.0 t (and_second (has_member found.0 s) (has_member found.0 t) found.2) in
          All-contains (λ m. m.0 < segments) found.0 t (All-contains (All (λ m. m.0 < segments)) sets found.0 exist found.1) in_set
    ]
