-- The place of a name among things by rising names: what stands there, and what the list is without it and with one more.
use Rattle.std.proofs.Common.{◌≡◌, ◌∙◌, ℕ, zero, suc, ◌+◌, ◌<◌, List, [], ◌∷◌, length, get_or, set, insert, map, inl, inr, ◌⊎◌, IsTrue, IsFalse, Option, Some, None, refl, sym, ap, subst, arith}
use Rattle.std.specs.Prelude.{Result, Ok, Err, IsOk, IsErr, IsSome, IfSome, All, AllPairs, bytes_eq}
use Rattle.std.specs.Result.{result_ok}
use Rattle.std.specs.List.{remove}
use Rattle.std.specs.List.Sorted.{IsSearchInRange, IsBinarySearchResult, IsNonDecreasingBy}
use Rattle.std.specs.Ordering.{nat_cmp, is_lt, is_eq, ordering_index, ordering_reverse}
use Rattle.std.specs.Cmp.Lexicographic.{slice_cmp, bytes_decides}
use Rattle.std.proofs.lemmas.Bool.{cases_Bool, both_ways}
use Rattle.std.proofs.lemmas.Cmp.{nat_list_cmp_total}
use Rattle.std.proofs.lemmas.List.{get_or-map, map-set, set-get_or}
use Rattle.std.proofs.lemmas.Map.Text.{is_eq-slice_cmp}
use Rattle.std.proofs.lemmas.List.Sorted.{searchable_from_sorted}
use Rattle.taxi_base.specs.State.{name_precedes, named, left_out, put_in}
use Rattle.taxi_base.proofs.ListLaws.{AllPairs-first, AllPairs-rest, AllPairs-map}
use Rattle.taxi_base.proofs.NameLaws.{none_named, ordered-put_in, name_precedes-differ, name_precedes-one_way, differ-turned}
use Rattle.taxi_base.proofs.NamedLists.{Precede, absent-find, absent-without, find-here, remove-here, gap-absent, insert-gap}
use Rattle.checked_state.specs.Order.{IsPlace}
use Rattle.checked_state.proofs.MapLaws.{pairs-of_map}

module _ {X : Type 0} (name_of : X → List ℕ) where
  module _ (xs : List X) (name : List ℕ) (ordered : AllPairs (Precede name_of) xs) where
    rising : IsNonDecreasingBy (λ x. ordering_index (slice_cmp nat_cmp (name_of x) name)) xs
    rising = searchable_from_sorted nat_list_cmp_total name_of xs name
        (λ k d low high. name_precedes-one_way (name_of (get_or xs k d)) (name_of (get_or xs (k + 1) d)) (ordered k (k + 1) d (omega arith) high))

    pub searched : (r : Result ℕ ℕ) → IsSearchInRange r (length xs) → IsBinarySearchResult (λ x. slice_cmp nat_cmp (name_of x) name) xs r → IsPlace name_of xs name r
    searched (Ok k) bound equal = record {
      here = bound;
      named = λ d. (bytes_decides (name_of (get_or xs k d)) name).0 (sym (is_eq-slice_cmp (name_of (get_or xs k d)) name) ∙ ap is_eq (equal d));
      gap = tt;
      before = tt;
      after = tt;
    }
    searched (Err k) bound parted = record {
      here = tt;
      named = tt;
      gap = bound;
      before = λ j d low high. ap is_lt ((parted rising).0 j d low high);
      after = λ j d low high. ap is_lt (nat_list_cmp_total.antisymm name (name_of (get_or xs j d)) ∙ ap ordering_reverse ((parted rising).1 j d low high));
    }

    -- at a place stands what has the name
    pub named-at : (k : ℕ) → IsPlace name_of xs name (Ok k) → (x : X) → x ≡ get_or xs k x → named name_of name xs ≡ Some x
    named-at k place x is = find-here name_of name xs k x ordered place.here (place.named x) ∙ ap Some (sym is)

    pub gap-none : (k : ℕ) → IsPlace name_of xs name (Err k) → named name_of name xs ≡ None
    gap-none k place = absent-find name_of name xs (gap-absent name_of name xs k place.before place.after)

    pub place-there : (r : Result ℕ ℕ) → IsPlace name_of xs name r → IsSome (named name_of name xs) → IsOk r
    place-there (Ok k) place some = refl
    place-there (Err k) place some = absurd (cc (rw (gap-none k place) at some))

    pub place-gone : (d : X) (r : Result ℕ ℕ) → IsPlace name_of xs name r → named name_of name xs ≡ None → IsErr r
    place-gone d (Ok k) place none = absurd (cc (sym none ∙ find-here name_of name xs k d ordered place.here (place.named d)))
    place-gone d (Err k) place none = refl

    pub without-at : (k : ℕ) → IsPlace name_of xs name (Ok k) → (d : X) → remove xs k ≡ left_out name_of name xs
    without-at k place d = remove-here name_of name xs k d ordered place.here (place.named d)

    -- the same by what was found
    pub found-at : (r : Result ℕ ℕ) (k : ℕ) → IsPlace name_of xs name r → r ≡ Ok k → (x : X) → x ≡ get_or xs k x → named name_of name xs ≡ Some x
    found-at r k place is x here = named-at k (subst (IsPlace name_of xs name) is place) x here

    pub none-of : (r : Result ℕ ℕ) → IsPlace name_of xs name r → None ≡ result_ok r → named name_of name xs ≡ None
    none-of (Ok k) place e = absurd (cc e)
    none-of (Err k) place e = gap-none k place

  pub with-at : (x : X) (xs : List X) (k : ℕ) → IsPlace name_of xs (name_of x) (Err k) → insert xs k x ≡ put_in name_of x xs
  with-at x xs k place = insert-gap name_of x xs k place.gap place.before place.after

  -- with what goes in at its gap, and with what has the name of what stood there, the names rise as before
  pub ordered-insert : (xs : List X) (x : X) (k : ℕ) → AllPairs (Precede name_of) xs → IsPlace name_of xs (name_of x) (Err k) → AllPairs (Precede name_of) (insert xs k x)
  ordered-insert xs x k ordered place =
      let none = gap-none xs (name_of x) ordered k place in
      subst (AllPairs (Precede name_of)) (sym (with-at x xs k place)) (ordered-put_in name_of x xs ordered (none_named name_of (name_of x) xs (rw none refl)))

  pub ordered-set : (xs : List X) (x : X) (k : ℕ) (d : X) → AllPairs (Precede name_of) xs → k < length xs → name_of (get_or xs k d) ≡ name_of x → AllPairs (Precede name_of) (set xs k x)
  ordered-set xs x k d ordered low same = pairs-of_map (set xs k x) name_of (λ a b. IsTrue (name_precedes a b)) (subst (AllPairs (λ a b. IsTrue (name_precedes a b))) (sym names) (AllPairs-map name_of (λ a b. IsTrue (name_precedes a b)) xs ordered)) where
    names : map name_of (set xs k x) ≡ map name_of xs
    names = map-set name_of xs k x ∙ ap (λ (n : List ℕ). set (map name_of xs) k n) (sym same ∙ sym (get_or-map name_of xs k d (name_of d) low)) ∙ set-get_or (map name_of xs) k (name_of d)

  pub place-at : (xs : List X) (name : List ℕ) (r : Result ℕ ℕ) (k : Result ℕ ℕ) → IsPlace name_of xs name r → r ≡ k → IsPlace name_of xs name k
  place-at xs name r k place is = subst (IsPlace name_of xs name) is place

  -- without a name that nothing has the list is the same
  pub left-none : (name : List ℕ) (xs : List X) → named name_of name xs ≡ None → left_out name_of name xs ≡ xs
  left-none name xs none =
      absent-without name_of name xs (λ k d low e. both_ways _ (none_named name_of name xs (rw none refl) k d low) ((bytes_decides (name_of (get_or xs k d)) name).1 e))

  -- ---- one thing in the place of that of its name

  first-before : (x : X) (xs : List X) → All (Precede name_of x) xs → put_in name_of x xs ≡ x ∷ xs
  first-before x [] before = refl
  first-before x (y ∷ ys) before = rw (before 0 y (omega arith)) refl

  others : (x : X) (xs : List X) (name : List ℕ) → name_of x ≡ name → All (Precede name_of x) xs → left_out name_of name xs ≡ xs
  others x xs name is after =
      absent-without name_of name xs (λ j e within same.
      both_ways _ (name_precedes-differ (name_of x) (name_of (get_or xs j e)) (after j e within)) ((bytes_decides (name_of (get_or xs j e)) (name_of x)).1 (same ∙ sym is)))

  pub set-here : (x : X) (xs : List X) (k : ℕ) (d : X) → AllPairs (Precede name_of) xs → k < length xs → name_of (get_or xs k d) ≡ name_of x
      → set xs k x ≡ put_in name_of x (left_out name_of (name_of x) xs)
  set-here x [] k d ordered low is = absurd (omega arith)
  set-here x (y ∷ ys) zero d ordered low is =
      let after : All (Precede name_of y) ys = AllPairs-first (Precede name_of) y ys ordered in
      rw ((bytes_decides (name_of y) (name_of x)).1 is)
      (sym (ap (put_in name_of x) (others y ys (name_of x) is after)
      ∙ first-before x ys (λ j e within. subst (λ n. IsTrue (name_precedes n (name_of (get_or ys j e)))) is (after j e within))))
  set-here x (y ∷ ys) (suc k) d ordered low is =
      let before : IsTrue (name_precedes (name_of y) (name_of x)) =
      subst (λ n. IsTrue (name_precedes (name_of y) n)) is (AllPairs-first (Precede name_of) y ys ordered k d (omega arith)) in
      rw (differ-turned (name_of x) (name_of y) (name_precedes-differ (name_of y) (name_of x) before), name_precedes-one_way (name_of y) (name_of x) before)
      (ap (λ (zs : List X). y ∷ zs) (set-here x ys k d (AllPairs-rest (Precede name_of) y ys ordered) (omega arith) is))

  -- ---- sums

  -- what is summed over a list, with one more, and without a name
  module _ (one : X → ℕ) (all : List X → ℕ) (all-cons : (x : X) (xs : List X) → all (x ∷ xs) ≡ one x + all xs) where
    pub all-put_in : (x : X) (xs : List X) → all (put_in name_of x xs) ≡ all xs + one x
    all-put_in x [] = omega (arith, all-cons x [])
    all-put_in x (y ∷ ys) = go (cases_Bool (name_precedes (name_of x) (name_of y))) (all-put_in x ys) where
      go : (IsTrue (name_precedes (name_of x) (name_of y))) ⊎ (IsFalse (name_precedes (name_of x) (name_of y))) → all (put_in name_of x ys) ≡ all ys + one x
          → all (put_in name_of x (y ∷ ys)) ≡ all (y ∷ ys) + one x
      go (inl before) rest = rw before (omega (arith, all-cons x (y ∷ ys)))
      go (inr later) rest = rw later (omega (arith, all-cons y (put_in name_of x ys), all-cons y ys, rest))

    pub all-left_out : (name : List ℕ) (xs : List X) (x : X) → AllPairs (Precede name_of) xs → named name_of name xs ≡ Some x → all xs ≡ all (left_out name_of name xs) + one x
    all-left_out name [] x ordered found = absurd (cc found)
    all-left_out name (y ∷ ys) x ordered found = go (cases_Bool (bytes_eq (name_of y) name)) (all-left_out name ys x (AllPairs-rest (Precede name_of) y ys ordered)) where
      go : (IsTrue (bytes_eq (name_of y) name)) ⊎ (IsFalse (bytes_eq (name_of y) name)) → (named name_of name ys ≡ Some x → all ys ≡ all (left_out name_of name ys) + one x)
          → all (y ∷ ys) ≡ all (left_out name_of name (y ∷ ys)) + one x
      go (inl here) rest_of =
          let is : y ≡ x = cc (rw here at found) in
          let rest : left_out name_of name ys ≡ ys = others y ys name ((bytes_decides (name_of y) name).0 here) (AllPairs-first (Precede name_of) y ys ordered) in
          let same_one : one y ≡ one x = ap one is in
          rw (here, rest) (omega (arith, all-cons y ys, same_one))
      go (inr other) rest_of =
          let later = rest_of (rw other at found) in
          rw other (omega (arith, all-cons y ys, all-cons y (left_out name_of name ys), later))

-- what a look-up that is passed on says
pub ok-of : (r : Result ℕ ℕ) (k : ℕ) → Some k ≡ result_ok r → r ≡ Ok k
ok-of (Ok j) k e = cc e
ok-of (Err j) k e = absurd (cc e)

pub if-some : {A : Type 0} (o : Option A) (P : A → Type 0) → ((x : A) → o ≡ Some x → P x) → IfSome o P
if-some None P each = tt
if-some (Some x) P each = each x refl
