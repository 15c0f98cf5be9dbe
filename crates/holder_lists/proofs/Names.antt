-- A search among things in the order of their names, and what the place that it gives says of them.
use Rattle.std.proofs.Common.{◌≡◌, ◌≢◌, ℕ, ◌+◌, ◌<◌, List, [], ◌∷◌, length, get_or, insert, None, refl, sym, ap, ◌∙◌, arith}
use Rattle.std.specs.Ordering.{nat_cmp, is_lt, is_eq, ordering_index, ordering_reverse}
use Rattle.std.specs.Cmp.Lexicographic.{slice_cmp, bytes_decides}
use Rattle.std.specs.Result.{result_ok}
use Rattle.std.proofs.lemmas.Cmp.{nat_list_cmp_total}
use Rattle.std.specs.List.Sorted.{IsSearchInRange, IsBinarySearchResult, IsNonDecreasingBy}
use Rattle.std.specs.Prelude.{Result, Ok, Err, All, IsErr, slice_get}
use Rattle.std.proofs.lemmas.Map.Text.{is_eq-slice_cmp}
use Rattle.std.proofs.lemmas.List.Sorted.{searchable_from_sorted}
use Rattle.std.proofs.lemmas.Option.{slice_get-get_or}
use Rattle.taxi_base.specs.State.{named, put_in}
use Rattle.taxi_base.proofs.FlightNames.{precedes_back}
use Rattle.taxi_base.proofs.NamedLists.{find-here, remove-here, gap-absent, absent-find, absent-without, insert-gap}
use Rattle.holder_lists.specs.Lists.{AreInOrder}
use Rattle.holder_lists.specs.Places.{IsPlace, IsNamedPlace}

module _ {X : Type 0} (name_of : X → List ℕ) (xs : List X) (name : List ℕ) (ordered : AreInOrder name_of xs) where
  -- ---- what a search by halves gives

  rising : IsNonDecreasingBy (λ x. ordering_index (slice_cmp nat_cmp (name_of x) name)) xs
  rising = searchable_from_sorted nat_list_cmp_total name_of xs name
      (λ k d low high. precedes_back (name_of (get_or xs k d)) (name_of (get_or xs (k + 1) d)) (ordered k (k + 1) d (omega arith) high))

  pub searched : (r : Result ℕ ℕ) → IsSearchInRange r (length xs) → IsBinarySearchResult (λ x. slice_cmp nat_cmp (name_of x) name) xs r → IsPlace name_of xs name r
  searched (Ok k) bound equal = record {
    here = bound;
    there = λ d. (bytes_decides (name_of (get_or xs k d)) name).0 (sym (is_eq-slice_cmp (name_of (get_or xs k d)) name) ∙ ap is_eq (equal d));
    gap = tt;
    before = tt;
    after = tt;
  }
  searched (Err k) bound parted = record {
    here = tt;
    there = tt;
    gap = bound;
    before = λ j d low high. ap is_lt ((parted rising).0 j d low high);
    after = λ j d low high. ap is_lt (nat_list_cmp_total.antisymm name (name_of (get_or xs j d)) ∙ ap ordering_reverse ((parted rising).1 j d low high));
  }

  -- ---- what the place says

  -- something is there
  some : (k : ℕ) → k < length xs → X
  some k low = some_of xs k low where
    some_of : (ys : List X) (k : ℕ) → k < length ys → X
    some_of [] k low = absurd (omega arith)
    some_of (y ∷ ys) k low = y

  found : (k : ℕ) → IsPlace name_of xs name (Ok k) → named name_of name xs ≡ slice_get xs k
  found k place =
      let low : k < length xs = place.here in
      let d : X = some k low in
      find-here name_of name xs k d ordered low (place.there d) ∙ sym (slice_get-get_or xs k d low)

  absent : (k : ℕ) → IsPlace name_of xs name (Err k) → All (λ x. name_of x ≢ name) xs
  absent k place = gap-absent name_of name xs k place.before place.after

  -- the place of a name is that of what has it
  pub named-place : (place : Result ℕ ℕ) → IsPlace name_of xs name place → IsNamedPlace name_of xs name (result_ok place)
  named-place (Ok k) place =
      let low : k < length xs = place.here in
      let d : X = some k low in
      record {
        here = low;
        found = sym (found k place);
        others = remove-here name_of name xs k d ordered low (place.there d);
        none = tt;
        all = tt;
      }
  named-place (Err k) place = record {
    here = tt;
    found = tt;
    others = tt;
    none = absent-find name_of name xs (absent k place);
    all = absent-without name_of name xs (absent k place);
  }

  -- a name that nothing has is not found
  pub is-gap : (place : Result ℕ ℕ) → IsPlace name_of xs name place → named name_of name xs ≡ None → IsErr place
  is-gap (Err k) place none = refl
  is-gap (Ok k) place none =
      let low : k < length xs = place.here in
      let some = sym none ∙ found k place ∙ slice_get-get_or xs k (some k low) low in
      absurd (cc some)

-- what is put in at the gap of its name is put in by its name
pub put-in-gap : {X : Type 0} (name_of : X → List ℕ) (x : X) (xs : List X) (k : ℕ) → IsPlace name_of xs (name_of x) (Err k) → insert xs k x ≡ put_in name_of x xs
put-in-gap name_of x xs k place = insert-gap name_of x xs k place.gap place.before place.after
