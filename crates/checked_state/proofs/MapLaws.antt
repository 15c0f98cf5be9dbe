-- What is read of each item of a list, as items go in and out, and the place of a name among what is read.
use Rattle.std.proofs.Common.{◌≡◌, ℕ, zero, suc, ◌<◌, ◌≤◌, List, [], ◌∷◌, length, get_or, map, IsTrue, refl, sym, ap, subst, arith}
use Rattle.std.specs.Prelude.{Result, Ok, Err, AllPairs}
use Rattle.std.specs.List.{insert, remove}
use Rattle.std.proofs.lemmas.List.{length-map, get_or-map}
use Rattle.taxi_base.specs.State.{name_precedes}
use Rattle.checked_state.specs.Order.{IsPlace}

pub remove-insert : {A : Type 0} (xs : List A) (i : ℕ) (x : A) → i ≤ length xs → remove (insert xs i x) i ≡ xs
remove-insert xs zero x low = refl
remove-insert [] (suc i) x low = absurd (omega arith)
remove-insert (y ∷ xs) (suc i) x low = ap (λ l. y ∷ l) (remove-insert xs i x (omega arith))

pub length-insert : {A : Type 0} (xs : List A) (i : ℕ) (x : A) → length (insert xs i x) ≡ suc (length xs)
length-insert xs zero x = refl
length-insert [] (suc i) x = refl
length-insert (y ∷ xs) (suc i) x = ap suc (length-insert xs i x)

pub insert-here : {A : Type 0} (xs : List A) (i : ℕ) (x d : A) → i ≤ length xs → get_or (insert xs i x) i d ≡ x
insert-here xs zero x d low = refl
insert-here [] (suc i) x d low = absurd (omega arith)
insert-here (y ∷ xs) (suc i) x d low = insert-here xs i x d (omega arith)

-- the item at a place, whatever stands for one that is not there
item : {A : Type 0} (xs : List A) (k : ℕ) → k < length xs → (x : A) × ((d : A) → get_or xs k d ≡ x)
item [] k low = absurd (omega arith)
item (x ∷ xs) zero low = (x, λ d. refl)
item (x ∷ xs) (suc k) low = item xs k (omega arith)

module _ {A B : Type 0} where
  pub map-insert : (xs : List A) (i : ℕ) (x : A) (f : A → B) → map f (insert xs i x) ≡ insert (map f xs) i (f x)
  map-insert xs zero x f = refl
  map-insert [] (suc i) x f = refl
  map-insert (y ∷ xs) (suc i) x f = ap (λ l. f y ∷ l) (map-insert xs i x f)

  pub map-remove : (xs : List A) (i : ℕ) (f : A → B) → map f (remove xs i) ≡ remove (map f xs) i
  map-remove [] zero f = refl
  map-remove (y ∷ xs) zero f = refl
  map-remove [] (suc i) f = refl
  map-remove (y ∷ xs) (suc i) f = ap (λ l. f y ∷ l) (map-remove xs i f)

  module _ (xs : List A) (f : A → B) where
    pub pairs-of_map : (R : B → B → Type 0) → AllPairs R (map f xs) → AllPairs (λ x y. R (f x) (f y)) xs
    pairs-of_map R all i j d below low =
        let counted = length-map xs f in
        subst (λ x. R x (f (get_or xs j d))) (get_or-map f xs i d (f d) (omega arith))
        (subst (R (get_or (map f xs) i (f d))) (get_or-map f xs j d (f d) low) (all i j (f d) below (omega arith)))

    module _ (name_of : B → List ℕ) (name : List ℕ) where
      read-at : (P : B → Type 0) (k : ℕ) (e : B) → k < length xs → ((d : A) → P (f (get_or xs k d))) → P (get_or (map f xs) k e)
      read-at P k e low each = let d = (item xs k low).0 in subst P (sym (get_or-map f xs k d e low)) (each d)

      pub place-of_map : (r : Result ℕ ℕ) → IsPlace (λ x. name_of (f x)) xs name r → IsPlace name_of (map f xs) name r
      place-of_map (Ok k) place = record {
        here = omega (arith, place.here, length-map xs f);
        named = λ e. read-at (λ x. name_of x ≡ name) k e place.here place.named;
        gap = tt;
        before = tt;
        after = tt;
      }
      place-of_map (Err k) place = record {
        here = tt;
        named = tt;
        gap = omega (arith, place.gap, length-map xs f);
        before = λ j e low high. read-at (λ x. IsTrue (name_precedes (name_of x) name)) j e (omega (arith, place.gap)) (λ d. place.before j d low high);
        after = λ j e low high. (let on : j < length xs = omega (arith, high, length-map xs f) in read-at (λ x. IsTrue (name_precedes name (name_of x))) j e on (λ d. place.after j d low on));
      }
