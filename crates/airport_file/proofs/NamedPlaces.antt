-- The name at a place: where names differ, each is found at its place.
use Rattle.std.proofs.Common.{◌≡◌, ◌≢◌, ℕ, ◌<◌, zero, suc, true, List, [], ◌∷◌, length, map, get_or, Some, sym, subst, arith, refl}
use Rattle.std.specs.Prelude.{unwrap_or, option_map, slice_get, bytes_eq, AllPairs}
use Rattle.std.specs.List.{position_or_len}
use Rattle.std.proofs.lemmas.Bool.{false_from_ne_true}
use Rattle.std.proofs.lemmas.Bool.Decides.{nat_tests}
use Rattle.std.proofs.lemmas.List.{length-map}
use Rattle.std.proofs.lemmas.List.Sums.{position_or_len_is}
use Rattle.std.proofs.lemmas.Slice.Eq.{bytes_eq-Decides}
use Rattle.taxi_base.specs.Words.{is_name}
use Rattle.taxi_base.specs.Airport.{AreNames, place_of}

pub place-at : (names : List (List ℕ)) (k : ℕ) → AllPairs ◌≢◌ names → k < length names → place_of (get_or names k []) names ≡ Some k
place-at names k differ low =
    let at : position_or_len (bytes_eq (get_or names k [])) names ≡ k =
    position_or_len_is (bytes_eq (get_or names k [])) names k [] (omega arith)
    (λ j below. false_from_ne_true _ (λ same. differ j k [] below low (sym ((bytes_eq-Decides (get_or names k []) (get_or names j [])).0 same))))
    (λ _. (bytes_eq-Decides (get_or names k []) (get_or names k [])).1 refl) in
    grind (arith, nat_tests, at)

-- the word for a row of a place is the name there
pub word-at : {X : Type 0} (name : X → List ℕ) (rows : List X) (k : ℕ) → unwrap_or (option_map name (slice_get rows k)) [] ≡ get_or (map name rows) k []
word-at name [] k = refl
word-at name (x ∷ rows) zero = refl
word-at name (x ∷ rows) (suc k) = word-at name rows k

-- the word is a name, and is found at the place
pub record IsFound (word : List ℕ) (names : List (List ℕ)) (k : ℕ) : Type 0 where
  pub valid : is_name word ≡ true
  pub place : place_of word names ≡ Some k

pub word-found : {X : Type 0} (name : X → List ℕ) (rows : List X) (k limit : ℕ) → AreNames limit (map name rows) → k < length rows
    → IsFound (unwrap_or (option_map name (slice_get rows k)) []) (map name rows) k
word-found name rows k limit names low =
    let within : k < length (map name rows) = rw length-map low in
    subst (λ word. IsFound word (map name rows) k) (sym (word-at name rows k)) (record {
      valid = names.each k [] within;
      place = place-at (map name rows) k names.differ within;
    })
