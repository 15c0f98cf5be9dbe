-- What an index finds once a name is added.
use Rattle.std.proofs.Common.{◌≡◌, ◌≢◌, ℕ, ◌<◌, ◌≤◌, Bool, true, false, List, [], ◌∷◌, ◌++◌, length, length-append, get_or, Some, None, refl, sym, subst, arith, inl, inr, ◌∙◌}
use Rattle.std.specs.Prelude.{not, bytes_eq, nat_eq, IsTrue}
use Rattle.std.specs.List.{position, position_or_len}
use Rattle.std.specs.HashMap.{HashMap, get, Updates}
use Rattle.std.proofs.lemmas.Bool.{cases_Bool, false_from_ne_true}
use Rattle.std.proofs.lemmas.Bool.Decides.{nat_tests}
use Rattle.std.proofs.lemmas.List.Folds.{position_or_len_push}
use Rattle.std.proofs.lemmas.List.Elements.{All-push}
use Rattle.std.proofs.lemmas.List.Quantifiers.{all_pairs_push, position-Some}
use Rattle.std.proofs.lemmas.List.Sums.{fails_before_first, prefix_len-le-length}
use Rattle.std.proofs.lemmas.Slice.Eq.{bytes_eq-Decides}
use Rattle.taxi_base.specs.Words.{is_name}
use Rattle.taxi_base.specs.Airport.{place_of}
use Rattle.airport_rules.specs.Places.{ArePlaced, number_of}
use Rattle.airport_rules.proofs.NumberLaws.{number_of-same}

-- an element that passes a test, after some that do not
pub position-push_first : {X : Type 0} (p : X → Bool) (xs : List X) (y : X) → position p xs ≡ None → p y ≡ true → position p (xs ++ y ∷ []) ≡ Some (length xs)
position-push_first p xs y none passes =
    grind (arith, nat_tests, position_or_len_push p xs y, length-append xs (y ∷ []), prefix_len-le-length (λ x. not (p x)) xs)

-- an element that does not pass it
pub position-push_other : {X : Type 0} (p : X → Bool) (xs : List X) (y : X) → p y ≡ false → position p (xs ++ y ∷ []) ≡ position p xs
position-push_other p xs y fails =
    grind (arith, nat_tests, position_or_len_push p xs y, length-append xs (y ∷ []), prefix_len-le-length (λ x. not (p x)) xs)

-- a name that is not found differs from each
pub not_found-differs : (names : List (List ℕ)) (name : List ℕ) → place_of name names ≡ None → (k : ℕ) (d : List ℕ) → k < length names → get_or names k d ≢ name
not_found-differs names name none k d h same =
    let hit : bytes_eq name (get_or names k d) ≡ true = (bytes_eq-Decides name (get_or names k d)).1 (sym same) in
    let past : length names ≤ position_or_len (bytes_eq name) names = grind (arith, nat_tests, none) in
    let miss : bytes_eq name (get_or names k d) ≡ false = fails_before_first (bytes_eq name) names k d (omega arith) in
    cc

-- names that differ have numbers that differ
apart : (name q : List ℕ) → IsTrue (is_name name) → IsTrue (is_name q) → bytes_eq q name ≡ false → nat_eq (number_of name) (number_of q) ≡ false
apart name q name_ok q_ok other = false_from_ne_true _ (λ equal.
    let same : name ≡ q = number_of-same name q name_ok q_ok (grind (arith, nat_tests, equal)) in
    let hit : bytes_eq q name ≡ true = (bytes_eq-Decides q name).1 (sym same) in
    cc)

pub found-push : {S : Type 0} (places added : HashMap ℕ ℕ S) (names : List (List ℕ)) (name : List ℕ) → ((q : List ℕ) → IsTrue (is_name q) → get nat_eq places (number_of q) ≡ place_of q names)
    → place_of name names ≡ None → IsTrue (is_name name) → Updates nat_eq places added (number_of name) (Some (length names))
    → (q : List ℕ) → IsTrue (is_name q) → get nat_eq added (number_of q) ≡ place_of q (names ++ name ∷ [])
found-push places added names name old fresh name_ok updates q q_ok = elim (cases_Bool (bytes_eq q name)) [
  | inl same ↦
      let is : q ≡ name = (bytes_eq-Decides q name).0 same in
      subst (λ (z : List ℕ). get nat_eq added (number_of z) ≡ place_of z (names ++ name ∷ [])) (sym is)
      (updates.1 ∙ sym (position-push_first (bytes_eq name) names name fresh ((bytes_eq-Decides name name).1 refl)))
  | inr other ↦
      updates.2 (number_of q) (apart name q name_ok q_ok other) ∙ old q q_ok ∙ sym (position-push_other (bytes_eq q) names name other)
]

pub ArePlaced-push : {S : Type 0} (places added : HashMap ℕ ℕ S) (names : List (List ℕ)) (name : List ℕ) → ArePlaced places names → length names < 10000 → place_of name names ≡ None → IsTrue (is_name name)
    → Updates nat_eq places added (number_of name) (Some (length names)) → ArePlaced added (names ++ name ∷ [])
ArePlaced-push places added names name old room fresh valid updates = record {
  few = rw length-append (omega (arith, room));
  found = found-push places added names name old.found fresh valid updates;
  each = All-push (λ (x : List ℕ). is_name x ≡ true) names name old.each valid;
  differ = all_pairs_push ◌≢◌ names name old.differ (not_found-differs names name fresh);
}

-- a place that is found is one of the list's
pub place-within : (name : List ℕ) (names : List (List ℕ)) (at : ℕ) → place_of name names ≡ Some at → at < length names
place-within name names at found = (position-Some (bytes_eq name) names at [] found).0
