-- Names of an airport's rows, found by their places.
use Rattle.std.proofs.Common.{◌≡◌, ◌≢◌, ℕ, ◌<◌, ◌+◌, true, false, List, [], ◌∷◌, ◌++◌, length, length-append, get_or, Some, None, Option, refl, sym, subst, arith, ◌∙◌}
use Rattle.std.specs.Prelude.{bytes_eq, nat_le, is_some}
use Rattle.std.proofs.lemmas.Bool.Decides.{nat_tests}
use Rattle.std.proofs.lemmas.List.{get_or_append_left}
use Rattle.std.proofs.lemmas.List.Quantifiers.{position-Some}
use Rattle.std.proofs.lemmas.Slice.Eq.{bytes_eq-Decides}
use Rattle.taxi_base.specs.Words.{is_name}
use Rattle.taxi_base.specs.Airport.{AreNames, place_of}
use Rattle.airport_rules.specs.Rules.{is_given}

-- the element after some others
pub get_or-next : {X : Type 0} (xs : List X) (x : X) (ys : List X) (d : X) → get_or (xs ++ x ∷ ys) (length xs) d ≡ x
get_or-next [] x ys d = refl
get_or-next (y ∷ xs) x ys d = get_or-next xs x ys d

-- ---- one more name

not_found : (names : List (List ℕ)) (name : List ℕ) → ((k : ℕ) → k < length names → get_or names k [] ≢ name) → is_given name names ≡ false
not_found names name differs = go (place_of name names) refl
  where
    go : (o : Option ℕ) → place_of name names ≡ o → is_some o ≡ false
    go (Some k) e = let found = position-Some (bytes_eq name) names k [] e in
        absurd (differs k found.0 (sym ((bytes_eq-Decides name (get_or names k [])).0 found.1)))
    go None e = refl

pub record IsNext (limit : ℕ) (before : List (List ℕ)) (name : List ℕ) : Type 0 where
  pub valid : is_name name ≡ true
  pub fresh : is_given name before ≡ false
  pub room : nat_le limit (length before) ≡ false

-- among names the next after some is a new one, and there is room for it
pub names-next : (limit : ℕ) (before : List (List ℕ)) (name : List ℕ) (after : List (List ℕ)) → AreNames limit (before ++ name ∷ after) → IsNext limit before name
names-next limit before name after names =
    let longer : length (before ++ name ∷ after) ≡ length before + (length after + 1) = omega (arith, length-append before (name ∷ after)) in
    let within : length before < length (before ++ name ∷ after) = omega (arith, longer) in
    record {
      valid = subst (λ n. is_name n ≡ true) (get_or-next before name after []) (names.each (length before) [] within);
      fresh = not_found before name (λ k low same.
          names.differ k (length before) [] low within (get_or_append_left before (name ∷ after) [] k low ∙ same ∙ sym (get_or-next before name after [])));
      room = let few = names.few in grind (arith, nat_tests, longer, few);
    }
