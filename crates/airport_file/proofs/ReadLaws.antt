-- How the records are judged one after the other.
use Rattle.std.proofs.Common.{◌≡◌, ℕ, ◌+◌, List, [], ◌∷◌, Ok, Option, Some, None, zero, suc, refl, ap, sym, ◌∙◌, ◌++◌, ◌<◌, take, length, arith, true, inl, inr}
use Rattle.std.specs.Borrow.{Bor}
use Rattle.std.proofs.lemmas.List.{map-append, take_more}
use Rattle.std.proofs.lemmas.Option.{get_or_from_slice_get, slice_get_within, slice_get_cases}
use Rattle.airport_rules.specs.Judged.{texts_of}
use Rattle.std.specs.Prelude.{slice_get, option_map, is_some}
use Rattle.csv.specs.Records.{field_at}
use Rattle.airport_rules.specs.declared.version.Version.{Version}
use Rattle.airport_rules.specs.Plan.{Plan}
use Rattle.airport_rules.specs.Rules.{judge}
use Rattle.airport_file.specs.Reading.{judged_after}

-- a record that breaks no rule
pub judged-taken : (version : Version) (last : ℕ) (plan new : Plan) (row : List (List ℕ)) (rows : List (List (List ℕ))) → judge version plan row ≡ Ok new → judged_after version last plan (row ∷ rows) ≡ judged_after version (last + 1) new rows
judged-taken version last plan new row rows e = rw e refl

pub field_at-get : (fields : List (List ℕ)) (i : ℕ) → field_at fields i ≡ slice_get fields i
unfolding field_at
field_at-get [] i = refl
field_at-get (f ∷ fields) zero = refl
field_at-get (f ∷ fields) (suc i) = field_at-get fields i

-- where there is a place there is a field
pub field-there : (fields : List (List ℕ)) (i : ℕ) (o : Option (Bor (List ℕ))) → i < length fields → option_map (λ (f : Bor (List ℕ)). f.now) o ≡ field_at fields i → is_some o ≡ true
field-there fields i (Some f) low e = refl
field-there fields i None low e = elim (slice_get_cases fields i).1 [
  | inl there ↦ absurd (let got = there.2 in cc (e ∙ field_at-get fields i ∙ got))
  | inr past ↦ absurd (let far = past.0 in omega (arith, low, far))
]

-- the fields so far and one more
pub texts-more : (got : List (Bor (List ℕ))) (f : Bor (List ℕ)) (fields : List (List ℕ)) (i : ℕ) → texts_of got ≡ take i fields → Some f.now ≡ field_at fields i
    → texts_of (got ++ f ∷ []) ≡ take (i + 1) fields
texts-more got f fields i e at =
    let found : slice_get fields i ≡ Some f.now = sym (field_at-get fields i) ∙ sym at in
    map-append (λ (f : Bor (List ℕ)). f.now) got (f ∷ []) ∙ ap (λ xs. xs ++ f.now ∷ []) e
    ∙ ap (λ x. take i fields ++ x ∷ []) (sym (get_or_from_slice_get fields i f.now [] found)) ∙ sym (take_more fields i [] (slice_get_within fields i f.now found))
