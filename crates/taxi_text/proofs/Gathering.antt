-- What was read of a list, when some of it was read.
use Rattle.std.proofs.Common.{◌≡◌, ◌<◌, ◌++◌, ◌∷◌, ◌∙◌, [], ℕ, List, refl, sym, ap, length, append_assoc, append-nil, length-append, Option, Some, None, arith}
use Rattle.taxi_text.specs.Commands.{◌>>=◌, up_to}

-- what was read, and what the words that are left give
abbrev pub going_on : {X : Type 0} → List X → Option (List X) → Option (List X)
going_on done rest = rest >>= (λ items. Some (done ++ items))

pub onto : {X : Type 0} (done : List X) (item : X) (rest : Option (List X)) → going_on done (rest >>= (λ items. Some (item ∷ items))) ≡ going_on (done ++ item ∷ []) rest
onto done item None = refl
onto done item (Some items) = ap (λ s. Some s) (sym (append_assoc done (item ∷ []) items))

-- more than so many are none
too_long : {X : Type 0} (most : ℕ) (items : List X) → most < length items → up_to most items ≡ None
too_long most items h = grind arith

beyond : {X : Type 0} (most : ℕ) (done : List X) (rest : Option (List X)) → most < length done → (going_on done rest >>= up_to most) ≡ None
beyond most done None h = refl
beyond most done (Some items) h = too_long most (done ++ items) (omega (arith, length-append done items))

-- one more after so many
pub too_many : {X : Type 0} (most : ℕ) (all : Option (List X)) (done : List X) (item : X) (rest : Option (List X))
    → all ≡ going_on (done ++ item ∷ []) rest → length done ≡ most → (all >>= up_to most) ≡ None
too_many most all done item rest e l =
    ap (λ a. a >>= up_to most) e ∙ beyond most (done ++ item ∷ []) rest (omega (arith, l, length-append done (item ∷ [])))

-- nothing is left
pub all_done : {X : Type 0} (all : Option (List X)) (done : List X) (rest : Option (List X)) → all ≡ going_on done rest → rest ≡ Some [] → all ≡ Some done
all_done all done rest e l = e ∙ ap (going_on done) l ∙ ap (λ s. Some s) (append-nil done)
