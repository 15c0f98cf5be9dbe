-- The names of words, when some of them were read.
use Rattle.std.proofs.Common.{◌≡◌, ◌++◌, ◌∷◌, ◌∙◌, [], ℕ, List, sym, ap, Option, Some}
use Rattle.taxi_text.specs.Fields.{name_of}
use Rattle.taxi_text.specs.Commands.{◌>>=◌, names_of}
use Rattle.taxi_text.proofs.Gathering.{going_on, onto}

-- one name more is read
pub name_more : (all : Option (List (List ℕ))) (done : List (List ℕ)) (name word : List ℕ) (left words : List (List ℕ))
    → all ≡ going_on done (names_of left) → left ≡ word ∷ words → Some name ≡ name_of word → all ≡ going_on (done ++ name ∷ []) (names_of words)
name_more all done name word left words e l n =
    e ∙ ap (λ w. going_on done (names_of w)) l
    ∙ ap (λ o. going_on done (o >>= (λ name. names_of words >>= (λ names. Some (name ∷ names))))) (sym n) ∙ onto done name (names_of words)
