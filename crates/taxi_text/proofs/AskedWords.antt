-- The six words that ask for a route, at the head of some words.
use Rattle.std.proofs.Common.{◌≡◌, ◌∷◌, [], ℕ, List, refl, take, Option, Some}
use Rattle.taxi_text.specs.declared.command.Asked.{Asked}
use Rattle.taxi_text.specs.Commands.{a_name, a_number, asked_of}

-- what the first six words ask for, whatever follows
abbrev pub asked_first : List (List ℕ) → Option Asked
asked_first = a_name (λ flight. a_name (λ class. a_name (λ from. a_name (λ to. a_number (λ time. a_number (λ slack words.
    Some (record { flight = flight; class = class; from = from; to = to; time = time; slack = slack })))))))

pub asked-take : (words : List (List ℕ)) → asked_of (take 6 words) ≡ asked_first words
asked-take [] = refl
asked-take (a ∷ []) = refl
asked-take (a ∷ b ∷ []) = refl
asked-take (a ∷ b ∷ c ∷ []) = refl
asked-take (a ∷ b ∷ c ∷ d ∷ []) = refl
asked-take (a ∷ b ∷ c ∷ d ∷ e ∷ []) = refl
asked-take (a ∷ b ∷ c ∷ d ∷ e ∷ f ∷ words) = refl
