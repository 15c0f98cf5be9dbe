-- The lines of the advice, one after the other.
use Rattle.std.proofs.Common.{◌≡◌, ℕ, ◌+◌, ◌<◌, List, [], ◌∷◌, ◌++◌, length, take, get_or, codes, decimal, append-nil, append_assoc, ap, sym, ◌∙◌}
use Rattle.std.specs.Prelude.{flat_map}
use Rattle.std.proofs.lemmas.List.{take_more}
use Rattle.std.proofs.lemmas.Grind.{flat_map-append}
use Rattle.taxi_base.specs.Airport.{Airport}
use Rattle.airport_lint.specs.declared.advice.Advice.{Advice}
use Rattle.airport_lint.specs.Text.{subject_of, matter_of, line_of, advice_text}

pub lines-more : (line : Advice → List ℕ) (told : List Advice) (i : ℕ) (d : Advice) (before text after : List ℕ) → i < length told
    → text ≡ before ++ flat_map line (take i told) → after ≡ text ++ line (get_or told i d) → after ≡ before ++ flat_map line (take (i + 1) told)
lines-more line told i d before text after low so_far next =
    let all : flat_map line (take (i + 1) told) ≡ flat_map line (take i told) ++ line (get_or told i d) =
    ap (flat_map line) (take_more told i d low) ∙ flat_map-append line (take i told) (get_or told i d ∷ [])
    ∙ ap (λ t. flat_map line (take i told) ++ t) (append-nil (line (get_or told i d))) in
    next ∙ ap (λ t. t ++ line (get_or told i d)) so_far ∙ append_assoc before (flat_map line (take i told)) (line (get_or told i d)) ∙ ap (λ t. before ++ t) (sym all)

pub four-pieces : (airport : Airport) (advice : Advice) (before one two three four subject matter : List ℕ) → subject ≡ subject_of airport advice → matter ≡ matter_of advice
    → one ≡ before ++ subject → two ≡ one ++ codes " " → three ≡ two ++ matter → four ≡ three ++ codes "\n" → four ≡ before ++ line_of airport advice
unfolding line_of
four-pieces airport advice before one two three four subject matter is_subject is_matter a b c d =
    rw (d, c, b, a, is_subject, is_matter)
    (append_assoc ((before ++ subject_of airport advice) ++ codes " ") (matter_of advice) (codes "\n")
    ∙ append_assoc (before ++ subject_of airport advice) (codes " ") (matter_of advice ++ codes "\n")
    ∙ append_assoc before (subject_of airport advice) (codes " " ++ (matter_of advice ++ codes "\n")))

pub whole-text : (airport : Airport) (told : List Advice) (start lines done number text : List ℕ) (count : ℕ) → start ≡ [] → lines ≡ start ++ flat_map (line_of airport) told
    → done ≡ lines ++ codes "done " → number ≡ done ++ decimal count → count ≡ length told → text ≡ number ++ codes "\n" → text ≡ advice_text airport told
unfolding advice_text
whole-text airport told start lines done number text count a b c d e f =
    rw (f, d, c, b, a, e)
    (append_assoc (flat_map (line_of airport) told ++ codes "done ") (decimal (length told)) (codes "\n")
    ∙ append_assoc (flat_map (line_of airport) told) (codes "done ") (decimal (length told) ++ codes "\n"))
