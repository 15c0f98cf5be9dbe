-- What was taken of a file, by the pieces that came of it.
use Rattle.std.proofs.Common.{◌≡◌, ◌∙◌, ◌<◌, ◌++◌, ℕ, List, Option, Some, None, [], ◌∷◌, refl, sym, ap, length, drop, length-append, arith}
use Rattle.std.proofs.lemmas.Option.{none-some, same_Some}
use Rattle.taxi_io.specs.Files.{Files, Begins, Gave, IsLonger, TookFront}

-- more came than a limit, so the file is longer
pub front-longer : (told : Option Files) (name piece : List ℕ) (first rest : Option (List ℕ)) (limit : ℕ) → Begins told name first → Gave first rest piece → limit < length piece → IsLonger told name limit
front-longer None name piece first rest limit begins gave long = (piece, tt, long)
front-longer (Some files) name piece first None limit (bytes, file, is) gave long = absurd (none-some bytes (sym gave ∙ is))
front-longer (Some files) name piece first (Some left) limit (bytes, file, is) gave long =
    let same : bytes ≡ piece ++ left = same_Some bytes (piece ++ left) (sym is ∙ gave) in
    let many : length bytes ≡ length (piece ++ left) = ap length same in
    (bytes, file, omega (arith, many, length-append piece left, long))

-- as many bytes were taken as came
pub front-taken : (told : Option Files) (name piece : List ℕ) (first rest : Option (List ℕ)) → Begins told name first → Gave first rest piece → TookFront told name rest (length piece)
front-taken None name piece first rest begins gave = tt
front-taken (Some files) name piece first None (bytes, file, is) gave = absurd (none-some bytes (sym gave ∙ is))
front-taken (Some files) name piece first (Some left) (bytes, file, is) gave =
    let same : bytes ≡ piece ++ left = same_Some bytes (piece ++ left) (sym is ∙ gave) in
    let many : length bytes ≡ length (piece ++ left) = ap length same in
    (bytes, file, omega (arith, many, length-append piece left), ap (λ (l : List ℕ). Some l) (sym (ap (drop (length piece)) same ∙ behind piece left))) where
      behind : (a b : List ℕ) → drop (length a) (a ++ b) ≡ b
      behind [] b = refl
      behind (x ∷ a) b = behind a b
