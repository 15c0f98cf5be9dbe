-- The file that is begun, and what was taken of it.
use Rattle.std.proofs.Common.{◌≡◌, ◌++◌, ◌∙◌, [], ℕ, List, Option, Some, None, ap, subst}
use Rattle.taxi_io.specs.Files.{Files, IsFile, Begins, Gave}
use Rattle.command_run.specs.Answered.{AreLeft}

-- what is left of it is the file
pub begun-file : (told : Option Files) (name : List ℕ) (rest : Option (List ℕ)) (bytes : List ℕ) → Begins told name rest → AreLeft rest bytes → IsFile told name bytes
begun-file None name rest bytes begins left = tt
begun-file (Some files) name rest bytes begins left = begins.1 ∙ ap (λ (b : List ℕ). Some b) (subst (λ (r : Option (List ℕ)). AreLeft r bytes) begins.2 left)

-- what was taken of it is its front
pub taken-file : (told : Option Files) (name : List ℕ) (rest left : Option (List ℕ)) (taken : List ℕ) → Begins told name rest → Gave rest left taken
    → (more : List ℕ) × IsFile told name (taken ++ more)
taken-file None name rest left taken begins gave = ([], tt)
taken-file (Some files) name rest None taken begins gave = absurd (cc (begins.2, gave))
taken-file (Some files) name rest (Some more) taken begins gave =
    let same : begins.0 ≡ taken ++ more = cc (begins.2, gave) in (more, begins.1 ∙ ap (λ (b : List ℕ). Some b) same)
