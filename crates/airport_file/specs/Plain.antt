-- The records of a text of plain lines.
use Rattle.std.specs.Prelude.{◌≡◌, ◌<◌, ◌++◌, ◌==◌, ◌||◌, ℕ, Bool, List, [], ◌∷◌, if◌then◌else◌, false}

-- a line split at its commas, with the bytes so far of the field at hand
abbrev pub split_from : List ℕ → List ℕ → List (List ℕ)
split_from field [] = field ∷ []
split_from field (b ∷ rest) = if b == 44 then field ∷ split_from [] rest else split_from (field ++ b ∷ []) rest

abbrev pub split_at_commas : List ℕ → List (List ℕ)
split_at_commas line = split_from [] line

-- ASCII with no double quote, no CR and no LF
abbrev pub IsPlain : List ℕ → Type 0
IsPlain [] = Unit {0}
IsPlain (b ∷ rest) = (b < 128) × ((b == 34) ≡ false) × ((b == 13) ≡ false) × ((b == 10) ≡ false) × IsPlain rest

abbrev pub IsPlainLine : List ℕ → Type 0
IsPlainLine [] = ⊥
IsPlainLine (b ∷ rest) = IsPlain (b ∷ rest)

abbrev pub ArePlainLines : List (List ℕ) → Type 0
ArePlainLines [] = Unit {0}
ArePlainLines (l ∷ ls) = IsPlainLine l × ArePlainLines ls

-- the lines, each ended by LF
abbrev pub text_of_lines : List (List ℕ) → List ℕ
text_of_lines [] = []
text_of_lines (l ∷ ls) = l ++ (10 ∷ text_of_lines ls)

-- a comma, LF, CR or double quote
abbrev pub is_mark : ℕ → Bool
is_mark b = b == 44 || b == 10 || b == 13 || b == 34
