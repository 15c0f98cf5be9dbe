-- What is written last of a check?
use Rattle.std.specs.Prelude.{ℕ, List, [], ◌∷◌, ◌++◌, codes, decimal}
use Rattle.transcript_check.specs.declared.failure.Failure.{Failure}
use Rattle.transcript_check.specs.Words.{failure_word}

-- the number of blocks that pass
abbrev pub ok_line : ℕ → List ℕ
ok_line count = codes "ok " ++ decimal count ++ 10 ∷ []

-- the first block that fails, counted from 1, and why
abbrev pub wrong_line : ℕ → Failure → List ℕ
wrong_line number why = codes "wrong " ++ decimal number ++ 32 ∷ failure_word why ++ 10 ∷ []
