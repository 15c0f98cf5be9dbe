-- Which labels have a key, and when two lists of keys are the same.
use Rattle.std.proofs.Common.{◌≡◌, ◌<◌, inl, inr, ℕ, List, length, replicate, Option, None, Some, sym, ◌∙◌, arith}
use Rattle.std.proofs.lemmas.Bool.{cases_lt}
use Rattle.std.proofs.lemmas.List.{get_or_past, get_or-replicate, length-replicate, ext_get_or}
use Rattle.std.proofs.lemmas.Option.{none-some}
use Rattle.label_queue.specs.Keys.{key_of, IsEmpty}

-- a label with a key is below the limit
pub key_of-within : (keys : List (Option ℕ)) (label key : ℕ) → key_of keys label ≡ Some key → label < length keys
key_of-within keys label key is =
    elim (cases_lt label (length keys)) [ inl within ↦ within | inr past ↦ absurd (none-some key (sym (get_or_past keys label None past) ∙ is)) ]

-- keys are the same where each label has the same
pub same_keys : (keys others : List (Option ℕ)) → length keys ≡ length others → ((label : ℕ) → key_of keys label ≡ key_of others label) → keys ≡ others
same_keys keys others long same = ext_get_or None keys others long (λ label _. same label)

-- no label has a key
pub IsEmpty-replicate : (limit : ℕ) → IsEmpty (replicate limit None)
IsEmpty-replicate limit label =
    elim (cases_lt label limit) [
      | inl within ↦ get_or-replicate limit label None None within
      | inr past ↦ get_or_past (replicate limit None) label None (omega (arith, length-replicate {A = Option ℕ} limit None))
    ]
