-- Which key each label has: the list gives the key of each label below the limit, and None where the label isn't in the queue.
use Rattle.std.specs.Prelude.{◌≡◌, ℕ, List, Option, None, Some, min, slice_index_or, slice_set}

-- the key of a label: None where it isn't in the queue, or isn't below the limit
abbrev pub key_of : List (Option ℕ) → ℕ → Option ℕ
key_of keys label = slice_index_or keys label None

-- the lesser of the key that a label has, if it has one, and another key
abbrev pub lesser : Option ℕ → ℕ → ℕ
lesser None key = key
lesser (Some old) key = min old key

-- the keys once a key was offered for a label: the label has it, or the lesser one that it had
abbrev pub lowered : List (Option ℕ) → ℕ → ℕ → List (Option ℕ)
lowered keys label key = slice_set keys label (Some (lesser (key_of keys label) key))

-- the keys once a label was taken out
abbrev pub without : List (Option ℕ) → ℕ → List (Option ℕ)
without keys label = slice_set keys label None

-- no label has a key
abbrev pub IsEmpty : List (Option ℕ) → Type 0
IsEmpty keys = (label : ℕ) → key_of keys label ≡ None
