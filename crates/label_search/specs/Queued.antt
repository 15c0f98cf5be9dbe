-- Which cells can be in the queue? Only such as have a label.
use Rattle.std.specs.Prelude.{◌≡◌, ℕ, List, Option, None, slice_index_or}
use Rattle.label_queue.specs.Keys.{key_of}

-- each cell that has a key has a label: one without a label has none
abbrev pub HaveLabels : {A : Type 0} → List (Option A) → List (Option ℕ) → Type 0
HaveLabels known keys = (c : ℕ) → slice_index_or known c None ≡ None → key_of keys c ≡ None
