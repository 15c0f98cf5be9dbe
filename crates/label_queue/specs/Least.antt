-- Which label is taken out first.
use Rattle.std.specs.Prelude.{◌≡◌, ◌≢◌, ◌<◌, ◌⊎◌, ℕ, List, Option, Some}
use Rattle.label_queue.specs.Keys.{key_of}

-- a label with its key comes before another with its own: it has the lesser key, or at a tie it is the lesser label
abbrev pub ComesBefore : (label key other other_key : ℕ) → Type 0
ComesBefore label key other other_key = (key < other_key) ⊎ ((key ≡ other_key) × (label < other))

-- the label has this key, and comes before each other label that has one
pub record IsLeast (keys : List (Option ℕ)) (label key : ℕ) : Type 0 where
  pub has_key : key_of keys label ≡ Some key
  pub comes_first : (other other_key : ℕ) → other ≢ label → key_of keys other ≡ Some other_key → ComesBefore label key other other_key
