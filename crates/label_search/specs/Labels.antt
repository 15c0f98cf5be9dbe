-- What has a search found for each cell so far? A label: the value, and the cell that the value came by.
use Rattle.std.specs.Prelude.{◌≡◌, ◌≢◌, ◌<◌, ◌≤◌, ℕ, List, length, Option, Some, None, slice_index_or}
use Rattle.label_queue.specs.Keys.{key_of, lesser}
use Rattle.label_search.specs.declared.labels.Label.{Label}
use Rattle.label_search.specs.declared.labels.Labels.{Labels}

-- the labels that are known, and the keys of those cells that are in the queue
pub record Standing : Type 0 where
  pub known : List (Option Label)
  pub keys : List (Option ℕ)

abbrev pub standing : Labels → Standing
standing labels = record { known = labels.known.items; keys = labels.queue }

-- the label of a cell: None where there is none
abbrev pub label_of : List (Option Label) → ℕ → Option Label
label_of known c = slice_index_or known c None

-- the cell has the value
abbrev pub HasValue : List (Option Label) → ℕ → ℕ → Type 0
HasValue known c v = (label : Label) × (label_of known c ≡ Some label) × (label.value ≡ v)

-- A label is offered to a cell that has this label, or none, and this key in the queue, or none; then the cell has that
-- label and that key. The lesser value wins, and at a tie the label stays.
pub data IsOffered (offer : Label) : Option Label → Option ℕ → Option Label → Option ℕ → Type 0 where
  first : (key : Option ℕ) → IsOffered offer None key (Some offer) (Some (lesser key offer.value))
  lower : (old : Label) (key : Option ℕ) → offer.value < old.value → IsOffered offer (Some old) key (Some offer) (Some (lesser key offer.value))
  kept : (old : Label) (key : Option ℕ) → old.value ≤ offer.value → IsOffered offer (Some old) key (Some old) key

-- as many cells as before
pub record SameLengths (old new : Standing) : Type 0 where
  pub known : length new.known ≡ length old.known
  pub keys : length new.keys ≡ length old.keys

-- the cell stands as before
pub record Same (old new : Standing) (cell : ℕ) : Type 0 where
  pub label : label_of new.known cell ≡ label_of old.known cell
  pub key : key_of new.keys cell ≡ key_of old.keys cell

-- the cell was offered the label
abbrev pub WasOffered : Standing → Standing → ℕ → Label → Type 0
WasOffered old new cell offer = IsOffered offer (label_of old.known cell) (key_of old.keys cell) (label_of new.known cell) (key_of new.keys cell)

-- that cell alone was
pub record IsImproved (old new : Standing) (cell : ℕ) (offer : Label) : Type 0 where
  pub lengths : SameLengths old new
  pub here : WasOffered old new cell offer
  pub elsewhere : (x : ℕ) → x ≢ cell → Same old new x
