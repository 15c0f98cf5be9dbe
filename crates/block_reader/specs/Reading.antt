-- Reading from left to right: what stands at the front of the bytes, and the bytes behind it. None where it does not stand
-- there.
use Rattle.std.specs.Prelude.{ℕ, Bool, true, false, ◌&&◌, zero, suc, ◌≡◌, ◌==◌, List, [], ◌∷◌, Option, Some, None, Result, Ok, Err, option_map, if◌then◌else◌, ⊤}
use Rattle.std.specs.Option.{option_map_or}
use Rattle.taxi_text.specs.Commands.{◌>>=◌}
use Rattle.block_reader.specs.declared.refused.BlockRefused.{BlockRefused}
use Rattle.block_reader.specs.declared.refused.BlockRefused.TheVariants.{NotABlock, Memory}

-- ---- pieces

-- the bytes behind a text that stands at the front
abbrev pub behind : List ℕ → List ℕ → Option (List ℕ)
behind [] bytes = Some bytes
behind (b ∷ text) [] = None
behind (b ∷ text) (c ∷ bytes) = if c == b then behind text bytes else None

-- whether it does
abbrev pub begins_with : List ℕ → List ℕ → Bool
begins_with [] bytes = true
begins_with (b ∷ text) [] = false
begins_with (b ∷ text) (c ∷ bytes) = c == b && begins_with text bytes

-- the bytes up to the first that is this one, and those behind it
abbrev pub word_at : ℕ → List ℕ → Option (List ℕ × List ℕ)
word_at last [] = None
word_at last (b ∷ bytes) = if b == last then Some ([], bytes) else option_map (λ p. (b ∷ p.0, p.1)) (word_at last bytes)

-- a word up to this byte, and what it is read as
abbrev pub field_at : {X : Type 0} → (List ℕ → Option X) → ℕ → List ℕ → Option (X × List ℕ)
field_at read last bytes = word_at last bytes >>= (λ p. option_map (λ x. (x, p.1)) (read p.0))

-- ---- lines

-- a fixed text, and then this
abbrev pub after : {X : Type 0} → List ℕ → (List ℕ → Option (X × List ℕ)) → List ℕ → Option (X × List ℕ)
after text next bytes = behind text bytes >>= next

-- a word and a blank, and then this
abbrev pub word_then : {X Y : Type 0} → (List ℕ → Option X) → (List ℕ → Option (Y × List ℕ)) → List ℕ → Option ((X × Y) × List ℕ)
word_then read next bytes = field_at read 32 bytes >>= (λ x. option_map (λ y. ((x.0, y.0), y.1)) (next x.1))

-- a word and a line feed
abbrev pub word_last : {X : Type 0} → (List ℕ → Option X) → List ℕ → Option (X × List ℕ)
word_last read = field_at read 10

-- what is read, made into this
abbrev pub made : {X Y : Type 0} → (X → Y) → (List ℕ → Option (X × List ℕ)) → List ℕ → Option (Y × List ℕ)
made make read bytes = option_map (λ x. (make x.0, x.1)) (read bytes)

-- behind this text the one, else the other
abbrev pub either : {X : Type 0} → List ℕ → (List ℕ → Option (X × List ℕ)) → (List ℕ → Option (X × List ℕ)) → List ℕ → Option (X × List ℕ)
either text here other bytes = option_map_or here (behind text bytes) (other bytes)

-- ---- rows

-- so many rows
unfoldable pub rows_at : {X : Type 0} → (List ℕ → Option (X × List ℕ)) → ℕ → List ℕ → Option (List X × List ℕ)
rows_at row zero bytes = Some ([], bytes)
rows_at row (suc n) bytes = row bytes >>= (λ first. option_map (λ others. (first.0 ∷ others.0, others.1)) (rows_at row n first.1))

-- ---- how functions read

-- a function finds what is read here
abbrev pub Finds : {X Y : Type 0} → (X → Y) → Option X → Option Y → Type 0
Finds view (Some x) found = found ≡ Some (view x)
Finds view None found = found ≡ None

-- the same, where memory may run out
abbrev pub IsRead : {X Y : Type 0} → (X → Y) → Result X BlockRefused → Option Y → Type 0
IsRead view (Ok x) found = found ≡ Some (view x)
IsRead view (Err NotABlock) found = found ≡ None
IsRead view (Err Memory) found = ⊤
