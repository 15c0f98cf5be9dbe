-- The number by which a name stands among others. No public clause cites this module.
use Rattle.std.specs.Prelude.{ℕ, zero, suc, ◌≡◌, ◌+◌, ◌*◌, List, [], ◌∷◌, Some, slice_index_or, IsTrue}
use Rattle.std.specs.Ordering.{nat_cmp}
use Rattle.std.specs.declared.cmp.Ordering.{Ordering}
use Rattle.slab.specs.Slab.{Slab, get}
use Rattle.taxi_base.specs.declared.answers.Flight.{Flight}
use Rattle.taxi_base.specs.Words.{is_name}

-- a number with so many more digits in base 256 behind it: the bytes of a name, and zeros after them
abbrev pub order_after : ℕ → ℕ → List ℕ → ℕ
order_after zero number name = number
order_after (suc places) number [] = order_after places (number * 256) []
order_after (suc places) number (byte ∷ rest) = order_after places (number * 256 + byte) rest

-- a name has at most 16 bytes
unfoldable pub order_of : List ℕ → ℕ
order_of name = order_after 16 0 name

-- each flight has a name, and at its key is the number of that
abbrev pub AreNumbered : Slab Flight → List ℕ → Type 0
AreNumbered slab orders = (key : ℕ) (flight : Flight) → get slab key ≡ Some flight → (slice_index_or orders key 0 ≡ order_of flight.name) × IsTrue (is_name flight.name)

-- how the number at a key compares with another
abbrev pub order_at : List ℕ → ℕ → ℕ → Ordering
order_at orders order key = nat_cmp (slice_index_or orders key 0) order
