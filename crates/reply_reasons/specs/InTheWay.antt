-- Who is in the way at a second of a segment?
use Rattle.std.specs.Prelude.{ℕ, Bool, not, ◌&&◌, nat_lt, if◌then◌else◌, List, length, Option, None}
use Rattle.taxi_base.specs.declared.numbers.Segment.{Segment}
use Rattle.taxi_base.specs.Airport.{Airport}
use Rattle.taxi_base.specs.Walks.{free_among}
use Rattle.taxi_base.specs.State.{State, holds_in}
use Rattle.taxi_base.specs.Faults.{holder_at}

-- a second of a segment that is not free
abbrev pub is_taken : Airport → State → Segment → ℕ → Bool
is_taken airport state s t = nat_lt s.0 (length airport.segments) && (nat_lt t airport.horizon && not (free_among airport (holds_in airport state) s t))

-- the holder in the way: the first by name of those who hold a conflicting segment then
unfoldable pub in_the_way : Airport → State → Segment → ℕ → Option (List ℕ)
in_the_way airport state s t = if is_taken airport state s t then holder_at airport state s t else None
