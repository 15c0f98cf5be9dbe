-- What a plan keeps beside its rows, to find things at once.
use Rattle.std.specs.Prelude.{ℕ, ◌≡◌, ◌<◌, ◌+◌, ◌*◌, List, length, slice_index, get_or, Bool, false, All}
use Rattle.std.specs.declared.cmp.Ordering.{Ordering}
use Rattle.std.specs.Ordering.{nat_cmp, ordering_then}
use Rattle.taxi_base.specs.declared.numbers.Segment.{Segment}
use Rattle.taxi_base.specs.declared.numbers.Arc.{Arc}
use Rattle.taxi_base.specs.declared.numbers.Class.{Class}
use Rattle.taxi_base.specs.Airport.{Link, link_ends}
use Rattle.airport_rules.specs.declared.rows.TimeRow.{TimeRow}
use Rattle.airport_rules.specs.declared.rows.Taxiway.{Taxiway}
use Rattle.airport_rules.specs.Rules.{is_timed}

abbrev pub link_of_way : Taxiway → Link
link_of_way way = record { from = way.from; to = way.to; both = way.both }

abbrev pub arcs_of_pair : ℕ × ℕ → Arc × Arc
arcs_of_pair pair = (record { 0 = pair.0 }, record { 0 = pair.1 })

-- pairs by their first and then their second number
abbrev pub pair_cmp : ℕ × ℕ → ℕ × ℕ → Ordering
pair_cmp p q = ordering_then (nat_cmp p.0 q.0) (nat_cmp p.1 q.1)

-- each segment leads from a node to a node, and the ends of segments are counted at each node
pub record AreCounted (nodes : ℕ) (links : List Link) (ends : List ℕ) : Type 0 where
  pub within : All (λ l. (l.from.0 < nodes) × (l.to.0 < nodes)) links
  pub each : length ends ≡ nodes
  pub count : (k : ℕ) → k < length ends → slice_index ends k ≡ link_ends (record { 0 = k }) links

-- where it stands whether a class has a time on a segment, of which there are at most 10,000
abbrev pub time_place : Segment → Class → ℕ
time_place segment class = class.0 * 10000 + segment.0

-- it is kept which segments and classes have a time, with none for what was never asked for
abbrev pub AreTimed : List TimeRow → List Bool → Type 0
AreTimed times timed = (segment : Segment) (class : Class) → segment.0 < 10000 → get_or timed (time_place segment class) false ≡ is_timed segment class times
