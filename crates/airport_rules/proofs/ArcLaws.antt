-- The ends of arcs, by the ways that a plan keeps.
use Rattle.std.proofs.Common.{◌≡◌, suc, ◌/◌, ◌%◌, Bool, true, false, List, map, ap, refl, ◌∙◌, arith}
use Rattle.std.specs.Prelude.{Some, None, slice_get, option_map, option_and_then, if◌then◌else◌}
use Rattle.std.proofs.lemmas.Option.{slice_get-map}
use Rattle.taxi_base.specs.declared.numbers.Node.{Node}
use Rattle.taxi_base.specs.declared.numbers.Arc.{Arc}
use Rattle.taxi_base.specs.Airport.{Layout, Ends, ends, ends_of_link}
use Rattle.airport_rules.specs.declared.rows.Taxiway.{Taxiway}
use Rattle.airport_rules.specs.Indexed.{link_of_way}

ends-ways : (layout : Layout) (ways : List Taxiway) (arc : Arc) → layout.links ≡ map link_of_way ways
    → ends layout arc ≡ option_and_then (ends_of_link (arc.0 % 2)) (option_map link_of_way (slice_get ways (arc.0 / 2)))
unfolding ends
ends-ways layout ways arc e = rw e (ap (λ l. option_and_then (ends_of_link (arc.0 % 2)) l) (slice_get-map link_of_way ways (arc.0 / 2)))

abbrev pair_of : Ends → Node × Node
pair_of e = (e.tail, e.head)

-- an arc of no segment has no ends
pub ends-none : (layout : Layout) (ways : List Taxiway) (arc : Arc) → layout.links ≡ map link_of_way ways → slice_get ways (arc.0 / 2) ≡ None
    → option_map pair_of (ends layout arc) ≡ None
ends-none layout ways arc e none = ap (option_map pair_of) (ends-ways layout ways arc e) ∙ rw none refl

-- a forward arc leads as its segment
pub ends-forward : (layout : Layout) (ways : List Taxiway) (arc : Arc) (way : Taxiway) → layout.links ≡ map link_of_way ways → slice_get ways (arc.0 / 2) ≡ Some way
    → arc.0 % 2 ≡ 0 → option_map pair_of (ends layout arc) ≡ Some (way.from, way.to)
ends-forward layout ways arc way e found even = ap (option_map pair_of) (ends-ways layout ways arc e) ∙ rw (found, even) refl

-- a backward arc leads back, where the segment allows it
pub ends-backward : (layout : Layout) (ways : List Taxiway) (arc : Arc) (way : Taxiway) → layout.links ≡ map link_of_way ways → slice_get ways (arc.0 / 2) ≡ Some way
    → (arc.0 % 2 ≡ 0 → ⊥) → option_map pair_of (ends layout arc) ≡ (if way.both then Some (way.to, way.from) else None)
ends-backward layout ways arc way e found odd =
    let one : arc.0 % 2 ≡ suc 0 = omega arith in
    ap (option_map pair_of) (ends-ways layout ways arc e) ∙ rw (found, one) (choice way.both way)
  where
    choice : (b : Bool) (way : Taxiway) → option_map pair_of (if b then Some (record { tail = way.to; head = way.from }) else None) ≡ (if b then Some (way.to, way.from) else None)
    choice true way = refl
    choice false way = refl
