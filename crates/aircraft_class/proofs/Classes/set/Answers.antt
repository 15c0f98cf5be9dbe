-- One place of one row changes.
use Rattle.std.proofs.Common.{◌≡◌, ℕ, ◌<◌, List, [], Option, Some, length, map, vec_len, ap, refl, arith, rules}
use Rattle.std.proofs.Math.Seq.{map-set_same}
use Rattle.std.proofs.lemmas.List.{length-map}
use Rattle.std.specs.Vec.{with_item}
use Rattle.aircraft_class.specs.Times.{Times}
use Rattle.aircraft_class.specs.declared.Row.{Row}
use Rattle.aircraft_class.proofs.Tables.{get_or-row, map-set_place, AreTimes-set}
use Rattle.aircraft_class.proofs.Classes.set.Goals as goal

abbrev items : Row → List (Option ℕ)
items row = row.times.items

abbrev clearance : Row → ℕ
clearance row = row.clearance

pub index_mut-requires : goal.index_mut-requires
index_mut-requires c =
    let rows = c.self.inside.rows.items in
    let row = c.index_mut-row.result.now in
    let as_long = length-map rows items in
    let table = ap (λ (t : Times). length t.table) c.self.view_is in
    let segments = ap (λ (t : Times). t.segments) c.self.view_is in
    let low : c.args.class.0 < length rows = omega arith in
    let within : c.args.class.0 < length (map items rows) = omega arith in
    let long = c.self.invariant.rows c.args.class.0 [] within in
    let same = ap length (get_or-row items rows c.args.class.0 row low c.index_mut-row.ensures.value) in
    let counted : vec_len row.times ≡ length row.times.items = search rules in
    omega arith

pub invariant_of-self : goal.invariant_of-self
invariant_of-self c =
    let rows = c.self.inside.rows.items in
    let row = c.index_mut-row.result.now in
    let new : Row = record row { times = with_item row.times c.args.segment.0 (Some c.args.seconds) } in
    let as_long = length-map rows items in
    let table = ap (λ (t : Times). length t.table) c.self.view_is in
    let low : c.args.class.0 < length rows = omega arith in
    let within : c.args.class.0 < length (map items rows) = omega arith in
    rw (
      map-set_place items rows c.args.class.0 row new c.args.segment.0 (Some c.args.seconds) low c.index_mut-row.ensures.value refl,
      map-set_same clearance rows c.args.class.0 new row (ap clearance c.index_mut-row.ensures.value),
    )
    (AreTimes-set _ c.args.class.0 c.args.segment.0 c.args.seconds c.self.invariant within c.requires.seconds)

pub returns : goal.returns
returns c =
    let rows = c.self.inside.rows.items in
    let row = c.index_mut-row.result.now in
    let new : Row = record row { times = with_item row.times c.args.segment.0 (Some c.args.seconds) } in
    let as_long = length-map rows items in
    let table = ap (λ (t : Times). length t.table) c.self.view_is in
    let low : c.args.class.0 < length rows = omega arith in
    rw (← c.self.view_is)
    (λ i. record {
      segments = c.self.inside.segments;
      table = map-set_place items rows c.args.class.0 row new c.args.segment.0 (Some c.args.seconds) low c.index_mut-row.ensures.value refl i;
      clearances = map-set_same clearance rows c.args.class.0 new row (ap clearance c.index_mut-row.ensures.value) i;
    })
