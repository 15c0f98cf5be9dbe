use Rattle.std.proofs.Common.{◌<◌, ◌↔◌, ◌∙◌, not, Bool, Vec, Global, List, [], ◌∷◌, length, IsTrue, sym, ap, subst, arith}
use Rattle.taxi_base.specs.declared.rows.Kind.TheVariants.{Runway, Stand}
use Rattle.class_ways.specs.declared.course.Course.TheVariants.{Onward}
use Rattle.class_ways.specs.Ways.{AreMet}
use Rattle.airport_lint.specs.declared.advice.Advice.TheVariants.{ClassNoSeconds, ClassNoArrival, ClassNoDeparture}
use Rattle.airport_lint.specs.Advice.{has_seconds, Connects}
use Rattle.airport_lint.proofs.ReachLaws.{connects}
use Rattle.airport_lint.proofs.TellLaws.{tells-then, tells-one, denied, no-way}
use Rattle.airport_lint.proofs.tell.tell_class.Goals as goal

abbrev items_of : Vec Bool Global → List Bool
items_of row = row.items

pub returns : goal.returns
returns c =
    let airport = c.args.airport.now in
    let class = c.args.class in
    let told = c.args.told.now.items in
    let ways = c.args.ways.now in
    let seconds = has_seconds airport class in
    let in_runways : class.0 < length ways.from_runways.items = let count = c.requires.ways.from_runways.count in let low = c.requires.class in omega (arith, count, low) in
    let in_stands : class.0 < length ways.from_stands.items = let count = c.requires.ways.from_stands.count in let low = c.requires.class in omega (arith, count, low) in
    let from_runways : AreMet Onward Runway airport class c.as_slice.result.now =
    subst (AreMet Onward Runway airport class) (ap items_of (sym c.index.ensures) ∙ sym c.as_slice.ensures.value) (c.requires.ways.from_runways.each class c.index.result.now in_runways) in
    let from_stands : AreMet Onward Stand airport class c.as_slice-2.result.now =
    subst (AreMet Onward Stand airport class) (ap items_of (sym c.index-2.ensures) ∙ sym c.as_slice-2.ensures.value) (c.requires.ways.from_stands.each class c.index-2.result.now in_stands) in
    let arrives = connects Runway Stand airport class c.as_slice.result.now from_runways in
    let departs = connects Stand Runway airport class c.as_slice-2.result.now from_stands in
    let to_stands : IsTrue c.has_node-to_stands.result ↔ Connects Runway Stand airport class = (λ e. arrives.0 (c.has_node-to_stands.ensures.0 e), λ h. c.has_node-to_stands.ensures.1 (arrives.1 h)) in
    let to_runways : IsTrue c.has_node-to_runways.result ↔ Connects Stand Runway airport class = (λ e. departs.0 (c.has_node-to_runways.ensures.0 e), λ h. c.has_node-to_runways.ensures.1 (departs.1 h)) in
    tells-then airport (ClassNoSeconds class) (not c.has_seconds-seconds.result) (ClassNoArrival class ∷ ClassNoDeparture class ∷ []) told c.tell_if.new.told.items c.tell_if-3.new.told.items
    (denied c.has_seconds-seconds.result seconds c.has_seconds-seconds.ensures) c.in_ok-tell_if.ensures
    (tells-then airport (ClassNoArrival class) c.has_no_way-no_arrival.result (ClassNoDeparture class ∷ []) c.tell_if.new.told.items c.tell_if-2.new.told.items c.tell_if-3.new.told.items
    (no-way c.has_no_way-no_arrival.result c.has_seconds-seconds.result seconds c.has_node-to_stands.result (Connects Runway Stand airport class) c.has_no_way-no_arrival.ensures c.has_seconds-seconds.ensures to_stands)
    c.in_ok-tell_if-2.ensures
    (tells-one airport (ClassNoDeparture class) c.has_no_way-no_departure.result c.tell_if-2.new.told.items c.tell_if-3.new.told.items
    (no-way c.has_no_way-no_departure.result c.has_seconds-seconds.result seconds c.has_node-to_runways.result (Connects Stand Runway airport class) c.has_no_way-no_departure.ensures c.has_seconds-seconds.ensures to_runways)
    c.in_ok-tell_if-3.ensures))
