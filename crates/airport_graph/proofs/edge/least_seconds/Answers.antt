use Rattle.std.proofs.Common.{◌≡◌, ◌<◌, ◌≤◌, length, take, map, arith, ap, sym, ◌∙◌, None}
use Rattle.std.specs.Prelude.{slice_index_or}
use Rattle.std.proofs.lemmas.List.{take_all}
use Rattle.taxi_base.specs.Airport.{times_of, seconds_in}
use Rattle.airport_graph.specs.Graph.{least}
use Rattle.airport_graph.proofs.Lines.{least-more}
use Rattle.airport_graph.proofs.edge.least_seconds.Goals as goal

pub loop-number-preserved : goal.loop-number-preserved
unfolding seconds_in
loop-number-preserved c =
    let table = times_of c.args.airport.now in
    let count : c.count-number-end.result ≡ length table = c.count-number-end.ensures ∙ ap (λ t. length t.table) c.classes.ensures in
    let low : c.loop-number.number < length table = let test = c.loop-number-test.true in omega (arith, count, test) in
    c.lesser-least.ensures
    ∙ rw (c.loop-number.invariant, c.seconds.ensures.set, c.classes-in-loop-number.ensures) (sym (least-more table c.args.segment c.loop-number.number low))

pub returns : goal.returns
returns c =
    let table = times_of c.args.airport.now in
    let count : c.count-number-end.result ≡ length table = c.count-number-end.ensures ∙ ap (λ t. length t.table) c.classes.ensures in
    let past : length table ≤ c.loop-number.number = let test = c.loop-number-test.false in omega (arith, count, test) in
    let all : take c.loop-number.number table ≡ table = grind (arith, take_all) in
    c.loop-number.invariant ∙ ap (λ t. least (map (λ row. slice_index_or row c.args.segment.0 None) t)) all
