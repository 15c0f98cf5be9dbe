use Rattle.std.proofs.Common.{◌≡◌, ◌∙◌, ◌<◌, ◌++◌, ◌∷◌, [], List, length, map, take, get_or, ap, sym, arith}
use Rattle.std.proofs.lemmas.List.{map_more}
use Rattle.std.proofs.lemmas.Option.{get_or_from_slice_get}
use Rattle.taxi_base.specs.declared.rows.FlightRow.{FlightRow}
use Rattle.taxi_base.specs.Reports.{flight_row}
use Rattle.ledger_reports.proofs.flight_rows.timetable.Goals as goal

pub loop-place-preserved : goal.loop-place-preserved
loop-place-preserved c =
    let flights = c.args.ledger.now.state.flights in
    let place = c.loop-place.place in
    let flight = c.at.result.now in
    let low : place < length flights = omega (arith, c.loop-place-test.true, c.count-place-end.ensures.count) in
    let there : get_or flights place flight ≡ flight = get_or_from_slice_get flights place flight flight c.at.ensures in
    c.in_ok-push.ensures.ok ∙ ap (λ (rows : List FlightRow). rows ++ c.row_of.result ∷ []) c.loop-place.invariant
    ∙ ap (λ (row : FlightRow). map flight_row (take place flights) ++ row ∷ []) (c.row_of.ensures ∙ ap flight_row (sym there)) ∙ sym (map_more flight_row flights place flight low)
