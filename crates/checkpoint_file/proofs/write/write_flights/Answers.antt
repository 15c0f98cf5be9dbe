use Rattle.std.proofs.Common.{◌≤◌, ◌++◌, ◌∙◌, List, length, ap}
use Rattle.std.specs.Prelude.{flat_map}
use Rattle.std.proofs.lemmas.List.{take_all}
use Rattle.taxi_base.specs.declared.answers.Flight.{Flight}
use Rattle.replies.specs.Texts.{lines_text}
use Rattle.checkpoint_file.specs.Lines.{flight_lines}
use Rattle.checkpoint_file.proofs.Pieces.{place-more}
use Rattle.checkpoint_file.proofs.write.write_flights.Goals as goal

pub loop-place-preserved : goal.loop-place-preserved
loop-place-preserved c =
    place-more (λ flight. lines_text (flight_lines c.args.airport.now flight)) c.args.ledger.now.state.flights c.loop-place.place c.at.result.now _ _ _
    c.at.ensures c.loop-place.invariant c.in_ok-write_flight.ensures

pub returns : goal.returns
returns c =
    let past : length c.args.ledger.now.state.flights ≤ c.loop-place.place = rw c.count-place-end.ensures.count at c.loop-place-test.false in
    c.loop-place.invariant
    ∙ ap (λ (flights : List Flight). c.args.out.now.items ++ flat_map (λ flight. lines_text (flight_lines c.args.airport.now flight)) flights)
    (take_all c.loop-place.place c.args.ledger.now.state.flights past)
