use Rattle.std.proofs.Common.{List, subst, sym}
use Rattle.std.specs.Prelude.{All}
use Rattle.std.proofs.lemmas.List.Elements.{All-weaker}
use Rattle.taxi_base.specs.declared.rows.FlightRow.{FlightRow}
use Rattle.taxi_base.specs.Reports.{timetable_rows}
use Rattle.replies.specs.Printable.{HasClass, IsPrintableFlight}
use Rattle.replies.proofs.ReportsTold.{timetable-printable}
use Rattle.taxi_engine.proofs.reporting.print_timetable.Goals as goal

pub print-requires : goal.print-requires
print-requires c =
    let airport = c.args.airport.now in
    let state = c.args.ledger.now.state in
    subst (λ (rows : List FlightRow). All (λ row. HasClass airport row.class) rows) (sym c.in_ok-flights.ensures)
    (All-weaker (IsPrintableFlight airport) (λ row. HasClass airport row.class) (λ row fine. fine.1.0) (timetable_rows state)
    (timetable-printable airport state c.horizon.ensures.rules c.requires.sound c.requires.names))
