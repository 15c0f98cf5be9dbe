use Rattle.std.proofs.lemmas.List.Elements.{All-weaker}
use Rattle.replies.specs.Printable.{HasSegment, IsPrintableHeld}
use Rattle.replies.proofs.ReportsTold.{held-printable}
use Rattle.taxi_engine.proofs.reporting.print_occupancy.Goals as goal

pub print-requires : goal.print-requires
print-requires c =
    let airport = c.args.airport.now in
    let state = c.args.ledger.now.state in (
      c.requires.exists,
      All-weaker (IsPrintableHeld airport) (λ row. HasSegment airport row.segment) (λ row fine. fine.1.1.1) c.in_ok-held.held
          (held-printable airport state c.horizon.ensures.rules c.requires.sound c.requires.names c.args.segment c.in_ok-held.held c.in_ok-held.ensures),
    )
