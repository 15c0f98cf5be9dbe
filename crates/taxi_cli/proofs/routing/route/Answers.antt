use Rattle.std.proofs.Common.{[], ◌∷◌, inr, arith}
use Rattle.program_words.specs.Verb.{FileNames}
use Rattle.taxi_cli.specs.Endings.{Call}
use Rattle.taxi_cli.specs.Pace.{EndsBeforeCommands}
use Rattle.program_files.proofs.InputLaws.{began-more}
use Rattle.command_run.proofs.PaceLaws.{before-commands, not-begun}
use Rattle.taxi_cli.proofs.RunEndings.{airport-ends, run-ends, stop-handed}
use Rattle.taxi_cli.proofs.routing.route.Goals as goal

pub returns-in-Ok : goal.returns-in-Ok
returns-in-Ok g c =
    let call : Call = record {
      files = g.S.Shelf.files c.args.shelf.now;
      reads = (g.S.Shelf.faults c.args.shelf.now, g.S.Shelf.faults c.route_at.new.shelf);
      writes = (g.K.Sink.faults c.args.out.now, g.K.Sink.faults c.route_at.new.out);
      taken = (g.K.Sink.written c.args.out.now, g.K.Sink.written c.route_at.new.out);
      given = g.S.Shelf.given c.route_at.new.shelf;
    } in
    let names : FileNames = record { airport = c.args.airport.now; commands = c.args.commands.now } in
    let both = run-ends call names c.in-Ok.airport (g.S.Shelf.files c.read_airport_file.new.shelf) (g.S.Shelf.begun c.route_at.new.shelf) (g.S.Shelf.rest c.route_at.new.shelf)
    (g.S.Shelf.faults c.read_airport_file.new.shelf) c.route_at.result c.in-Ok.ensures.ok c.read_airport_file.ensures.files c.read_airport_file.ensures.later c.route_at.ensures.run in
    record {
      ends = both.0;
      order = inr ((c.in-Ok.airport, c.in-Ok.ensures.ok), began-more _ _ _ (c.args.airport.now ∷ []) (c.args.commands.now ∷ []) c.in-Ok.ensures.tried c.route_at.ensures.tried);
      pace = λ begun. both.1;
      first = λ begun. absurd {A = EndsBeforeCommands call names c.route_at.result} (not-begun names _ _ begun (began-more _ _ _ (c.args.airport.now ∷ []) (c.args.commands.now ∷ []) c.in-Ok.ensures.tried c.route_at.ensures.tried));
      handed = both.2;
      reads_later = omega (arith, c.read_airport_file.ensures.later, c.route_at.ensures.reads_later);
      writes_later = c.route_at.ensures.writes_later;
    }

pub returns-in-Err-clause-ends : goal.returns-in-Err-clause-ends
returns-in-Err-clause-ends g c =
    let call : Call = record {
      files = g.S.Shelf.files c.args.shelf.now;
      reads = (g.S.Shelf.faults c.args.shelf.now, g.S.Shelf.faults c.read_airport_file.new.shelf);
      writes = (g.K.Sink.faults c.args.out.now, g.K.Sink.faults c.write_stop.new.out);
      taken = (g.K.Sink.written c.args.out.now, g.K.Sink.written c.write_stop.new.out);
      given = g.S.Shelf.given c.read_airport_file.new.shelf;
    } in
    let names : FileNames = record { airport = c.args.airport.now; commands = c.args.commands.now } in
    airport-ends call names c.in-Err.stop c.write_stop.result c.in-Err.ensures.stop c.write_stop.ensures.ends

pub returns-in-Err-clause-pace : goal.returns-in-Err-clause-pace
returns-in-Err-clause-pace g c =
    let names : FileNames = record { airport = c.args.airport.now; commands = c.args.commands.now } in
    λ both. absurd (not-begun names _ _ c.in-Err.ensures.tried both)

pub returns-in-Err-clause-first : goal.returns-in-Err-clause-first
returns-in-Err-clause-first g c = λ begun. before-commands _ _ c.write_stop.result c.in-Err.stop c.in-Err.ensures.stop c.write_stop.ensures.ends

pub returns-in-Err-clause-handed : goal.returns-in-Err-clause-handed
returns-in-Err-clause-handed g c = stop-handed _ _ c.in-Err.stop c.write_stop.result c.write_stop.ensures.ends
