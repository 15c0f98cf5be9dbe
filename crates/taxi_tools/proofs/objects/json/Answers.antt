use Rattle.std.proofs.Common.{[], ◌∷◌, inr, arith}
use Rattle.program_words.specs.Verb.{FileNames}
use Rattle.program_files.specs.Call.{Call, call_of}
use Rattle.command_run.specs.Pace.{EndsBeforeCommands, commands_left}
use Rattle.taxi_tools.specs.Pace.{ObjectsKeepPace}
use Rattle.command_run.proofs.PaceLaws.{before-commands, not-begun}
use Rattle.program_files.proofs.InputLaws.{began-more}
use Rattle.tool_words.specs.Verb.{names_of}
use Rattle.taxi_tools.proofs.JsonEndings.{airport-ends, run-ends, stop-handed}
use Rattle.taxi_tools.proofs.objects.json.Goals as goal

pub returns-in-Ok : goal.returns-in-Ok
returns-in-Ok g c =
    let s = g.S.Shelf in
    let k = g.K.Sink in
    let call : Call = call_of s.files s.faults s.given k.faults k.written (c.args.shelf.now, c.json_at.new.shelf) (c.args.out.now, c.json_at.new.out) in
    let names : FileNames = names_of c.args.airport.now c.args.commands.now in
    let both = run-ends call names c.in-Ok.airport (s.files c.read_airport_file.new.shelf) (s.begun c.json_at.new.shelf) (s.rest c.json_at.new.shelf)
    (s.faults c.read_airport_file.new.shelf) c.json_at.result c.in-Ok.ensures.ok c.read_airport_file.ensures.files c.read_airport_file.ensures.later c.json_at.ensures.run in
    record {
      ends = both.0;
      pace = (λ begun. both.1, λ begun. absurd {A = EndsBeforeCommands call names c.json_at.result} (not-begun names _ _ begun (began-more _ _ _ (c.args.airport.now ∷ []) (c.args.commands.now ∷ []) c.in-Ok.ensures.tried c.json_at.ensures.tried)));
      handed = both.2;
      order = inr ((c.in-Ok.airport, c.in-Ok.ensures.ok), began-more _ _ _ (c.args.airport.now ∷ []) (c.args.commands.now ∷ []) c.in-Ok.ensures.tried c.json_at.ensures.tried);
      reads_later = omega (arith, c.read_airport_file.ensures.later, c.json_at.ensures.reads_later);
      writes_later = c.json_at.ensures.writes_later;
    }

pub returns-in-Err-clause-ends : goal.returns-in-Err-clause-ends
returns-in-Err-clause-ends g c =
    let s = g.S.Shelf in
    let k = g.K.Sink in
    airport-ends (call_of s.files s.faults s.given k.faults k.written (c.args.shelf.now, c.read_airport_file.new.shelf) (c.args.out.now, c.write_stop.new.out)) (names_of c.args.airport.now c.args.commands.now)
    c.in-Err.stop c.write_stop.result c.in-Err.ensures.stop c.write_stop.ensures.ends

pub returns-in-Err-clause-pace : goal.returns-in-Err-clause-pace
returns-in-Err-clause-pace g c =
    let names : FileNames = names_of c.args.airport.now c.args.commands.now in
    let call : Call = call_of g.S.Shelf.files g.S.Shelf.faults g.S.Shelf.given g.K.Sink.faults g.K.Sink.written (c.args.shelf.now, c.read_airport_file.new.shelf) (c.args.out.now, c.write_stop.new.out) in
    let left = commands_left (g.S.Shelf.files c.args.shelf.now) names (g.S.Shelf.begun c.read_airport_file.new.shelf) (g.S.Shelf.rest c.read_airport_file.new.shelf) in (
      λ both. absurd {A = ObjectsKeepPace call names left c.write_stop.result} (not-begun names _ _ c.in-Err.ensures.tried both),
      λ begun. before-commands _ _ c.write_stop.result c.in-Err.stop c.in-Err.ensures.stop c.write_stop.ensures.ends,
    )

pub returns-in-Err-clause-handed : goal.returns-in-Err-clause-handed
returns-in-Err-clause-handed g c =
    let s = g.S.Shelf in
    let k = g.K.Sink in
    stop-handed (call_of s.files s.faults s.given k.faults k.written (c.args.shelf.now, c.read_airport_file.new.shelf) (c.args.out.now, c.write_stop.new.out)) (names_of c.args.airport.now c.args.commands.now)
    c.in-Err.stop c.write_stop.result c.write_stop.ensures.ends
