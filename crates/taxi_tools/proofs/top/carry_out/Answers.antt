use Rattle.std.proofs.Common.{inl, inr, Some, refl, sym, subst}
use Rattle.command_run.specs.Pace.{commands_left}
use Rattle.program_files.specs.Call.{Call, call_of}
use Rattle.tool_words.specs.declared.words.Verb.{Verb as LentVerb}
use Rattle.tool_words.specs.LentWords.{asked_for}
use Rattle.tool_words.specs.Verb.{Json, IsNamed, CountsFromOne, names_of}
use Rattle.taxi_tools.specs.CarriedOut.{IsCarriedOut}
use Rattle.taxi_tools.proofs.EndingLaws.{airport-carried, run-carried, explanation-carried}
use Rattle.taxi_tools.proofs.top.carry_out.Goals as goal

pub returns-in-OfAirport : goal.returns-in-OfAirport
returns-in-OfAirport g c =
    let s = g.S.Shelf in
    let k = g.K.Sink in
    let call : Call = call_of s.files s.faults s.given k.faults k.written (c.args.shelf.now, c.output_of_airport.new.shelf) (c.args.out.now, c.write_output.new.out) in
    let output = c.output_of_airport.ensures in
    let done = airport-carried (λ text. text.items) call c.in-OfAirport.airport.now c.in-OfAirport.tool (λ names. commands_left (s.files c.args.shelf.now) names (s.begun c.output_of_airport.new.shelf) (s.rest c.output_of_airport.new.shelf)) (s.tried c.args.shelf.now, s.tried c.output_of_airport.new.shelf)
    c.output_of_airport.result c.write_output.result output.ok output.stop output.tried output.later c.write_output.ensures.later c.write_output.ensures.ends in
    subst (λ (asked : LentVerb). IsCarriedOut call (asked_for asked) (λ names. commands_left (s.files c.args.shelf.now) names (s.begun c.output_of_airport.new.shelf) (s.rest c.output_of_airport.new.shelf)) (s.tried c.args.shelf.now, s.tried c.output_of_airport.new.shelf) c.write_output.result) (sym c.in-OfAirport.is) done

pub returns-in-OfRun : goal.returns-in-OfRun
returns-in-OfRun g c =
    let s = g.S.Shelf in
    let k = g.K.Sink in
    let write = c.write_output-in-OfRun in
    let call : Call = call_of s.files s.faults s.given k.faults k.written (c.args.shelf.now, c.output_of_run.new.shelf) (c.args.out.now, write.new.out) in
    let output = c.output_of_run.ensures in
    let done = run-carried (λ text. text.items) call (names_of c.in-OfRun.airport.now c.in-OfRun.commands.now) c.in-OfRun.tool (λ names. commands_left (s.files c.args.shelf.now) names (s.begun c.output_of_run.new.shelf) (s.rest c.output_of_run.new.shelf)) (s.tried c.args.shelf.now, s.tried c.output_of_run.new.shelf)
    c.output_of_run.result write.result output.ok output.stop output.order output.later write.ensures.later write.ensures.ends in
    subst (λ (asked : LentVerb). IsCarriedOut call (asked_for asked) (λ names. commands_left (s.files c.args.shelf.now) names (s.begun c.output_of_run.new.shelf) (s.rest c.output_of_run.new.shelf)) (s.tried c.args.shelf.now, s.tried c.output_of_run.new.shelf) write.result) (sym c.in-OfRun.is) done

pub output_of_command-requires : goal.output_of_command-requires
output_of_command-requires g c = record {
  airport = c.requires.known c.in-Explain.airport.now (subst (λ (asked : LentVerb). IsNamed (Some (asked_for asked)) c.in-Explain.airport.now) (sym c.in-Explain.is) (inl refl));
  commands = c.requires.known c.in-Explain.commands.now (subst (λ (asked : LentVerb). IsNamed (Some (asked_for asked)) c.in-Explain.commands.now) (sym c.in-Explain.is) (inr refl));
  counted = subst (λ (asked : LentVerb). CountsFromOne (Some (asked_for asked))) c.in-Explain.is c.requires.counted;
}

pub returns-in-Explain : goal.returns-in-Explain
returns-in-Explain g c =
    let s = g.S.Shelf in
    let k = g.K.Sink in
    let call : Call = call_of s.files s.faults s.given k.faults k.written (c.args.shelf.now, c.output_of_command.new.shelf) (c.args.out.now, c.write_explanation.new.out) in
    let output = c.output_of_command.ensures in
    let done = explanation-carried (λ text. text.items) call (names_of c.in-Explain.airport.now c.in-Explain.commands.now) c.in-Explain.number (λ names. commands_left (s.files c.args.shelf.now) names (s.begun c.output_of_command.new.shelf) (s.rest c.output_of_command.new.shelf)) (s.tried c.args.shelf.now, s.tried c.output_of_command.new.shelf)
    c.output_of_command.result c.write_explanation.result output.ok output.stop output.order output.later c.write_explanation.ensures.later c.write_explanation.ensures.ends in
    subst (λ (asked : LentVerb). IsCarriedOut call (asked_for asked) (λ names. commands_left (s.files c.args.shelf.now) names (s.begun c.output_of_command.new.shelf) (s.rest c.output_of_command.new.shelf)) (s.tried c.args.shelf.now, s.tried c.output_of_command.new.shelf) c.write_explanation.result) (sym c.in-Explain.is) done

pub returns-in-Json : goal.returns-in-Json
returns-in-Json g c =
    let s = g.S.Shelf in
    let k = g.K.Sink in
    let call : Call = call_of s.files s.faults s.given k.faults k.written (c.args.shelf.now, c.json.new.shelf) (c.args.out.now, c.json.new.out) in
    let done : IsCarriedOut call (Json (names_of c.in-Json.airport.now c.in-Json.commands.now)) (λ names. commands_left (s.files c.args.shelf.now) names (s.begun c.json.new.shelf) (s.rest c.json.new.shelf)) (s.tried c.args.shelf.now, s.tried c.json.new.shelf) c.json.result = record {
      ends = c.json.ensures.ends;
      handed = c.json.ensures.handed;
      pace = c.json.ensures.pace;
      order = c.json.ensures.order;
      reads_later = c.json.ensures.reads_later;
      writes_later = c.json.ensures.writes_later;
    } in
    subst (λ (asked : LentVerb). IsCarriedOut call (asked_for asked) (λ names. commands_left (s.files c.args.shelf.now) names (s.begun c.json.new.shelf) (s.rest c.json.new.shelf)) (s.tried c.args.shelf.now, s.tried c.json.new.shelf) c.json.result) (sym c.in-Json.is) done
