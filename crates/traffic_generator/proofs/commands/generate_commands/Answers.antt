use Rattle.std.proofs.Common.{◌≡◌, ℕ, ◌∷◌, [], List, length, map, sym, ap, arith, ◌∙◌}
use Rattle.airport_text.specs.Canonical.{numbers_below}
use Rattle.traffic_generator.specs.Draws.{state_after}
use Rattle.traffic_generator.specs.Texts.{and_lines}
use Rattle.taxi_text.specs.Lines.{commands_of}
use Rattle.taxi_text.specs.Commands.{command_of}
use Rattle.traffic_generator.specs.Flights.{draws_before, command_words, words_of_flight, commands_text}
use Rattle.traffic_generator.proofs.TextLaws.{and_lines-none, number-line}
use Rattle.traffic_generator.proofs.GridLaws.{IsSide}
use Rattle.traffic_generator.proofs.CommandsRead.{lines-read}
use Rattle.traffic_generator.proofs.CommandLines.{commands-written, commands-told, commands-short}
use Rattle.traffic_generator.proofs.commands.generate_commands.Goals as goal

pub loop-flight-init : goal.loop-flight-init
loop-flight-init c = record {
  drawn = c.draws_after_segments-draws.ensures ∙ ap (state_after c.args.number) (omega arith);
  written = c.new-text.ensures.items ∙ sym (and_lines-none 32 []);
}

pub loop-flight-preserved : goal.loop-flight-preserved
loop-flight-preserved c = record {
  drawn = c.draw-drawn.ensures.draws c.args.number (draws_before c.args.side c.loop-flight.flight) c.loop-flight.invariant.drawn ∙ ap (state_after c.args.number) (omega arith);
  written =
      number-line 32 (words_of_flight c.args.number c.args.side) c.loop-flight.flight _ _ _ c.loop-flight.invariant.written
      (c.in_ok-push_command.ensures
      ∙ ap (λ f. and_lines 32 c.loop-flight.text.items (command_words c.args.side c.loop-flight.flight f ∷ []))
      (c.draw-drawn.ensures.flight c.args.number (draws_before c.args.side c.loop-flight.flight) c.loop-flight.invariant.drawn));
}

sides : (c : goal.After-loop-flight) → IsSide c.args.side
sides c = record { least = c.requires.side.0; most = c.requires.side.1 }

written : (c : goal.After-loop-flight) → c.loop-flight.text.items ≡ commands_text c.args.number c.args.side c.args.flights
written c =
    let all : c.loop-flight.flight ≡ c.args.flights = omega (arith, c.loop-flight-test.false, c.loop-flight.auto.flight-end) in
    c.loop-flight.invariant.written
    ∙ ap (λ n. and_lines 32 [] (map (words_of_flight c.args.number c.args.side) (numbers_below n))) all
    ∙ commands-written c.args.number c.args.side c.args.flights

pub returns-clause-text : goal.returns-clause-text
returns-clause-text c = written c

pub returns-clause-commands : goal.returns-clause-commands
returns-clause-commands c = ap commands_of (written c) ∙ commands-told c.args.number c.args.side c.args.flights (sides c) c.requires.flights

pub returns-clause-grammar : goal.returns-clause-grammar
returns-clause-grammar c =
    ap (λ t. map command_of (commands_of t)) (written c)
    ∙ ap (map command_of) (commands-told c.args.number c.args.side c.args.flights (sides c) c.requires.flights)
    ∙ lines-read c.args.number c.args.side c.args.flights (sides c) c.requires.flights

pub returns-clause-short : goal.returns-clause-short
returns-clause-short c =
    let same = ap (λ (t : List ℕ). length t) (written c) in
    let short = commands-short c.args.number c.args.side c.args.flights (sides c) c.requires.flights in
    omega (arith, same, short)
