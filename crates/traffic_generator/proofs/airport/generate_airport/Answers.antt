use Rattle.std.proofs.Common.{◌≡◌, ◌∷◌, [], ◌∙◌, List, ℕ, ap, arith, length}
use Rattle.std.specs.Prelude.{codes}
use Rattle.airport_file.specs.Reading.{airport_of}
use Rattle.traffic_generator.specs.Texts.{and_lines}
use Rattle.traffic_generator.specs.Grid.{airport_text}
use Rattle.traffic_generator.proofs.GridLaws.{IsSide}
use Rattle.traffic_generator.proofs.GridText.{grid-written, grid-read}
use Rattle.traffic_generator.proofs.Lengths.{airport-short}
use Rattle.traffic_generator.proofs.airport.generate_airport.Goals as goal

sides : (c : goal.In_ok-push_conflicts) → IsSide c.args.side
sides c = record { least = c.requires.side.0; most = c.requires.side.1 }

written : (c : goal.In_ok-push_conflicts) → c.push_conflicts.new.text.items ≡ airport_text c.args.number c.args.side
written c =
    grid-written c.args.number c.args.side _ _ _ _ _ _ _ _ _ c.new-text.ensures.items
    (c.in_ok-push_line.ensures ∙ ap (λ word. and_lines 44 c.new-text.result.items ((codes "taxi-airport" ∷ word ∷ []) ∷ [])) c.as_slice.ensures)
    (c.in_ok-push_line-2.ensures ∙ ap (λ word. and_lines 44 c.push_line.new.text.items ((codes "horizon" ∷ word ∷ []) ∷ [])) c.as_slice-2.ensures)
    c.in_ok-push_nodes.ensures
    (c.in_ok-push_line-3.ensures ∙ ap (λ word. and_lines 44 c.push_nodes.new.text.items ((codes "class" ∷ word ∷ []) ∷ [])) c.as_slice-3.ensures)
    (c.in_ok-push_line-4.ensures ∙ ap (λ word. and_lines 44 c.push_line-3.new.text.items ((codes "class" ∷ word ∷ []) ∷ [])) c.as_slice-4.ensures)
    c.in_ok-push_segments.ensures
    c.in_ok-push_times.ensures
    c.in_ok-push_conflicts.ensures

pub returns-clause-text : goal.returns-clause-text
returns-clause-text c = written c

pub returns-clause-airport : goal.returns-clause-airport
returns-clause-airport c = ap airport_of (written c) ∙ grid-read c.args.number c.args.side (sides c)

pub returns-clause-short : goal.returns-clause-short
returns-clause-short c =
    let same = ap (λ (t : List ℕ). length t) (written c) in
    let short = airport-short c.args.number c.args.side (sides c) in
    omega (arith, same, short)
