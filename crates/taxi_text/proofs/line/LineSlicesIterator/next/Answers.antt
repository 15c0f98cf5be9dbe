use Rattle.std.proofs.Common.{ℕ, ◌==◌, ◌∙◌, ◌∷◌, ◌≡◌, List, true, false, length, is_some, ap, sym}
use Rattle.taxi_text.specs.Parts.{parts_left}
use Rattle.taxi_text.specs.Lines.{lines_of_parts}
use Rattle.taxi_text.proofs.FirstLine.{first_line, fewer_lines}
use Rattle.taxi_text.proofs.line.LineSlicesIterator.next.Goals as goal
use Rattle.taxi_text.proofs.line.LineSlicesIterator.next.Goals.{else-is_none-via-then-is_none+else-is_empty, else-is_none-via-else-is_none}

steps : goal.returns-clause-steps
steps c =
    let is_line : is_some c.first_part.result.1 ≡ false → (length c.first_part.result.0.now == 0) ≡ false = elim c.else-is_none.branch [
      | else-is_none-via-then-is_none+else-is_empty w ↦ λ n. cc
      | else-is_none-via-else-is_none w ↦ λ n. let more : is_some c.first_part.result.1 ≡ true = w.if-is_none.ensures in cc
    ] in
    ap (λ r. lines_of_parts (parts_left 10 r)) c.in_ok-self.was ∙ ap lines_of_parts c.first_part.ensures
    ∙ first_line c.first_part.result.0.now c.first_part.result.1 is_line
    ∙ ap (λ (l : List ℕ). l ∷ lines_of_parts (parts_left 10 c.first_part.result.1)) (sym c.without_carriage_return.ensures)

pub returns-clause-steps : goal.returns-clause-steps
returns-clause-steps = steps

pub returns-clause-goes : goal.returns-clause-goes
returns-clause-goes c = record { on = λ f. (tt, tt, fewer_lines _ _ _ (steps c)); keeps = tt; rests = λ f. tt }
