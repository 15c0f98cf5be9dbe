use Rattle.std.proofs.Common.{◌∙◌, ◌+◌, List, ℕ, Some, sym, ap}
use Rattle.std.proofs.lemmas.List.{take_rest}
use Rattle.block_reader.proofs.NumberFields.{front-number}
use Rattle.block_reader.proofs.fields.short_field.Goals as goal

pub returns-then-front-end : goal.returns-then-front-end
returns-then-front-end c =
    let number = c.front_number-number.result.0 in
    let end = c.front_number-number.result.1 in
    front-number c.args.last c.args.bytes.now c.requires c.in-Some.front.now number end c.in-Some.ensures.cases.same c.front_number-number.ensures.number
    c.if-front-ne48.true c.if-number-lt-NO.true c.if-front-end.true
    ∙ ap (λ (r : List ℕ). Some (number, r)) (sym (take_rest c.args.bytes.now (end + 1)))
