use Rattle.std.proofs.Common.{◌∙◌, List, ℕ, Some, sym, ap}
use Rattle.std.proofs.lemmas.List.{take_rest}
use Rattle.block_reader.proofs.NumberFields.{five-number}
use Rattle.block_reader.proofs.fields.five_field.Goals as goal

pub returns-then-number-lt-NO : goal.returns-then-number-lt-NO
returns-then-number-lt-NO c =
    let number = c.worth_of_five-number.result in
    five-number c.args.last c.args.bytes.now c.requires c.in_ok-front.front.now number c.in_ok-front.ensures.cases.same c.worth_of_five-number.ensures
    c.if-front-ne48.true c.if-number-lt-NO.true c.if-front-last.true
    ∙ ap (λ (r : List ℕ). Some (number, r)) (sym (take_rest c.args.bytes.now 6))
