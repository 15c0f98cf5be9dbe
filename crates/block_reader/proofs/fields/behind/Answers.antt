use Rattle.std.proofs.Common.{◌∙◌, List, ℕ, Some, length, sym, ap}
use Rattle.std.proofs.lemmas.List.{take_rest}
use Rattle.block_reader.proofs.Pieces.{begins-fits, behind-begins, behind-begins_not}
use Rattle.block_reader.proofs.fields.behind.Goals as goal

pub slice_bounds-result-count : goal.slice_bounds-result-count
slice_bounds-result-count c = begins-fits c.args.text.now c.args.bytes.now (sym c.begins_with.ensures ∙ c.if-begins_with.true)

pub slice_bounds-result-start : goal.slice_bounds-result-start
slice_bounds-result-start c = begins-fits c.args.text.now c.args.bytes.now (sym c.begins_with.ensures ∙ c.if-begins_with.true)

pub returns-then-begins_with : goal.returns-then-begins_with
returns-then-begins_with c =
    behind-begins c.args.text.now c.args.bytes.now (sym c.begins_with.ensures ∙ c.if-begins_with.true)
    ∙ ap (λ (l : List ℕ). Some l) (sym (take_rest c.args.bytes.now (length c.args.text.now)))

pub returns-else-begins_with : goal.returns-else-begins_with
returns-else-begins_with c = behind-begins_not c.args.text.now c.args.bytes.now (sym c.begins_with.ensures ∙ c.if-begins_with.false)
