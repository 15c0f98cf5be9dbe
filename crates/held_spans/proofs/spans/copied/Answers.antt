use Rattle.std.proofs.Common.{◌∙◌, List, map, ap}
use Rattle.std.proofs.lemmas.List.{take_all}
use Rattle.held_spans.specs.Rows.{SpanRows}
use Rattle.held_spans.proofs.LoopLaws.{read-more}
use Rattle.held_spans.proofs.spans.copied.Goals as goal

pub loop-list-preserved : goal.loop-list-preserved
loop-list-preserved c =
    let at = c.loop-list in
    ap (map (λ (list : SpanRows). list.rows)) c.in_ok-push.ensures.items
    ∙ read-more (λ (list : SpanRows). list.rows) c.args.lists.now at.copies.items at.list-index c.list-item.result c.in_ok-copy.copy c.loop-list-test.true c.list-item.is c.in_ok-copy.ensures at.invariant

pub returns : goal.returns
returns c =
    let at = c.loop-list in at.invariant ∙ ap (λ (lists : List SpanRows). map (λ (list : SpanRows). list.rows) lists) (take_all at.list-index c.args.lists.now c.loop-list-test.false)
