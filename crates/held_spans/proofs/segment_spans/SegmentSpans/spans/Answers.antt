use Rattle.std.proofs.Common.{◌∙◌, map, sym, ap}
use Rattle.std.proofs.lemmas.Slice.Zip.{firsts-zip}
use Rattle.held_spans.specs.Rows.{SpanRows}
use Rattle.held_spans.proofs.segment_spans.SegmentSpans.spans.Goals as goal

pub returns : goal.returns
returns c =
    c.deref.ensures.value ∙ sym (firsts-zip c.self.inside.spans.items c.self.inside.holders.items c.self.invariant.0) ∙ ap (λ (l : SpanRows). map (λ row. row.0) l.rows) c.self.view_is
