use Rattle.std.proofs.Common.{◌≡◌, ◌-◌, ◌<◌, ◌≤◌, ◌∙◌, List, map, length, take, sym, ap}
use Rattle.std.specs.List.{AllWithin}
use Rattle.std.proofs.lemmas.List.{take_rest}
use Rattle.std.proofs.lemmas.Slice.Zip.{firsts-zip}
use Rattle.taxi_base.specs.declared.rows.Span.{Span}
use Rattle.taxi_base.specs.Windows.{covers}
use Rattle.held_spans.specs.Rows.{SpanRows}
use Rattle.held_spans.proofs.InOrderLaws.{near-covers}
use Rattle.held_spans.proofs.segment_spans.SegmentSpans.spans_in.Goals as goal

pub returns : goal.returns
returns c t has =
    let spans = c.self.inside.spans.items in let longest = c.self.inside.longest in
    let n = c.begun_before.result in let m = c.begun_before_from_last.result in
    let few : n ≤ length spans = rw c.deref-2.ensures.value at c.begun_before.ensures.few in
    let after : AllWithin (λ s. c.args.span.until ≤ s.from) spans n (length spans) = rw c.deref-2.ensures.value at c.begun_before.ensures.after in
    let some : m ≤ length (take n spans) = rw c.deref.ensures.value at c.begun_before_from_last.ensures.few in
    let before : AllWithin (λ s. s.from < c.args.span.from - longest) (take n spans) 0 m = rw (c.deref.ensures.value, c.saturating_sub.ensures) at c.begun_before_from_last.ensures.before in
    let all : spans ≡ map (λ row. row.0) c.args.self.now.rows =
    sym (firsts-zip spans c.self.inside.holders.items c.self.invariant.0) ∙ ap (λ (l : SpanRows). map (λ row. row.0) l.rows) c.self.view_is in
    rw (c.deref.ensures.value, take_rest (take n spans) m)
    (near-covers spans longest c.args.span n m t c.self.invariant.2 few after some before has ∙ ap (λ (l : List Span). covers l t) all)
