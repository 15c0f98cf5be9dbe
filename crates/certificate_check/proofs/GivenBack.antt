-- What a flight held that went is beside what the lists of spans have without it.
use Rattle.std.proofs.Common.{◌&&◌, ◌||◌, eqb, List, sym, ◌∙◌, ap}
use Rattle.std.specs.List.{list_any}
use Rattle.std.proofs.lemmas.List.Folds.{list_any-append}
use Rattle.taxi_base.specs.Windows.{Hold, span_has}
use Rattle.held_spans.specs.declared.spans.HeldSpans.{HeldSpans}
use Rattle.held_spans.specs.Spans.{AreSpansOf, holds_in_lists}
use Rattle.held_spans.proofs.SpanLaws.{AreSpansOf-own, covers-held}
use Rattle.check_rows.specs.Known.{HaveMore}

pub more-beside : (more holds before : List Hold) (spans : HeldSpans) → AreSpansOf holds spans → HaveMore more holds before → HaveMore more (holds_in_lists spans) before
more-beside more holds before spans are have s t =
    let on : Hold → _ = λ h. eqb h.segment.0 s.0 && span_has h.span t in
    have s t ∙ list_any-append on holds more
    ∙ ap (λ b. b || list_any on more) (sym (covers-held spans holds are s t) ∙ covers-held spans (holds_in_lists spans) (AreSpansOf-own spans) s t)
    ∙ sym (list_any-append on (holds_in_lists spans) more)
