use Rattle.std.proofs.Common.{◌∙◌, ℕ, length, List, map, ap, sym}
use Rattle.std.proofs.lemmas.List.{length-map}
use Rattle.taxi_base.specs.declared.rows.Span.{Span}
use Rattle.held_spans.specs.Rows.{SpanRows}
use Rattle.held_spans.proofs.SpanLaws.{copied-held}
use Rattle.held_spans.proofs.spans.HeldSpans.copy.Goals as goal

pub returns-clause-held : goal.returns-clause-held
returns-clause-held c holds are =
    copied-held c.args.self.now (record { lists = c.in_ok-lists.lists }) (c.in_ok-lists.ensures ∙ ap (map (λ (list : SpanRows). list.rows)) c.deref.ensures.value) holds are

pub returns-clause-count : goal.returns-clause-count
returns-clause-count c =
    sym (length-map c.in_ok-lists.lists.items (λ (list : SpanRows). list.rows))
    ∙ ap (λ (all : List (List (Span × List ℕ))). length all) (c.in_ok-lists.ensures ∙ ap (map (λ (list : SpanRows). list.rows)) c.deref.ensures.value)
    ∙ length-map c.args.self.now.lists.items (λ (list : SpanRows). list.rows)
