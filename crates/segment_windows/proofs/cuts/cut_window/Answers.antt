use Rattle.std.proofs.Common.{◌<◌, ◌∙◌, ◌++◌, ◌+◌, sym, ap, subst, take, drop}
use Rattle.std.proofs.lemmas.List.{get_or_read}
use Rattle.taxi_base.specs.declared.rows.Span.{Span}
use Rattle.segment_windows.specs.Cuts.{parts_of}
use Rattle.segment_windows.proofs.CutLaws.{list-both, list-before, list-after}
use Rattle.segment_windows.proofs.cuts.cut_window.Goals as goal

pub returns-then-before : goal.returns-then-before
returns-then-before c =
    let ws = c.args.windows.now.items in
    let at = get_or_read ws c.args.place c.index-window.result.now c.requires.place c.index-window.ensures c.args.span in
    let parts = list-after c.args.span c.index-window.result.now c.requires.some (subst (λ (w : Span). w.from < c.args.span.until) (sym at) c.requires.early) (subst (λ (w : Span). c.args.span.from < w.until) (sym at) c.requires.late) c.if-before.true in
    c.leave_after.ensures ∙ ap (λ l. take c.args.place ws ++ (l ++ drop (c.args.place + 1) ws)) (sym parts ∙ ap (λ (w : Span). parts_of c.args.span w) at)

pub returns-then-after : goal.returns-then-after
returns-then-after c =
    let ws = c.args.windows.now.items in
    let at = get_or_read ws c.args.place c.index-window.result.now c.requires.place c.index-window.ensures c.args.span in
    let is = list-before c.args.span c.index-window.result.now c.requires.some (subst (λ (w : Span). w.from < c.args.span.until) (sym at) c.requires.early) (subst (λ (w : Span). c.args.span.from < w.until) (sym at) c.requires.late) ws c.args.place c.requires.place c.if-before.false c.if-after.true in
    is ∙ ap (λ (w : Span). take c.args.place ws ++ (parts_of c.args.span w ++ drop (c.args.place + 1) ws)) at

pub returns : goal.returns
returns c =
    let ws = c.args.windows.now.items in
    let at = get_or_read ws c.args.place c.index-window.result.now c.requires.place c.index-window.ensures c.args.span in
    let is = list-both c.args.span c.index-window.result.now c.requires.some (subst (λ (w : Span). w.from < c.args.span.until) (sym at) c.requires.early) (subst (λ (w : Span). c.args.span.from < w.until) (sym at) c.requires.late) ws c.args.place c.requires.place c.if-before.false c.if-after.false in
    c.in_ok-insert.ensures.items ∙ is ∙ ap (λ (w : Span). take c.args.place ws ++ (parts_of c.args.span w ++ drop (c.args.place + 1) ws)) at
