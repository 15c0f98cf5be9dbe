use Rattle.std.proofs.Common.{◌≡◌, List, get_or, sym, ◌∙◌, ap, subst}
use Rattle.std.proofs.lemmas.List.{get_or_read}
use Rattle.std.proofs.lemmas.Option.{get_or_from_slice_get}
use Rattle.taxi_base.specs.declared.rows.Span.{Span}
use Rattle.taxi_base.specs.Windows.{AreWindows}
use Rattle.check_rows.specs.declared.known.SegmentWindows.{SegmentWindows}
use Rattle.check_rows.proofs.KnownLaws.{known-list, known-on}
use Rattle.check_rows.proofs.known.KnownWindows.of.Goals as goal

pub returns : goal.returns
returns c segments free are =
    let items = c.args.self.now.lists.items in
    let found = known-list c.args.self.now c.args.segment c.requires in
    let read : c.index.result.now ≡ get_or items c.args.segment.0 found.0 = get_or_read items _ _ (known-on c.args.self.now c.args.segment c.requires) c.index.ensures found.0 in
    let same : c.index.result.now ≡ found.0 = read ∙ get_or_from_slice_get items c.args.segment.0 found.0 found.0 found.1 in
    subst (λ (ws : List Span). AreWindows (free c.args.segment) ws) (sym (c.deref.ensures.value ∙ ap (λ (l : SegmentWindows). l.windows.items) same)) (are.each c.args.segment found.0 found.1 found.2)
