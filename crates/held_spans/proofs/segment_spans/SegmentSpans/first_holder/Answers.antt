use Rattle.std.proofs.Common.{ℕ, ◌<◌, ◌≤◌, List, [], length, get_or, ap, subst, arith}
use Rattle.std.proofs.lemmas.List.{take_all}
use Rattle.std.proofs.lemmas.Option.{slice_get-get_or}
use Rattle.taxi_base.specs.declared.rows.Span.{Span}
use Rattle.held_spans.specs.Holders.{IsFirstOf, IsHolderIn}
use Rattle.held_spans.specs.Rows.{SpanRows}
use Rattle.held_spans.proofs.RowLaws.{rows-length}
use Rattle.held_spans.proofs.FirstLaws.{row-more}
use Rattle.held_spans.proofs.segment_spans.SegmentSpans.first_holder.Goals as goal

abbrev no_row : Span × List ℕ
no_row = (record { from = 0; until = 0 }, [])

pub holder_at-requires : goal.holder_at-requires
holder_at-requires c =
    let many = rows-length c.self.inside.spans.items c.self.inside.holders.items c.args.self.now.rows (ap (λ (l : SpanRows). l.rows) c.self.view_is) c.self.invariant.0 in
    omega (arith, many, c.self.inside.spans.ok, c.len-place-end.ensures, c.loop-place-test.true)

pub loop-place-preserved : goal.loop-place-preserved
loop-place-preserved c =
    let rows = c.args.self.now.rows in
    let place = c.loop-place.place in
    let many = rows-length c.self.inside.spans.items c.self.inside.holders.items rows (ap (λ (l : SpanRows). l.rows) c.self.view_is) c.self.invariant.0 in
    let low : place < length rows = omega (arith, many, c.self.inside.spans.ok, c.len-place-end.ensures, c.loop-place-test.true) in
    rw c.first_name-first.ensures
    (row-more c.args.second rows place no_row low c.loop-place.first c.holder_at.result c.loop-place.invariant (c.holder_at.ensures (get_or rows place no_row) (slice_get-get_or rows place no_row low)))

pub returns : goal.returns
returns c =
    let rows = c.args.self.now.rows in
    let many = rows-length c.self.inside.spans.items c.self.inside.holders.items rows (ap (λ (l : SpanRows). l.rows) c.self.view_is) c.self.invariant.0 in
    let past : length rows ≤ c.loop-place.place = omega (arith, many, c.self.inside.spans.ok, c.len-place-end.ensures, c.loop-place-test.false) in
    subst (λ (some : List (Span × List ℕ)). IsFirstOf (IsHolderIn some c.args.second) c.loop-place.first) (take_all c.loop-place.place rows past) c.loop-place.invariant
