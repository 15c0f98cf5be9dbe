use Rattle.std.proofs.Common.{◌<◌, ◌≡◌, ℕ, List, [], Some, length, sym, subst, arith}
use Rattle.std.specs.Prelude.{slice_get}
use Rattle.std.proofs.lemmas.List.Elements.{Contains-get_or}
use Rattle.taxi_base.specs.declared.rows.Span.{Span}
use Rattle.held_spans.specs.Spans.{rows_at}
use Rattle.held_spans.proofs.SpanLaws.{there-on, rows-got}
use Rattle.held_spans.proofs.spans.HeldSpans.row.Goals as goal

abbrev none : Span × List ℕ
none = (record { from = 0; until = 0 }, [])

pub index-requires : goal.index-requires
index-requires c =
    let rows = rows_at c.args.self.now c.args.segment in
    let on = there-on c.args.self.now c.args.segment _ (Contains-get_or rows c.args.place none c.requires) in
    omega (arith, on, c.args.self.now.lists.ok)

pub row-requires : goal.row-requires
row-requires c =
    let rows = rows_at c.args.self.now c.args.segment in
    let on = there-on c.args.self.now c.args.segment _ (Contains-get_or rows c.args.place none c.requires) in
    subst (λ (listed : List (Span × List ℕ)). c.args.place < length listed) (rows-got c.args.self.now c.args.segment c.index.result.now on c.index.ensures) c.requires

pub returns : goal.returns
returns c =
    let rows = rows_at c.args.self.now c.args.segment in
    let on = there-on c.args.self.now c.args.segment _ (Contains-get_or rows c.args.place none c.requires) in
    subst (λ (listed : List (Span × List ℕ)). slice_get listed c.args.place ≡ Some c.row.result) (sym (rows-got c.args.self.now c.args.segment c.index.result.now on c.index.ensures)) c.row.ensures
