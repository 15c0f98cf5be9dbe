use Rattle.std.proofs.Common.{◌≡◌, ◌<◌, ◌≤◌, ℕ, suc, List, length, sym, ◌∙◌, ap, subst, arith}
use Rattle.std.specs.Prelude.{vec_capacity}
use Rattle.taxi_base.specs.declared.rows.Span.{Span}
use Rattle.taxi_base.specs.Windows.{AreApart}
use Rattle.interval_list.specs.Intervals.{without_span}
use Rattle.window_store.specs.Rows.{AreOverBy, span_in, cut_in}
use Rattle.window_store.proofs.Rows.{without-over, without-one}
use Rattle.window_store.proofs.row.take_out_of_one.Goals as goal

cut : (row xs ys : List Span) (at : ℕ) (s : Span) → s.from < s.until → AreApart 0 row → xs ≡ row → AreOverBy xs s.from at → at < length row
    → ys ≡ row → (suc at < length ys → s.until ≤ (span_in ys (suc at)).from) → without_span s row ≡ cut_in row at s
cut row xs ys at s some apart same over inside same' next =
    without-one s some 0 row at apart inside (subst (λ (zs : List Span). AreOverBy zs s.from at) same over).over (subst (λ (zs : List Span). suc at < length zs → s.until ≤ (span_in zs (suc at)).from) same' next)

pub returns-then-at-len-clause-taken : goal.returns-then-at-len-clause-taken
returns-then-at-len-clause-taken c _ =
    let row = c.args.row.now.items in
    let over : AreOverBy row c.args.span.from c.over_by-at.result = subst (λ (xs : List Span). AreOverBy xs c.args.span.from c.over_by-at.result) c.deref.ensures.value c.over_by-at.ensures in
    sym (without-over c.args.span c.requires.some 0 row c.requires.apart (λ k on. over.over k (omega (arith, on, c.if-at-len.true, c.len.ensures, c.args.row.now.ok.0))))

pub cut_one-requires-clause-room : goal.cut_one-requires-clause-room
cut_one-requires-clause-room c =
    let row = c.args.row.now.items in
    let inside : c.over_by-at.result < length row = omega (arith, c.over_by-at.ensures.few, ap length c.deref.ensures.value, c.if-at-len.false, c.len.ensures, c.args.row.now.ok.0) in
    subst (λ (xs : List Span). length xs ≤ vec_capacity c.args.row.now) (cut row _ _ c.over_by-at.result c.args.span c.requires.some c.requires.apart c.deref.ensures.value c.over_by-at.ensures inside c.deref-2.ensures.value (c.ends_by_next.ensures c.if-not-ends_by_next.false)) c.requires.room

pub returns-clause-taken : goal.returns-clause-taken
returns-clause-taken c _ =
    let row = c.args.row.now.items in
    let inside : c.over_by-at.result < length row = omega (arith, c.over_by-at.ensures.few, ap length c.deref.ensures.value, c.if-at-len.false, c.len.ensures, c.args.row.now.ok.0) in
    c.cut_one.ensures.cut ∙ sym (cut row _ _ c.over_by-at.result c.args.span c.requires.some c.requires.apart c.deref.ensures.value c.over_by-at.ensures inside c.deref-2.ensures.value (c.ends_by_next.ensures c.if-not-ends_by_next.false))
