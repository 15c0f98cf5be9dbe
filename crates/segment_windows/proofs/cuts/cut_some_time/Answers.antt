use Rattle.std.proofs.Common.{◌≡◌, ◌<◌, ◌≤◌, ◌-◌, ◌+◌, ◌++◌, ℕ, List, true, false, length, take, drop, sym, ◌∙◌, ap, subst, arith}
use Rattle.std.specs.Prelude.{nat_lt}
use Rattle.std.specs.List.Sorted.{IsPartitionPoint}
use Rattle.std.proofs.lemmas.Bool.{ltb-true}
use Rattle.std.proofs.lemmas.List.{get_or_read}
use Rattle.taxi_base.specs.declared.rows.Span.{Span}
use Rattle.segment_windows.specs.Cuts.{cut_out}
use Rattle.segment_windows.proofs.CutLaws.{cut-begins, cut-more, cut-on, cut-done}
use Rattle.segment_windows.proofs.cuts.cut_some_time.Goals as goal

-- what stands before the windows that were looked at, where this one is the next
step : (span : Span) (ws now : List Span) (begun past : ℕ) → past < begun → now ≡ take (begun - past) ws ++ cut_out span (drop (begun - past) ws)
    → now ≡ take (begun - 1 - past + 1) ws ++ cut_out span (drop (begun - 1 - past + 1) ws)
step span ws now begun past on is =
    let e : begun - past ≡ begun - 1 - past + 1 = omega (arith, on) in
    subst (λ n. now ≡ take n ws ++ cut_out span (drop n ws)) e is

pub loop-past-init : goal.loop-past-init
loop-past-init c =
    let point = subst (λ (l : List Span). IsPartitionPoint (λ (w : Span). nat_lt w.from c.args.span.until ≡ true) (λ w. nat_lt w.from c.args.span.until ≡ false) l c.windows_begun-begun.result) c.deref.ensures.value c.windows_begun-begun.ensures.point in
    let e : c.windows_begun-begun.result ≡ c.windows_begun-begun.result - 0 = omega arith in
    subst (λ n. c.args.windows.now.items ≡ take n c.args.windows.now.items ++ cut_out c.args.span (drop n c.args.windows.now.items)) e
    (cut-begins c.args.span c.requires.some c.args.windows.now.items c.requires.apart c.windows_begun-begun.result point)

pub returns-then-index-span : goal.returns-then-index-span
returns-then-index-span c =
    let ws = c.args.windows.now.items in
    let place = c.windows_begun-begun.result - 1 - c.loop-past.past in
    let on : place < length ws = omega (arith, c.loop-past-test.true, c.windows_begun-begun.ensures.few, ap (λ (l : List Span). length l) c.deref.ensures.value) in
    let is = step c.args.span ws c.loop-past.windows.items c.windows_begun-begun.result c.loop-past.past c.loop-past-test.true c.loop-past.invariant in
    let now_on : place < length c.loop-past.windows.items = cut-on c.args.span c.requires.some ws c.requires.apart place c.loop-past.windows.items on is in
    let at = get_or_read c.loop-past.windows.items place c.index.result.now now_on c.index.ensures c.args.span ∙ (cut-more c.args.span c.requires.some ws c.requires.apart place c.loop-past.windows.items on is).0 in
    cut-done c.args.span c.requires.some ws c.requires.apart place c.loop-past.windows.items on is (subst (λ (w : Span). w.until ≤ c.args.span.from) at c.if-index-span.true)

pub cut_window-requires-clause-early : goal.cut_window-requires-clause-early
cut_window-requires-clause-early c =
    let ws = c.args.windows.now.items in
    let place = c.windows_begun-begun.result - 1 - c.loop-past.past in
    let on : place < length ws = omega (arith, c.loop-past-test.true, c.windows_begun-begun.ensures.few, ap (λ (l : List Span). length l) c.deref.ensures.value) in
    let is = step c.args.span ws c.loop-past.windows.items c.windows_begun-begun.result c.loop-past.past c.loop-past-test.true c.loop-past.invariant in
    let at = (cut-more c.args.span c.requires.some ws c.requires.apart place c.loop-past.windows.items on is).0 in
    let point = subst (λ (l : List Span). IsPartitionPoint (λ (w : Span). nat_lt w.from c.args.span.until ≡ true) (λ w. nat_lt w.from c.args.span.until ≡ false) l c.windows_begun-begun.result) c.deref.ensures.value c.windows_begun-begun.ensures.point in
    subst (λ (w : Span). w.from < c.args.span.until) (sym at) (ltb-true _ _ (point.0 place c.args.span (omega arith) (omega (arith, c.loop-past-test.true))))
