use Rattle.std.proofs.Common.{inl, inr, ◌≡◌, ◌≤◌, ◌<◌, ◌+◌, ◌++◌, ◌∙◌, length, get_or, take, drop, sym, subst, arith}
use Rattle.std.proofs.lemmas.Bool.{cases_lt}
use Rattle.std.proofs.lemmas.List.{get_or_default}
use Rattle.std.proofs.lemmas.List.Edits.{get_or-remove_above, get_or-remove_below, length-remove}
use Rattle.taxi_base.specs.declared.rows.Span.{Span}
use Rattle.segment_windows.specs.Joins.{joined}
use Rattle.segment_windows.proofs.JoinLaws.{joined-first, joined-on, joined-set}
use Rattle.segment_windows.proofs.giving.join_at.Goals as goal

pub loop-windows-init : goal.loop-windows-init
loop-windows-init c =
    let ws = c.args.windows.now.items in let n = c.args.place in let span = c.args.span in
    let w : Span = c.index.result.now in
    let is : get_or ws n w ≡ w = sym c.index.ensures in
    let same : get_or ws n span ≡ w = get_or_default ws n span w c.requires.place ∙ is in
    let low : w.from ≤ span.until = subst (λ (v : Span). v.from ≤ span.until) same c.requires.reached in
    let high : span.from ≤ w.until = subst (λ (v : Span). span.from ≤ v.until) is (c.requires.ends n w (omega arith) c.requires.place) in
    rw c.hull-whole.ensures (record { few = c.requires.place; begins = omega arith; ends = c.requires.ends; same = joined-first ws n span w c.requires.place is low high })

pub loop-windows-preserved : goal.loop-windows-preserved
loop-windows-preserved c =
    let now = c.loop-windows.windows.items in let n = c.args.place in let whole = c.loop-windows.whole in
    let span = c.args.span in let kept = c.loop-windows.invariant in
    let w : Span = c.remove-window.result in
    let next : (n + 1 < length now) × ((get_or now (n + 1) whole).from ≤ whole.until) = rw c.deref.ensures.value at (c.reaches_next.ensures.yes c.loop-windows-test.true) in
    let is : get_or now (n + 1) w ≡ w = sym c.remove-window.ensures.value in
    let same : get_or now (n + 1) whole ≡ w = get_or_default now (n + 1) whole w next.0 ∙ is in
    let low : w.from ≤ whole.until = subst (λ (v : Span). v.from ≤ whole.until) same next.1 in
    let high : span.from ≤ w.until = subst (λ (v : Span). span.from ≤ v.until) is (kept.ends (n + 1) w (omega arith) next.0) in
    let begins : whole.from ≤ span.from = kept.begins in
    let fewer = length-remove now (n + 1) next.0 in
    rw (c.remove-window.ensures.items, c.hull-whole-in-loop-windows.ensures) (record {
      few = omega (arith, next.0, fewer);
      begins = omega (arith, begins);
      ends = λ k d from on. elim (cases_lt k (n + 1)) [
        | inl below ↦ rw (get_or-remove_below now (n + 1) d k below next.0) (kept.ends k d from (omega (arith, below, next.0)))
        | inr above ↦ rw (get_or-remove_above now (n + 1) d k above next.0) (kept.ends (k + 1) d (omega (arith, from)) (omega (arith, on, fewer)))
      ];
      same = joined-on (take n c.args.windows.now.items ++ joined span (drop n c.args.windows.now.items)) now n (n + 1) whole w (omega arith) next.0 is kept.same low (omega (arith, begins, high));
    })

pub returns : goal.returns
returns c =
    let now = c.loop-windows.windows.items in let n = c.args.place in let whole = c.loop-windows.whole in let kept = c.loop-windows.invariant in
    let later : n + 1 < length now → whole.until < (get_or now (n + 1) whole).from = rw c.deref.ensures.value at (c.reaches_next.ensures.no c.loop-windows-test.false) in
    joined-set (take n c.args.windows.now.items ++ joined c.args.span (drop n c.args.windows.now.items)) now n whole kept.few later kept.same
