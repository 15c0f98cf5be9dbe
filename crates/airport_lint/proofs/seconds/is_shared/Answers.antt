use Rattle.std.proofs.Common.{◌≡◌, ◌<◌, ◌≤◌, ◌∙◌, ◌&&◌, ℕ, Bool, true, List, [], Option, None, is_some, length, get_or, sym, ap, subst, arith}
use Rattle.taxi_base.specs.declared.numbers.Segment.{Segment}
use Rattle.taxi_base.specs.Airport.{times_of}
use Rattle.airport_lint.specs.Advice.{is_shared}
use Rattle.airport_lint.proofs.LoopLaws.{one-here, none-all}
use Rattle.airport_lint.proofs.seconds.is_shared.Goals as goal

abbrev both : Segment → Segment → List (Option ℕ) → Bool
both one other times = is_some (get_or times one.0 None) && is_some (get_or times other.0 None)

pub returns-then-has_both : goal.returns-then-has_both
unfolding is_shared
returns-then-has_both c =
    let table = times_of c.args.airport.now in
    let count : c.count-number-end.result ≡ length table = c.count-number-end.ensures ∙ ap (λ t. length t.table) c.classes.ensures in
    let low : c.loop-number.number < length table = let test = c.loop-number-test.true in omega (arith, test, count) in
    let is : c.times-times.result.now ≡ get_or table c.loop-number.number [] = c.times-times.ensures.row ∙ ap (λ t. get_or t.table c.loop-number.number []) c.classes-in-loop-number.ensures in
    sym (one-here (both c.args.one c.args.other) table c.loop-number.number [] low (subst (λ times. both c.args.one c.args.other times ≡ true) is (sym c.has_both.ensures ∙ c.if-has_both.true)))

pub returns : goal.returns
unfolding is_shared
returns c =
    let table = times_of c.args.airport.now in
    let count : c.count-number-end.result ≡ length table = c.count-number-end.ensures ∙ ap (λ t. length t.table) c.classes.ensures in
    let past : length table ≤ c.loop-number.number = let test = c.loop-number-test.false in omega (arith, test, count) in
    sym (none-all (both c.args.one c.args.other) table c.loop-number.number past c.loop-number.invariant)
