use Rattle.std.proofs.Common.{◌<◌, ◌≤◌, ◌∙◌, [], get_or, take, length-take, sym, ap, arith}
use Rattle.std.proofs.lemmas.List.{get_or-take}
use Rattle.std.proofs.lemmas.List.Sums.{position_or_len_is}
use Rattle.airport_lint.specs.Sets.{are_same}
use Rattle.airport_lint.proofs.sets.first_like.Goals as goal

pub returns-then-is_like : goal.returns-then-is_like
returns-then-is_like c =
    let sets = c.args.sets.now in
    let test = are_same (get_or sets c.args.at []) in
    let place = c.loop-place.place in
    let long = length-take c.args.at sets in
    let low : place < c.args.at = c.loop-place-test.true in
    sym (position_or_len_is test (take c.args.at sets) place [] (let h = c.requires in omega (arith, long, low, h))
    (λ j below. ap test (get_or-take c.args.at sets j [] (omega (arith, below, low))) ∙ c.loop-place.invariant j below)
    (λ _. ap test (get_or-take c.args.at sets place [] low) ∙ (sym c.is_like.ensures ∙ c.if-is_like.true)))

pub returns : goal.returns
returns c =
    let sets = c.args.sets.now in
    let test = are_same (get_or sets c.args.at []) in
    let long = length-take c.args.at sets in
    let past : c.args.at ≤ c.loop-place.place = c.loop-place-test.false in
    sym (position_or_len_is test (take c.args.at sets) c.args.at [] (let h = c.requires in omega (arith, long, h))
    (λ j below. ap test (get_or-take c.args.at sets j [] below) ∙ c.loop-place.invariant j (omega (arith, below, past)))
    (λ within. absurd (omega (arith, within, long))))
