use Rattle.std.proofs.Common.{◌∙◌, ◌<◌, ◌≤◌, length, ap, arith}
use Rattle.std.proofs.Math.ListN.{set}
use Rattle.std.proofs.lemmas.List.Edits.{map_over_more}
use Rattle.run_figures.specs.declared.counting.Count.{Count}
use Rattle.run_figures.specs.Tallies.{with_one}
use Rattle.run_figures.proofs.TallyLaws.{with-one-all}
use Rattle.run_figures.proofs.counting.count_one.Goals as goal

pub loop-place-preserved : goal.loop-place-preserved
loop-place-preserved c =
    let counts = c.args.counts.now.items in
    let low : c.loop-place.place < length counts = omega (arith, c.loop-place-test.true, c.len-place-end.ensures, c.args.counts.now.ok.0) in
    ap (λ (v : Count). set c.loop-place.counts.items c.loop-place.place v) c.count_if_kind.ensures
    ∙ map_over_more (with_one c.args.words.now) counts c.loop-place.counts.items c.loop-place.place c.index_mut.result.now low c.loop-place.invariant c.index_mut.ensures.value

pub returns : goal.returns
returns c =
    let past : length c.args.counts.now.items ≤ c.loop-place.place = omega (arith, c.loop-place-test.false, c.len-place-end.ensures, c.args.counts.now.ok.0) in
    with-one-all c.args.words.now c.args.counts.now.items c.loop-place.counts.items c.loop-place.place c.loop-place.invariant past
