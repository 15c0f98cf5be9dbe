use Rattle.std.proofs.Common.{◌≡◌, ◌<◌, ◌∙◌, [], true, length, get_or, vec_len, ap, arith, rules}
use Rattle.std.proofs.lemmas.List.{get_or_read}
use Rattle.airport_lint.specs.Sets.{needed_marks}
use Rattle.airport_lint.specs.Advice.{set_advice}
use Rattle.airport_lint.proofs.SetLaws.{marks-length}
use Rattle.airport_lint.proofs.TellLaws.{tells-below}
use Rattle.airport_lint.proofs.tell.tell_sets.Goals as goal

pub index-requires : goal.index-requires
index-requires c =
    let counted : vec_len c.in_ok-needed.needed ≡ length c.in_ok-needed.needed.items = search rules in
    let long : length c.in_ok-needed.needed.items ≡ length c.sets-sets.result.now = ap (λ m. length m) c.in_ok-needed.ensures ∙ marks-length [] c.sets-sets.result.now in
    let test = c.loop-at-test.true in
    omega (arith, counted, long, test)

pub tell_set-requires-clause-needed : goal.tell_set-requires-clause-needed
tell_set-requires-clause-needed c =
    let long : length c.in_ok-needed.needed.items ≡ length c.sets-sets.result.now = ap (λ m. length m) c.in_ok-needed.ensures ∙ marks-length [] c.sets-sets.result.now in
    let low : c.loop-at.at < length c.in_ok-needed.needed.items = let test = c.loop-at-test.true in omega (arith, long, test) in
    get_or_read c.in_ok-needed.needed.items c.loop-at.at c.index.result.now low c.index.ensures true
    ∙ ap (λ m. get_or m c.loop-at.at true) (c.in_ok-needed.ensures ∙ ap (needed_marks []) (c.sets-sets.ensures ∙ ap (λ s. s.sets) c.conflicts.ensures))

pub loop-at-preserved : goal.loop-at-preserved
loop-at-preserved c =
    let airport = c.args.airport.now in
    tells-below airport (set_advice airport.conflicts) c.loop-at.at c.args.told.now.items c.loop-at.told.items c.tell_set.new.told.items c.loop-at.invariant c.in_ok-tell_set.ensures
