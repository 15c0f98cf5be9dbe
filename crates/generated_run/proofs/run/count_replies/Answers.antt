use Rattle.std.proofs.Common.{◌≡◌, ◌∙◌, sym, ap, subst, true, false, arith}
use Rattle.taxi_text.specs.Lines.{lines_of, lines_left, is_skipped}
use Rattle.replies.specs.Passes.{IsPassed}
use Rattle.generated_run.proofs.Counted.{nothing-counted, counted-skipped, counted-answered, counted-few, counted-routes, counted-no_routes, counted-whole}
use Rattle.generated_run.proofs.run.count_replies.Goals as goal

pub loop-line-init : goal.loop-line-init
loop-line-init g c =
    let left : lines_left c.into_iter-line-iterator.result ≡ lines_of c.args.commands.now =
    ap lines_left c.into_iter-line-iterator.ensures.into_iter_gives ∙ c.lines-line-items.ensures in
    record {
      can = tt;
      finite = tt;
      router = c.requires.router;
      checker = c.requires.checker;
      same = c.requires.follows ∙ sym c.requires.fresh;
      so_far = rw left (nothing-counted c.args.airport.now (lines_of c.args.commands.now) (g.R.Router.state c.args.router.now) c.new-summary.result c.requires.fresh c.new-summary.ensures);
    }

pub count-requires-clause-few : goal.count-requires-clause-few
count-requires-clause-few g c =
    let kept : is_skipped c.in-Some.line.now ≡ false = sym c.skipped.ensures ∙ c.if-not-skipped.true in
    let few = counted-few _ _ _ _ _ _ _ c.loop-line.invariant.so_far c.in-Some.ensures.steps kept in
    let most = c.requires.few in
    omega (arith, few, most)

pub count-requires-clause-routes : goal.count-requires-clause-routes
count-requires-clause-routes g c = counted-routes _ _ _ _ _ c.loop-line.invariant.so_far

pub count-requires-clause-no_routes : goal.count-requires-clause-no_routes
count-requires-clause-no_routes g c = counted-no_routes _ _ _ _ _ c.loop-line.invariant.so_far

pub count-requires-clause-seconds : goal.count-requires-clause-seconds
count-requires-clause-seconds g c = c.loop-line.invariant.so_far.seconds

pub check_answer-requires-clause-passes : goal.check_answer-requires-clause-passes
check_answer-requires-clause-passes g c =
    let after = g.R.Router.state c.read_answer.new.router in
    (after, subst (λ s. IsPassed c.args.airport.now s c.in-Some.line.now c.in_ok-block.block after) (sym c.loop-line.invariant.same) c.in_ok-block.ensures.passed)

pub loop-line-preserved-in-Continue-branch-2 : goal.loop-line-preserved-in-Continue-branch-2
loop-line-preserved-in-Continue-branch-2 g c =
    let inv = c.loop-line.invariant in
    let so_far = inv.so_far in
    let kept : is_skipped c.in-Some.line.now ≡ false = sym c.skipped.ensures ∙ c.if-not-skipped.true in
    let after = g.R.Router.state c.read_answer.new.router in
    record {
      can = tt;
      finite = tt;
      router = c.read_answer.ensures.router;
      checker = c.check_answer.ensures.checker;
      same = c.in_ok-check_answer.ensures.follows after (subst (λ s. IsPassed c.args.airport.now s c.in-Some.line.now c.in_ok-block.block after) (sym inv.same) c.in_ok-block.ensures.passed);
      so_far = counted-answered _ _ _ _ _ _ _ _ _ _ so_far c.in-Some.ensures.steps kept c.in_ok-block.ensures.answered c.in_ok-block.ensures.memory
          (c.count.ensures.counted c.args.airport.now so_far.blocks so_far.counted) c.count.ensures.seconds;
    }

pub loop-line-preserved : goal.loop-line-preserved
loop-line-preserved g c =
    let inv = c.loop-line.invariant in
    let skipped : is_skipped c.in-Some.line.now ≡ true = sym c.skipped.ensures ∙ c.if-not-skipped.false in
    record {
      can = tt;
      finite = tt;
      router = inv.router;
      checker = inv.checker;
      same = inv.same;
      so_far = counted-skipped _ _ _ _ _ _ _ inv.so_far c.in-Some.ensures.steps skipped;
    }

pub returns : goal.returns
returns g c = counted-whole _ _ _ _ _ c.loop-line.invariant.so_far c.in-None.ensures.steps.0
