use Rattle.std.proofs.Common.{◌≡◌, ◌+◌, ◌∙◌, ℕ, Some, refl, sym, ap, subst, true, false, arith}
use Rattle.taxi_text.specs.Lines.{lines_of, lines_left, commands_of, is_skipped}
use Rattle.taxi_base.specs.Airport.{Airport}
use Rattle.replies.specs.Replies.{IsAnswered}
use Rattle.command_run.specs.Supplied.{IsRunBefore}
use Rattle.command_run.proofs.Supplied.{AreBefore, more-before, kept-first, kept-skipped, kept-answered, before-found, before-none}
use Rattle.command_run.proofs.before.run_before.Goals as goal

pub loop-line-init : goal.loop-line-init
loop-line-init g c =
    let left : lines_left c.into_iter-line-iterator.result ≡ lines_of c.args.commands.now =
    ap lines_left c.into_iter-line-iterator.ensures.into_iter_gives ∙ c.lines-line-items.ensures in
    let counted = c.requires.counted in
    record {
      can = tt;
      finite = tt;
      airport = refl;
      so_far = rw left (kept-first (g.R.Router.airport c.args.router.now) (lines_of c.args.commands.now) (g.R.Router.state c.args.router.now) (AreBefore 1) c.requires.fresh refl);
      within = omega (arith, counted);
    }

pub loop-line-preserved : goal.loop-line-preserved
loop-line-preserved g c =
    let inv = c.loop-line.invariant in
    let skipped : is_skipped c.in-Some.line.now ≡ true = sym c.skipped.ensures ∙ c.if-not-skipped.false in
    record {
      can = tt;
      finite = tt;
      airport = inv.airport;
      so_far = kept-skipped _ _ _ _ _ _ _ inv.so_far c.in-Some.ensures.steps skipped;
      within = inv.within;
    }

pub loop-line-preserved-then-not-skipped : goal.loop-line-preserved-then-not-skipped
loop-line-preserved-then-not-skipped g c =
    let inv = c.loop-line.invariant in
    let holds : is_skipped c.in-Some.line.now ≡ false = sym c.skipped.ensures ∙ c.if-not-skipped.true in
    let got = c.in_ok-answer_with_memory.ensures.answered in
    let within = inv.within in
    let other = c.if-next-number.false in
    record {
      can = tt;
      finite = tt;
      airport = c.answer_with_memory.ensures.airport ∙ inv.airport;
      so_far = kept-answered (g.R.Router.airport c.args.router.now) _ _ _ (g.R.Router.state c.loop-line.router) _ (AreBefore c.loop-line.next) (AreBefore (c.loop-line.next + 1)) c.in-Some.line.now inv.so_far c.in-Some.ensures.steps holds
          (record {
            block = got.0.block;
            answered = subst (λ (a : Airport). IsAnswered a (g.R.Router.state c.loop-line.router) c.in-Some.line.now got.0.block (g.R.Router.state c.answer_with_memory.new.router)) inv.airport got.0.answered;
            found_memory = got.1;
            kept = λ blocks before. more-before c.loop-line.next blocks got.0.block before;
          });
      within = omega (arith, within, other);
    }

pub returns-then-next-number-clause-run : goal.returns-then-next-number-clause-run
returns-then-next-number-clause-run g c =
    let inv = c.loop-line.invariant in
    let holds : is_skipped c.in-Some.line.now ≡ false = sym c.skipped.ensures ∙ c.if-not-skipped.true in
    subst (λ (n : ℕ). IsRunBefore (g.R.Router.airport c.args.router.now) (commands_of c.args.commands.now) n (Some c.in-Some.line.now) (g.R.Router.state c.loop-line.router)) c.if-next-number.true
    (before-found (g.R.Router.airport c.args.router.now) (lines_of c.args.commands.now) _ _ (g.R.Router.state c.loop-line.router) c.loop-line.next c.in-Some.line.now inv.so_far c.in-Some.ensures.steps holds)

pub returns-clause-run : goal.returns-clause-run
returns-clause-run g c =
    let inv = c.loop-line.invariant in
    before-none (g.R.Router.airport c.args.router.now) (lines_of c.args.commands.now) _ (g.R.Router.state c.loop-line.router) c.loop-line.next c.args.number inv.so_far c.in-None.ensures.steps.0 inv.within
