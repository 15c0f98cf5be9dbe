use Rattle.std.proofs.Common.{◌≡◌, ◌∙◌, refl, sym, ap, subst, true, false}
use Rattle.taxi_text.specs.Lines.{lines_of, lines_left, is_skipped}
use Rattle.taxi_base.specs.Airport.{Airport}
use Rattle.command_run.specs.Supplied.{IsKept}
use Rattle.command_run.proofs.Supplied.{kept-first, kept-skipped, kept-answered, kept-whole, kept-few}
use Rattle.command_run.proofs.kept.run_kept.Goals as goal

pub loop-line-init : goal.loop-line-init
loop-line-init g c =
    let left : lines_left c.into_iter-line-iterator.result ≡ lines_of c.args.commands.now =
    ap lines_left c.into_iter-line-iterator.ensures.into_iter_gives ∙ c.lines-line-items.ensures in
    record {
      can = tt;
      finite = tt;
      airport = refl;
      so_far = rw left (kept-first (g.K.Keeper.airport c.args.keeper.now) (lines_of c.args.commands.now) (g.K.Keeper.state c.args.keeper.now) (g.K.Keeper.Kept c.args.keeper.now) c.requires.fresh c.requires.none);
    }

pub answer_and_keep-requires : goal.answer_and_keep-requires
answer_and_keep-requires g c =
    record {
      few = kept-few (g.K.Keeper.airport c.args.keeper.now) c.args.commands.now _ (g.K.Keeper.state c.loop-line.keeper) (g.K.Keeper.Kept c.loop-line.keeper) c.loop-line.invariant.so_far c.requires.few;
    }

pub loop-line-preserved : goal.loop-line-preserved
loop-line-preserved g c =
    let inv = c.loop-line.invariant in
    let skipped : is_skipped c.in-Some.line.now ≡ true = sym c.skipped.ensures ∙ c.if-not-skipped.false in
    record {
      can = tt;
      finite = tt;
      airport = inv.airport;
      so_far = kept-skipped _ _ _ _ _ _ _ inv.so_far c.in-Some.ensures.steps skipped;
    }

pub loop-line-preserved-in-Continue-1 : goal.loop-line-preserved-in-Continue-1
loop-line-preserved-in-Continue-1 g c =
    let inv = c.loop-line.invariant in
    let kept : is_skipped c.in-Some.line.now ≡ false = sym c.skipped.ensures ∙ c.if-not-skipped.true in
    record {
      can = tt;
      finite = tt;
      airport = c.answer_and_keep.ensures.airport ∙ inv.airport;
      so_far = kept-answered (g.K.Keeper.airport c.args.keeper.now) _ _ _ (g.K.Keeper.state c.loop-line.keeper) _ (g.K.Keeper.Kept c.loop-line.keeper) _ c.in-Some.line.now inv.so_far c.in-Some.ensures.steps kept
          (subst (λ (a : Airport). IsKept a (g.K.Keeper.state c.loop-line.keeper) c.in-Some.line.now (g.K.Keeper.state c.answer_and_keep.new.self) (g.K.Keeper.Kept c.loop-line.keeper) (g.K.Keeper.Kept c.answer_and_keep.new.self)) inv.airport
          c.in_ok-answer_and_keep.ensures.kept);
    }

pub returns : goal.returns
returns g c = record {
  run = kept-whole (g.K.Keeper.airport c.args.keeper.now) (lines_of c.args.commands.now) _ _ _ c.loop-line.invariant.so_far c.in-None.ensures.steps.0;
  airport = c.loop-line.invariant.airport;
}
