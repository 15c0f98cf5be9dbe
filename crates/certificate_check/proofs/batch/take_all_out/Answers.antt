use Rattle.std.proofs.Common.{◌+◌, ◌∙◌, List, drop, sym, ap}
use Rattle.replies.specs.declared.wish.Wish.{Wish}
use Rattle.checked_state.specs.Flights.{state_of}
use Rattle.certificate_check.specs.Batch.{without_all}
use Rattle.certificate_check.proofs.BatchState.{without-next, without-none, drop-past}
use Rattle.certificate_check.proofs.batch.take_all_out.Goals as goal

pub loop-wish-preserved : goal.loop-wish-preserved
loop-wish-preserved c =
    let at = c.loop-wish in
    let wishes = c.args.wishes.now in
    record {
      ready = c.take_out.ensures.ready;
      left = ap (without_all (drop (at.wish-index + 1) wishes)) c.take_out.ensures.state
          ∙ sym (without-next (state_of at.held) wishes at.wish-index c.loop-wish-test.true c.wish-item.result c.wish-item.is) ∙ at.invariant.left;
    }

pub returns-clause-state : goal.returns-clause-state
returns-clause-state c =
    let at = c.loop-wish in
    let state = state_of at.held in
    sym (without-none state) ∙ ap (λ (ws : List Wish). without_all ws state) (sym (drop-past c.args.wishes.now at.wish-index c.loop-wish-test.false)) ∙ at.invariant.left
