use Rattle.std.proofs.Common.{IsTrue, ◌↔◌, All, sym, subst}
use Rattle.std.proofs.lemmas.Bool.{false≢true}
use Rattle.taxi_base.specs.Airport.{Layout}
use Rattle.taxi_base.specs.Walks.{conditions_among, IsFeasibleStep, IsFeasibleWalk}
use Rattle.check_rows.proofs.LoopLaws.{says-no, says-yes}
use Rattle.check_walks.specs.Steps.{IsChain}
use Rattle.check_walks.proofs.StepLaws.{walk-chain, chain-walk, same-test, ok-weaker}
use Rattle.check_walks.proofs.feasible.is_feasible_walk.Goals as goal

pub returns-then-not-is_chain-clause-walk : goal.returns-then-not-is_chain-clause-walk
returns-then-not-is_chain-clause-walk g c =
    let conditions = conditions_among c.args.airport.now c.args.class (g.H.HoldsOf.held c.args.holds.now) in (
      λ e. absurd (false≢true e),
      λ walk. absurd (says-no _ c.if-not-is_chain.true c.is_chain.ensures
          (subst (λ (l : Layout). IsChain l c.args.steps.now) (sym c.graph.ensures) (walk-chain conditions c.args.steps.now walk))),
    )

pub returns-clause-walk : goal.returns-clause-walk
returns-clause-walk g c =
    let conditions = conditions_among c.args.airport.now c.args.class (g.H.HoldsOf.held c.args.holds.now) in
    let chain = subst (λ (l : Layout). IsChain l c.args.steps.now) c.graph.ensures (says-yes _ c.if-not-is_chain.false c.is_chain.ensures) in
    ok-weaker c.all_feasible.result (λ yes. IsTrue yes ↔ All (IsFeasibleStep conditions) c.args.steps.now) (λ yes. IsTrue yes ↔ IsFeasibleWalk conditions c.args.steps.now)
    (λ yes same. same-test same (chain-walk conditions c.args.steps.now chain)) c.all_feasible.ensures.each
