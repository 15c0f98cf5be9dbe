use Rattle.std.proofs.Common.{◌≡◌, ◌↔◌, Option, None, ◌+◌, ◌∙◌, sym, subst}
use Rattle.taxi_base.specs.declared.answers.StepFault.{StepFault}
use Rattle.taxi_base.specs.Walks.{IsFeasibleWalk}
use Rattle.taxi_base.specs.Faults.{conditions_in}
use Rattle.taxi_base.proofs.FaultLaws.{route_fault-None}
use Rattle.taxi_base.proofs.RouteFaults.{fault-start, fault-here, fault-end}
use Rattle.commitments.proofs.ledger.Ledger.check_route.Goals as goal

pub returns-in-Some-clause-fault : goal.returns-in-Some-clause-fault
returns-in-Some-clause-fault c =
    sym (fault-start c.args.airport.now c.args.class c.args.self.now.state c.args.steps.now
    ∙ c.loop-place.invariant
    ∙ fault-here c.args.airport.now c.args.class c.args.self.now.state (c.loop-place.place + 1) c.loop-place.before c.args.steps.now c.loop-place.place _ c.in-Some.cause c.loop-place-test.true
    (sym c.cause_of.ensures ∙ c.in-Some.is))

pub returns-in-Some-clause-feasible : goal.returns-in-Some-clause-feasible
returns-in-Some-clause-feasible c some joined =
    subst (λ (r : Option StepFault). (r ≡ None) ↔ IsFeasibleWalk (conditions_in c.args.airport.now c.args.class c.args.self.now.state) c.args.steps.now) (sym (returns-in-Some-clause-fault c))
    (route_fault-None c.args.airport.now c.args.class c.args.self.now.state c.args.steps.now some c.requires.arcs joined)

pub returns-clause-fault : goal.returns-clause-fault
returns-clause-fault c =
    sym (fault-start c.args.airport.now c.args.class c.args.self.now.state c.args.steps.now
    ∙ c.loop-place.invariant
    ∙ fault-end c.args.airport.now c.args.class c.args.self.now.state (c.loop-place.place + 1) c.loop-place.before c.args.steps.now c.loop-place.place c.loop-place-test.false)

pub returns-clause-feasible : goal.returns-clause-feasible
returns-clause-feasible c some joined =
    subst (λ (r : Option StepFault). (r ≡ None) ↔ IsFeasibleWalk (conditions_in c.args.airport.now c.args.class c.args.self.now.state) c.args.steps.now) (sym (returns-clause-fault c))
    (route_fault-None c.args.airport.now c.args.class c.args.self.now.state c.args.steps.now some c.requires.arcs joined)
