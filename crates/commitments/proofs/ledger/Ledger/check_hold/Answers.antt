use Rattle.std.proofs.Common.{◌≡◌, ◌↔◌, Option, Some, None, ◌∙◌, sym, subst}
use Rattle.taxi_base.specs.declared.answers.StepFault.{StepFault}
use Rattle.taxi_base.specs.Windows.{Hold}
use Rattle.taxi_base.specs.State.{IsFeasibleHold}
use Rattle.taxi_base.proofs.FaultLaws.{hold_fault-None}
use Rattle.commitments.proofs.TakenCause.{hold_fault-is}
use Rattle.commitments.proofs.ledger.Ledger.check_hold.Goals as goal

pub returns-in_err-cause-clause-fault : goal.returns-in_err-cause-clause-fault
returns-in_err-cause-clause-fault c =
    let hold : Hold = record { segment = c.args.segment; span = record { from = c.args.from; until = c.args.until } } in
    c.from_residual.ensures ∙ hold_fault-is c.args.airport.now c.args.self.now.state hold None c.in_err-cause.ensures

pub returns-in_err-cause-clause-feasible : goal.returns-in_err-cause-clause-feasible
returns-in_err-cause-clause-feasible c =
    let hold : Hold = record { segment = c.args.segment; span = record { from = c.args.from; until = c.args.until } } in
    subst (λ (r : Option StepFault). (r ≡ None) ↔ IsFeasibleHold c.args.airport.now c.args.self.now.state hold) (sym (returns-in_err-cause-clause-fault c))
    (hold_fault-None c.args.airport.now c.args.self.now.state hold c.requires.segment)

pub returns-clause-fault : goal.returns-clause-fault
returns-clause-fault c =
    let hold : Hold = record { segment = c.args.segment; span = record { from = c.args.from; until = c.args.until } } in
    hold_fault-is c.args.airport.now c.args.self.now.state hold (Some c.in_ok-cause.cause) c.in_ok-cause.ensures

pub returns-clause-feasible : goal.returns-clause-feasible
returns-clause-feasible c =
    let hold : Hold = record { segment = c.args.segment; span = record { from = c.args.from; until = c.args.until } } in
    subst (λ (r : Option StepFault). (r ≡ None) ↔ IsFeasibleHold c.args.airport.now c.args.self.now.state hold) (sym (returns-clause-fault c))
    (hold_fault-None c.args.airport.now c.args.self.now.state hold c.requires.segment)
