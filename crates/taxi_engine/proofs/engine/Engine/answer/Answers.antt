use Rattle.std.proofs.Common.{◌∙◌, Err, ap, subst}
use Rattle.std.specs.Prelude.{IfSome}
use Rattle.taxi_base.specs.Airport.{IsWellFormed}
use Rattle.taxi_base.specs.State.{IsSound}
use Rattle.taxi_engine.specs.Engine.{EngineState}
use Rattle.replies.specs.Asked.{IsInGrammar}
use Rattle.replies.specs.Replies.{HaveNames}
use Rattle.replies.proofs.GrammarLaws.{command_of-in_grammar}
use Rattle.taxi_engine.proofs.AnswerLaws.{bad_line-answers, command-answers, file-answers}
use Rattle.taxi_engine.proofs.engine.Engine.answer.Goals as goal

pub carry_out-requires : goal.carry_out-requires
carry_out-requires c = subst (λ o. IfSome o IsInGrammar) c.in-Ok.ensures.ok (command_of-in_grammar c.args.line.now)

pub returns-in-Ok : goal.returns-in-Ok
returns-in-Ok c =
    command-answers c.args.self.now c.carry_out.new.self c.args.line.now (subst (λ (s : EngineState). IsWellFormed s.airport) c.self.view_is c.horizon.ensures.rules)
    (subst (λ (s : EngineState). IsSound s.airport s.state) c.self.view_is c.self.invariant.0) (subst (λ (s : EngineState). HaveNames s.state) c.self.view_is c.self.invariant.2)
    c.in-Ok.command c.in-Ok.ensures.ok c.carry_out.ensures

pub returns-in-Err-BadLine : goal.returns-in-Err-BadLine
returns-in-Err-BadLine c =
    bad_line-answers c.args.self.now c.refuse.new.self c.args.line.now (subst (λ (s : EngineState). IsWellFormed s.airport) c.self.view_is c.horizon.ensures.rules)
    (subst (λ (s : EngineState). IsSound s.airport s.state) c.self.view_is c.self.invariant.0) (subst (λ (s : EngineState). HaveNames s.state) c.self.view_is c.self.invariant.2)
    (c.read_command.ensures.bad_line.0 (c.in-Err-BadLine.is ∙ ap Err c.in-Err-BadLine.field-0-is)) c.refuse.ensures

pub returns-in-Err-Memory : goal.returns-in-Err-Memory
returns-in-Err-Memory c =
    file-answers c.args.self.now c.refuse-in-Err-Memory.new.self c.args.line.now (subst (λ (s : EngineState). IsWellFormed s.airport) c.self.view_is c.horizon.ensures.rules)
    (subst (λ (s : EngineState). IsSound s.airport s.state) c.self.view_is c.self.invariant.0) (subst (λ (s : EngineState). HaveNames s.state) c.self.view_is c.self.invariant.2)
    (c.read_command.ensures.memory (c.in-Err-Memory.is ∙ ap Err c.in-Err-Memory.field-0-is)) c.refuse-in-Err-Memory.ensures
