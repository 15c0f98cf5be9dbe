use Rattle.std.proofs.Common.{subst}
use Rattle.std.specs.Prelude.{Result, Err}
use Rattle.replies.specs.Passes.{IsPassed, IsFirstBroken}
use Rattle.replies.proofs.TurnLaws.{passed-unbroken}
use Rattle.transcripts.specs.declared.refused.CheckRefused.{CheckRefused}
use Rattle.transcripts.specs.declared.refused.CheckRefused.TheVariants as check
use Rattle.transcripts.specs.Turns.{ChecksIn}
use Rattle.transcripts.proofs.OneAfter.{passed-one}
use Rattle.generated_run.proofs.answering.check_answer.Goals as goal

pub returns-in-Ok-clause-follows : goal.returns-in-Ok-clause-follows
returns-in-Ok-clause-follows g c after passes =
    passed-one c.args.airport.now _ c.args.line.now c.args.block _ after c.horizon.ensures.rules
    (subst (λ a. IsPassed a (g.C.BlockChecker.state c.args.checker.now) c.args.line.now c.args.block (g.C.BlockChecker.state c.check_next.new.self)) c.requires.checker c.in-Ok.ensures.checked.0) passes

pub unreachable-requires : goal.unreachable-requires
unreachable-requires g c =
    let rule = c.in-Err-Wrong.field-0-0 in
    let checks : Result Unit CheckRefused → Type 0 =
    λ r. ChecksIn (g.C.BlockChecker.airport c.args.checker.now) c.args.line.now c.args.block (g.C.BlockChecker.state c.args.checker.now) r (g.C.BlockChecker.state c.check_next.new.self) in
    let wrong : checks (Err (check.Wrong rule)) = subst (λ e. checks (Err e)) c.in-Err-Wrong.field-0-is c.in-Err-Wrong.ensures.checked in
    let broken : IsFirstBroken c.args.airport.now (g.C.BlockChecker.state c.args.checker.now) c.args.line.now c.args.block rule =
    subst (λ a. IsFirstBroken a (g.C.BlockChecker.state c.args.checker.now) c.args.line.now c.args.block rule) c.requires.checker wrong.0 in
    passed-unbroken c.args.airport.now (g.C.BlockChecker.state c.args.checker.now) c.args.line.now c.args.block c.requires.passes.0 c.requires.passes.1 rule broken
