use Rattle.std.proofs.Common.{subst}
use Rattle.std.specs.Prelude.{IfSome}
use Rattle.replies.specs.Asked.{IsInGrammar}
use Rattle.replies.proofs.GrammarLaws.{command_of-in_grammar}
use Rattle.reply_reasons.proofs.explaining.explain.Goals as goal

pub explain_command-requires-clause-grammar : goal.explain_command-requires-clause-grammar
explain_command-requires-clause-grammar c = subst (λ o. IfSome o IsInGrammar) c.in-Ok.ensures.ok (command_of-in_grammar c.args.line.now)
