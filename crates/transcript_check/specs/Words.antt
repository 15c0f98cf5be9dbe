-- Which word tells why a block fails?
use Rattle.std.specs.Prelude.{ℕ, List, codes}
use Rattle.replies.specs.declared.rule.Rule.{Rule as CheckRule}
use Rattle.replies.specs.declared.rule.Rule.TheVariants as rule
use Rattle.transcript_check.specs.declared.failure.Failure.{Failure}
use Rattle.transcript_check.specs.declared.failure.Failure.TheVariants.{Form, Rule}

abbrev pub rule_word : CheckRule → List ℕ
rule_word rule.Reply = codes "reply"
rule_word rule.Walk = codes "walk"
rule_word rule.Rows = codes "rows"
rule_word rule.Start = codes "start"
rule_word rule.Step = codes "step"
rule_word rule.Target = codes "target"

abbrev pub failure_word : Failure → List ℕ
failure_word Form = codes "form"
failure_word (Rule rule) = rule_word rule
