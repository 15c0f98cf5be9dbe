use Rattle.std.proofs.Common.{◌∙◌}
use Rattle.airport_lint.proofs.TextLaws.{four-pieces}
use Rattle.airport_lint.proofs.text.write_line.Goals as goal

pub returns : goal.returns
returns c =
    four-pieces c.args.airport.now c.args.advice.now c.args.out.now.items _ _ _ _ c.bytes.result.now c.bytes-2.result.now
    (c.bytes.ensures.same ∙ c.subject_of-subject.ensures) (c.bytes-2.ensures.same ∙ c.matter_of-matter.ensures)
    c.in_ok-push_bytes.ensures.ok c.in_ok-push_bytes-2.ensures.ok c.in_ok-push_bytes-3.ensures.ok c.in_ok-push_bytes-4.ensures.ok
