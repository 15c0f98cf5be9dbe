use Rattle.std.proofs.Common.{◌∷◌, codes, decimal}
use Rattle.replies.specs.Texts.{cause_words}
use Rattle.block_writer.proofs.LineLaws.{line_text-and_words}
use Rattle.block_writer.proofs.short.refused_step.Goals as goal

pub returns : goal.returns
returns c =
    rw (c.end_line.ensures, c.push_cause.ensures.text, c.push_decimal.ensures.text, c.push_word.ensures, c.begin_line-text.ensures)
    (line_text-and_words (codes "refused") (codes "step" ∷ decimal c.args.fault.now.number ∷ cause_words c.args.fault.now.cause))
