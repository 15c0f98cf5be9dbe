use Rattle.std.proofs.Common.{◌∙◌, sym, append-nil}
use Rattle.replies.specs.Texts.{block_text}
use Rattle.block_writer.proofs.short.refused_text.Goals as goal

pub returns : goal.returns
unfolding block_text
returns c = λ airport. c.refused_line.ensures ∙ sym (append-nil _)
