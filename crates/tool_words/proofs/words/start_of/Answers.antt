use Rattle.civil_times.specs.Later.{is_start}
use Rattle.tool_words.proofs.Starts.{read-gives}
use Rattle.tool_words.proofs.words.start_of.Goals as goal

pub returns : goal.returns
returns c = rw c.as_bytes.ensures.value at (read-gives c.read.result c.as_bytes.result.now (is_start c.as_bytes.result.now) c.read.ensures.some c.read.ensures.same)
