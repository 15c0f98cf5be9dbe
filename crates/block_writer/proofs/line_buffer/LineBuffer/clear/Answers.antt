use Rattle.block_writer.proofs.LineLaws.{drop-whole}
use Rattle.block_writer.proofs.line_buffer.LineBuffer.clear.Goals as goal

pub returns : goal.returns
returns c = drop-whole c.self.inside.bytes 1536 c.self.told
