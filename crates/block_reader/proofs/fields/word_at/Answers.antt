use Rattle.block_reader.proofs.Pieces.{word-placed, word-absent}
use Rattle.block_reader.proofs.fields.word_at.Goals as goal

pub returns-in-Some : goal.returns-in-Some
returns-in-Some c = word-placed c.args.last c.args.bytes.now c.in-Some.end c.in-Some.ensures.place

pub returns-in-None : goal.returns-in-None
returns-in-None c = word-absent c.args.last c.args.bytes.now c.in-None.ensures.place
