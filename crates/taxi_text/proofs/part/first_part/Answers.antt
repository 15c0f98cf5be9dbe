use Rattle.std.proofs.Common.{◌==◌}
use Rattle.taxi_text.proofs.Parts.{split-none, part-found}
use Rattle.taxi_text.proofs.part.first_part.Goals as goal

pub returns-in-Some : goal.returns-in-Some
returns-in-Some c = part-found c.args.byte c.args.bytes.now c.in-Some.end c.in-Some.ensures.place

pub returns-in-None : goal.returns-in-None
returns-in-None c = split-none (λ b. b == c.args.byte) c.args.bytes.now c.in-None.ensures.place
