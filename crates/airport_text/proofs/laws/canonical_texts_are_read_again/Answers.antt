use Rattle.airport_text.proofs.Again.{text-again}
use Rattle.airport_text.proofs.laws.canonical_texts_are_read_again.Goals as goal

pub returns : goal.returns
returns c = text-again
