use Rattle.std.proofs.Common.{◌≡◌, ◌<◌, ◌^◌, ℕ, List, Option, Some, None, IfSome, sym}
use Rattle.taxi_text.specs.Fields.{number_of}
use Rattle.taxi_text.proofs.Numbers.{number_of-short}
use Rattle.program_words.proofs.words.number_of.Goals as goal

short : (o : Option ℕ) (word : List ℕ) → o ≡ number_of word → IfSome o (λ number. number < 10 ^ 7)
short (Some number) word e = number_of-short word number (sym e)
short None word e = tt

pub returns-clause-short : goal.returns-clause-short
returns-clause-short c = short c.read_number.result c.as_bytes.result.now c.read_number.ensures
