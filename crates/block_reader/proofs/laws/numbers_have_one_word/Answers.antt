use Rattle.block_reader.proofs.Words.{number-word, count-word}
use Rattle.block_reader.proofs.laws.numbers_have_one_word.Goals as goal

pub returns-clause-number : goal.returns-clause-number
returns-clause-number c = λ word n e. number-word.only word n e

pub returns-clause-count : goal.returns-clause-count
returns-clause-count c = λ word n e. count-word.only word n e
