use Rattle.block_reader.proofs.BlockLaws.{block-takes}
use Rattle.block_reader.proofs.ReadLaws.{printed-again, texts-differ, one-begins}
use Rattle.block_reader.proofs.laws.blocks_are_read_again.Goals as goal

pub returns-clause-again : goal.returns-clause-again
returns-clause-again c = λ airport block rest well good. printed-again airport well block rest good

pub returns-clause-only : goal.returns-clause-only
returns-clause-only c = λ airport bytes block rest well e. block-takes airport well bytes block rest e

pub returns-clause-one : goal.returns-clause-one
returns-clause-one c = λ airport bytes a b well p q. one-begins airport well bytes a b p q

pub returns-clause-prefix_free : goal.returns-clause-prefix_free
returns-clause-prefix_free c = λ airport a b x y well p q e. texts-differ airport well a b x y p q e
