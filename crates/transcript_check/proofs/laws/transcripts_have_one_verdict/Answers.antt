use Rattle.transcript_check.proofs.OneVerdict.{right-not-wrong, wrong-one}
use Rattle.transcript_check.proofs.laws.transcripts_have_one_verdict.Goals as goal

pub returns-clause-right : goal.returns-clause-right
returns-clause-right c = λ airport commands text blocks number why well. right-not-wrong airport well commands text blocks number why

pub returns-clause-wrong : goal.returns-clause-wrong
returns-clause-wrong c = λ airport commands text number other why how well. wrong-one airport well commands text number other why how
