use Rattle.airport_lint.proofs.OneAdvice.{advice-one}
use Rattle.airport_lint.proofs.laws.advice_is_one.Goals as goal

pub returns : goal.returns
returns c = advice-one
