use Rattle.commitments.proofs.Fitting.{same-windows, same-numbers}
use Rattle.commitments.proofs.laws.windows_follow_from_holders.Goals as goal

pub returns-clause-windows : goal.returns-clause-windows
returns-clause-windows c = same-windows

pub returns-clause-numbers : goal.returns-clause-numbers
returns-clause-numbers c = same-numbers
