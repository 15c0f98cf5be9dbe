use Rattle.window_store.proofs.Spans.{windows-few}
use Rattle.window_store.proofs.laws.windows_are_few.Goals as goal

pub returns : goal.returns
returns c = windows-few
