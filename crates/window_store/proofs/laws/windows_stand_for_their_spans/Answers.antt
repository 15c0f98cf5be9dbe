use Rattle.window_store.proofs.Spans.{fewer_windows, same_spans}
use Rattle.window_store.proofs.laws.windows_stand_for_their_spans.Goals as goal

pub returns-clause-fewer : goal.returns-clause-fewer
returns-clause-fewer c = fewer_windows

pub returns-clause-same : goal.returns-clause-same
returns-clause-same c = same_spans
