use Rattle.std.proofs.Common.{◌+◌, ◌≤◌, length, subst}
use Rattle.window_store.proofs.Spans.{windows-few}
use Rattle.window_store.specs.Conflicting.{spans_in_conflict}
use Rattle.window_store.proofs.Standing.{windows-in_conflict, length-in_conflict}
use Rattle.window_store.proofs.laws.lists_are_short.Goals as goal

pub returns : goal.returns
returns c = λ sets horizon holds segment ws windows.
    subst (λ n. length ws ≤ 1 + n) (length-in_conflict sets segment holds)
    (windows-few horizon (spans_in_conflict sets segment holds) ws (windows-in_conflict sets horizon holds segment ws windows))
