use Rattle.std.proofs.Common.{◌≡◌, ◌+◌, ◌-◌, ◌<◌, ◌≤◌, max, ◌++◌, length}
use Rattle.std.specs.Prelude.{All}
use Rattle.interval_list.specs.Intervals.{owned, drawn}
use Rattle.interval_list.proofs.list.IntervalList.reserve.Given as goal

abbrev pub invariant-loop-self : goal.invariant-loop-self
invariant-loop-self l =
    (l.self.windows ≡ l.initial.self.windows)
    × (l.self.spare ≡ drawn l.initial.ids.next (l.ids.next - l.initial.ids.next) ++ l.initial.self.spare)
    × (l.ids.next + length l.initial.self.spare ≡ l.initial.ids.next + length l.self.spare)
    × (l.initial.ids.next ≤ l.ids.next)
    × (length l.self.spare ≤ max l.n (length l.initial.self.spare))
    × All (λ id. id < l.ids.next) (owned l.self)

abbrev pub decreases-loop-self : goal.decreases-loop-self
decreases-loop-self l = l.n - length l.self.spare
