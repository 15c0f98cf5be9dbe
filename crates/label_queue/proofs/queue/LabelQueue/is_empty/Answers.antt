use Rattle.std.proofs.Common.{◌≡◌, ◌==◌, ℕ, length, ap, ◌∙◌, arith}
use Rattle.label_queue.proofs.Changes.{IsEmpty-test, opened-empty, closed-entries, opened-entries, opened-some}
use Rattle.label_queue.proofs.queue.LabelQueue.is_empty.Goals as goal

pub returns-in-Taken : goal.returns-in-Taken
returns-in-Taken c =
    let heap = c.self.inside.heap in
    let limit = c.self.inside.limit in
    let first = c.self.inside.first in
    let long : c.len.result ≡ length heap.items = omega (arith, heap.ok.0, c.len.ensures) in
    rw (← c.self.view_is, opened-entries first heap.items c.in-Taken.is)
    (opened-empty limit heap.items (c.len.result == 1) c.self.invariant.1 (opened-some first heap.items c.in-Taken.is c.self.invariant.0) (ap (λ (n : ℕ). n == 1) long))

pub returns-in_default : goal.returns-in_default
returns-in_default c =
    let heap = c.self.inside.heap in
    let limit = c.self.inside.limit in
    let first = c.self.inside.first in
    let long : heap.len ≡ length heap.items = omega (arith, heap.ok.0) in
    rw (← c.self.view_is, closed-entries first heap.items c.in_default.not-Taken)
    (IsEmpty-test limit heap.items c.is_empty.result c.self.invariant.1 (c.is_empty.ensures ∙ ap (λ (n : ℕ). n == 0) long))
