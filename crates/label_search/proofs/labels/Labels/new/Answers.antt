use Rattle.std.proofs.Common.{◌≡◌, ◌+◌, ◌/◌, ℕ, List, Option, None, replicate, sym, ap, ◌∙◌, subst, rules}
use Rattle.label_search.specs.declared.labels.Label.{Label}
use Rattle.label_search.specs.Groups.{AreMarked, HaveNothing}
use Rattle.label_queue.proofs.KeyLaws.{IsEmpty-replicate}
use Rattle.label_search.proofs.GroupLaws.{marked_none, nothing_yet}
use Rattle.label_search.proofs.labels.Labels.new.Goals as goal

pub invariant_of-result-clause-marked : goal.invariant_of-result-clause-marked
invariant_of-result-clause-marked c =
    let known : c.in_ok-from_elem.field-0.items ≡ replicate c.args.count None = c.in_ok-from_elem.ensures.items_if_clones_equal (λ y same. search (rules)) ∙ ap (replicate c.args.count) c.none.ensures in
    let groups : c.in_ok-from_elem-2.field-0.items ≡ replicate (c.args.count / 64 + 1) 0 = c.in_ok-from_elem-2.ensures.items_if_clones_equal (λ y same. search (rules)) in
    subst (λ (ks : List (Option Label)). AreMarked ks c.in_ok-from_elem-2.field-0.items) (sym known)
    (subst (λ (gs : List ℕ). AreMarked (replicate c.args.count None) gs) (sym groups) (marked_none c.args.count (c.args.count / 64 + 1)))

pub invariant_of-result-clause-untouched : goal.invariant_of-result-clause-untouched
invariant_of-result-clause-untouched c =
    let known : c.in_ok-from_elem.field-0.items ≡ replicate c.args.count None = c.in_ok-from_elem.ensures.items_if_clones_equal (λ y same. search (rules)) ∙ ap (replicate c.args.count) c.none.ensures in
    λ _. subst (λ (ks : List (Option Label)). HaveNothing ks) (sym known) (nothing_yet c.args.count)

pub invariant_of-result-clause-queued : goal.invariant_of-result-clause-queued
invariant_of-result-clause-queued c = λ cell _. rw c.in_ok-new.ensures (IsEmpty-replicate c.args.count cell)
