use Rattle.std.proofs.Common.{◌+◌, ◌/◌, List, ℕ, length, drop, ap, sym, subst, ◌∙◌, arith}
use Rattle.std.proofs.lemmas.List.{length-set, take_at}
use Rattle.label_search.specs.Groups.{IsMarkedToo}
use Rattle.label_search.proofs.GroupLaws.{marked_write}
use Rattle.label_search.proofs.Offers.{labels_written}
use Rattle.label_search.proofs.labels.Labels.write.Goals as goal

pub invariant_of-self : goal.invariant_of-self
invariant_of-self c =
    let s = c.args.self.now in
    let long = length-set s.known.items c.args.cell c.of.result in
    let groups_are = take_at c.mark.new.groups (drop (length c.mark.new.groups) s.groups.items) s.groups.len (c.mark.auto.groups ∙ c.deref_mut.ensures.len) in
    let as_many = c.mark.ensures.as_many ∙ ap length c.deref_mut.ensures.value in
    let too = subst (λ (old : List ℕ). IsMarkedToo old c.mark.new.groups c.args.cell) c.deref_mut.ensures.value c.mark.ensures in
    record {
      counted = ap length groups_are ∙ as_many ∙ s.counted ∙ ap (λ (n : ℕ). n / 64 + 1) (sym long);
      marked = rw (c.of.ensures, groups_are) (marked_write s.known.items s.groups.items c.mark.new.groups c.args.cell c.args.label c.requires.known s.marked too);
      untouched = λ is. absurd cc;
      keyed = omega (arith, s.keyed, long);
      queued = rw c.of.ensures (labels_written s.known.items s.queue c.args.cell c.args.label c.requires.known s.queued);
      few = omega (arith, s.few, long);
    }
