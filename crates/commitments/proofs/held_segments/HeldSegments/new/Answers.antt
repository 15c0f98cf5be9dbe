use Rattle.std.proofs.Common.{◌∙◌, sym, arith}
use Rattle.commitments.proofs.held_segments.HeldSegments.new.Goals as goal

pub invariant_of-result : goal.invariant_of-result
invariant_of-result c = record {
  as_many = c.in_ok-index.ensures.segments ∙ sym c.in_ok-store.ensures.segments;
  each = λ s low. omega (arith, c.in_ok-store.ensures.nodes s low);
}
