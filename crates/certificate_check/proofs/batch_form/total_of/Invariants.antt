use Rattle.std.proofs.Common.{◌≡◌, ◌*◌, ◌^◌, ◌≤ℤ◌, ◌-ℤ◌, ◌+ℤ◌, pos, drop}
use Rattle.replies.specs.Batches.{total_of}
use Rattle.certificate_check.proofs.batch_form.total_of.Given as goal

abbrev pub invariant-loop-name : goal.invariant-loop-name
invariant-loop-name l = record {
  sum : l.total +ℤ total_of l.wishes (drop l.name-index l.entries) ≡ total_of l.wishes l.entries;
  least : (pos 0 -ℤ pos (2 ^ 32 * l.name-index)) ≤ℤ l.total;
  most : l.total ≤ℤ pos (2 ^ 32 * l.name-index);
}
