-- An airport beside itself without the rules that make no difference.
use Rattle.std.proofs.Common.{sym}
use Rattle.taxi_base.specs.Airport.{Airport, segment_of}
use Rattle.airport_lint.specs.Advice.{is_shared}
use Rattle.airport_lint.proofs.PassedLaws.{kept-forbidden}
use Rattle.airport_lint.proofs.SetLaws.{needed-conflict}
use Rattle.spare_rules.specs.Spared.{spared}
use Rattle.spare_rules.proofs.Pairs.{Pair}

abbrev pub pair : Airport → Pair
pair airport = record {
  base = airport;
  turns_one = airport.forbidden;
  turns_other = (spared airport).forbidden;
  sets_one = airport.conflicts;
  sets_other = (spared airport).conflicts;
  turns = λ x y shared. sym (kept-forbidden (λ turn. is_shared airport (segment_of turn.0) (segment_of turn.1)) x y airport.forbidden shared);
  sets = λ s t. sym (needed-conflict airport.conflicts s t);
}
