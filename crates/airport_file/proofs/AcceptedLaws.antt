-- The airport that a file gives keeps the rules of an airport.
use Rattle.std.proofs.Common.{◌≡◌, ℕ, ◌+◌, List, [], ◌∷◌, Option, Some, None, Result, Ok, Err, refl, subst}
use Rattle.taxi_base.specs.Airport.{Airport, IsWellFormed}
use Rattle.airport_rules.specs.declared.faults.AirportFault.{AirportFault}
use Rattle.airport_rules.specs.declared.version.Version.{Version}
use Rattle.airport_rules.specs.Plan.{Plan, empty_plan, airport_of_plan}
use Rattle.airport_rules.specs.Rules.{judge}
use Rattle.airport_rules.specs.Sound.{IsSound}
use Rattle.airport_rules.proofs.SoundLaws.{IsSound-empty, IsSound-judge}
use Rattle.airport_rules.proofs.WellFormed.{IsWellFormed-plan}
use Rattle.airport_file.specs.Reading.{records_of, version_of, finished, judged_with, judged_after, judged_in, airport_of_records, airport_of}

ok-same : {X Y : Type 0} (x y : X) → ◌≡◌ {A = Result X Y} (Ok x) (Ok y) → x ≡ y
ok-same x y e = cc

finished-well : (last : ℕ) (plan : Plan) (airport : Airport) → IsSound plan → finished last plan plan.horizon ≡ Ok airport → IsWellFormed airport
finished-well last plan airport sound e = go plan.horizon refl e where
  go : (o : Option ℕ) → plan.horizon ≡ o → finished last plan o ≡ Ok airport → IsWellFormed airport
  go None is e = absurd (cc e)
  go (Some horizon) is e = subst IsWellFormed (ok-same (airport_of_plan horizon plan) airport e) (IsWellFormed-plan horizon plan is sound)

judged-well : (version : Version) (last : ℕ) (plan : Plan) (rows : List (List (List ℕ))) (airport : Airport) → IsSound plan
    → judged_after version last plan rows ≡ Ok airport → IsWellFormed airport
judged-well version last plan [] airport sound e = finished-well last plan airport sound e
judged-well version last plan (row ∷ rows) airport sound e =
    go (judge version plan row) refl e (λ next sound later. judged-well version (last + 1) next rows airport sound later)
  where
    go : (r : Result Plan AirportFault) → judge version plan row ≡ r
        → judged_with (last + 1) r (λ next. judged_after version (last + 1) next rows) ≡ Ok airport
        → ((next : Plan) → IsSound next → judged_after version (last + 1) next rows ≡ Ok airport → IsWellFormed airport) → IsWellFormed airport
    go (Ok next) is e rest = rest next (IsSound-judge version plan next row sound is) e
    go (Err why) is e rest = absurd (cc e)

records-well : (rows : List (List (List ℕ))) (airport : Airport) → airport_of_records rows ≡ Ok airport → IsWellFormed airport
records-well [] airport e = absurd (cc e)
records-well (first ∷ rows) airport e = go (version_of first) e where
  go : (o : Option Version) → judged_in o rows ≡ Ok airport → IsWellFormed airport
  go None e = absurd (cc e)
  go (Some version) e = judged-well version 1 empty_plan rows airport IsSound-empty e

pub accepted-well : (bytes : List ℕ) (airport : Airport) → airport_of bytes ≡ Ok airport → IsWellFormed airport
unfolding airport_of
accepted-well bytes airport e = records-well (records_of bytes) airport e
