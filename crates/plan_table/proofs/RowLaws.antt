-- What a row tells.
use Rattle.std.proofs.Common.{◌≡◌, inl, inr, ℕ, ◌+◌, ◌<◌, min, List, [], ◌∷◌, length, Option, Some, refl, arith, codes, decimal}
use Rattle.std.specs.Prelude.{All, IsTrue, slice_get, option_map, unwrap_or}
use Rattle.std.proofs.lemmas.Bool.{cases_lt}
use Rattle.std.proofs.lemmas.List.{get_or_past, length-map}
use Rattle.std.proofs.lemmas.Option.{slice_get_cases}
use Rattle.taxi_base.specs.declared.numbers.Arc.{Arc}
use Rattle.taxi_base.specs.declared.numbers.Class.{Class}
use Rattle.taxi_base.specs.declared.numbers.Segment.{Segment}
use Rattle.taxi_base.specs.declared.rows.Step.{Step}
use Rattle.taxi_base.specs.declared.answers.Flight.{Flight}
use Rattle.taxi_base.specs.declared.answers.Party.{Party}
use Rattle.taxi_base.specs.Airport.{Airport, ClassRow, seconds, seconds_in, times_of, clearance_of, arc_exists, layout_of}
use Rattle.plan_table.specs.declared.row.PlanRow.{PlanRow}
use Rattle.plan_table.specs.Rows.{step_row, party_row, kind_word, direction_word, time_word, row_fields, header_fields}

-- a class that has seconds on a segment is one of the airport's
pub class-there : (airport : Airport) (class : Class) (s : Segment) (n : ℕ) → seconds airport class s ≡ Some n → class.0 < length airport.classes
unfolding seconds_in
class-there airport class s n is = elim (cases_lt class.0 (length airport.classes)) [
  | inl there ↦ there
  | inr past ↦
      let long = length-map airport.classes (λ (row : ClassRow). row.seconds) in
      absurd (cc (rw (get_or_past (times_of airport) class.0 [] (omega (arith, past, long))) at is))
]

-- an arc that one of some steps has exists, where each step's does
pub arc-at : (airport : Airport) (steps : List Step) (k : ℕ) (arc : Arc) → All (λ s. IsTrue (arc_exists (layout_of airport) s.arc)) steps
    → option_map (λ (s : Step). s.arc) (slice_get steps k) ≡ Some arc → IsTrue (arc_exists (layout_of airport) arc)
arc-at airport steps k arc each is = elim (slice_get_cases steps k).1 [
  | inl there ↦
      let same : there.0.arc ≡ arc = cc (rw there.2 at is) in
      let made : IsTrue (arc_exists (layout_of airport) there.0.arc) = rw there.3 at (each k there.0 there.1) in
      rw (← same) made
  | inr past ↦ absurd (cc (rw past.1 at is))
]

-- ---- the times of a row

pub step-times : (airport : Airport) (flight : Flight) (number : ℕ) (step : Step) (slack : ℕ)
    → ((step_row airport flight number step slack).enter ≡ step.enter) × ((step_row airport flight number step slack).leave ≡ step.leave)
    × ((step_row airport flight number step slack).until ≡ min airport.horizon (step.leave + clearance_of airport flight.class))
unfolding step_row
step-times airport flight number step slack = (refl, refl, refl)

pub party-times : (airport : Airport) (party : Party) (slack : ℕ)
    → ((party_row airport party slack).enter ≡ party.from) × ((party_row airport party slack).leave ≡ party.until) × ((party_row airport party slack).until ≡ party.until)
unfolding party_row
party-times airport party slack = (refl, refl, refl)

-- ---- the fields

pub header-is : (a b c d e f g h i j k l m n o p : List ℕ) → a ≡ codes "name" → b ≡ codes "kind" → c ≡ codes "class" → d ≡ codes "from" → e ≡ codes "to" → f ≡ codes "step" → g ≡ codes "segment"
    → h ≡ codes "direction" → i ≡ codes "tail" → j ≡ codes "head" → k ≡ codes "enter" → l ≡ codes "leave" → m ≡ codes "until" → n ≡ codes "least" → o ≡ codes "wait" → p ≡ codes "slack"
    → a ∷ b ∷ c ∷ d ∷ e ∷ f ∷ g ∷ h ∷ i ∷ j ∷ k ∷ l ∷ m ∷ n ∷ o ∷ p ∷ [] ≡ header_fields
unfolding header_fields
header-is a b c d e f g h i j k l m n o p qa qb qc qd qe qf qg qh qi qj qk ql qm qn qo qp = rw (qa, qb, qc, qd, qe, qf, qg, qh, qi, qj, qk, ql, qm, qn, qo, qp) refl

pub fields-are : (start : Option (List ℕ)) (row : PlanRow) (a b c d e f g h i j k l m n o p : List ℕ) → a ≡ row.name → b ≡ kind_word row.kind → c ≡ unwrap_or row.class [] → d ≡ row.from → e ≡ row.to
    → f ≡ decimal row.number → g ≡ row.segment → h ≡ direction_word row.forward → i ≡ row.tail → j ≡ row.head → k ≡ time_word start row.enter → l ≡ time_word start row.leave
    → m ≡ time_word start row.until → n ≡ decimal row.least → o ≡ decimal row.wait → p ≡ decimal row.slack
    → a ∷ b ∷ c ∷ d ∷ e ∷ f ∷ g ∷ h ∷ i ∷ j ∷ k ∷ l ∷ m ∷ n ∷ o ∷ p ∷ [] ≡ row_fields start row
unfolding row_fields
fields-are start row a b c d e f g h i j k l m n o p qa qb qc qd qe qf qg qh qi qj qk ql qm qn qo qp = rw (qa, qb, qc, qd, qe, qf, qg, qh, qi, qj, qk, ql, qm, qn, qo, qp) refl
