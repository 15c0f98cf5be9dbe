-- A state has one plan: of each step and each work party one slack, so one row, and one text.
use Rattle.std.proofs.Common.{◌≡◌, ◌∙◌, ℕ, ◌+◌, List, [], ◌∷◌, ◌++◌, map, Option, refl, sym, ap, ap₂, arith}
use Rattle.taxi_base.specs.declared.rows.Step.{Step}
use Rattle.taxi_base.specs.declared.answers.Flight.{Flight}
use Rattle.taxi_base.specs.declared.answers.Party.{Party}
use Rattle.taxi_base.specs.Airport.{Airport}
use Rattle.taxi_base.specs.Walks.{IsFeasibleStep}
use Rattle.taxi_base.specs.State.{State, without, party_hold, conditions_of, IsFeasibleHold}
use Rattle.airport_text.specs.Canonical.{text_of_records}
use Rattle.plan_table.specs.declared.row.PlanRow.{PlanRow}
use Rattle.plan_table.specs.Slack.{left_later, ended_later, IsSlack}
use Rattle.plan_table.specs.Rows.{step_row, party_row, row_fields, header_fields}
use Rattle.plan_table.specs.Plan.{IsStepRow, IsPartyRow, AreStepRows, AreFlightRows, ArePartyRows, IsPlan}

slack-one : (Could : ℕ → Type 0) (slack other : ℕ) → IsSlack Could slack → IsSlack Could other → slack ≡ other
slack-one Could slack other is too =
    let below = (too slack).0 ((is slack).1 (omega arith)) in
    let above = (is other).0 ((too other).1 (omega arith)) in
    omega (arith, below, above)

module _ (airport : Airport) (state : State) where
  -- ---- rows

  step-one : (flight : Flight) (number : ℕ) (step : Step) (row other : PlanRow) → IsStepRow airport state flight number step row → IsStepRow airport state flight number step other → row ≡ other
  step-one flight number step row other told again =
      told.2
      ∙ ap (step_row airport flight number step) (slack-one (λ d. IsFeasibleStep (conditions_of airport state flight) (left_later d step)) told.0 again.0 told.1 again.1)
      ∙ sym again.2

  party-one : (party : Party) (row other : PlanRow) → IsPartyRow airport state party row → IsPartyRow airport state party other → row ≡ other
  party-one party row other told again =
      told.2
      ∙ ap (party_row airport party)
      (slack-one (λ d. IsFeasibleHold airport (without party.name state) (party_hold (ended_later d party))) told.0 again.0 told.1 again.1)
      ∙ sym again.2

  -- ---- all of them

  steps-one : (flight : Flight) (number : ℕ) (steps : List Step) (rows others : List PlanRow) → AreStepRows airport state flight number steps rows → AreStepRows airport state flight number steps others
      → rows ≡ others
  steps-one flight number [] [] [] told again = refl
  steps-one flight number [] [] (other ∷ others) told again = absurd again
  steps-one flight number [] (row ∷ rows) others told again = absurd told
  steps-one flight number (step ∷ steps) [] others told again = absurd told
  steps-one flight number (step ∷ steps) (row ∷ rows) [] told again = absurd again
  steps-one flight number (step ∷ steps) (row ∷ rows) (other ∷ others) told again =
      ap₂ (λ (r : PlanRow) (rs : List PlanRow). r ∷ rs) (step-one flight number step row other told.0 again.0) (steps-one flight (number + 1) steps rows others told.1 again.1)

  flights-one : (flights : List Flight) (rows others : List PlanRow) → AreFlightRows airport state flights rows → AreFlightRows airport state flights others → rows ≡ others
  flights-one [] rows others told again = told ∙ sym again
  flights-one (flight ∷ flights) rows others told again =
      told.2
      ∙ ap₂ (λ (own : List PlanRow) (rest : List PlanRow). own ++ rest) (steps-one flight 1 flight.steps told.0 again.0 told.3 again.3) (flights-one flights told.1 again.1 told.4 again.4)
      ∙ sym again.2

  parties-one : (parties : List Party) (rows others : List PlanRow) → ArePartyRows airport state parties rows → ArePartyRows airport state parties others → rows ≡ others
  parties-one [] [] [] told again = refl
  parties-one [] [] (other ∷ others) told again = absurd again
  parties-one [] (row ∷ rows) others told again = absurd told
  parties-one (party ∷ parties) [] others told again = absurd told
  parties-one (party ∷ parties) (row ∷ rows) [] told again = absurd again
  parties-one (party ∷ parties) (row ∷ rows) (other ∷ others) told again =
      ap₂ (λ (r : PlanRow) (rs : List PlanRow). r ∷ rs) (party-one party row other told.0 again.0) (parties-one parties rows others told.1 again.1)

-- ---- the text

pub plan-one : (airport : Airport) (state : State) (start : Option (List ℕ)) (text other : List ℕ) → IsPlan airport state start text → IsPlan airport state start other → text ≡ other
plan-one airport state start text other plan again =
    plan.whole
    ∙ ap₂ (λ (flights : List PlanRow) (parties : List PlanRow). text_of_records (header_fields ∷ map (row_fields start) (flights ++ parties)))
    (flights-one airport state state.flights plan.flights again.flights plan.flight_rows again.flight_rows)
    (parties-one airport state state.parties plan.parties again.parties plan.party_rows again.party_rows)
    ∙ sym again.whole
