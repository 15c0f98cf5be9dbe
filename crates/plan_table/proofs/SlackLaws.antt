-- How much later a step could be left, and a work party end: up to when its segment is free among the others.
use Rattle.std.proofs.Common.{◌≡◌, ◌↔◌, ◌⊎◌, inl, inr, ℕ, ◌+◌, ◌-◌, ◌<◌, ◌≤◌, ◌&&◌, eqb, Bool, length, Option, Some, None, refl, arith}
use Rattle.std.specs.Prelude.{IsTrue, IsSomeAnd, Contains, nat_lt}
use Rattle.std.proofs.lemmas.Bool.{cases_lt, cases_Bool, both_ways, and_parts, and_from, lt-ltb, eqb-true, eqb-false}
use Rattle.std.proofs.lemmas.List.Elements.{All-contains}
use Rattle.taxi_base.specs.declared.numbers.Segment.{Segment}
use Rattle.taxi_base.specs.declared.rows.Step.{Step}
use Rattle.taxi_base.specs.declared.answers.Flight.{Flight}
use Rattle.taxi_base.specs.declared.answers.Party.{Party}
use Rattle.taxi_base.specs.Airport.{Airport, IsWellFormed, seconds, segment_of, clearance_of}
use Rattle.taxi_base.specs.Windows.{is_free}
use Rattle.taxi_base.specs.Walks.{Conditions, IsFeasibleStep, hold_under}
use Rattle.taxi_base.specs.State.{State, without, holds_in, party_hold, conditions_of, IsFeasibleHold, IsFeasibleState}
use Rattle.taxi_base.proofs.AirportLaws.{seconds-range, arc_exists-segment}
use Rattle.taxi_base.proofs.WalkLaws.{IsFeasibleStep-takes}
use Rattle.commitments.specs.Others.{IsFreeUntil}
use Rattle.plan_table.specs.Slack.{left_later, IsStepSlack, IsPartySlack, latest_leave}

-- ---- of a step

longer : (o : Option ℕ) (enter leave d : ℕ) → IsSomeAnd o (λ n. enter + n ≤ leave) → IsSomeAnd o (λ n. enter + n ≤ leave + d)
longer None enter leave d lasts = absurd lasts
longer (Some n) enter leave d lasts = omega arith

module _ (airport : Airport) (rules : IsWellFormed airport) (state : State) (flight : Flight) (step : Step) (made : IsFeasibleStep (conditions_of airport state flight) step) where
  abbrev c : Conditions
  c = conditions_of airport state flight

  abbrev segment : Segment
  segment = segment_of step.arc

  abbrev free : ℕ → Bool
  free = is_free airport.conflicts airport.horizon (holds_in airport (without flight.name state)) segment

  abbrev clearance : ℕ
  clearance = clearance_of airport flight.class

  pub on : segment.0 < length airport.segments
  on = arc_exists-segment airport step.arc made.on_arc

  takes : step.enter < step.leave
  takes = IsFeasibleStep-takes c (λ s n least. (seconds-range airport flight.class s n rules least).0) step made

  module _ (end : ℕ) (until : IsFreeUntil free (hold_under c step).span.until airport.horizon end) where
    -- where it could be left latest: its clearance is over by then, or by the horizon
    latest-is : ((end ≡ airport.horizon) × (latest_leave airport.horizon clearance end ≡ airport.horizon))
        ⊎ ((end < airport.horizon) × (step.leave + clearance ≤ end) × (latest_leave airport.horizon clearance end ≡ end - clearance))
    latest-is = elim (cases_Bool (eqb end airport.horizon)) [
      | inl e ↦ inl (eqb-true end airport.horizon e, rw e refl)
      | inr e ↦
          let differs = eqb-false end airport.horizon e in
          let before : end < airport.horizon = omega (arith, differs, until.not_after) in
          inr (before, omega (arith, before, until.not_before, made.in_time), rw e refl)
    ]

    pub leaves-by : step.leave ≤ latest_leave airport.horizon clearance end
    leaves-by = let in_time = made.in_time in elim latest-is [ inl last ↦ omega (arith, last.1) | inr before ↦ omega (arith, before.1, before.2) ]

    could : (d : ℕ) → IsFeasibleStep c (left_later d step) ↔ (step.leave + d ≤ latest_leave airport.horizon clearance end)
    could d = (to, from)
      where
        to : IsFeasibleStep c (left_later d step) → step.leave + d ≤ latest_leave airport.horizon clearance end
        to later =
            let in_time = later.in_time in
            elim latest-is [
              | inl last ↦ omega (arith, last.1)
              | inr before ↦ elim (cases_lt end (step.leave + d + clearance)) [
                | inl over ↦ absurd (
                    let begun = takes in
                    let held : IsTrue (nat_lt segment.0 (length airport.segments) && free end) = later.free end (omega (arith, begun, before.1)) (omega (arith, over, before.0)) in
                    both_ways (free end) (until.taken before.0) (and_parts (nat_lt segment.0 (length airport.segments)) (free end) held).1)
                | inr within ↦ omega (arith, within, before.2)
              ]
            ]

        from : step.leave + d ≤ latest_leave airport.horizon clearance end → IsFeasibleStep c (left_later d step)
        from by = record {
          on_arc = made.on_arc;
          lasts = longer (seconds airport flight.class segment) step.enter step.leave d made.lasts;
          in_time = elim latest-is [ inl last ↦ omega (arith, by, last.1) | inr before ↦ omega (arith, by, before.0, before.2) ];
          free = λ t low high. elim (cases_lt t (hold_under c step).span.until) [
            | inl held ↦ made.free t low held
            | inr after ↦
                let begun = takes in
                let inside : t < end = elim latest-is [ inl last ↦ omega (arith, high, last.0) | inr before ↦ omega (arith, high, by, begun, before.1, before.2) ] in
                and_from (nat_lt segment.0 (length airport.segments)) (free t) (lt-ltb segment.0 (length airport.segments) on) (until.free_before t after inside)
          ];
        }

    pub step-slack : IsStepSlack airport state flight step (latest_leave airport.horizon clearance end - step.leave)
    step-slack d =
        let most = leaves-by in
        let either = could d in
        (λ later. omega (arith, most, either.0 later), λ few. either.1 (omega (arith, most, few)))

-- ---- of a work party

module _ (airport : Airport) (state : State) (feasible : IsFeasibleState airport state) (p : Party) (in_force : Contains state.parties p) where
  abbrev free_others : ℕ → Bool
  free_others = is_free airport.conflicts airport.horizon (holds_in airport (without p.name state)) p.segment

  pub own : IsFeasibleHold airport (without p.name state) (party_hold p)
  own = All-contains (λ (r : Party). IsFeasibleHold airport (without r.name state) (party_hold r)) state.parties p feasible.shut in_force

  pub party-slack : (end : ℕ) → IsFreeUntil free_others p.until airport.horizon end → IsPartySlack airport state p (end - p.until)
  party-slack end until d = (
    λ later.
        let begun = own.some in
        elim (cases_lt end (p.until + d)) [
          | inl over ↦ absurd (
              let in_time = later.in_time in
              let held : IsTrue (nat_lt p.segment.0 (length airport.segments) && free_others end) = later.free end (omega (arith, begun, until.not_before)) over in
              both_ways (free_others end) (until.taken (omega (arith, over, in_time))) (and_parts (nat_lt p.segment.0 (length airport.segments)) (free_others end) held).1)
          | inr within ↦ omega (arith, within)
        ],
    λ few. record {
      on_segment = own.on_segment;
      some = let begun = own.some in omega (arith, begun);
      in_time = omega (arith, few, until.not_before, until.not_after);
      free = λ t low high. elim (cases_lt t p.until) [
        | inl before ↦ own.free t low before
        | inr after ↦
            and_from (nat_lt p.segment.0 (length airport.segments)) (free_others t) (lt-ltb p.segment.0 (length airport.segments) own.on_segment)
            (until.free_before t after (omega (arith, high, few, until.not_before)))
      ];
    },
  )
