-- The block of a late flight that passes tells the best walk of each search, or that there is none. Between the turns the state is
-- feasible alone, and it is sound after the last.
use Rattle.std.proofs.Common.{◌≡◌, ◌∙◌, ℕ, List, [], ◌∷◌, map, IsFalse, Some, None, inl, inr, sym, ap, subst, arith, bytes_eq}
use Rattle.std.specs.Prelude.{All, AllPairs, Contains}
use Rattle.std.proofs.lemmas.List.Elements.{All-head, All-tail, All-weaker, All-contains_itself}
use Rattle.taxi_base.specs.declared.answers.Flight.{Flight}
use Rattle.taxi_base.specs.Airport.{Airport, IsWellFormed}
use Rattle.taxi_base.specs.Walks.{Meets}
use Rattle.taxi_base.specs.State.{State, flight_named, conditions_of, IsSound}
use Rattle.taxi_base.specs.Late.{Delay, IsDelay, base_state}
use Rattle.taxi_base.proofs.ListLaws.{AllPairs-first, AllPairs-rest}
use Rattle.taxi_base.proofs.OtherHolds.{named-there}
use Rattle.taxi_base.proofs.TurnLaws.{IsAmid}
use Rattle.taxi_base.proofs.LateLaws.{base-amid, names-once}
use Rattle.taxi_text.specs.declared.command.Command.{Command}
use Rattle.taxi_text.specs.declared.command.Command.TheVariants as command
use Rattle.taxi_text.specs.Commands.{command_of}
use Rattle.replies.specs.declared.block.Block.{Block}
use Rattle.replies.specs.declared.block.Block.TheVariants.{Late}
use Rattle.replies.specs.declared.entries.Entry.{Entry}
use Rattle.replies.specs.declared.entries.Entry.TheVariants as entry
use Rattle.replies.specs.declared.rule.Rule.{Rule}
use Rattle.replies.specs.declared.rule.Rule.TheVariants as rule
use Rattle.replies.specs.Refusals.{is_filed, first_refusal}
use Rattle.replies.specs.Repairs.{delay_of, names_in_turn, sought_late, IsDroppedAsDue, TellsRepair}
use Rattle.replies.specs.Sought.{Sought}
use Rattle.replies.specs.Turns.{Turn, turns_of, after_turns}
use Rattle.replies.specs.Passes.{KeepsTurn, IsPassed, IsBestTold, TellsBest}
use Rattle.replies.proofs.RightSearches.{route-best, no_route-best}
use Rattle.replies.proofs.TurnLaws.{keeps-turns}
use Rattle.replies.proofs.EntryTurns.{turns_from}
use Rattle.replies.proofs.EntryPasses.{AreBest, none-best, dropped-best, cons-best, first-keeps, others-keep, cons-after}
use Rattle.replies.proofs.LateTold.{delay-is}
use Rattle.replies.proofs.LateTurns.{late-sought, late-begins, late-turns, asked-flight, dropped-amid, turn-searched, walk-amid, none-amid}

-- once none waits any more the state is sound
amid-sound : (airport : Airport) (state : State) (delay : Delay) (now : State) → IsAmid airport state delay now [] → IsSound airport now
amid-sound airport state delay now amid = record {
  feasible = amid.feasible;
  requests = All-weaker (Contains now.flights) (λ y. Meets (conditions_of airport now y) y.request y.steps)
      (λ y there. elim (amid.met y there) [ inl none ↦ absurd (omega (arith, none.1)) | inr met ↦ met ]) now.flights (All-contains_itself now.flights);
}

module _ (airport : Airport) (well : IsWellFormed airport) (state : State) (sound : IsSound airport state) (name : List ℕ) (time until : ℕ) (delay : Delay)
    (known : delay_of state name time until ≡ Some delay) where
  abbrev late : Command
  late = command.Late name time until

  abbrev turns : State → List (List ℕ × Entry) → List Turn
  turns = turns_from airport state late

  abbrev names : List (List ℕ × Entry) → List (List ℕ)
  names entries = map (λ told. told.0) entries

  abbrev Waits : State → List (List ℕ) → Type 0
  Waits now names = IsAmid airport state delay now names × AllPairs (λ a b. IsFalse (bytes_eq b a)) names

  -- what is told in turn is best, and none waits after it
  abbrev AreTold : State → List (List ℕ × Entry) → Type 0
  AreTold now entries = AreBest airport state late now entries × IsAmid airport state delay (after_turns now (turns now entries)) []

  -- what the entries behind one tell is, whatever state they find
  abbrev AreLater : List (List ℕ × Entry) → Type 0
  AreLater entries = (next : State) → Waits next (names entries) → ((r : Rule) → All (λ turn. KeepsTurn turn r) (turns next entries)) → AreTold next entries

  entries-best : (now : State) (entries : List (List ℕ × Entry)) → Waits now (names entries) → All (IsDroppedAsDue state) entries → ((r : Rule) → All (λ turn. KeepsTurn turn r) (turns now entries))
      → AreTold now entries
  entries-best now [] waits due keeps = (none-best airport state late now, waits.0)
  entries-best now ((who, entry.Dropped) ∷ entries) waits due keeps =
      let others = AllPairs-rest (λ a b. IsFalse (bytes_eq b a)) who (names entries) waits.1 in
      let amid = dropped-amid airport well state delay sound now who (names entries) waits.0 (AllPairs-first (λ a b. IsFalse (bytes_eq b a)) who (names entries) waits.1)
      (All-head (IsDroppedAsDue state) (who, entry.Dropped) entries due) in
      let rest = entries-best now entries (amid, others) (All-tail (IsDroppedAsDue state) (who, entry.Dropped) entries due) keeps in
      (dropped-best airport state late now who entries rest.0, rest.1)
  entries-best now ((who, entry.Route second steps labels) ∷ entries) waits due keeps =
      go (λ next w rules. entries-best next entries w (All-tail (IsDroppedAsDue state) (who, entry.Route second steps labels) entries due) rules)
      (asked-flight state who (All-head (IsDroppedAsDue state) (who, entry.Route second steps labels) entries due))
    where
      once : All (λ n. IsFalse (bytes_eq n who)) (names entries)
      once = AllPairs-first (λ a b. IsFalse (bytes_eq b a)) who (names entries) waits.1

      go : AreLater entries → (x : Flight) × (flight_named who state.flights ≡ Some x) × IsFalse (is_filed x.request) → AreTold now ((who, entry.Route second steps labels) ∷ entries)
      go later asked =
          let x : Flight = asked.0 in
          let found = named-there (λ (f : Flight). f.name) who state.flights x asked.1 in
          let s : Sought = sought_late airport delay x now in
          let sought = late-sought airport state name time until delay known now who x asked.1 asked.2 in
          let rules = first-keeps airport state late now (who, entry.Route second steps labels) entries s tt sought keeps in
          let walk = rules rule.Walk in
          let amid = walk-amid airport well state delay sound now who (names entries) waits.0 once x found.0 found.1 steps walk.0 in
          let rest = later (s.with_steps steps) (amid, AllPairs-rest (λ a b. IsFalse (bytes_eq b a)) who (names entries) waits.1)
          (others-keep airport state late now (who, entry.Route second steps labels) entries s tt sought keeps) in (
            cons-best airport state late now (who, entry.Route second steps labels) entries s tt sought
                (route-best who second steps labels s (turn-searched airport well state delay sound now who (names entries) waits.0 once x found.0 found.1) rules) rest.0,
            subst (λ m. IsAmid airport state delay m []) (sym (cons-after airport state late now (who, entry.Route second steps labels) entries s tt sought)) rest.1,
          )
  entries-best now ((who, entry.NoRoute labels) ∷ entries) waits due keeps =
      go (λ next w rules. entries-best next entries w (All-tail (IsDroppedAsDue state) (who, entry.NoRoute labels) entries due) rules)
      (asked-flight state who (All-head (IsDroppedAsDue state) (who, entry.NoRoute labels) entries due))
    where
      once : All (λ n. IsFalse (bytes_eq n who)) (names entries)
      once = AllPairs-first (λ a b. IsFalse (bytes_eq b a)) who (names entries) waits.1

      go : AreLater entries → (x : Flight) × (flight_named who state.flights ≡ Some x) × IsFalse (is_filed x.request) → AreTold now ((who, entry.NoRoute labels) ∷ entries)
      go later asked =
          let x : Flight = asked.0 in
          let found = named-there (λ (f : Flight). f.name) who state.flights x asked.1 in
          let s : Sought = sought_late airport delay x now in
          let sought = late-sought airport state name time until delay known now who x asked.1 asked.2 in
          let rules = first-keeps airport state late now (who, entry.NoRoute labels) entries s tt sought keeps in
          let amid = none-amid airport well state delay sound now who (names entries) waits.0 once x found.0 found.1 in
          let rest = later s.with_none (amid, AllPairs-rest (λ a b. IsFalse (bytes_eq b a)) who (names entries) waits.1)
          (others-keep airport state late now (who, entry.NoRoute labels) entries s tt sought keeps) in (
            cons-best airport state late now (who, entry.NoRoute labels) entries s tt sought
                (no_route-best labels s (turn-searched airport well state delay sound now who (names entries) waits.0 once x found.0 found.1) rules) rest.0,
            subst (λ m. IsAmid airport state delay m []) (sym (cons-after airport state late now (who, entry.NoRoute labels) entries s tt sought)) rest.1,
          )

-- ---- the block

module _ (airport : Airport) (well : IsWellFormed airport) (state : State) (sound : IsSound airport state) (line name : List ℕ) (time until : ℕ)
    (read : command_of line ≡ Some (command.Late name time until)) (none : first_refusal airport state (command.Late name time until) ≡ None)
    (block : Block) (tells : TellsRepair airport state name time until block) (after : State) (passed : IsPassed airport state line block after) where
  abbrev told : List (List ℕ × Entry)
  told = tells.entries

  abbrev base : State
  base = base_state airport state tells.delay

  is : IsDelay airport state tells.delay
  is = delay-is airport state sound.feasible name time until none tells.delay tells.known

  turned : turns_of airport state line (Late name told) ≡ turns_from airport state (command.Late name time until) base told
  turned = late-turns airport state name time until tells.delay tells.known line read name told

  passed_so : IsPassed airport state line (Late name told) after
  passed_so = subst (λ (b : Block). IsPassed airport state line b after) tells.block_is passed

  all-told : AreTold airport well state sound name time until tells.delay tells.known base told
  all-told =
      entries-best airport well state sound name time until tells.delay tells.known base told
      (subst (Waits airport well state sound name time until tells.delay tells.known base) (sym tells.in_turn) waits) tells.dropped
      (λ r. subst (All (λ turn. KeepsTurn turn r)) turned (keeps-turns airport state line (Late name told) passed_so.keeps r))
    where
      waits : Waits airport well state sound name time until tells.delay tells.known base (names_in_turn tells.delay tells.meetings)
      waits = (
        base-amid airport state tells.delay sound.feasible is tells.meetings tells.in_the_way sound,
        names-once airport state tells.delay sound.feasible is tells.meetings tells.in_the_way,
      )

  pub late-best : TellsBest airport state line block
  late-best = subst (TellsBest airport state line) (sym tells.block_is) (record {
    all_told = ap (map (λ turn. turn.told)) turned ∙ all-told.0.all_told;
    best = subst (All (λ turn. IsBestTold turn.sought turn.told)) (sym turned) all-told.0.best;
  })

  pub late-sound : IsSound airport after
  late-sound = subst (IsSound airport)
      (sym (passed_so.after_it ∙ ap (λ (s : State). after_turns s (turns_of airport state line (Late name told))) (late-begins airport state name time until tells.delay tells.known line read name told)
      ∙ ap (after_turns base) turned))
      (amid-sound airport state tells.delay (after_turns base (turns_from airport state (command.Late name time until) base told)) all-told.1)
