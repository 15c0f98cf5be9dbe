-- The block of a late flight that is due passes: it tells of each in turn, and each of its searches keeps the rules.
use Rattle.std.proofs.Common.{◌≡◌, ◌∙◌, ℕ, List, [], ◌∷◌, IsFalse, Option, Some, None, inr, refl, sym, ap, subst, bytes_eq}
use Rattle.std.specs.Prelude.{All, AllPairs, Contains, MatchOption}
use Rattle.std.specs.Option.{option_map_or}
use Rattle.taxi_base.specs.declared.rows.Step.{Step}
use Rattle.taxi_base.specs.declared.rows.LabelRow.{LabelRow}
use Rattle.taxi_base.specs.declared.answers.Flight.{Flight}
use Rattle.taxi_base.specs.declared.answers.Found.{Found}
use Rattle.taxi_base.specs.declared.answers.Found.TheVariants as found
use Rattle.taxi_base.specs.declared.answers.Request.{Request}
use Rattle.taxi_base.specs.declared.answers.Request.TheVariants as request
use Rattle.taxi_base.specs.Airport.{Airport, IsWellFormed}
use Rattle.taxi_base.specs.State.{State, flight_named, conditions_of, IsSound}
use Rattle.taxi_base.specs.Late.{Delay, IsDelay, steps_kept, request_sought, time_sought, IsWalkSought, AnswersTurn, after_turn, base_state, IsTurnOfFlight, AreTurns}
use Rattle.taxi_base.proofs.ListLaws.{AllPairs-first, AllPairs-rest}
use Rattle.taxi_base.proofs.OtherHolds.{named-there}
use Rattle.taxi_base.proofs.TurnLaws.{best-one, IsAmid, answer-best}
use Rattle.taxi_base.proofs.LateLaws.{turn-amid, base-amid, names-once}
use Rattle.taxi_text.specs.declared.command.Command.{Command}
use Rattle.taxi_text.specs.declared.command.Command.TheVariants as command
use Rattle.taxi_text.specs.Commands.{command_of}
use Rattle.replies.specs.declared.block.Block.{Block}
use Rattle.replies.specs.declared.block.Block.TheVariants.{Late}
use Rattle.replies.specs.declared.entries.Entry.{Entry}
use Rattle.replies.specs.declared.entries.Entry.TheVariants as entry
use Rattle.replies.specs.Printable.{IsTold}
use Rattle.replies.specs.Refusals.{first_refusal}
use Rattle.replies.specs.Repairs.{delay_of, names_in_turn, sought_late, request_at_turn, entry_told, entries_told, IsRepairTold, TellsRepair}
use Rattle.replies.specs.Turns.{turns_of, after_turns}
use Rattle.replies.specs.Passes.{KeepsTurn, IsPassed}
use Rattle.replies.proofs.SoughtPasses.{PassesSought}
use Rattle.replies.proofs.TablesKept.{turn-table}
use Rattle.replies.proofs.TurnLaws.{keeps-all}
use Rattle.replies.proofs.EntryTurns.{block_of, turns_from}
use Rattle.replies.proofs.EntryPasses.{AreKept, none-kept, dropped-kept, cons-kept}
use Rattle.replies.proofs.LateTold.{delay-is, told-names, answered-asked, told-dropped}
use Rattle.replies.proofs.LateTurns.{late-sought, late-begins, late-turns, turn-fit, turn-walk, turn-before, walk-for}

told-some : (name : List ℕ) (sought : Request) (answer : Found) → IsTold (name, entry_told sought (Some answer))
told-some name sought (found.Route steps labels) = tt
told-some name sought (found.NoRoute labels) = tt

none-same : (now : State) (x : Flight) (kept : List Step) (labels others : List LabelRow) → after_turn now x kept (found.NoRoute labels) ≡ after_turn now x kept (found.NoRoute others)
none-same now x [] labels others = refl
none-same now x (k ∷ kept) labels others = refl

module _ (airport : Airport) (well : IsWellFormed airport) (state : State) (sound : IsSound airport state) (delay : Delay) where
  -- ---- one answer

  module _ (now : State) (name : List ℕ) (names : List (List ℕ)) (amid : IsAmid airport state delay now (name ∷ names)) (once : All (λ n. IsFalse (bytes_eq n name)) names)
      (x : Flight) (there : Contains state.flights x) (named_so : x.name ≡ name) where
    abbrev kept : List Step
    kept = steps_kept airport delay x

    abbrev asked : Request
    asked = request_sought x.request kept

    -- what is answered at a turn keeps the rules for what is sought
    answer-passes : (answer : Found) (next : State) → AnswersTurn (conditions_of airport now x) asked kept (time_sought delay x) answer → next ≡ after_turn now x kept answer
        → PassesSought (sought_late airport delay x now) (block_of (name, entry_told asked (Some answer))) next
    answer-passes (found.Route steps labels) next answers e = record {
      form = sym named_so;
      walk = (
        walk-for airport well state delay sound now name names amid once x there named_so asked steps
            (best-one asked (IsWalkSought (conditions_of airport now x) asked kept (time_sought delay x)) steps
            (answer-best airport state delay sound now name names amid once x there named_so (found.Route steps labels) answers)),
        refl,
      );
      table = turn-table (conditions_of airport now x) (turn-fit airport well state delay sound now name names amid once x there named_so) kept
          (turn-walk airport well state delay sound now name names amid once x there named_so) (time_sought delay x) asked
          (turn-before airport well state delay sound now name names amid once x there named_so asked) (found.Route steps labels) answers;
      after_it = e;
    }
    answer-passes (found.NoRoute labels) next answers e = record {
      form = refl;
      walk = tt;
      table = turn-table (conditions_of airport now x) (turn-fit airport well state delay sound now name names amid once x there named_so) kept
          (turn-walk airport well state delay sound now name names amid once x there named_so) (time_sought delay x) asked
          (turn-before airport well state delay sound now name names amid once x there named_so asked) (found.NoRoute labels) answers;
      after_it = e ∙ none-same now x kept labels [];
    }

  -- ---- all of them

  module _ (name : List ℕ) (time until : ℕ) (known : delay_of state name time until ≡ Some delay) where
    abbrev late : Command
    late = command.Late name time until

    abbrev entries : List (List ℕ) → List (Option Found) → List (List ℕ × Entry)
    entries = entries_told airport delay state

    turns-kept : (names : List (List ℕ)) (now : State) (tells : List (Option Found)) (after : State) → IsAmid airport state delay now names → AllPairs (λ a b. IsFalse (bytes_eq b a)) names
        → AreTurns airport delay state names now tells after → AreKept airport state late now (entries names tells) after
    turns-kept [] now [] after amid once turns = none-kept airport state late now after turns
    turns-kept [] now (told ∷ tells) after amid once turns = absurd turns
    turns-kept (who ∷ names) now [] after amid once turns = absurd turns
    turns-kept (who ∷ names) now (told ∷ tells) after amid once turns =
        go (turns-kept names turns.0 tells after (turn-amid airport state delay sound now who names told turns.0 amid (AllPairs-first (λ a b. IsFalse (bytes_eq b a)) who names once) turns.1)
        (AllPairs-rest (λ a b. IsFalse (bytes_eq b a)) who names once) turns.2) (flight_named who state.flights) refl told turns.1
      where
        first : All (λ n. IsFalse (bytes_eq n who)) names
        first = AllPairs-first (λ a b. IsFalse (bytes_eq b a)) who names once

        sought : Request
        sought = request_at_turn airport delay state who

        -- a holder that is dropped changes nothing
        dropped : AreKept airport state late turns.0 (entries names tells) after → turns.0 ≡ now → AreKept airport state late now ((who, entry.Dropped) ∷ entries names tells) after
        dropped rest same = dropped-kept airport state late now who (entries names tells) after (subst (λ (s : State). AreKept airport state late s (entries names tells) after) same rest)

        go : AreKept airport state late turns.0 (entries names tells) after → (o : Option Flight) → flight_named who state.flights ≡ o → (told : Option Found)
            → MatchOption o ((told ≡ None) × (turns.0 ≡ now)) (λ flight. IsTurnOfFlight airport delay flight now told turns.0)
            → AreKept airport state late now ((who, entry_told sought told) ∷ entries names tells) after
        go rest None e told h = subst (λ t. AreKept airport state late now ((who, entry_told sought t) ∷ entries names tells) after) (sym h.0) (dropped rest h.1)
        go rest (Some x) e None h = dropped rest h.1
        go rest (Some x) e (Some answer) h =
            let found = named-there (λ (f : Flight). f.name) who state.flights x e in
            let asked : Request = request_sought x.request (steps_kept airport delay x) in
            let same : sought ≡ asked = ap (λ (o : Option Flight). option_map_or (λ f. request_sought f.request (steps_kept airport delay f)) o request.Filed) e in
            let filed = answered-asked airport delay state (conditions_of airport now x) x.request (steps_kept airport delay x) (time_sought delay x) answer h.0 in
            subst (λ r. AreKept airport state late now ((who, entry_told r (Some answer)) ∷ entries names tells) after) (sym same)
            (cons-kept airport state late now (who, entry_told asked (Some answer)) (entries names tells) (sought_late airport delay x now) (told-some who asked answer)
            (late-sought airport state name time until delay known now who x e filed) turns.0 after
            (answer-passes now who names amid first x found.0 found.1 answer turns.0 h.0 h.1) rest)

-- the block of a late flight passes
pub late-passes : (airport : Airport) (state : State) → IsWellFormed airport → IsSound airport state → (line name : List ℕ) (time until : ℕ) (block : Block) (after : State)
    → command_of line ≡ Some (command.Late name time until) → first_refusal airport state (command.Late name time until) ≡ None → IsRepairTold airport state name time until block after
    → IsPassed airport state line block after
late-passes airport state well sound line name time until block after read none done =
    subst (λ (b : Block). IsPassed airport state line b after) (sym done.block_is) (record {
      keeps = keeps-all airport state line (Late name told) (inr (rw (read, none) tells)) (λ r. subst (All (λ turn. KeepsTurn turn r)) (sym turns) (kept.keeps r));
      after_it = sym (ap (λ (s : State). after_turns s (turns_of airport state line (Late name told))) (late-begins airport state name time until done.delay done.known line read name told)
          ∙ ap (after_turns base) turns ∙ kept.after_it);
    })
  where
    names : List (List ℕ)
    names = names_in_turn done.delay done.meetings

    told : List (List ℕ × Entry)
    told = entries_told airport done.delay state names done.tells

    base : State
    base = base_state airport state done.delay

    is : IsDelay airport state done.delay
    is = delay-is airport state sound.feasible name time until none done.delay done.known

    kept : AreKept airport state (command.Late name time until) base told after
    kept = turns-kept airport well state sound done.delay name time until done.known names base done.tells after
        (base-amid airport state done.delay sound.feasible is done.meetings done.repaired.in_the_way sound)
        (names-once airport state done.delay sound.feasible is done.meetings done.repaired.in_the_way) done.repaired.turns

    turns : turns_of airport state line (Late name told) ≡ turns_from airport state (command.Late name time until) base told
    turns = late-turns airport state name time until done.delay done.known line read name told

    tells : TellsRepair airport state name time until (Late name told)
    tells = record {
      delay = done.delay;
      known = done.known;
      meetings = done.meetings;
      in_the_way = done.repaired.in_the_way;
      entries = told;
      block_is = refl;
      in_turn = told-names airport done.delay state names base done.tells after done.repaired.turns;
      dropped = told-dropped airport done.delay state names base done.tells after done.repaired.turns;
    }
