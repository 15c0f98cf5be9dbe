-- The block of a late flight that is due has a text: each entry has one, and there are no more entries than holders.
use Rattle.std.proofs.Common.{◌≡◌, ℕ, ◌+◌, ◌^◌, ◌<◌, ◌≤◌, cond, not, Bool, true, false, List, [], ◌∷◌, ◌++◌, length, map, IsTrue, IsFalse, Option, Some, None, is_some, refl, sym, ap, subst, arith, inl, inr, bytes_eq}
use Rattle.std.specs.Prelude.{All, AllPairs, Contains, MatchOption, count_by, filter}
use Rattle.std.specs.Option.{option_map_or}
use Rattle.std.specs.Cmp.Lexicographic.{bytes_decides}
use Rattle.std.proofs.lemmas.Bool.{cases_Bool, or_cases, both_ways, not-true}
use Rattle.std.proofs.lemmas.List.{length-append, length-map}
use Rattle.std.proofs.lemmas.List.Elements.{All-nil, All-cons, All-head, All-tail, All-append, All-map, All-weaker, All-contains, All-contains_itself, Contains-append_left, Contains-append_right}
use Rattle.std.proofs.lemmas.List.Kept.{AllPairs-filter}
use Rattle.std.proofs.lemmas.List.Sums.{sum_by-cons, length-filter}
use Rattle.taxi_base.specs.declared.numbers.Segment.{Segment}
use Rattle.taxi_base.specs.declared.rows.Step.{Step}
use Rattle.taxi_base.specs.declared.answers.Flight.{Flight}
use Rattle.taxi_base.specs.declared.answers.Party.{Party}
use Rattle.taxi_base.specs.declared.answers.Found.{Found}
use Rattle.taxi_base.specs.declared.answers.Found.TheVariants as found
use Rattle.taxi_base.specs.declared.answers.Request.{Request}
use Rattle.taxi_base.specs.declared.answers.Request.TheVariants as request
use Rattle.taxi_base.specs.Airport.{Airport, IsWellFormed}
use Rattle.taxi_base.specs.Walks.{Conditions, IsFeasibleWalk}
use Rattle.taxi_base.specs.State.{State, flight_named, party_named, without, has_holder, holds_in, conditions_of, IsSound}
use Rattle.taxi_base.specs.Late.{Delay, IsDelay, steps_kept, request_sought, time_sought, IsWalkSought, AnswersTurn, base_state, IsTurnOfFlight, IsTurnOf, AreTurns}
use Rattle.taxi_base.proofs.ListLaws.{Contains-first, Contains-cons_cases, Contains-map, filter-Contains, AllPairs-first, AllPairs-rest}
use Rattle.taxi_base.proofs.OtherHolds.{named-there}
use Rattle.taxi_base.proofs.WalkLaws.{conditions_among-bounded}
use Rattle.taxi_base.proofs.TurnLaws.{best-one, sought-walk, IsAmid, answer-best}
use Rattle.taxi_base.proofs.LateLaws.{turn-amid, base-amid, names-once}
use Rattle.taxi_text.specs.declared.command.Command.TheVariants as command
use Rattle.replies.specs.declared.block.Block.{Block}
use Rattle.replies.specs.declared.entries.Entry.{Entry}
use Rattle.replies.specs.declared.entries.Entry.TheVariants as entry
use Rattle.replies.specs.Printable.{IsName, IsPrintableEntry, IsPrintable}
use Rattle.replies.specs.Refusals.{first_refusal}
use Rattle.replies.specs.Repairs.{names_in_turn, request_at_turn, entry_told, entries_told, IsRepairTold}
use Rattle.replies.specs.Replies.{HaveNames, is_told_of, IsRepairIn}
use Rattle.replies.proofs.FoundLaws.{turn-printable}
use Rattle.replies.proofs.NewNames.{different-pairs}
use Rattle.replies.proofs.RoutePrintable.{route-printable}
use Rattle.replies.proofs.LateTold.{delay-is, told-names, told-name}
use Rattle.replies.proofs.LateKept.{name-held}

-- ---- names that differ are no more than those that they are among

all-counted : {X : Type 0} (p : X → Bool) (xs : List X) → length xs ≡ count_by p xs + count_by (λ x. not (p x)) xs
all-counted p [] = omega arith
all-counted p (x ∷ xs) =
    omega (arith, sum_by-cons (λ y. cond (p y) 1 0) x xs, sum_by-cons (λ y. cond (not (p y)) 1 0) x xs, once (p x), all-counted p xs)
  where
    once : (b : Bool) → cond b 1 0 + cond (not b) 1 0 ≡ 1
    once true = omega arith
    once false = omega arith

fewer-names : (others names : List (List ℕ)) → AllPairs (λ a b. IsFalse (bytes_eq b a)) names → ((n : List ℕ) → Contains names n → Contains others n) → length names ≤ length others
fewer-names [] [] differ there = omega arith
fewer-names [] (n ∷ names) differ there = absurd (omega (arith, (there n (Contains-first n names)).1))
fewer-names (other ∷ others) names differ there =
    omega (
      arith,
      all-counted (λ n. bytes_eq n other) names,
      length-filter (λ n. not (bytes_eq n other)) names,
      different-pairs names differ other,
      fewer-names others (filter (λ n. not (bytes_eq n other)) names) (AllPairs-filter (λ a b. IsFalse (bytes_eq b a)) (λ n. not (bytes_eq n other)) names differ) behind,
    )
  where
    behind : (n : List ℕ) → Contains (filter (λ n. not (bytes_eq n other)) names) n → Contains others n
    behind n h =
        let old = filter-Contains (λ n. not (bytes_eq n other)) names n h in
        elim (Contains-cons_cases other n others (there n old.0)) [
          | inl same ↦ absurd (both_ways _ (not-true _ old.1) ((bytes_decides n other).1 (sym same)))
          | inr later ↦ later
        ]

-- ---- the names of holders

abbrev holder_names : State → List (List ℕ)
holder_names state = map (λ (p : Party). p.name) state.parties ++ map (λ (f : Flight). f.name) state.flights

holder-there : (state : State) (name : List ℕ) → IsTrue (has_holder name state) → Contains (holder_names state) name
holder-there state name held = elim (or_cases (is_some (party_named name state.parties)) (is_some (flight_named name state.flights)) held) [
  | inl party ↦ of_party (party_named name state.parties) refl party
  | inr flight ↦ of_flight (flight_named name state.flights) refl flight
] where
  of_party : (o : Option Party) → party_named name state.parties ≡ o → IsTrue (is_some o) → Contains (holder_names state) name
  of_party None e some = absurd (cc some)
  of_party (Some p) e some =
      let found = named-there (λ (q : Party). q.name) name state.parties p e in
      Contains-append_left (map (λ (q : Party). q.name) state.parties) (map (λ (f : Flight). f.name) state.flights) name
      (subst (Contains (map (λ (q : Party). q.name) state.parties)) found.1 (Contains-map (λ (q : Party). q.name) state.parties p found.0))

  of_flight : (o : Option Flight) → flight_named name state.flights ≡ o → IsTrue (is_some o) → Contains (holder_names state) name
  of_flight None e some = absurd (cc some)
  of_flight (Some f) e some =
      let found = named-there (λ (g : Flight). g.name) name state.flights f e in
      Contains-append_right (map (λ (p : Party). p.name) state.parties) (map (λ (g : Flight). g.name) state.flights) name
      (subst (Contains (map (λ (g : Flight). g.name) state.flights)) found.1 (Contains-map (λ (g : Flight). g.name) state.flights f found.0))

holders-named : (state : State) → HaveNames state → All IsName (holder_names state)
holders-named state names =
    All-append IsName (map (λ (p : Party). p.name) state.parties) (map (λ (f : Flight). f.name) state.flights)
    (All-map IsName (λ (p : Party). p.name) state.parties names.1) (All-map IsName (λ (f : Flight). f.name) state.flights names.0)

-- ---- the entries

module _ (airport : Airport) (well : IsWellFormed airport) (state : State) (sound : IsSound airport state) (delay : Delay) where
  module _ (now : State) (name : List ℕ) (names : List (List ℕ)) (amid : IsAmid airport state delay now (name ∷ names)) (once : All (λ n. IsFalse (bytes_eq n name)) names) (named : IsName name)
      (x : Flight) (there : Contains state.flights x) (named_so : x.name ≡ name) where
    abbrev c : Conditions
    c = conditions_of airport now x

    abbrev kept : List Step
    kept = steps_kept airport delay x

    abbrev wanted : Request
    wanted = request_sought x.request kept

    bounded : (s : Segment) (t : ℕ) → airport.horizon ≤ t → IsFalse (c.free s t)
    bounded = conditions_among-bounded airport x.class (holds_in airport (without x.name now))

    answer-printable : (answer : Found) → AnswersTurn c wanted kept (time_sought delay x) answer → IsPrintableEntry airport (name, entry_told wanted (Some answer))
    answer-printable (found.NoRoute labels) answers = (named, turn-printable c well bounded wanted kept (time_sought delay x) (found.NoRoute labels) answers)
    answer-printable (found.Route steps labels) answers =
        let walk : IsFeasibleWalk c steps = sought-walk c wanted kept (time_sought delay x) steps
        (best-one wanted (IsWalkSought c wanted kept (time_sought delay x)) steps
        (answer-best airport state delay sound now name names amid once x there named_so (found.Route steps labels) answers)) in
        route-printable airport well c name wanted steps labels refl named walk (turn-printable c well bounded wanted kept (time_sought delay x) (found.Route steps labels) answers)

  turn-has_text : (now : State) (name : List ℕ) (names : List (List ℕ)) → IsAmid airport state delay now (name ∷ names) → All (λ n. IsFalse (bytes_eq n name)) names → IsName name
      → (told : Option Found) (next : State) → IsTurnOf airport delay state name now told next → IsPrintableEntry airport (name, entry_told (request_at_turn airport delay state name) told)
  turn-has_text now name names amid once named told next turn = go (flight_named name state.flights) refl told turn where
    sought : Request
    sought = request_at_turn airport delay state name

    go : (o : Option Flight) → flight_named name state.flights ≡ o → (told : Option Found) → MatchOption o ((told ≡ None) × (next ≡ now)) (λ flight. IsTurnOfFlight airport delay flight now told next)
        → IsPrintableEntry airport (name, entry_told sought told)
    go None e told h = subst (λ t. IsPrintableEntry airport (name, entry_told sought t)) (sym h.0) named
    go (Some x) e None h = named
    go (Some x) e (Some answer) h =
        let found = named-there (λ (f : Flight). f.name) name state.flights x e in
        let same : sought ≡ request_sought x.request (steps_kept airport delay x) =
        ap (λ (o : Option Flight). option_map_or (λ f. request_sought f.request (steps_kept airport delay f)) o request.Filed) e in
        subst (λ r. IsPrintableEntry airport (name, entry_told r (Some answer))) (sym same) (answer-printable now name names amid once named x found.0 found.1 answer h.0)

  turns-have_texts : (names : List (List ℕ)) (now : State) (tells : List (Option Found)) (after : State) → IsAmid airport state delay now names → AllPairs (λ a b. IsFalse (bytes_eq b a)) names
      → All IsName names → AreTurns airport delay state names now tells after → All (IsPrintableEntry airport) (entries_told airport delay state names tells)
  turns-have_texts [] now [] after amid once named turns = All-nil (IsPrintableEntry airport)
  turns-have_texts [] now (told ∷ tells) after amid once named turns = absurd turns
  turns-have_texts (name ∷ names) now [] after amid once named turns = absurd turns
  turns-have_texts (name ∷ names) now (told ∷ tells) after amid once named turns =
      let first = AllPairs-first (λ a b. IsFalse (bytes_eq b a)) name names once in
      All-cons (IsPrintableEntry airport) (name, entry_told (request_at_turn airport delay state name) told) (entries_told airport delay state names tells)
      (turn-has_text now name names amid first (All-head IsName name names named) told turns.0 turns.1)
      (turns-have_texts names turns.0 tells after (turn-amid airport state delay sound now name names told turns.0 amid first turns.1)
      (AllPairs-rest (λ a b. IsFalse (bytes_eq b a)) name names once) (All-tail IsName name names named) turns.2)

-- ---- the block

-- the block of a late flight has a text
pub late-printable : (airport : Airport) → IsWellFormed airport → (state : State) → HaveNames state → IsSound airport state → (name : List ℕ) (time until : ℕ) (block : Block) (after : State) → IsName name
    → first_refusal airport state (command.Late name time until) ≡ None → IsRepairTold airport state name time until block after → IsPrintable airport block
late-printable airport well state have sound name time until block after named none done =
    subst (IsPrintable airport) (sym done.block_is) (named, ((some, count), texts))
  where
    names : List (List ℕ)
    names = names_in_turn done.delay done.meetings

    entries : List (List ℕ × Entry)
    entries = entries_told airport done.delay state names done.tells

    base : State
    base = base_state airport state done.delay

    is : IsDelay airport state done.delay
    is = delay-is airport state sound.feasible name time until none done.delay done.known

    once : AllPairs (λ a b. IsFalse (bytes_eq b a)) names
    once = names-once airport state done.delay sound.feasible is done.meetings done.repaired.in_the_way

    held : (n : List ℕ) → Contains names n → Contains (holder_names state) n
    held n there = holder-there state n (name-held airport state done.delay sound is done.meetings done.tells after done.repaired n there)

    long : length entries ≡ length names
    long = omega (arith, length-map entries (λ told. told.0), ap (λ (ns : List (List ℕ)). length ns) (told-names airport done.delay state names base done.tells after done.repaired.turns))

    some : 0 < length entries
    some = omega (arith, long)

    count : length entries < 10 ^ 10
    count = omega (
      arith,
      long,
      fewer-names (holder_names state) names once held,
      length-append (map (λ (p : Party). p.name) state.parties) (map (λ (f : Flight). f.name) state.flights),
      length-map state.parties (λ (p : Party). p.name),
      length-map state.flights (λ (f : Flight). f.name),
      sound.feasible.few,
    )

    texts : All (IsPrintableEntry airport) entries
    texts = turns-have_texts airport well state sound done.delay names base done.tells after
        (base-amid airport state done.delay sound.feasible is done.meetings done.repaired.in_the_way sound) once
        (All-weaker (Contains names) IsName (λ n there. All-contains IsName (holder_names state) n (holders-named state have) (held n there)) names (All-contains_itself names)) done.repaired.turns

-- ---- names afterwards

entry-name : (airport : Airport) (told : List ℕ × Entry) → IsPrintableEntry airport told → IsName told.0
entry-name airport (name, entry.Route second steps labels) fine = fine.0.0
entry-name airport (name, entry.NoRoute labels) fine = fine.0
entry-name airport (name, entry.Dropped) fine = fine

-- where the entries have texts the holders have names afterwards
pub repair-names : (airport : Airport) (state : State) (entries : List (List ℕ × Entry)) (after : State) → HaveNames state → IsRepairIn state entries after → All (IsPrintableEntry airport) entries
    → HaveNames after
repair-names airport state entries after names says fine = (
  All-weaker (Contains after.flights) (λ f. IsName f.name) (λ f there. elim (cases_Bool (is_told_of entries f.name)) [
    | inl told ↦ let found = told-name entries f.name told in subst IsName found.2 (entry-name airport found.0 (All-contains (IsPrintableEntry airport) entries found.0 fine found.1))
    | inr untold ↦ All-contains (λ (g : Flight). IsName g.name) state.flights f names.0 (says.flights_were f there untold)
  ]) after.flights (All-contains_itself after.flights),
  All-weaker (Contains after.parties) (λ p. IsName p.name) (λ p there. All-contains (λ (q : Party). IsName q.name) state.parties p names.1 (says.parties_were p there)) after.parties
      (All-contains_itself after.parties),
)
