-- The searches of a block: one where it tells of a search, and none of any other but of one with entries; and the first rule that a
-- block breaks.
use Rattle.std.proofs.Common.{◌≡◌, ◌∙◌, ℕ, List, [], ◌∷◌, ◌++◌, length, All, map, inl, inr, Option, Some, None, refl, sym, ap, subst, arith}
use Rattle.std.specs.Prelude.{◌⊎◌, ⊤, flat_map, option_and_then}
use Rattle.std.specs.Option.{option_map_or}
use Rattle.std.proofs.lemmas.Bool.{cases_lt}
use Rattle.std.proofs.lemmas.List.Elements.{All-nil, All-cons, All-head, All-tail}
use Rattle.taxi_base.specs.Airport.{Airport}
use Rattle.taxi_base.specs.State.{State}
use Rattle.taxi_base.specs.declared.rows.Step.{Step}
use Rattle.taxi_base.specs.declared.rows.LabelRow.{LabelRow}
use Rattle.taxi_base.specs.Again.{IsBestFor}
use Rattle.replies.specs.declared.block.Block.{Block}
use Rattle.taxi_text.specs.declared.command.Command.{Command}
use Rattle.taxi_text.specs.declared.command.Command.TheVariants as command
use Rattle.taxi_text.specs.Commands.{command_of}
use Rattle.replies.specs.declared.block.Block.TheVariants.{Refused, Filed, Cancelled, Route, NoRoute, Windows, Occupancy, Timetable, Batch, Late}
use Rattle.replies.specs.declared.entries.Entry.{Entry}
use Rattle.replies.specs.declared.entries.Entry.TheVariants as entry
use Rattle.replies.specs.declared.rule.Rule.{Rule}
use Rattle.replies.specs.declared.rule.Rule.TheVariants as rule
use Rattle.replies.specs.CarriedOut.{second_of}
use Rattle.replies.specs.Sought.{Sought, sought_of, sought_by, IsWalkFor}
use Rattle.replies.specs.Turns.{Turn, told_of, told_in, after_told, tellings_of, tellings, begins_for, in_turns, turns_for, turns_of, begins_of, after_turns}
use Rattle.replies.specs.Passes.{IsFormOf, IsAsAskedAlone, IsAsAsked, KeepsReply, KeepsTurn, Keeps, rank_of, IsFirstOf, BreaksFirst, IsFirstBroken, IsAfter, IsPassed, IsBestTold, TellsBest}

-- ---- one element

pub all-one : {X : Type 0} (P : X → Type 0) (x : X) → P x → All P (x ∷ [])
all-one P x p = All-cons P x [] p (All-nil P)

-- ---- commands that seek one walk at most

abbrev pub IsAlone : Command → Type 0
IsAlone (command.Batch requests) = ⊥
IsAlone (command.Late name time until) = ⊥
IsAlone _ = ⊤

pub asked-alone : (airport : Airport) (state : State) (c : Command) (block : Block) → IsAlone c → IsAsAskedAlone airport state c block → IsAsAsked airport state c block
asked-alone airport state (command.Batch requests) block alone asked = absurd alone
asked-alone airport state (command.Late name time until) block alone asked = absurd alone
asked-alone airport state c block alone asked = asked

-- ---- what is told, one after the other

map-append : {X Y : Type 0} (f : X → Y) (xs ys : List X) → map f (xs ++ ys) ≡ map f xs ++ map f ys
map-append f [] ys = refl
map-append f (x ∷ xs) ys = ap (λ (zs : List _). f x ∷ zs) (map-append f xs ys)

map-none : {X Y : Type 0} (f : X → Y) (xs : List X) → map f xs ≡ [] → xs ≡ []
map-none f [] e = refl
map-none {Y = Y} f (x ∷ xs) e = absurd (let l = ap (λ (ys : List Y). length ys) e in omega (arith, l))

module _ (airport : Airport) (before : State) (command : Command) where
  entry-told : (told : List ℕ × Entry) → map (λ t. t.told) (tellings_of airport before command told) ≡ told_of told
  entry-told (name, entry.Route second steps labels) = refl
  entry-told (name, entry.NoRoute labels) = refl
  entry-told (name, entry.Dropped) = refl

  entries-told : (entries : List (List ℕ × Entry)) → map (λ t. t.told) (flat_map (tellings_of airport before command) entries) ≡ flat_map told_of entries
  entries-told [] = refl
  entries-told (told ∷ entries) =
      map-append (λ t. t.told) (tellings_of airport before command told) (flat_map (tellings_of airport before command) entries)
      ∙ ap (λ (bs : List Block). bs ++ map (λ t. t.told) (flat_map (tellings_of airport before command) entries)) (entry-told told)
      ∙ ap (λ (bs : List Block). told_of told ++ bs) (entries-told entries)

  -- what is told to a command of searches is what the block tells of them
  pub tellings-told : (block : Block) → map (λ t. t.told) (tellings airport before command block) ≡ told_in block
  tellings-told (Route name second steps labels) = refl
  tellings-told (NoRoute labels) = refl
  tellings-told (Refused why) = refl
  tellings-told (Filed name start end) = refl
  tellings-told (Cancelled name) = refl
  tellings-told (Windows segment windows) = refl
  tellings-told (Occupancy segment held) = refl
  tellings-told (Timetable flights) = refl
  tellings-told (Batch total entries) = entries-told entries
  tellings-told (Late flight entries) = entries-told entries

-- ---- the state that the searches begin in

-- the block is not that of a late flight
abbrev pub IsNotLate : Block → Type 0
IsNotLate (Late flight entries) = ⊥
IsNotLate _ = ⊤

begins-same : (airport : Airport) (state : State) (command : Command) (block : Block) → IsNotLate block → begins_for airport state command block ≡ state
begins-same airport state (command.Late name time until) (Late flight entries) other = absurd other
begins-same airport state command block other = refl

module _ (airport : Airport) (state : State) (line : List ℕ) where
  -- ---- a block that tells of no search

  pub no_turns : (block : Block) → told_in block ≡ [] → turns_of airport state line block ≡ []
  no_turns block none = go (command_of line) where
    go : (o : Option Command) → option_map_or (λ command. turns_for airport state command block) o [] ≡ []
    go None = refl
    go (Some command) = ap (in_turns (begins_for airport state command block)) (map-none (λ t. t.told) (tellings airport state command block) (tellings-told airport state command block ∙ none))

  -- but where a flight is late they begin in the state before
  pub begins-before : (block : Block) → IsNotLate block → begins_of airport state line block ≡ state
  begins-before block other = go (command_of line) where
    go : (o : Option Command) → option_map_or (λ command. begins_for airport state command block) o state ≡ state
    go None = refl
    go (Some command) = begins-same airport state command block other

  pub no_turns-after : (block : Block) → told_in block ≡ [] → IsNotLate block → after_turns (begins_of airport state line block) (turns_of airport state line block) ≡ state
  no_turns-after block none other = ap (after_turns (begins_of airport state line block)) (no_turns block none) ∙ begins-before block other

  -- the search of a route, or of none, is what the line seeks
  abbrev turns_by : Block → Option Sought → List Turn
  turns_by told o = option_map_or (λ s. record { sought = s; told = told } ∷ []) o []

  route-turns : (name : List ℕ) (second : ℕ) (steps : List Step) (labels : List LabelRow)
      → turns_of airport state line (Route name second steps labels) ≡ turns_by (Route name second steps labels) (sought_by airport state line)
  route-turns name second steps labels = go (command_of line) where
    go : (o : Option Command) → option_map_or (λ command. turns_for airport state command (Route name second steps labels)) o [] ≡ turns_by (Route name second steps labels) (option_and_then (sought_of airport state) o)
    go None = refl
    go (Some command) = ap (λ s. in_turns s (tellings airport state command (Route name second steps labels))) (begins-same airport state command (Route name second steps labels) tt)

  no_route-turns : (labels : List LabelRow) → turns_of airport state line (NoRoute labels) ≡ turns_by (NoRoute labels) (sought_by airport state line)
  no_route-turns labels = go (command_of line) where
    go : (o : Option Command) → option_map_or (λ command. turns_for airport state command (NoRoute labels)) o [] ≡ turns_by (NoRoute labels) (option_and_then (sought_of airport state) o)
    go None = refl
    go (Some command) = ap (λ s. in_turns s (tellings airport state command (NoRoute labels))) (begins-same airport state command (NoRoute labels) tt)

  -- ---- the first rule, and those of the searches

  pub keeps-all : (block : Block) → KeepsReply airport state line block → ((r : Rule) → All (λ turn. KeepsTurn turn r) (turns_of airport state line block)) → (r : Rule) → Keeps airport state line block r
  keeps-all block reply turns rule.Reply = reply
  keeps-all block reply turns rule.Walk = turns rule.Walk
  keeps-all block reply turns rule.Rows = turns rule.Rows
  keeps-all block reply turns rule.Start = turns rule.Start
  keeps-all block reply turns rule.Step = turns rule.Step
  keeps-all block reply turns rule.Target = turns rule.Target

  pub keeps-turns : (block : Block) → ((r : Rule) → Keeps airport state line block r) → (r : Rule) → All (λ turn. KeepsTurn turn r) (turns_of airport state line block)
  keeps-turns block keeps rule.Reply = λ k d within. tt
  keeps-turns block keeps rule.Walk = keeps rule.Walk
  keeps-turns block keeps rule.Rows = keeps rule.Rows
  keeps-turns block keeps rule.Start = keeps rule.Start
  keeps-turns block keeps rule.Step = keeps rule.Step
  keeps-turns block keeps rule.Target = keeps rule.Target

  no_turns-keep : (block : Block) → told_in block ≡ [] → (r : Rule) → All (λ turn. KeepsTurn turn r) (turns_of airport state line block)
  no_turns-keep block none r = subst (All (λ turn. KeepsTurn turn r)) (sym (no_turns block none)) (All-nil (λ turn. KeepsTurn turn r))

  -- it keeps every rule but the first
  pub plain-keeps : (block : Block) → told_in block ≡ [] → KeepsReply airport state line block → (r : Rule) → Keeps airport state line block r
  plain-keeps block none reply = keeps-all block reply (no_turns-keep block none)

  -- ---- a block that tells of what is sought

  module _ (s : Sought) (by : sought_by airport state line ≡ Some s) where
    pub one_turn : (block : Block) → IsFormOf s block → turns_of airport state line block ≡ record { sought = s; told = block } ∷ []
    one_turn (Route name second steps labels) form = route-turns name second steps labels ∙ ap (turns_by (Route name second steps labels)) by
    one_turn (NoRoute labels) form = no_route-turns labels ∙ ap (turns_by (NoRoute labels)) by
    one_turn (Refused why) form = absurd form
    one_turn (Filed name start end) form = absurd form
    one_turn (Cancelled name) form = absurd form
    one_turn (Windows segment windows) form = absurd form
    one_turn (Occupancy segment held) form = absurd form
    one_turn (Timetable flights) form = absurd form
    one_turn (Batch total entries) form = absurd form
    one_turn (Late flight entries) form = absurd form

    -- it keeps a rule where its search does
    turn-keeps : (block : Block) → IsFormOf s block → (r : Rule) → KeepsTurn (record { sought = s; told = block }) r → All (λ turn. KeepsTurn turn r) (turns_of airport state line block)
    turn-keeps block form r kept =
        subst (All (λ turn. KeepsTurn turn r)) (sym (one_turn block form)) (all-one (λ turn. KeepsTurn turn r) (record { sought = s; told = block }) kept)

    pub one-keeps : (block : Block) → IsFormOf s block → KeepsReply airport state line block → ((r : Rule) → KeepsTurn (record { sought = s; told = block }) r) → (r : Rule) → Keeps airport state line block r
    one-keeps block form reply kept = keeps-all block reply (λ r. turn-keeps block form r (kept r))

    -- and its search keeps each that it keeps
    pub keeps-one : (block : Block) → IsFormOf s block → ((r : Rule) → Keeps airport state line block r) → (r : Rule) → KeepsTurn (record { sought = s; told = block }) r
    keeps-one block form kept r =
        All-head (λ turn. KeepsTurn turn r) (record { sought = s; told = block }) [] (subst (All (λ turn. KeepsTurn turn r)) (one_turn block form) (keeps-turns block kept r))

    -- the state afterwards
    pub one-after : (block : Block) → IsFormOf s block → after_turns (begins_of airport state line block) (turns_of airport state line block) ≡ after_told s block
    one-after block form = ap (after_turns (begins_of airport state line block)) (one_turn block form)

    pub after-is : (block : Block) (after : State) → IsFormOf s block → after ≡ after_told s block → IsAfter airport state line block after
    after-is (Route name second steps labels) after form is = subst (λ a. after ≡ a) (sym (one-after (Route name second steps labels) form)) is
    after-is (NoRoute labels) after form is = subst (λ a. after ≡ a) (sym (one-after (NoRoute labels) form)) is
    after-is (Refused why) after form is = absurd form
    after-is (Filed name start end) after form is = absurd form
    after-is (Cancelled name) after form is = absurd form
    after-is (Windows segment windows) after form is = absurd form
    after-is (Occupancy segment held) after form is = absurd form
    after-is (Timetable flights) after form is = absurd form
    after-is (Batch total entries) after form is = absurd form
    after-is (Late flight entries) after form is = absurd form

    pub is-after : (block : Block) (after : State) → IsFormOf s block → IsAfter airport state line block after → after ≡ after_told s block
    is-after (Route name second steps labels) after form is = subst (λ a. after ≡ a) (one-after (Route name second steps labels) form) is
    is-after (NoRoute labels) after form is = subst (λ a. after ≡ a) (one-after (NoRoute labels) form) is
    is-after (Refused why) after form is = absurd form
    is-after (Filed name start end) after form is = absurd form
    is-after (Cancelled name) after form is = absurd form
    is-after (Windows segment windows) after form is = absurd form
    is-after (Occupancy segment held) after form is = absurd form
    is-after (Timetable flights) after form is = absurd form
    is-after (Batch total entries) after form is = absurd form
    is-after (Late flight entries) after form is = absurd form

  -- ---- what is best of a block is best of what its line seeks

  best-turn : (told : Block) (o : Option Sought) → sought_by airport state line ≡ o → map (λ turn. turn.told) (turns_by told o) ≡ told ∷ [] → All (λ turn. IsBestTold turn.sought turn.told) (turns_by told o)
      → (s : Sought) × (sought_by airport state line ≡ Some s) × IsBestTold s told
  best-turn told None e all best = absurd (let l = ap (λ (bs : List Block). length bs) all in omega (arith, l))
  best-turn told (Some s) e all best = (s, e, All-head (λ turn. IsBestTold turn.sought turn.told) (record { sought = s; told = told }) [] best)

  pub best-route : (name : List ℕ) (second : ℕ) (steps : List Step) (labels : List LabelRow) → TellsBest airport state line (Route name second steps labels)
      → (s : Sought) × (sought_by airport state line ≡ Some s) × IsBestFor s.request (IsWalkFor s) steps × (second_of s.request steps ≡ second)
  best-route name second steps labels best =
      let turns = route-turns name second steps labels in
      let told = best-turn (Route name second steps labels) (sought_by airport state line) refl (sym (ap (map (λ t. t.told)) turns) ∙ best.all_told) (subst (All (λ t. IsBestTold t.sought t.told)) turns best.best) in
      (told.0, told.1, told.2.0, told.2.1)

  pub best-none : (labels : List LabelRow) → TellsBest airport state line (NoRoute labels) → (s : Sought) × (sought_by airport state line ≡ Some s) × ((steps : List Step) → IsWalkFor s steps → ⊥)
  best-none labels best =
      let turns = no_route-turns labels in
      best-turn (NoRoute labels) (sought_by airport state line) refl (sym (ap (map (λ t. t.told)) turns) ∙ best.all_told) (subst (All (λ t. IsBestTold t.sought t.told)) turns best.best)

-- ---- the first rule that is broken is one

rank-one : (a b : Rule) → rank_of a ≡ rank_of b → a ≡ b
rank-one rule.Reply rule.Reply e = refl
rank-one rule.Walk rule.Walk e = refl
rank-one rule.Rows rule.Rows e = refl
rank-one rule.Start rule.Start e = refl
rank-one rule.Step rule.Step e = refl
rank-one rule.Target rule.Target e = refl
rank-one rule.Reply rule.Walk e = absurd (omega (arith, e))
rank-one rule.Reply rule.Rows e = absurd (omega (arith, e))
rank-one rule.Reply rule.Start e = absurd (omega (arith, e))
rank-one rule.Reply rule.Step e = absurd (omega (arith, e))
rank-one rule.Reply rule.Target e = absurd (omega (arith, e))
rank-one rule.Walk rule.Reply e = absurd (omega (arith, e))
rank-one rule.Walk rule.Rows e = absurd (omega (arith, e))
rank-one rule.Walk rule.Start e = absurd (omega (arith, e))
rank-one rule.Walk rule.Step e = absurd (omega (arith, e))
rank-one rule.Walk rule.Target e = absurd (omega (arith, e))
rank-one rule.Rows rule.Reply e = absurd (omega (arith, e))
rank-one rule.Rows rule.Walk e = absurd (omega (arith, e))
rank-one rule.Rows rule.Start e = absurd (omega (arith, e))
rank-one rule.Rows rule.Step e = absurd (omega (arith, e))
rank-one rule.Rows rule.Target e = absurd (omega (arith, e))
rank-one rule.Start rule.Reply e = absurd (omega (arith, e))
rank-one rule.Start rule.Walk e = absurd (omega (arith, e))
rank-one rule.Start rule.Rows e = absurd (omega (arith, e))
rank-one rule.Start rule.Step e = absurd (omega (arith, e))
rank-one rule.Start rule.Target e = absurd (omega (arith, e))
rank-one rule.Step rule.Reply e = absurd (omega (arith, e))
rank-one rule.Step rule.Walk e = absurd (omega (arith, e))
rank-one rule.Step rule.Rows e = absurd (omega (arith, e))
rank-one rule.Step rule.Start e = absurd (omega (arith, e))
rank-one rule.Step rule.Target e = absurd (omega (arith, e))
rank-one rule.Target rule.Reply e = absurd (omega (arith, e))
rank-one rule.Target rule.Walk e = absurd (omega (arith, e))
rank-one rule.Target rule.Rows e = absurd (omega (arith, e))
rank-one rule.Target rule.Start e = absurd (omega (arith, e))
rank-one rule.Target rule.Step e = absurd (omega (arith, e))

first_of-one : (IsKept : Rule → Type 0) (a b : Rule) → IsFirstOf IsKept (Some a) → IsFirstOf IsKept (Some b) → a ≡ b
first_of-one IsKept a b first second =
    elim (cases_lt (rank_of a) (rank_of b)) [
      | inl sooner ↦ absurd (first.0 (second.1 a sooner))
      | inr later ↦ elim (cases_lt (rank_of b) (rank_of a)) [
        | inl sooner ↦ absurd (second.0 (first.1 b sooner))
        | inr same ↦ rank-one a b (omega (arith, later, same))
      ]
    ]

breaks-one : (turns : List Turn) (a b : Rule) → BreaksFirst turns a → BreaksFirst turns b → a ≡ b
breaks-one [] a b first second = absurd first
breaks-one (turn ∷ later) a b (inl first) (inl second) = first_of-one (KeepsTurn turn) a b first second
breaks-one (turn ∷ later) a b (inl first) (inr second) = absurd (first.0 (second.0 a))
breaks-one (turn ∷ later) a b (inr first) (inl second) = absurd (second.0 (first.0 b))
breaks-one (turn ∷ later) a b (inr first) (inr second) = breaks-one later a b first.1 second.1

-- turns that keep a rule don't break it first
kept-unbroken : (turns : List Turn) (r : Rule) → All (λ turn. KeepsTurn turn r) turns → BreaksFirst turns r → ⊥
kept-unbroken [] r kept breaks = breaks
kept-unbroken (turn ∷ later) r kept (inl first) = first.0 (All-head (λ t. KeepsTurn t r) turn later kept)
kept-unbroken (turn ∷ later) r kept (inr breaks) = kept-unbroken later r (All-tail (λ t. KeepsTurn t r) turn later kept) breaks.1

module _ (airport : Airport) (state : State) (line : List ℕ) (block : Block) where
  -- reply alone, or that of the turns
  abbrev by_turns : Rule → Type 0
  by_turns r = KeepsReply airport state line block × BreaksFirst (turns_of airport state line block) r

  split : (r : Rule) → IsFirstBroken airport state line block r → ((r ≡ rule.Reply) × (KeepsReply airport state line block → ⊥)) ⊎ by_turns r
  split rule.Reply broken = inl (refl, broken)
  split rule.Walk broken = inr broken
  split rule.Rows broken = inr broken
  split rule.Start broken = inr broken
  split rule.Step broken = inr broken
  split rule.Target broken = inr broken

  pub first_broken-one : (a b : Rule) → IsFirstBroken airport state line block a → IsFirstBroken airport state line block b → a ≡ b
  first_broken-one a b first second = go (split a first) (split b second) where
    go : ((a ≡ rule.Reply) × (KeepsReply airport state line block → ⊥)) ⊎ by_turns a → ((b ≡ rule.Reply) × (KeepsReply airport state line block → ⊥)) ⊎ by_turns b → a ≡ b
    go (inl one) (inl two) = subst (λ r. r ≡ b) (sym one.0) (sym two.0)
    go (inl one) (inr two) = absurd (one.1 two.0)
    go (inr one) (inl two) = absurd (two.1 one.0)
    go (inr one) (inr two) = breaks-one (turns_of airport state line block) a b one.1 two.1

  -- a block that passes breaks no rule
  pub passed-unbroken : (after : State) → IsPassed airport state line block after → (r : Rule) → IsFirstBroken airport state line block r → ⊥
  passed-unbroken after passed rule.Reply broken = broken (passed.keeps rule.Reply)
  passed-unbroken after passed rule.Walk broken = kept-unbroken (turns_of airport state line block) rule.Walk (passed.keeps rule.Walk) broken.1
  passed-unbroken after passed rule.Rows broken = kept-unbroken (turns_of airport state line block) rule.Rows (passed.keeps rule.Rows) broken.1
  passed-unbroken after passed rule.Start broken = kept-unbroken (turns_of airport state line block) rule.Start (passed.keeps rule.Start) broken.1
  passed-unbroken after passed rule.Step broken = kept-unbroken (turns_of airport state line block) rule.Step (passed.keeps rule.Step) broken.1
  passed-unbroken after passed rule.Target broken = kept-unbroken (turns_of airport state line block) rule.Target (passed.keeps rule.Target) broken.1
