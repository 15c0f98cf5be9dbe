-- How a block is judged as the answer to a command, from what was found out about it.
use Rattle.std.proofs.Common.{◌≡◌, ◌∙◌, ℕ, Bool, true, false, List, [], ◌∷◌, Option, Some, None, inl, refl, sym, subst, arith}
use Rattle.std.specs.Prelude.{All, Result, Ok, Err, bytes_eq, flat_map}
use Rattle.std.specs.Cmp.Lexicographic.{bytes_decides}
use Rattle.std.proofs.lemmas.List.Elements.{All-cons, All-nil}
use Rattle.taxi_base.specs.Airport.{Airport}
use Rattle.taxi_base.specs.State.{State}
use Rattle.taxi_text.specs.declared.command.Command.{Command}
use Rattle.taxi_text.specs.declared.command.Command.TheVariants as command
use Rattle.replies.specs.declared.block.Block.{Block}
use Rattle.replies.specs.declared.block.Block.TheVariants.{Refused, Filed, Cancelled, Route, NoRoute, Windows, Occupancy, Timetable, Batch, Late}
use Rattle.replies.specs.declared.rule.Rule.{Rule}
use Rattle.replies.specs.declared.rule.Rule.TheVariants as rule
use Rattle.replies.specs.Refusals.{first_refusal}
use Rattle.replies.specs.CarriedOut.{IsCarriedOut}
use Rattle.replies.specs.Sought.{Sought, sought_of}
use Rattle.replies.specs.declared.entries.Entry.{Entry}
use Rattle.replies.specs.declared.entries.Entry.TheVariants as entry
use Rattle.replies.specs.Turns.{Turn, after_told, tellings_of, in_turns, begins_for, turns_for, sought_for}
use Rattle.replies.specs.Passes.{IsFormOf, IsAsAskedAlone, IsAsAsked, KeepsSought, KeepsTurn, IsFirstOf, BreaksFirst}
use Rattle.replies.proofs.TurnLaws.{IsAlone, asked-alone}
use Rattle.transcripts.specs.declared.refused.CheckRefused.{CheckRefused}
use Rattle.transcripts.specs.declared.refused.CheckRefused.TheVariants.{Wrong, Memory}
use Rattle.certificate_check.specs.Judged.{passed_if, answer_of, IsAnsweredBy, KeepsTold, IsToldOf, IsDueForm, KeepsFor, BreaksFor, IsAfterFor, IsPlain, IsJudged}

-- ---- what is answered

pub form-ok : (kept : Bool) (done : Unit) → passed_if kept ≡ Ok done → kept ≡ true
form-ok true done e = refl
form-ok false done e = absurd (cc e)

-- the same where names are compared
pub name-ok : (kept : Bool) (a b : List ℕ) → kept ≡ bytes_eq a b → (done : Unit) → passed_if kept ≡ Ok done → a ≡ b
name-ok kept a b is done e = (bytes_decides a b).0 (sym is ∙ form-ok kept done e)

-- no rule is broken
pub answer-ok : (broken : Option Rule) (done : Unit) → answer_of broken ≡ Ok done → broken ≡ None
answer-ok None done e = refl
answer-ok (Some rule) done e = absurd (cc e)

-- what is answered to the first rule that is broken
pub answered-by : (IsKept : Rule → Type 0) (broken : Option Rule) (r : Result Unit CheckRefused) → answer_of broken ≡ r → IsFirstOf IsKept broken → IsAnsweredBy IsKept r
answered-by IsKept broken r is first = subst (IsAnsweredBy IsKept) is (own broken first) where
  own : (broken : Option Rule) → IsFirstOf IsKept broken → IsAnsweredBy IsKept (answer_of broken)
  own None first = first
  own (Some broken) first = first

-- ---- what is told of a search

module _ (s : Sought) (block : Block) where
  told-kept : IsFormOf s block → (r : Rule) → KeepsSought r s block → KeepsTold s block r
  told-kept form rule.Reply h = form
  told-kept form rule.Walk h = h
  told-kept form rule.Rows h = h
  told-kept form rule.Start h = h
  told-kept form rule.Step h = h
  told-kept form rule.Target h = h

  told-broken : (r : Rule) → (KeepsSought r s block → ⊥) → KeepsTold s block r → ⊥
  told-broken rule.Reply fails = absurd (fails tt)
  told-broken rule.Walk fails = fails
  told-broken rule.Rows fails = fails
  told-broken rule.Start fails = fails
  told-broken rule.Step fails = fails
  told-broken rule.Target fails = fails

  pub kept-told : (r : Rule) → KeepsTold s block r → KeepsSought r s block
  kept-told rule.Reply h = tt
  kept-told rule.Walk h = h
  kept-told rule.Rows h = h
  kept-told rule.Start h = h
  kept-told rule.Step h = h
  kept-told rule.Target h = h

  -- the rules after the first decide
  pub told-of : IsFormOf s block → (broken : Option Rule) → IsFirstOf (λ r. KeepsSought r s block) broken → IsFirstOf (KeepsTold s block) broken
  told-of form None all = λ r. told-kept form r (all r)
  told-of form (Some broken) first = (told-broken broken first.0, λ r low. told-kept form r (first.1 r low))

  -- what is found after the form is told, where the state stays, and is the one that is told
  pub told-found : IsFormOf s block → (old new : State) (r : Result Unit CheckRefused) → IsAnsweredBy (λ r. KeepsSought r s block) r → new ≡ old → ((done : Unit) → r ≡ Ok done → old ≡ after_told s block) → IsToldOf s block old r new
  told-found form old new (Ok done) found same left = (told-of form None found, same ∙ left done refl)
  told-found form old new (Err (Wrong broken)) found same left = (told-of form (Some broken) found, same)
  told-found form old new (Err Memory) found same left = same

  -- a route that breaks no rule is in force
  pub told-passed : IsFormOf s block → IsFirstOf (λ r. KeepsSought r s block) None → (old new : State) → new ≡ after_told s block → IsToldOf s block old (Ok tt) new
  told-passed form all old new is = (told-of form None all, is)

-- ---- commands that seek no walk

plain-alone : (c : Command) → IsPlain c → IsAlone c
plain-alone (command.Batch requests) plain = absurd plain
plain-alone (command.Late name time until) plain = absurd plain
plain-alone c plain = tt

plain-for : (airport : Airport) (before : State) (c : Command) → IsPlain c → (name : List ℕ) (now : State) → sought_for airport before c name now ≡ None
plain-for airport before (command.Batch requests) plain name now = absurd plain
plain-for airport before (command.Late flight time until) plain name now = absurd plain
plain-for airport before c plain name now = refl

module _ (airport : Airport) (state : State) where
  plain-sought : (c : Command) → IsPlain c → sought_of airport state c ≡ None
  plain-sought (command.Arrival asked) plain = absurd plain
  plain-sought (command.Departure asked) plain = absurd plain
  plain-sought (command.Reroute name time) plain = absurd plain
  plain-sought (command.Divert name time node) plain = absurd plain
  plain-sought (command.ArrivalAny asked) plain = absurd plain
  plain-sought (command.DepartureAny asked) plain = absurd plain
  plain-sought (command.Batch requests) plain = absurd plain
  plain-sought (command.Late name time until) plain = absurd plain
  plain-sought c plain = refl

  -- ---- commands of one request

  sought-alone : (c : Command) (s : Sought) → sought_of airport state c ≡ Some s → IsAlone c
  sought-alone (command.Batch requests) s sought = absurd (cc sought)
  sought-alone (command.Late name time until) s sought = absurd (cc sought)
  sought-alone c s sought = tt

  alone-asked : (c : Command) (block : Block) → IsAlone c → IsAsAsked airport state c block → IsAsAskedAlone airport state c block
  alone-asked (command.Batch requests) block alone asked = absurd alone
  alone-asked (command.Late name time until) block alone asked = absurd alone
  alone-asked c block alone asked = asked

  -- ---- where searches begin

  begins-alone : (c : Command) → IsAlone c → (block : Block) → begins_for airport state c block ≡ state
  begins-alone (command.Late name time until) alone block = absurd alone
  begins-alone c alone block = refl

module _ (airport : Airport) (state : State) (command : Command) (block : Block) where
  module _ (none : first_refusal airport state command ≡ None) where
    -- ---- a command that seeks no walk

    module _ (plain : IsPlain command) where
      no-tellings : (now : State) (entries : List (List ℕ × Entry)) → in_turns now (flat_map (tellings_of airport state command) entries) ≡ []
      no-tellings now [] = refl
      no-tellings now ((name, entry.Route second steps labels) ∷ entries) = rw (plain-for airport state command plain name now) refl
      no-tellings now ((name, entry.NoRoute labels) ∷ entries) = rw (plain-for airport state command plain name now) refl
      no-tellings now ((name, entry.Dropped) ∷ entries) = no-tellings now entries

      no-turns : (b : Block) → turns_for airport state command b ≡ []
      no-turns (Route name second steps labels) = rw (plain-sought airport (begins_for airport state command (Route name second steps labels)) command plain) refl
      no-turns (NoRoute labels) = rw (plain-sought airport (begins_for airport state command (NoRoute labels)) command plain) refl
      no-turns (Refused why) = refl
      no-turns (Filed name start end) = refl
      no-turns (Cancelled name) = refl
      no-turns (Windows segment windows) = refl
      no-turns (Occupancy segment rows) = refl
      no-turns (Timetable rows) = refl
      no-turns (Batch total entries) = no-tellings (begins_for airport state command (Batch total entries)) entries
      no-turns (Late name entries) = no-tellings (begins_for airport state command (Late name entries)) entries

      in-none : (r : Rule) → All (λ turn. KeepsTurn turn r) (turns_for airport state command block)
      in-none r = subst (All (λ turn. KeepsTurn turn r)) (sym (no-turns block)) (All-nil _)

      pub done-judged : (after : State) → IsCarriedOut airport state command block after → IsAfterFor airport state command block after → IsJudged airport command block state (Ok tt) after
      done-judged after done left = (λ r. kept r, left) where
        kept : (r : Rule) → KeepsFor airport state command block r
        kept rule.Reply = rw none (asked-alone airport state command block (plain-alone command plain) (rw (plain-sought airport state command plain) (after, done)))
        kept rule.Walk = in-none rule.Walk
        kept rule.Rows = in-none rule.Rows
        kept rule.Start = in-none rule.Start
        kept rule.Step = in-none rule.Step
        kept rule.Target = in-none rule.Target

      pub undone-judged : ((after : State) → IsCarriedOut airport state command block after → ⊥) → IsJudged airport command block state (Err (Wrong rule.Reply)) state
      undone-judged never = (go, refl) where
        go : IsDueForm airport state command block → ⊥
        go kept =
            let asked = alone-asked airport state command block (plain-alone command plain) (rw none at kept) in
            let done = rw (plain-sought airport state command plain) at asked in
            never done.0 done.1

    -- ---- a command that seeks a walk

    module _ (s : Sought) (sought : sought_of airport state command ≡ Some s) where
      abbrev turn : Turn
      turn = record { sought = s; told = block }

      begins : (b : Block) → begins_for airport state command b ≡ state
      begins b = begins-alone airport state command (sought-alone airport state command s sought) b

      -- what is of the form tells of one search
      one-turn : IsFormOf s block → turns_for airport state command block ≡ turn ∷ []
      one-turn form = go block form where
        go : (b : Block) → IsFormOf s b → turns_for airport state command b ≡ record { sought = s; told = b } ∷ []
        go (Route name second steps labels) form = rw (begins (Route name second steps labels), sought) refl
        go (NoRoute labels) form = rw (begins (NoRoute labels), sought) refl
        go (Refused why) form = absurd form
        go (Filed name start end) form = absurd form
        go (Cancelled name) form = absurd form
        go (Windows segment windows) form = absurd form
        go (Occupancy segment rows) form = absurd form
        go (Timetable rows) form = absurd form
        go (Batch total entries) form = absurd form
        go (Late name entries) form = absurd form

      in-one : IsFormOf s block → (r : Rule) → KeepsTurn turn r → All (λ t. KeepsTurn t r) (turns_for airport state command block)
      in-one form r h = subst (All (λ t. KeepsTurn t r)) (sym (one-turn form)) (All-cons (λ t. KeepsTurn t r) turn [] h (All-nil _))

      due : IsFormOf s block → IsDueForm airport state command block
      due form = rw none (asked-alone airport state command block (sought-alone airport state command s sought) (rw sought form))

      form-due : IsDueForm airport state command block → IsFormOf s block
      form-due kept = rw sought at (alone-asked airport state command block (sought-alone airport state command s sought) (rw none at kept))

      kept-for : ((r : Rule) → KeepsTold s block r) → (r : Rule) → KeepsFor airport state command block r
      kept-for all rule.Reply = due (all rule.Reply)
      kept-for all rule.Walk = in-one (all rule.Reply) rule.Walk (all rule.Walk)
      kept-for all rule.Rows = in-one (all rule.Reply) rule.Rows (all rule.Rows)
      kept-for all rule.Start = in-one (all rule.Reply) rule.Start (all rule.Start)
      kept-for all rule.Step = in-one (all rule.Reply) rule.Step (all rule.Step)
      kept-for all rule.Target = in-one (all rule.Reply) rule.Target (all rule.Target)

      breaks : IsFormOf s block → (r : Rule) → IsFirstOf (KeepsTurn turn) (Some r) → BreaksFirst (turns_for airport state command block) r
      breaks form r first = subst (λ turns. BreaksFirst turns r) (sym (one-turn form)) (inl first)

      broken-for : (r : Rule) → IsFirstOf (KeepsTold s block) (Some r) → BreaksFor airport state command block r
      broken-for rule.Reply first = λ kept. first.0 (form-due kept)
      broken-for rule.Walk first =
          let form = first.1 rule.Reply (omega arith) in
          (due form, breaks form rule.Walk (first.0, λ other low. kept-told s block other (first.1 other low)))
      broken-for rule.Rows first =
          let form = first.1 rule.Reply (omega arith) in
          (due form, breaks form rule.Rows (first.0, λ other low. kept-told s block other (first.1 other low)))
      broken-for rule.Start first =
          let form = first.1 rule.Reply (omega arith) in
          (due form, breaks form rule.Start (first.0, λ other low. kept-told s block other (first.1 other low)))
      broken-for rule.Step first =
          let form = first.1 rule.Reply (omega arith) in
          (due form, breaks form rule.Step (first.0, λ other low. kept-told s block other (first.1 other low)))
      broken-for rule.Target first =
          let form = first.1 rule.Reply (omega arith) in
          (due form, breaks form rule.Target (first.0, λ other low. kept-told s block other (first.1 other low)))

      after-for : (b : Block) (after : State) → IsFormOf s b → after ≡ after_told s b → IsAfterFor airport state command b after
      after-for (Route name second steps labels) after form left = rw (begins (Route name second steps labels), sought) left
      after-for (NoRoute labels) after form left = rw (begins (NoRoute labels), sought) left
      after-for (Refused why) after form left = absurd form
      after-for (Filed name start end) after form left = absurd form
      after-for (Cancelled name) after form left = absurd form
      after-for (Windows segment windows) after form left = absurd form
      after-for (Occupancy segment rows) after form left = absurd form
      after-for (Timetable rows) after form left = absurd form
      after-for (Batch total entries) after form left = absurd form
      after-for (Late name entries) after form left = absurd form

      pub told-judged : (r : Result Unit CheckRefused) (after : State) → IsToldOf s block state r after → IsJudged airport command block state r after
      told-judged (Ok done) after told = (kept-for told.0, after-for block after (told.0 rule.Reply) told.1)
      told-judged (Err (Wrong broken)) after told = (broken-for broken told.0, told.1)
      told-judged (Err Memory) after told = told
