-- The searches of a batch's entries, one after the other.
use Rattle.std.proofs.Common.{◌≡◌, ◌∙◌, ℕ, List, [], ◌∷◌, Some, refl, sym, ap, subst}
use Rattle.std.specs.Prelude.{flat_map, option_map, option_and_then, Result, Ok, Err}
use Rattle.taxi_base.specs.Airport.{Airport}
use Rattle.taxi_base.specs.State.{State}
use Rattle.taxi_text.specs.declared.command.BatchRequest.{BatchRequest}
use Rattle.taxi_text.specs.declared.command.Command.TheVariants as command
use Rattle.replies.specs.declared.entries.Entry.{Entry}
use Rattle.replies.specs.declared.entries.Entry.TheVariants as entry
use Rattle.replies.specs.declared.wish.Wish.{Wish}
use Rattle.replies.specs.declared.block.Block.{Block}
use Rattle.replies.specs.declared.block.Block.TheVariants.{Route, NoRoute, Batch}
use Rattle.replies.specs.declared.rule.Rule.{Rule}
use Rattle.replies.specs.declared.rule.Rule.TheVariants as rule
use Rattle.replies.specs.Batches.{wish_named, wishes_of}
use Rattle.replies.specs.Sought.{Sought, sought_wish}
use Rattle.replies.specs.Turns.{told_of, sought_for, tellings_of, in_turns, turns_for, after_turns}
use Rattle.replies.specs.Passes.{IsFormOf, KeepsSought, IsFirstOf}
use Rattle.transcripts.specs.declared.refused.CheckRefused.{CheckRefused}
use Rattle.transcripts.specs.declared.refused.CheckRefused.TheVariants.{Wrong, Memory}
use Rattle.certificate_check.specs.Judged.{IsToldOf, KeepsTold}
use Rattle.certificate_check.specs.Entries.{tellings_by, AreChecked}
use Rattle.certificate_check.specs.Batch.{sought_named, turns_among}
use Rattle.certificate_check.proofs.JudgedLaws.{kept-told}
use Rattle.certificate_check.proofs.EntryTurns.{one-block, kept-on, breaks-here, after-on}

-- what an entry tells is of the form that is sought for its wish
pub form-told : (airport : Airport) (state : State) (name : List ℕ) (e : Entry) (wish : Wish) (block : Block) → wish.name ≡ name → told_of (name, e) ≡ block ∷ [] → IsFormOf (sought_wish airport state wish) block
form-told airport state name (entry.Route second steps labels) wish block named is = subst (IsFormOf (sought_wish airport state wish)) (one-block is) (sym named)
form-told airport state name (entry.NoRoute labels) wish block named is = subst (IsFormOf (sought_wish airport state wish)) (one-block is) refl
form-told airport state name entry.Dropped wish block named is = absurd (cc is)

module _ (airport : Airport) (wishes : List Wish) where
  module _ (state : State) (name : List ℕ) (e : Entry) (rest : List (List ℕ × Entry)) (wish : Wish) (found : wish_named name wishes ≡ Some wish) (block : Block) (is : told_of (name, e) ≡ block ∷ []) where
    abbrev s : Sought
    s = sought_wish airport state wish

    sought : sought_named airport wishes name state ≡ Some s
    sought = ap (option_map (sought_wish airport state)) found

    -- one that passes, and what is found of the later ones
    pub checked-on : (new : State) → IsToldOf s block state (Ok tt) new → (r : Result Unit CheckRefused) → AreChecked (turns_among airport new wishes rest) r
        → AreChecked (turns_among airport state wishes ((name, e) ∷ rest)) r
    checked-on new told r later =
        kept-on (sought_named airport wishes) state name e rest s sought block is (λ r. kept-told s block r (told.0 r)) r
        (subst (λ (now : State). AreChecked (turns_among airport now wishes rest) r) told.1 later)

    -- one that does not pass
    pub checked-here : (why : CheckRefused) (new : State) → IsToldOf s block state (Err why) new → IsFormOf s block → AreChecked (turns_among airport state wishes ((name, e) ∷ rest)) (Err why)
    checked-here why new told form = go why told where
      breaks : (broken : Rule) → (KeepsSought broken s block → ⊥) → IsFirstOf (KeepsTold s block) (Some broken) → AreChecked (turns_among airport state wishes ((name, e) ∷ rest)) (Err (Wrong broken))
      breaks broken fails first =
          breaks-here (sought_named airport wishes) state name e rest s sought block is broken (fails, λ other low. kept-told s block other (first.1 other low))

      go : (why : CheckRefused) → IsToldOf s block state (Err why) new → AreChecked (turns_among airport state wishes ((name, e) ∷ rest)) (Err why)
      go (Wrong rule.Reply) told = absurd (told.0.0 form)
      go (Wrong rule.Walk) told = breaks rule.Walk told.0.0 told.0
      go (Wrong rule.Rows) told = breaks rule.Rows told.0.0 told.0
      go (Wrong rule.Start) told = breaks rule.Start told.0.0 told.0
      go (Wrong rule.Step) told = breaks rule.Step told.0.0 told.0
      go (Wrong rule.Target) told = breaks rule.Target told.0.0 told.0
      go Memory told = tt

    -- the state afterwards
    pub after-passed : (new : State) → IsToldOf s block state (Ok tt) new
        → after_turns new (turns_among airport new wishes rest) ≡ after_turns state (turns_among airport state wishes ((name, e) ∷ rest))
    after-passed new told =
        ap (λ (now : State). after_turns now (turns_among airport now wishes rest)) told.1 ∙ after-on (sought_named airport wishes) state name e rest s sought block is

  -- ---- the searches of the command

  module _ (requests : List BatchRequest) (known : wishes_of airport requests ≡ Some wishes) where
    sought-same : (before : State) (name : List ℕ) → sought_for airport before (command.Batch requests) name ≡ sought_named airport wishes name
    sought-same before name = λ i state. option_map (sought_wish airport state) (option_and_then (wish_named name) (known i))

    tellings-same : (before : State) (entries : List (List ℕ × Entry)) → flat_map (tellings_of airport before (command.Batch requests)) entries ≡ flat_map (tellings_by (sought_named airport wishes)) entries
    tellings-same before [] = refl
    tellings-same before ((name, entry.Route second steps labels) ∷ entries) = λ i. record { sought_in = sought-same before name i; told = Route name second steps labels } ∷ tellings-same before entries i
    tellings-same before ((name, entry.NoRoute labels) ∷ entries) = λ i. record { sought_in = sought-same before name i; told = NoRoute labels } ∷ tellings-same before entries i
    tellings-same before ((name, entry.Dropped) ∷ entries) = tellings-same before entries

    pub turns-same : (state : State) (total : ℕ) (entries : List (List ℕ × Entry)) → turns_for airport state (command.Batch requests) (Batch total entries) ≡ turns_among airport state wishes entries
    turns-same state total entries = ap (in_turns state) (tellings-same state entries)
