-- One more entry of a late flight's block is checked: what is found then of all of them.
use Rattle.std.proofs.Common.{◌≡◌, ◌∙◌, ℕ, List, [], ◌∷◌, Option, Some, None, IsFalse, refl, ap, subst}
use Rattle.std.specs.Prelude.{Result, Ok, Err, MatchOption}
use Rattle.taxi_base.specs.declared.answers.Flight.{Flight}
use Rattle.taxi_base.specs.Airport.{Airport}
use Rattle.taxi_base.specs.State.{State, flight_named}
use Rattle.taxi_base.specs.Late.{Delay}
use Rattle.replies.specs.declared.entries.Entry.{Entry}
use Rattle.replies.specs.declared.entries.Entry.TheVariants as entry
use Rattle.replies.specs.declared.block.Block.{Block}
use Rattle.replies.specs.declared.block.Block.TheVariants.{Route, NoRoute}
use Rattle.replies.specs.Refusals.{is_filed}
use Rattle.replies.specs.Repairs.{sought_at_turn}
use Rattle.replies.specs.Sought.{Sought}
use Rattle.replies.specs.Turns.{told_of, after_turns}
use Rattle.transcripts.specs.declared.refused.CheckRefused.{CheckRefused}
use Rattle.transcripts.specs.declared.refused.CheckRefused.TheVariants.{Wrong, Memory}
use Rattle.certificate_check.specs.Entries.{AreChecked}
use Rattle.certificate_check.specs.Late.{turn_in, sought_in, IsTurnChecked, IsEntryChecked, turns_late}
use Rattle.certificate_check.proofs.EntryTurns.{kept-on, breaks-here, after-on}

module _ (airport : Airport) (before : State) (delay : Delay) where
  -- of an entry that tells of a search
  pub route-checked : (name : List ℕ) (x : Flight) (now : State) → flight_named name before.flights ≡ Some x → IsFalse (is_filed x.request) → (block : Block) (r : Result Unit CheckRefused) (new : State)
      → IsTurnChecked (sought_in airport now (turn_in airport delay x)) block r new → MatchOption (sought_at_turn airport delay before name now) ⊥ (λ s. IsTurnChecked s block r new)
  route-checked name x now found routed block r new checked = rw (found, routed) checked

  module _ (start now : State) (all rest : List (List ℕ × Entry)) (name : List ℕ) (e : Entry) where
    abbrev pub SoFar : Type 0
    SoFar = (r : Result Unit CheckRefused) → AreChecked (turns_late airport before delay now ((name, e) ∷ rest)) r → AreChecked (turns_late airport before delay start all) r

    -- a search that is there
    of-search : (r : Result Unit CheckRefused) (new : State) (block : Block) → MatchOption (sought_at_turn airport delay before name now) ⊥ (λ s. IsTurnChecked s block r new)
        → (s : Sought) × (sought_at_turn airport delay before name now ≡ Some s) × IsTurnChecked s block r new
    of-search r new block checked = go (sought_at_turn airport delay before name now) refl checked where
      go : (o : Option Sought) → sought_at_turn airport delay before name now ≡ o → MatchOption o ⊥ (λ s. IsTurnChecked s block r new)
          → (s : Sought) × (sought_at_turn airport delay before name now ≡ Some s) × IsTurnChecked s block r new
      go None none checked = absurd checked
      go (Some s) is checked = (s, is, checked)

    module _ (new : State) where
      searched-goes : (block : Block) → told_of (name, e) ≡ block ∷ [] → MatchOption (sought_at_turn airport delay before name now) ⊥ (λ s. IsTurnChecked s block (Ok tt) new)
          → (r : Result Unit CheckRefused) → AreChecked (turns_late airport before delay new rest) r → AreChecked (turns_late airport before delay now ((name, e) ∷ rest)) r
      searched-goes block is checked r later =
          let found = of-search (Ok tt) new block checked in
          kept-on (sought_at_turn airport delay before) now name e rest found.0 found.1 block is found.2.0 r
          (subst (λ (s : State). AreChecked (turns_late airport before delay s rest) r) found.2.1 later)

      searched-after : (block : Block) → told_of (name, e) ≡ block ∷ [] → MatchOption (sought_at_turn airport delay before name now) ⊥ (λ s. IsTurnChecked s block (Ok tt) new)
          → after_turns new (turns_late airport before delay new rest) ≡ after_turns now (turns_late airport before delay now ((name, e) ∷ rest))
      searched-after block is checked =
          let found = of-search (Ok tt) new block checked in
          ap (λ (s : State). after_turns s (turns_late airport before delay s rest)) found.2.1 ∙ after-on (sought_at_turn airport delay before) now name e rest found.0 found.1 block is

      searched-stops : (block : Block) → told_of (name, e) ≡ block ∷ [] → (why : CheckRefused) → MatchOption (sought_at_turn airport delay before name now) ⊥ (λ s. IsTurnChecked s block (Err why) new)
          → AreChecked (turns_late airport before delay now ((name, e) ∷ rest)) (Err why)
      searched-stops block is (Wrong broken) checked =
          let found = of-search (Err (Wrong broken)) new block checked in
          breaks-here (sought_at_turn airport delay before) now name e rest found.0 found.1 block is broken found.2
      searched-stops block is Memory checked = tt

  -- it passes
  pub goes-checked : (start now : State) (all rest : List (List ℕ × Entry)) (name : List ℕ) (e : Entry) (new : State) → IsEntryChecked airport before delay (name, e) now (Ok tt) new
      → SoFar start now all rest name e → (r : Result Unit CheckRefused) → AreChecked (turns_late airport before delay new rest) r → AreChecked (turns_late airport before delay start all) r
  goes-checked start now all rest name (entry.Route second steps labels) new checked so_far r later =
      so_far r (searched-goes start now all rest name (entry.Route second steps labels) new (Route name second steps labels) refl checked r later)
  goes-checked start now all rest name (entry.NoRoute labels) new checked so_far r later =
      so_far r (searched-goes start now all rest name (entry.NoRoute labels) new (NoRoute labels) refl checked r later)
  goes-checked start now all rest name entry.Dropped new checked so_far r later =
      so_far r (subst (λ (s : State). AreChecked (turns_late airport before delay s rest) r) checked.1 later)

  pub goes-after : (start now : State) (all rest : List (List ℕ × Entry)) (name : List ℕ) (e : Entry) (new : State) → IsEntryChecked airport before delay (name, e) now (Ok tt) new
      → after_turns now (turns_late airport before delay now ((name, e) ∷ rest)) ≡ after_turns start (turns_late airport before delay start all)
      → after_turns new (turns_late airport before delay new rest) ≡ after_turns start (turns_late airport before delay start all)
  goes-after start now all rest name (entry.Route second steps labels) new checked so_far =
      searched-after start now all rest name (entry.Route second steps labels) new (Route name second steps labels) refl checked ∙ so_far
  goes-after start now all rest name (entry.NoRoute labels) new checked so_far =
      searched-after start now all rest name (entry.NoRoute labels) new (NoRoute labels) refl checked ∙ so_far
  goes-after start now all rest name entry.Dropped new checked so_far = ap (λ (s : State). after_turns s (turns_late airport before delay s rest)) checked.1 ∙ so_far

  -- it does not pass
  pub stops-checked : (start now : State) (all rest : List (List ℕ × Entry)) (name : List ℕ) (e : Entry) (new : State) (why : CheckRefused) → IsEntryChecked airport before delay (name, e) now (Err why) new
      → SoFar start now all rest name e → AreChecked (turns_late airport before delay start all) (Err why)
  stops-checked start now all rest name (entry.Route second steps labels) new why checked so_far =
      so_far (Err why) (searched-stops start now all rest name (entry.Route second steps labels) new (Route name second steps labels) refl why checked)
  stops-checked start now all rest name (entry.NoRoute labels) new why checked so_far =
      so_far (Err why) (searched-stops start now all rest name (entry.NoRoute labels) new (NoRoute labels) refl why checked)
  stops-checked start now all rest name entry.Dropped new why checked so_far = absurd (cc checked.0)
