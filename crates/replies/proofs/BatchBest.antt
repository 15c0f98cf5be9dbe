-- A batch that passes tells the best walk of each search, or that there is none, and leaves the state sound.
use Rattle.std.proofs.Common.{◌≡◌, ◌∙◌, ℕ, List, [], ◌∷◌, map, Some, None, sym, ap, subst}
use Rattle.std.specs.Prelude.{All, Contains}
use Rattle.std.proofs.lemmas.List.Elements.{All-head, All-tail, All-contains_itself}
use Rattle.std.proofs.lemmas.List.Sorted.{IsPermutation-sym, All-permutation}
use Rattle.taxi_base.specs.Airport.{Airport, IsWellFormed}
use Rattle.taxi_base.specs.State.{State, IsSound}
use Rattle.taxi_base.proofs.NamedLists.{find-named}
use Rattle.taxi_text.specs.declared.command.BatchRequest.{BatchRequest}
use Rattle.taxi_text.specs.declared.command.Command.{Command}
use Rattle.taxi_text.specs.declared.command.Command.TheVariants as command
use Rattle.taxi_text.specs.Commands.{command_of}
use Rattle.replies.specs.declared.block.Block.TheVariants.{Batch}
use Rattle.replies.specs.declared.entries.Entry.{Entry}
use Rattle.replies.specs.declared.entries.Entry.TheVariants as entry
use Rattle.replies.specs.declared.rule.Rule.{Rule}
use Rattle.replies.specs.declared.rule.Rule.TheVariants as rule
use Rattle.replies.specs.declared.wish.Wish.{Wish}
use Rattle.replies.specs.Printable.{IsTold}
use Rattle.replies.specs.Batches.{wishes_of, names_of, TellsBatch}
use Rattle.replies.specs.CarriedOut.{routed_flight}
use Rattle.replies.specs.Refusals.{first_refusal}
use Rattle.replies.specs.Sought.{Sought, sought_wish}
use Rattle.replies.specs.Turns.{Turn, after_told, turns_of, after_turns}
use Rattle.replies.specs.Passes.{KeepsSought, KeepsTurn, IsPassed, IsBestTold, TellsBest}
use Rattle.replies.proofs.NewNames.{AreNew, named-there, new-permutation, new-first, new-rest, new-with_flight}
use Rattle.replies.proofs.BatchNames.{batch-new}
use Rattle.replies.proofs.RightSearches.{new-right, route-best, no_route-best}
use Rattle.replies.proofs.TurnLaws.{begins-before, keeps-turns}
use Rattle.replies.proofs.EntryTurns.{block_of, turns_from}
use Rattle.replies.proofs.EntryPasses.{AreBest, none-best, cons-best, first-keeps, others-keep, cons-after}
use Rattle.replies.proofs.BatchTurns.{wish-sought, batch-turns}

module _ (airport : Airport) (well : IsWellFormed airport) where
  -- ---- one entry

  -- what is told of it is best, the state after it is sound, and the other names stay new
  pub record IsEntryBest (state : State) (wish : Wish) (told : List ℕ × Entry) (names : List (List ℕ)) : Type 0 where
    pub best : IsBestTold (sought_wish airport state wish) (block_of told)
    pub stays_sound : IsSound airport (after_told (sought_wish airport state wish) (block_of told))
    pub still_new : AreNew (after_told (sought_wish airport state wish) (block_of told)) names

  pub entry-best : (state : State) (wish : Wish) (told : List ℕ × Entry) (names : List (List ℕ)) → IsSound airport state → AreNew state (wish.name ∷ names) → IsTold told
      → ((r : Rule) → KeepsSought r (sought_wish airport state wish) (block_of told)) → IsEntryBest state wish told names
  entry-best state wish (name, entry.Route second steps labels) names sound new is rules =
      let right = new-right airport state well sound wish.name wish.class wish.request (new-first state wish.name names new) in
      let walk = rules rule.Walk in
      record {
        best = route-best name second steps labels (sought_wish airport state wish) right.searched rules;
        stays_sound = right.stays_sound steps walk.0;
        still_new = new-with_flight (routed_flight wish.name wish.class wish.request steps) state names new;
      }
  entry-best state wish (name, entry.NoRoute labels) names sound new is rules =
      let right = new-right airport state well sound wish.name wish.class wish.request (new-first state wish.name names new) in
      record { best = no_route-best labels (sought_wish airport state wish) right.searched rules; stays_sound = sound; still_new = new-rest state wish.name names new }
  entry-best state wish (name, entry.Dropped) names sound new is rules = absurd is

  -- ---- all of them

  module _ (before : State) (requests : List BatchRequest) (wishes : List Wish) (known : wishes_of airport requests ≡ Some wishes) where
    abbrev batch : Command
    batch = command.Batch requests

    abbrev turns : State → List (List ℕ × Entry) → List Turn
    turns = turns_from airport before batch

    abbrev names : List (List ℕ × Entry) → List (List ℕ)
    names entries = map (λ told. told.0) entries

    pub entries-best : (state : State) (entries : List (List ℕ × Entry)) → IsSound airport state → AreNew state (names entries) → All IsTold entries → All (Contains (names_of wishes)) (names entries)
        → ((r : Rule) → All (λ turn. KeepsTurn turn r) (turns state entries)) → AreBest airport before batch state entries × IsSound airport (after_turns state (turns state entries))
    entries-best state [] sound new told there keeps = (none-best airport before batch state, sound)
    entries-best state (told ∷ entries) sound new are there keeps =
        let found = named-there (λ (w : Wish). w.name) wishes told.0 (All-head (Contains (names_of wishes)) told.0 (names entries) there) in
        let wish : Wish = found.0 in
        let s : Sought = sought_wish airport state wish in
        let same : wish.name ≡ told.0 = find-named (λ (w : Wish). w.name) told.0 wishes wish found.1 in
        let is = All-head IsTold told entries are in
        let sought = wish-sought airport before requests wishes known state told.0 wish found.1 in
        let here = entry-best state wish told (names entries) sound (subst (λ (n : List ℕ). AreNew state (n ∷ names entries)) (sym same) new) is
        (first-keeps airport before batch state told entries s is sought keeps) in
        let rest = entries-best (after_told s (block_of told)) entries here.stays_sound here.still_new (All-tail IsTold told entries are) (All-tail (Contains (names_of wishes)) told.0 (names entries) there)
        (others-keep airport before batch state told entries s is sought keeps) in (
          cons-best airport before batch state told entries s is sought here.best rest.0,
          subst (IsSound airport) (sym (cons-after airport before batch state told entries s is sought)) rest.1,
        )

  -- ---- the block

  module _ (state : State) (sound : IsSound airport state) (line : List ℕ) (requests : List BatchRequest) (read : command_of line ≡ Some (command.Batch requests)) (none : first_refusal airport state (command.Batch requests) ≡ None) (total : ℕ) (entries : List (List ℕ × Entry)) (tells : TellsBatch airport requests (Batch total entries)) (after : State) (passed : IsPassed airport state line (Batch total entries) after) where
    are : turns_of airport state line (Batch total entries) ≡ turns_from airport state (command.Batch requests) state entries
    are = batch-turns airport state line requests total entries read

    turns-keep : (r : Rule) → All (λ turn. KeepsTurn turn r) (turns_from airport state (command.Batch requests) state entries)
    turns-keep r = subst (All (λ turn. KeepsTurn turn r)) are (keeps-turns airport state line (Batch total entries) passed.keeps r)

    all-best : AreBest airport state (command.Batch requests) state entries × IsSound airport (after_turns state (turns_from airport state (command.Batch requests) state entries))
    all-best =
        let back = IsPermutation-sym (map (λ told. told.0) entries) (names_of tells.0) tells.2 in
        let new = new-permutation state (names_of tells.0) (map (λ told. told.0) entries) back (batch-new airport state requests tells.0 tells.1 none) in
        let there = All-permutation (Contains (names_of tells.0)) (names_of tells.0) (map (λ told. told.0) entries) back (All-contains_itself (names_of tells.0)) in
        entries-best state requests tells.0 tells.1 state entries sound new tells.3 there turns-keep

    pub batch-best : TellsBest airport state line (Batch total entries)
    batch-best = record {
      all_told = ap (map (λ turn. turn.told)) are ∙ all-best.0.all_told;
      best = subst (All (λ turn. IsBestTold turn.sought turn.told)) (sym are) all-best.0.best;
    }

    pub batch-sound : IsSound airport after
    batch-sound = subst (IsSound airport)
        (sym (passed.after_it ∙ ap (λ (s : State). after_turns s (turns_of airport state line (Batch total entries))) (begins-before airport state line (Batch total entries) tt) ∙ ap (after_turns state) are)) all-best.1
