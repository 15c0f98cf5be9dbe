-- A batch that is due passes: it tells of each request, and each of its searches keeps the rules.
use Rattle.std.proofs.Common.{◌≡◌, ◌∙◌, ℕ, List, [], ◌∷◌, Some, None, inr, sym, ap, subst}
use Rattle.std.specs.Prelude.{All, IsPermutation, Contains}
use Rattle.std.proofs.lemmas.List.Elements.{All-head, All-tail, All-weaker, All-contains_itself}
use Rattle.std.proofs.lemmas.List.Sorted.{IsPermutation-sym, IsPermutation-map, All-permutation}
use Rattle.taxi_base.specs.Airport.{Airport, IsWellFormed}
use Rattle.taxi_base.specs.State.{State}
use Rattle.taxi_text.specs.declared.command.BatchRequest.{BatchRequest}
use Rattle.taxi_text.specs.declared.command.Command.TheVariants as command
use Rattle.taxi_text.specs.Commands.{command_of}
use Rattle.replies.specs.declared.block.Block.{Block}
use Rattle.replies.specs.declared.block.Block.TheVariants.{Route, NoRoute, Batch}
use Rattle.replies.specs.declared.entries.Entry.{Entry}
use Rattle.replies.specs.declared.entries.Entry.TheVariants as entry
use Rattle.replies.specs.declared.wish.Wish.{Wish}
use Rattle.replies.specs.Printable.{IsTold}
use Rattle.replies.specs.Batches.{wishes_of, wish_named, names_of, IsServedAs, IsServed, IsBatched, TellsBatch}
use Rattle.replies.specs.Refusals.{first_refusal}
use Rattle.replies.specs.Sought.{sought_wish}
use Rattle.replies.specs.Turns.{turns_of, after_turns}
use Rattle.replies.specs.Passes.{KeepsTurn, IsPassed}
use Rattle.replies.proofs.NewNames.{AreNew, AreDifferent, named-own}
use Rattle.replies.proofs.BatchNames.{batch-new}
use Rattle.replies.proofs.ServedLaws.{served-by, IsServed-told, IsServed-names}
use Rattle.replies.proofs.OrderLaws.{ends-permutation}
use Rattle.replies.proofs.SoughtPasses.{PassesSought, as-passes}
use Rattle.replies.proofs.TurnLaws.{begins-before, keeps-all}
use Rattle.replies.proofs.EntryTurns.{block_of, turns_from}
use Rattle.replies.proofs.EntryPasses.{AreKept, none-kept, cons-kept}
use Rattle.replies.proofs.BatchTurns.{wish-sought, batch-turns}

-- each wish of an order is what its name finds
pub order-known : (wishes order : List Wish) → AreDifferent (names_of wishes) → IsPermutation wishes order → All (λ w. wish_named w.name wishes ≡ Some w) order
order-known wishes order differ same =
    All-permutation (λ w. wish_named w.name wishes ≡ Some w) wishes order same
    (All-weaker (Contains wishes) (λ w. wish_named w.name wishes ≡ Some w) (λ w there. named-own (λ (w : Wish). w.name) wishes differ w there) wishes (All-contains_itself wishes))

module _ (airport : Airport) (well : IsWellFormed airport) where
  -- what is told of one flight that is served keeps the rules for what it seeks
  pub entry-passes : (state : State) (wish : Wish) (told : List ℕ × Entry) (after : State) → IsServedAs airport state wish told after
      → PassesSought (sought_wish airport state wish) (block_of told) after
  entry-passes state wish (name, entry.Route second steps labels) after served = as-passes airport state well wish.name wish.class wish.request (Route name second steps labels) after served.1
  entry-passes state wish (name, entry.NoRoute labels) after served = as-passes airport state well wish.name wish.class wish.request (NoRoute labels) after served.1
  entry-passes state wish (name, entry.Dropped) after served = absurd served

  module _ (before : State) (requests : List BatchRequest) (wishes : List Wish) (known : wishes_of airport requests ≡ Some wishes) where
    abbrev Kept : State → List (List ℕ × Entry) → State → Type 0
    Kept = AreKept airport before (command.Batch requests)

    pub served-keeps : (state : State) (order : List Wish) (entries : List (List ℕ × Entry)) (after : State) → All (λ w. wish_named w.name wishes ≡ Some w) order
        → IsServed airport state order entries after → Kept state entries after
    served-keeps state [] [] after own served = none-kept airport before (command.Batch requests) state after served
    served-keeps state [] (told ∷ entries) after own served = absurd served
    served-keeps state (wish ∷ order) [] after own served = absurd served
    served-keeps state (wish ∷ order) (told ∷ entries) after own served =
        let are = IsServed-told airport state (wish ∷ order) (told ∷ entries) after served in
        let by = served-by airport state wish told served.0 served.1 in
        let named : wish_named told.0 wishes ≡ Some wish =
        subst (λ (n : List ℕ). wish_named n wishes ≡ Some wish) (sym by.named) (All-head (λ w. wish_named w.name wishes ≡ Some w) wish order own) in
        cons-kept airport before (command.Batch requests) state told entries (sought_wish airport state wish) (All-head IsTold told entries are)
        (wish-sought airport before requests wishes known state told.0 wish named) served.0 after (entry-passes state wish told served.0 served.1)
        (served-keeps served.0 order entries after (All-tail (λ w. wish_named w.name wishes ≡ Some w) wish order own) served.2)

  -- ---- the block

  batch-tells : (state : State) (requests : List BatchRequest) (block : Block) (after : State) (done : IsBatched airport state requests block after) → TellsBatch airport requests (Batch done.total done.entries)
  batch-tells state requests block after done =
      let order = done.sequenced.order in
      let same = ends-permutation airport state done.wishes done.wishes order done.sequenced.ends_at in
      let names = IsServed-names airport state order done.entries after done.sequenced.served in (
        done.wishes,
        done.known,
        subst (λ (ns : List (List ℕ)). IsPermutation ns (names_of done.wishes)) (sym names)
            (IsPermutation-sym (names_of done.wishes) (names_of order) (IsPermutation-map (λ (w : Wish). w.name) done.wishes order same)),
        IsServed-told airport state order done.entries after done.sequenced.served,
        done.sequenced.total_is,
      )

  -- the block of a batch passes
  pub batch-passes : (state : State) (line : List ℕ) (requests : List BatchRequest) (block : Block) (after : State) → command_of line ≡ Some (command.Batch requests)
      → first_refusal airport state (command.Batch requests) ≡ None → IsBatched airport state requests block after → IsPassed airport state line block after
  batch-passes state line requests block after read none done =
      subst (λ (b : Block). IsPassed airport state line b after) (sym done.block_is) (record {
        keeps = keeps-all airport state line (Batch done.total done.entries) (inr (rw (read, none) (batch-tells state requests block after done)))
            (λ r. subst (All (λ turn. KeepsTurn turn r)) (sym turns) (kept.keeps r));
        after_it = sym (ap (λ (s : State). after_turns s (turns_of airport state line (Batch done.total done.entries))) (begins-before airport state line (Batch done.total done.entries) tt)
            ∙ ap (after_turns state) turns ∙ kept.after_it);
      })
    where
      same : IsPermutation done.wishes done.sequenced.order
      same = ends-permutation airport state done.wishes done.wishes done.sequenced.order done.sequenced.ends_at

      new : AreNew state (names_of done.wishes)
      new = batch-new airport state requests done.wishes done.known none

      kept : AreKept airport state (command.Batch requests) state done.entries after
      kept = served-keeps state requests done.wishes done.known state done.sequenced.order done.entries after (order-known done.wishes done.sequenced.order new.differ same) done.sequenced.served

      turns : turns_of airport state line (Batch done.total done.entries) ≡ turns_from airport state (command.Batch requests) state done.entries
      turns = batch-turns airport state line requests done.total done.entries read
