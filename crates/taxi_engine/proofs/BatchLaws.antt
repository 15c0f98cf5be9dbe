-- Of a batch that is refused nothing: its wishes can be sequenced, what comes of it can be written, and is due.
use Rattle.std.proofs.Common.{◌≡◌, ℕ, ◌+◌, ◌≤◌, nat_le, List, [], ◌∷◌, length, IsTrue, IsFalse, Some, None, option_map, refl, subst, arith, inl, inr, bytes_eq}
use Rattle.std.specs.Prelude.{All, AllPairs}
use Rattle.std.proofs.lemmas.Bool.{and_parts, leb-true}
use Rattle.std.proofs.lemmas.List.{length-map}
use Rattle.std.proofs.lemmas.List.Elements.{All-nil, All-cons, All-head, All-tail, All-weaker}
use Rattle.std.proofs.lemmas.List.Sorted.{All-permutation}
use Rattle.taxi_base.specs.declared.answers.Request.{Request}
use Rattle.taxi_base.specs.declared.answers.Request.TheVariants as request
use Rattle.taxi_base.specs.Airport.{Airport, IsWellFormed, node_named}
use Rattle.taxi_base.specs.State.{State, has_holder, holder_count}
use Rattle.taxi_base.proofs.ListLaws.{AllPairs-first, AllPairs-rest}
use Rattle.taxi_text.specs.declared.command.Asked.{Asked}
use Rattle.taxi_text.specs.declared.command.BatchRequest.{BatchRequest}
use Rattle.taxi_text.specs.declared.command.BatchRequest.TheVariants as requested
use Rattle.taxi_text.specs.declared.command.Command.TheVariants as command
use Rattle.taxi_text.specs.Commands.{is_batch_count}
use Rattle.replies.specs.declared.entries.Entry.{Entry}
use Rattle.replies.specs.declared.entries.Entry.TheVariants as entry
use Rattle.replies.specs.declared.wish.Wish.{Wish}
use Rattle.replies.specs.declared.block.Block.TheVariants.{Batch}
use Rattle.replies.specs.Printable.{IsShort, IsName, HasArc, IsPrintableStep, IsPrintableLabel, IsPrintableEntry}
use Rattle.block_writer.specs.Printed.{IsWritableEntry}
use Rattle.replies.specs.Asked.{asked_in, IsAskedInGrammar, arrival_named, departure_named}
use Rattle.replies.specs.Refusals.{first_refusal}
use Rattle.replies.specs.Batches.{wish_of, wishes_of, names_of, IsSequenced}
use Rattle.replies.proofs.FiledLaws.{and_then-some, map-some}
use Rattle.replies.proofs.OrderLaws.{ends-permutation}
use Rattle.replies.proofs.BatchNames.{wish-is, wishes-many, wishes-all, batch-free}
use Rattle.replies.proofs.BatchPrintable.{HasShortTime, IsFineWish, wishes-fine, served-printable}
use Rattle.sequence_exchange.specs.Serving.{IsShortRequest, AreNew}
use Rattle.taxi_engine.specs.Engine.{EngineState}
use Rattle.taxi_engine.specs.Done.{IsDoneOrMemory}
use Rattle.taxi_engine.specs.Batched.{IsSequencedTold}

-- ---- what is wished

named-All : (P : List ℕ → Type 0) (wishes : List Wish) → All P (names_of wishes) → All (λ w. P w.name) wishes
named-All P [] all = All-nil _
named-All P (wish ∷ wishes) all = All-cons (λ (w : Wish). P w.name) wish wishes (All-head P wish.name (names_of wishes) all) (named-All P wishes (All-tail P wish.name (names_of wishes) all))

new-wishes : (state : State) (wishes : List Wish) → All (λ n. IsFalse (has_holder n state)) (names_of wishes) → AllPairs (λ sooner later. IsFalse (bytes_eq later sooner)) (names_of wishes) → AreNew state wishes
new-wishes state [] none pairs = tt
new-wishes state (wish ∷ wishes) none pairs = (
  All-head (λ n. IsFalse (has_holder n state)) wish.name (names_of wishes) none,
  named-All (λ n. IsFalse (bytes_eq n wish.name)) wishes (AllPairs-first (λ sooner later. IsFalse (bytes_eq later sooner)) wish.name (names_of wishes) pairs),
  new-wishes state wishes (All-tail (λ n. IsFalse (has_holder n state)) wish.name (names_of wishes) none)
      (AllPairs-rest (λ sooner later. IsFalse (bytes_eq later sooner)) wish.name (names_of wishes) pairs),
)

module _ (airport : Airport) where
  arrival-short : (asked : Asked) (r : Request) → IsShort asked.time → IsShort asked.slack → arrival_named airport asked ≡ Some r → IsShortRequest r
  arrival-short asked r time slack e =
      let start = and_then-some (λ start. option_map (λ target. request.Arrival start target asked.time asked.slack) (node_named airport asked.to)) (node_named airport asked.from) r e in
      let target = map-some (λ target. request.Arrival start.0 target asked.time asked.slack) (node_named airport asked.to) r start.2 in
      subst IsShortRequest target.2 (time, slack)

  departure-short : (asked : Asked) (r : Request) → IsShort asked.time → departure_named airport asked ≡ Some r → IsShortRequest r
  departure-short asked r time e =
      let start = and_then-some (λ start. option_map (λ target. request.Departure start target asked.time asked.slack) (node_named airport asked.to)) (node_named airport asked.from) r e in
      let target = map-some (λ target. request.Departure start.0 target asked.time asked.slack) (node_named airport asked.to) r start.2 in
      subst IsShortRequest target.2 time

  wish-short : (r : BatchRequest) (wish : Wish) → wish_of airport r ≡ Some wish → IsAskedInGrammar (asked_in r) → IsShortRequest wish.request
  wish-short (requested.Arrival asked) wish e spoken = arrival-short asked wish.request spoken.1 spoken.2 (wish-is airport (requested.Arrival asked) wish e).1
  wish-short (requested.Departure asked) wish e spoken = departure-short asked wish.request spoken.1 (wish-is airport (requested.Departure asked) wish e).1

  module _ (state : State) (requests : List BatchRequest) (wishes : List Wish) (known : wishes_of airport requests ≡ Some wishes) where
    pub wishes-short : All (λ r. IsAskedInGrammar (asked_in r)) requests → All (λ w. IsShortRequest w.request) wishes
    wishes-short spoken = wishes-all airport (λ r. IsAskedInGrammar (asked_in r)) (λ w. IsShortRequest w.request) wish-short requests wishes known spoken

    pub wishes-named : All (λ r. IsAskedInGrammar (asked_in r)) requests → All (λ w. IsName w.name) wishes
    wishes-named spoken = All-weaker IsFineWish (λ w. IsName w.name) (λ w fine. fine.0) wishes (wishes-fine airport requests wishes known spoken)

    pub wishes-few : IsTrue (is_batch_count (length requests)) → length wishes ≤ 6
    wishes-few count =
        omega (arith, wishes-many airport requests wishes known, leb-true (length requests) 6 (and_parts (nat_le 2 (length requests)) (nat_le (length requests) 6) count).1)

    module _ (none : first_refusal airport state (command.Batch requests) ≡ None) where
      pub wishes-new : AreNew state wishes
      wishes-new = let free = batch-free airport state requests wishes known none in new-wishes state wishes free.0 free.1

      pub wishes-fit : holder_count state + length wishes ≤ 4096
      wishes-fit = let free = batch-free airport state requests wishes known none in omega (arith, free.2, length-map wishes (λ (w : Wish). w.name))

  -- ---- what comes of it can be written

  pub printable-writable : (told : List ℕ × Entry) → IsPrintableEntry airport told → IsWritableEntry airport told
  printable-writable (name, entry.Route second steps labels) fine = (
    All-weaker (IsPrintableStep airport) (λ s. HasArc airport s.arc) (λ s is. is.0) steps fine.1.0,
    All-weaker (IsPrintableLabel airport) (λ l. HasArc airport l.arc) (λ l is. is.0) labels fine.1.1,
  )
  printable-writable (name, entry.NoRoute labels) fine = All-weaker (IsPrintableLabel airport) (λ l. HasArc airport l.arc) (λ l is. is.0) labels fine.1.1
  printable-writable (name, entry.Dropped) fine = tt

  short-time : (r : Request) → IsShortRequest r → HasShortTime r
  short-time request.Filed short = absurd short
  short-time (request.Arrival from to time hold) short = short.0
  short-time (request.Departure from to time queue) short = short

  pub sequenced-writable : IsWellFormed airport → (state : State) (wishes : List Wish) (total : ℕ) (entries : List (List ℕ × Entry)) (after : State) → All (λ w. IsName w.name) wishes
      → All (λ w. IsShortRequest w.request) wishes → IsSequenced airport state wishes total entries after → All (IsWritableEntry airport) entries
  sequenced-writable well state wishes total entries after names asked sequenced =
      let fine : All IsFineWish wishes = λ k d low. (names k d low, short-time _ (asked k d low)) in
      let same = ends-permutation airport state wishes wishes sequenced.order sequenced.ends_at in
      All-weaker (IsPrintableEntry airport) (IsWritableEntry airport) printable-writable entries
      (served-printable airport well state sequenced.order entries after (All-permutation IsFineWish wishes sequenced.order same fine) sequenced.served)

-- ---- it is due

pub batch-done : (old new : EngineState) (requests : List BatchRequest) (wishes : List Wish) → wishes_of old.airport requests ≡ Some wishes → first_refusal old.airport old.state (command.Batch requests) ≡ None
    → IsSequencedTold wishes old new → IsDoneOrMemory (command.Batch requests) old new
batch-done old new requests wishes known none (inr memory) = inr (tt, memory)
batch-done old new requests wishes known none (inl told) = inl (record {
  reply = record { block = Batch told.total told.entries; after = told.after };
  due = rw none (record { wishes = wishes; known = known; total = told.total; entries = told.entries; sequenced = told.sequenced; block_is = refl });
  done = told.done;
})
