-- A batch that is due has a text: each of its entries has one, and they cost at most 9,999,999 each.
use Rattle.std.proofs.Common.{◌≡◌, ℕ, ◌*◌, ◌<◌, ◌≤◌, ◌^◌, List, [], ◌∷◌, length, nat_le, IsTrue, Option, Some, None, option_map, refl, sym, ap, subst, arith, bytes_eq}
use Rattle.std.specs.Prelude.{⊤, pos, ◌≤ℤ◌, All}
use Rattle.std.specs.Option.{option_map_or}
use Rattle.std.proofs.lemmas.Bool.{and_parts, leb-true}
use Rattle.std.proofs.lemmas.Int.{ints}
use Rattle.std.proofs.lemmas.List.{length-map}
use Rattle.std.proofs.lemmas.List.Elements.{All-nil, All-cons, All-head, All-tail, All-contains}
use Rattle.std.proofs.lemmas.List.Sorted.{All-permutation, length_permutation}
use Rattle.taxi_base.specs.declared.answers.Request.{Request}
use Rattle.taxi_base.specs.declared.answers.Request.TheVariants as request
use Rattle.taxi_base.specs.Airport.{Airport, IsWellFormed, node_named}
use Rattle.taxi_base.specs.State.{State}
use Rattle.taxi_text.specs.declared.command.Asked.{Asked}
use Rattle.taxi_text.specs.declared.command.BatchRequest.{BatchRequest}
use Rattle.taxi_text.specs.declared.command.BatchRequest.TheVariants as requested
use Rattle.taxi_text.specs.Commands.{is_batch_count}
use Rattle.replies.specs.declared.block.Block.{Block}
use Rattle.replies.specs.declared.block.Block.TheVariants.{Route, NoRoute}
use Rattle.replies.specs.declared.entries.Entry.{Entry}
use Rattle.replies.specs.declared.entries.Entry.TheVariants as entry
use Rattle.replies.specs.declared.wish.Wish.{Wish}
use Rattle.replies.specs.Printable.{IsShort, IsName, IsPrintableEntry, IsPrintable}
use Rattle.replies.specs.Asked.{asked_in, IsAskedInGrammar, arrival_named, departure_named}
use Rattle.replies.specs.Batches.{wish_of, wishes_of, wish_named, IsServedAs, IsServed, cost_of, cost_among, total_of, IsBatched}
use Rattle.replies.proofs.FiledLaws.{and_then-some, map-some}
use Rattle.replies.proofs.FlightLaws.{find-there}
use Rattle.replies.proofs.ServedLaws.{IsServed-told, IsServed-names}
use Rattle.replies.proofs.BatchNames.{wish-is, wishes-many, wishes-all}
use Rattle.replies.proofs.OrderLaws.{ends-permutation}
use Rattle.replies.proofs.RoutePrintable.{routed-printable}

-- ---- what is wished

-- the times of a request have at most 7 digits
abbrev pub HasShortTime : Request → Type 0
HasShortTime request.Filed = ⊤
HasShortTime (request.Arrival from to time hold) = IsShort time
HasShortTime (request.Departure from to time queue) = IsShort time

abbrev pub IsFineWish : Wish → Type 0
IsFineWish wish = IsName wish.name × HasShortTime wish.request

module _ (airport : Airport) where
  arrival-short : (asked : Asked) (r : Request) → IsShort asked.time → arrival_named airport asked ≡ Some r → HasShortTime r
  arrival-short asked r short e =
      let start = and_then-some (λ start. option_map (λ target. request.Arrival start target asked.time asked.slack) (node_named airport asked.to)) (node_named airport asked.from) r e in
      let target = map-some (λ target. request.Arrival start.0 target asked.time asked.slack) (node_named airport asked.to) r start.2 in
      subst HasShortTime target.2 short

  departure-short : (asked : Asked) (r : Request) → IsShort asked.time → departure_named airport asked ≡ Some r → HasShortTime r
  departure-short asked r short e =
      let start = and_then-some (λ start. option_map (λ target. request.Departure start target asked.time asked.slack) (node_named airport asked.to)) (node_named airport asked.from) r e in
      let target = map-some (λ target. request.Departure start.0 target asked.time asked.slack) (node_named airport asked.to) r start.2 in
      subst HasShortTime target.2 short

  wish-fine : (r : BatchRequest) (wish : Wish) → wish_of airport r ≡ Some wish → IsAskedInGrammar (asked_in r) → IsFineWish wish
  wish-fine (requested.Arrival asked) wish e spoken =
      let is = wish-is airport (requested.Arrival asked) wish e in (subst IsName (sym is.0) spoken.0, arrival-short asked wish.request spoken.1 is.1)
  wish-fine (requested.Departure asked) wish e spoken =
      let is = wish-is airport (requested.Departure asked) wish e in (subst IsName (sym is.0) spoken.0, departure-short asked wish.request spoken.1 is.1)

  pub wishes-fine : (requests : List BatchRequest) (wishes : List Wish) → wishes_of airport requests ≡ Some wishes → All (λ r. IsAskedInGrammar (asked_in r)) requests → All IsFineWish wishes
  wishes-fine requests wishes e spoken = wishes-all airport (λ r. IsAskedInGrammar (asked_in r)) IsFineWish wish-fine requests wishes e spoken

  -- ---- the costs

  cost-few : (r : Request) (told : List ℕ × Entry) → HasShortTime r → IsPrintableEntry airport told → cost_of r told.1 ≤ℤ pos 9999999
  cost-few request.Filed (name, entry.Route second steps labels) short fine = omega (arith, ints)
  cost-few request.Filed (name, entry.NoRoute labels) short fine = omega (arith, ints)
  cost-few request.Filed (name, entry.Dropped) short fine = omega (arith, ints)
  cost-few (request.Arrival from to time hold) (name, entry.Route second steps labels) short fine = omega (arith, ints, fine.0.1)
  cost-few (request.Arrival from to time hold) (name, entry.NoRoute labels) short fine = omega (arith, ints)
  cost-few (request.Arrival from to time hold) (name, entry.Dropped) short fine = omega (arith, ints)
  cost-few (request.Departure from to time queue) (name, entry.Route second steps labels) short fine = omega (arith, ints, short)
  cost-few (request.Departure from to time queue) (name, entry.NoRoute labels) short fine = omega (arith, ints)
  cost-few (request.Departure from to time queue) (name, entry.Dropped) short fine = omega (arith, ints)

  among-few : (wishes : List Wish) (told : List ℕ × Entry) → All IsFineWish wishes → IsPrintableEntry airport told → cost_among wishes told ≤ℤ pos 9999999
  among-few wishes told are fine = go (wish_named told.0 wishes) refl where
    go : (o : Option Wish) → wish_named told.0 wishes ≡ o → option_map_or (λ wish. cost_of wish.request told.1) o (pos 0) ≤ℤ pos 9999999
    go None e = omega (arith, ints)
    go (Some wish) e = cost-few wish.request told (All-contains IsFineWish wishes wish are (find-there (λ (w : Wish). bytes_eq w.name told.0) wishes wish e)).1 fine

  total-few : (wishes : List Wish) (entries : List (List ℕ × Entry)) → All IsFineWish wishes → All (IsPrintableEntry airport) entries → total_of wishes entries ≤ℤ pos (9999999 * length entries)
  total-few wishes [] are fine = omega (arith, ints)
  total-few wishes (told ∷ entries) are fine =
      omega (arith, ints, among-few wishes told are (All-head (IsPrintableEntry airport) told entries fine), total-few wishes entries are (All-tail (IsPrintableEntry airport) told entries fine))

  -- ---- the entries

  module _ (well : IsWellFormed airport) where
    entry-printable : (state : State) (wish : Wish) (told : List ℕ × Entry) (after : State) → IsName wish.name → IsServedAs airport state wish told after → IsPrintableEntry airport told
    entry-printable state wish (name, entry.Route second steps labels) after named served =
        routed-printable airport well state wish.name wish.class wish.request (Route name second steps labels) after named served.1
    entry-printable state wish (name, entry.NoRoute labels) after named served =
        (subst IsName (sym served.0) named, routed-printable airport well state wish.name wish.class wish.request (NoRoute labels) after named served.1)
    entry-printable state wish (name, entry.Dropped) after named served = absurd served

    pub served-printable : (state : State) (order : List Wish) (entries : List (List ℕ × Entry)) (after : State) → All IsFineWish order → IsServed airport state order entries after
        → All (IsPrintableEntry airport) entries
    served-printable state [] [] after are served = All-nil (IsPrintableEntry airport)
    served-printable state [] (told ∷ entries) after are served = absurd served
    served-printable state (wish ∷ order) [] after are served = absurd served
    served-printable state (wish ∷ order) (told ∷ entries) after are served =
        All-cons (IsPrintableEntry airport) told entries (entry-printable state wish told served.0 (All-head IsFineWish wish order are).0 served.1)
        (served-printable served.0 order entries after (All-tail IsFineWish wish order are) served.2)

    -- the block of a batch has a text
    pub batch-printable : (state : State) (requests : List BatchRequest) (block : Block) (after : State) → All (λ r. IsAskedInGrammar (asked_in r)) requests
        → IsTrue (is_batch_count (length requests)) → IsBatched airport state requests block after → IsPrintable airport block
    batch-printable state requests block after spoken count done =
        let order = done.sequenced.order in
        let served = done.sequenced.served in
        let same = ends-permutation airport state done.wishes done.wishes order done.sequenced.ends_at in
        let are = wishes-fine requests done.wishes done.known spoken in
        let fine = served-printable state order done.entries after (All-permutation IsFineWish done.wishes order same are) served in
        let long : length done.entries ≡ length requests = omega (
          arith,
          length_permutation done.wishes order same,
          length-map done.entries (λ told. told.0),
          length-map order (λ w. w.name),
          ap (λ (ns : List (List ℕ)). length ns) (IsServed-names airport state order done.entries after served),
          wishes-many airport requests done.wishes done.known,
        ) in
        let few : length requests ≤ 6 = leb-true (length requests) 6 (and_parts (nat_le 2 (length requests)) (nat_le (length requests) 6) count).1 in
        let total : done.total < 2 ^ 32 = omega (arith, ints, done.sequenced.total_is, total-few done.wishes done.entries are fine, long, few) in
        subst (IsPrintable airport) (sym done.block_is) ((subst (λ n. IsTrue (is_batch_count n)) (sym long) count, total), (IsServed-told airport state order done.entries after served, fine))
