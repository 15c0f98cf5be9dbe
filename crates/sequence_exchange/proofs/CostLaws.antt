-- What is due costs no less than nothing, so costs are whole seconds; and they are the same, by the wish at an entry's place and by that of its name.
use Rattle.std.proofs.Common.{◌≡◌, ◌∙◌, ℕ, ◌+◌, ◌-◌, ◌*◌, ◌≤◌, List, [], ◌∷◌, ◌++◌, length, drop, refl, ap, subst, arith, Some}
use Rattle.std.specs.Prelude.{All, pos}
use Rattle.std.proofs.lemmas.Int.{ints}
use Rattle.std.proofs.lemmas.List.Elements.{All-head, All-tail}
use Rattle.taxi_base.specs.declared.rows.Step.{Step}
use Rattle.taxi_base.specs.declared.rows.LabelRow.{LabelRow}
use Rattle.taxi_base.specs.declared.answers.Found.{Found}
use Rattle.taxi_base.specs.declared.answers.Found.TheVariants as found
use Rattle.taxi_base.specs.declared.answers.Request.{Request}
use Rattle.taxi_base.specs.declared.answers.Request.TheVariants as request
use Rattle.taxi_base.specs.Airport.{Airport, IsWellFormed, layout_of, seconds, segment_of}
use Rattle.taxi_base.specs.Walks.{Conditions, IsFeasibleWalk, Meets, begin_of, end_of, AtFirst, AtLast, LeavesNodeWithin, ReachesNodeWithin}
use Rattle.taxi_base.specs.State.{State, with_flight}
use Rattle.taxi_base.specs.Faults.{conditions_in}
use Rattle.taxi_base.proofs.WalkLaws.{IsSomeAnd-value}
use Rattle.replies.specs.declared.entries.Entry.{Entry}
use Rattle.replies.specs.declared.entries.Entry.TheVariants as entry
use Rattle.replies.specs.declared.wish.Wish.{Wish}
use Rattle.replies.specs.declared.block.Block.TheVariants.{Route}
use Rattle.replies.specs.Printable.{IsShort}
use Rattle.replies.specs.Asked.{AnswersRequest}
use Rattle.replies.specs.Routed.{IsOf, second_of, found_reply, routed_flight}
use Rattle.replies.specs.Batches.{IsServedAs, IsServed, cost_of, cost_among, total_of, wish_named}
use Rattle.replies.proofs.FoundLaws.{found-meets, walk-end}
use Rattle.sequence_exchange.specs.Serving.{IsShortRequest, IsFairFor, AreFairFor, seconds_lost, all_seconds_lost}
use Rattle.sequence_exchange.proofs.ServedLaws.{Told}

-- ---- a walk ends no sooner than it begins

begin-end : (c : Conditions) (steps : List Step) → IsFeasibleWalk c steps → begin_of steps ≤ end_of steps
begin-end c [] walk = absurd walk
begin-end c (s ∷ []) walk =
    let known = IsSomeAnd-value (seconds c.airport c.class (segment_of s.arc)) (λ n. s.enter + n ≤ s.leave) walk.lasts in omega (arith, known.2)
begin-end c (s ∷ t ∷ steps) walk =
    let known = IsSomeAnd-value (seconds c.airport c.class (segment_of s.arc)) (λ n. s.enter + n ≤ s.leave) walk.0.lasts in
    omega (arith, known.2, walk.1.at_once, begin-end c (t ∷ steps) walk.2)

begin-after : (P : Step → Type 0) (time : ℕ) → ((s : Step) → P s → time ≤ s.enter) → (steps : List Step) → AtFirst P steps → time ≤ begin_of steps
begin-after P time after [] first = absurd first
begin-after P time after (s ∷ steps) first = after s first

end-by : (P : Step → Type 0) (time : ℕ) → ((s : Step) → P s → s.leave ≤ time) → (steps : List Step) → AtLast P steps → end_of steps ≤ time
end-by P time by [] last = absurd last
end-by P time by (s ∷ []) last = by s last
end-by P time by (s ∷ t ∷ steps) last = end-by P time by (t ∷ steps) last

-- ---- what is due is fair

meets-fair : (c : Conditions) → IsWellFormed c.airport → (request : Request) → IsShortRequest request → (steps : List Step) (labels : List LabelRow) → Meets c request steps
    → IsFairFor request (entry.Route (second_of request steps) steps labels)
meets-fair c well request.Filed short steps labels met = absurd short
meets-fair c well (request.Arrival from to time hold) short steps labels met =
    let begins : time ≤ begin_of steps = begin-after (LeavesNodeWithin (layout_of c.airport) from time (time + hold)) time (λ s leaves. leaves.not_before) steps met.begins in
    let ends : begin_of steps ≤ end_of steps = begin-end c steps met.walk in
    let by : end_of steps ≤ c.airport.horizon = walk-end c steps met.walk in
    (omega arith, omega (arith, well.horizon.1))
meets-fair c well (request.Departure from to time queue) short steps labels met =
    let ends : end_of steps ≤ time = end-by (ReachesNodeWithin (layout_of c.airport) to (time - queue) time) time (λ s reaches. reaches.not_after) steps met.ends in
    let begins : begin_of steps ≤ end_of steps = begin-end c steps met.walk in
    (omega arith, short)

module _ (airport : Airport) (well : IsWellFormed airport) where
  route-fair : (state : State) (wish : Wish) (answer : Found) (name : List ℕ) (second : ℕ) (steps : List Step) (labels : List LabelRow) (after : State) → IsShortRequest wish.request
      → AnswersRequest (conditions_in airport wish.class state) wish.request answer
      → IsOf (found_reply state wish.name wish.request (λ s. with_flight (routed_flight wish.name wish.class wish.request s) state) answer) (Route name second steps labels) after
      → IsFairFor wish.request (entry.Route second steps labels)
  route-fair state wish (found.Route s l) name second steps labels after short answers of =
      let walk : s ≡ steps = cc (of.0) in
      let told : second_of wish.request s ≡ second = cc (of.0) in
      let fair = meets-fair (conditions_in airport wish.class state) well wish.request short s labels (found-meets (conditions_in airport wish.class state) wish.request s l answers) in
      subst (λ (x : List Step). IsFairFor wish.request (entry.Route second x labels)) walk (subst (λ (n : ℕ). IsFairFor wish.request (entry.Route n s labels)) told fair)
  route-fair state wish (found.NoRoute l) name second steps labels after short answers of = absurd (cc (of.0))

  served-fair : (state : State) (wish : Wish) (told : Told) (after : State) → IsShortRequest wish.request → IsServedAs airport state wish told after → IsFairFor wish.request told.1
  served-fair state wish (name, entry.Route second steps labels) after short served =
      route-fair state wish served.1.found name second steps labels after short served.1.answers served.1.reply
  served-fair state wish (name, entry.NoRoute labels) after short served = no_route-fair wish.request where
    no_route-fair : (asked : Request) → IsFairFor asked (entry.NoRoute labels)
    no_route-fair request.Filed = tt
    no_route-fair (request.Arrival from to time hold) = tt
    no_route-fair (request.Departure from to time queue) = tt
  served-fair state wish (name, entry.Dropped) after short served = absurd served

  pub IsServed-fair : (state : State) (wishes : List Wish) (entries : List Told) (after : State) → All (λ w. IsShortRequest w.request) wishes → IsServed airport state wishes entries after
      → AreFairFor wishes entries
  IsServed-fair state [] [] after short served = tt
  IsServed-fair state [] (told ∷ entries) after short served = absurd served
  IsServed-fair state (wish ∷ wishes) [] after short served = absurd served
  IsServed-fair state (wish ∷ wishes) (told ∷ entries) after short served = (
    served-fair state wish told served.0 (All-head (λ (w : Wish). IsShortRequest w.request) wish wishes short) served.1,
    IsServed-fair served.0 wishes entries after (All-tail (λ (w : Wish). IsShortRequest w.request) wish wishes short) served.2,
  )

-- ---- costs are whole seconds, each of at most 7 digits

pub cost-seconds : (asked : Request) (told : Entry) → IsFairFor asked told → cost_of asked told ≡ pos (seconds_lost asked told)
cost-seconds request.Filed (entry.Route second steps labels) fair = refl
cost-seconds request.Filed (entry.NoRoute labels) fair = refl
cost-seconds request.Filed entry.Dropped fair = refl
cost-seconds (request.Arrival from to time hold) (entry.Route second steps labels) fair = let late : time ≤ second = fair.0 in omega (arith, ints)
cost-seconds (request.Arrival from to time hold) (entry.NoRoute labels) fair = refl
cost-seconds (request.Arrival from to time hold) entry.Dropped fair = refl
cost-seconds (request.Departure from to time queue) (entry.Route second steps labels) fair = let early : second ≤ time = fair.0 in omega (arith, ints)
cost-seconds (request.Departure from to time queue) (entry.NoRoute labels) fair = refl
cost-seconds (request.Departure from to time queue) entry.Dropped fair = refl

pub seconds-short : (asked : Request) (told : Entry) → IsFairFor asked told → IsShort (seconds_lost asked told)
seconds-short request.Filed (entry.Route second steps labels) fair = omega arith
seconds-short request.Filed (entry.NoRoute labels) fair = omega arith
seconds-short request.Filed entry.Dropped fair = omega arith
seconds-short (request.Arrival from to time hold) (entry.Route second steps labels) fair = let short : IsShort second = fair.1 in omega arith
seconds-short (request.Arrival from to time hold) (entry.NoRoute labels) fair = omega arith
seconds-short (request.Arrival from to time hold) entry.Dropped fair = omega arith
seconds-short (request.Departure from to time queue) (entry.Route second steps labels) fair = let short : IsShort time = fair.1 in omega arith
seconds-short (request.Departure from to time queue) (entry.NoRoute labels) fair = omega arith
seconds-short (request.Departure from to time queue) entry.Dropped fair = omega arith

pub all_seconds-few : (wishes : List Wish) (entries : List Told) → AreFairFor wishes entries → all_seconds_lost wishes entries ≤ length wishes * 9999999
all_seconds-few [] entries fair = omega arith
all_seconds-few (wish ∷ wishes) [] fair = omega arith
all_seconds-few (wish ∷ wishes) (told ∷ entries) fair = omega (arith, seconds-short wish.request told.1 fair.0, all_seconds-few wishes entries fair.1)

-- ---- the total, by names

module _ (wishes : List Wish) where
  -- each wish of an order is that of its name
  abbrev pub AreOwn : List Wish → Type 0
  AreOwn order = All (λ w. wish_named w.name wishes ≡ Some w) order

  told-name : (airport : Airport) (state : State) (wish : Wish) (told : Told) (after : State) → IsServedAs airport state wish told after → told.0 ≡ wish.name
  told-name airport state wish (name, entry.Route second steps labels) after served = served.0
  told-name airport state wish (name, entry.NoRoute labels) after served = served.0
  told-name airport state wish (name, entry.Dropped) after served = absurd served

  cost-among : (wish : Wish) (told : Told) → told.0 ≡ wish.name → wish_named wish.name wishes ≡ Some wish → cost_among wishes told ≡ cost_of wish.request told.1
  cost-among wish (name, told) named own =
      ap (λ (n : List ℕ). cost_among wishes (n, told)) named ∙ rw own refl

  pub total-seconds : (airport : Airport) (state : State) (order : List Wish) (entries : List Told) (after : State) → AreOwn order → AreFairFor order entries → IsServed airport state order entries after
      → total_of wishes entries ≡ pos (all_seconds_lost order entries)
  total-seconds airport state [] [] after own fair served = refl
  total-seconds airport state [] (told ∷ entries) after own fair served = absurd served
  total-seconds airport state (wish ∷ order) [] after own fair served = absurd served
  total-seconds airport state (wish ∷ order) (told ∷ entries) after own fair served =
      let first : cost_among wishes told ≡ pos (seconds_lost wish.request told.1) =
      cost-among wish told (told-name airport state wish told served.0 served.1) (All-head (λ (w : Wish). wish_named w.name wishes ≡ Some w) wish order own) ∙ cost-seconds wish.request told.1 fair.0 in
      let rest : total_of wishes entries ≡ pos (all_seconds_lost order entries) =
      total-seconds airport served.0 order entries after (All-tail (λ (w : Wish). wish_named w.name wishes ≡ Some w) wish order own) fair.1 served.2 in
      omega (arith, ints, first, rest)

-- ---- in parts

pub all_seconds-append : (wishes more : List Wish) (entries others : List Told) → length entries ≡ length wishes
    → all_seconds_lost (wishes ++ more) (entries ++ others) ≡ all_seconds_lost wishes entries + all_seconds_lost more others
all_seconds-append [] more [] others same = omega arith
all_seconds-append [] more (told ∷ entries) others same = absurd (omega (arith, same))
all_seconds-append (wish ∷ wishes) more [] others same = absurd (omega (arith, same))
all_seconds-append (wish ∷ wishes) more (told ∷ entries) others same = omega (arith, all_seconds-append wishes more entries others (omega (arith, same)))

-- ---- one after the other

-- the first entries are counted, and the others are still to be
pub record IsCounting (wishes : List Wish) (entries : List Told) (place total : ℕ) : Type 0 where
  pub whole : total + all_seconds_lost (drop place wishes) (drop place entries) ≡ all_seconds_lost wishes entries
  pub fair : AreFairFor (drop place wishes) (drop place entries)
  pub few : total ≤ place * 9999999
