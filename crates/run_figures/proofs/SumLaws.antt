-- Figures that are the sum of others.
use Rattle.std.proofs.Common.{◌≡◌, ◌∙◌, ℕ, ◌+◌, ◌-◌, cond, List, [], ◌∷◌, length, refl, ap, arith, codes}
use Rattle.std.specs.Prelude.{All, bytes_eq, count_by, filter, flat_map, sum_by}
use Rattle.std.proofs.lemmas.List.{length-append}
use Rattle.std.proofs.lemmas.List.Elements.{All-nil, All-cons, All-head, All-tail, All-append, All-filter, All-weaker}
use Rattle.std.proofs.lemmas.List.Sums.{sum_by-cons}
use Rattle.taxi_base.specs.declared.numbers.Class.{Class}
use Rattle.taxi_base.specs.declared.rows.Step.{Step}
use Rattle.taxi_base.specs.declared.rows.FlightKind.{FlightKind}
use Rattle.taxi_base.specs.declared.answers.StepCause.TheVariants.{ClassBarred, BadTurn, TooFast, PastHorizon, Taken}
use Rattle.taxi_base.specs.declared.answers.StepCause.{StepCause}
use Rattle.taxi_base.specs.declared.answers.Refusal.{Refusal}
use Rattle.taxi_base.specs.declared.answers.Refusal.TheVariants as refusal
use Rattle.taxi_base.specs.declared.answers.Flight.{Flight}
use Rattle.taxi_base.specs.Airport.{Airport}
use Rattle.taxi_base.specs.Walks.{Conditions, IsFeasibleStep, IsFeasibleWalk, begin_of, end_of}
use Rattle.taxi_base.specs.State.{State, conditions_of, IsSound}
use Rattle.replies.specs.declared.block.Block.{Block}
use Rattle.replies.specs.declared.block.Block.TheVariants.{Refused, Filed, Cancelled, Route, NoRoute, Windows, Occupancy, Timetable, Batch, Late}
use Rattle.plan_table.specs.Rows.{least_for}
use Rattle.run_figures.specs.Counts.{reply_word, refusal_word, step_word, reply_kinds, refusal_kinds, refusals_of, how_many}
use Rattle.run_figures.specs.Flights.{is_of, taxied_by, least_by, sums_of, waits_of}
use Rattle.run_figures.proofs.FlightLaws.{step-least}

-- ---- each is of one kind

sum-plus : {X : Type 0} (f g : X → ℕ) (xs : List X) → sum_by (λ x. f x + g x) xs ≡ sum_by f xs + sum_by g xs
sum-plus f g [] = refl
sum-plus f g (x ∷ xs) =
    let rest = sum-plus f g xs in
    let both = sum_by-cons (λ y. f y + g y) x xs in
    let one = sum_by-cons f x xs in
    let other = sum_by-cons g x xs in
    omega (arith, rest, both, one, other)

sum-zero : {X : Type 0} (xs : List X) → sum_by (λ x. 0) xs ≡ 0
sum-zero [] = refl
sum-zero (x ∷ xs) = let rest = sum-zero xs in let all = sum_by-cons (λ y. 0) x xs in omega (arith, rest, all)

sum-same : {X : Type 0} (f g : X → ℕ) (xs : List X) → ((x : X) → f x ≡ g x) → sum_by f xs ≡ sum_by g xs
sum-same f g [] same = refl
sum-same f g (x ∷ xs) same =
    let rest = sum-same f g xs same in
    let one = same x in
    let all = sum_by-cons f x xs in
    let other = sum_by-cons g x xs in
    omega (arith, rest, one, all, other)

pub tallies-sum : {X : Type 0} (word : X → List ℕ) (kinds : List (List ℕ)) (xs : List X) → All (λ x. count_by (λ kind. bytes_eq kind (word x)) kinds ≡ 1) xs
    → sum_by (λ kind. how_many word kind xs) kinds ≡ length xs
tallies-sum word kinds [] each = sum-zero kinds
tallies-sum word kinds (x ∷ xs) each =
    let rest = tallies-sum word kinds xs (All-tail (λ y. count_by (λ kind. bytes_eq kind (word y)) kinds ≡ 1) x xs each) in
    let one = All-head (λ y. count_by (λ kind. bytes_eq kind (word y)) kinds ≡ 1) x xs each in
    let split = sum-same (λ kind. how_many word kind (x ∷ xs)) (λ kind. cond (bytes_eq kind (word x)) 1 0 + how_many word kind xs) kinds
    (λ kind. sum_by-cons (λ y. cond (bytes_eq kind (word y)) 1 0) x xs) in
    let parts = sum-plus (λ kind. cond (bytes_eq kind (word x)) 1 0) (λ kind. how_many word kind xs) kinds in
    omega (arith, rest, one, split, parts)

reply-one : (airport : Airport) (block : Block) → count_by (λ kind. bytes_eq kind (reply_word airport block)) reply_kinds ≡ 1
reply-one airport (Refused why) = refl
reply-one airport (Filed flight start end) = refl
reply-one airport (Cancelled flight) = refl
reply-one airport (Route flight second steps labels) = refl
reply-one airport (NoRoute labels) = refl
reply-one airport (Windows segment windows) = refl
reply-one airport (Occupancy segment held) = refl
reply-one airport (Timetable flights) = refl
reply-one airport (Batch total entries) = refl
reply-one airport (Late flight entries) = refl

pub replies-sum : (airport : Airport) (blocks : List Block) → sum_by (λ kind. how_many (reply_word airport) kind blocks) reply_kinds ≡ length blocks
replies-sum airport blocks = tallies-sum (reply_word airport) reply_kinds blocks (λ k d low. reply-one airport _)

step-one : (cause : StepCause) → count_by (λ kind. bytes_eq kind (step_word cause)) refusal_kinds ≡ 1
step-one ClassBarred = refl
step-one BadTurn = refl
step-one TooFast = refl
step-one PastHorizon = refl
step-one (Taken at by) = refl

refusal-one : (why : Refusal) → (why ≡ refusal.Memory → ⊥) → count_by (λ kind. bytes_eq kind (refusal_word why)) refusal_kinds ≡ 1
refusal-one refusal.BadLine other = refl
refusal-one refusal.InForce other = refl
refusal-one refusal.UnknownClass other = refl
refusal-one refusal.UnknownNode other = refl
refusal-one refusal.WrongKind other = refl
refusal-one refusal.UnknownSegment other = refl
refusal-one refusal.NotInForce other = refl
refusal-one refusal.NotRouted other = refl
refusal-one refusal.NotArrival other = refl
refusal-one (refusal.AlreadyDone end) other = refl
refusal-one (refusal.AlreadyMoving start) other = refl
refusal-one refusal.Full other = refl
refusal-one (refusal.Step fault) other = step-one fault.cause
refusal-one (refusal.NotMoving start) other = refl
refusal-one (refusal.NotLate leave) other = refl
refusal-one (refusal.PastEnd horizon) other = refl
refusal-one refusal.Memory other = absurd (other refl)

-- the refusals of blocks of which none is for want of memory
own-refusal : (P : Refusal → Type 0) → ((why : Refusal) → (why ≡ refusal.Memory → ⊥) → P why) → (block : Block) → (block ≡ Refused refusal.Memory → ⊥) → All P (refusals_of block)
own-refusal P each (Refused why) other = All-cons P why [] (each why (λ e. other (ap Refused e))) (All-nil P)
own-refusal P each (Filed flight start end) other = All-nil P
own-refusal P each (Cancelled flight) other = All-nil P
own-refusal P each (Route flight second steps labels) other = All-nil P
own-refusal P each (NoRoute labels) other = All-nil P
own-refusal P each (Windows segment windows) other = All-nil P
own-refusal P each (Occupancy segment held) other = All-nil P
own-refusal P each (Timetable flights) other = All-nil P
own-refusal P each (Batch total entries) other = All-nil P
own-refusal P each (Late flight entries) other = All-nil P

all-refusals : (P : Refusal → Type 0) → ((why : Refusal) → (why ≡ refusal.Memory → ⊥) → P why) → (blocks : List Block) → All (λ block. block ≡ Refused refusal.Memory → ⊥) blocks
    → All P (flat_map refusals_of blocks)
all-refusals P each [] others = All-nil P
all-refusals P each (block ∷ blocks) others =
    All-append P (refusals_of block) (flat_map refusals_of blocks) (own-refusal P each block (All-head (λ b. b ≡ Refused refusal.Memory → ⊥) block blocks others))
    (all-refusals P each blocks (All-tail (λ b. b ≡ Refused refusal.Memory → ⊥) block blocks others))

refused-one : (airport : Airport) (block : Block) → length (refusals_of block) ≡ cond (bytes_eq (codes "refused") (reply_word airport block)) 1 0
refused-one airport (Refused why) = refl
refused-one airport (Filed flight start end) = refl
refused-one airport (Cancelled flight) = refl
refused-one airport (Route flight second steps labels) = refl
refused-one airport (NoRoute labels) = refl
refused-one airport (Windows segment windows) = refl
refused-one airport (Occupancy segment held) = refl
refused-one airport (Timetable flights) = refl
refused-one airport (Batch total entries) = refl
refused-one airport (Late flight entries) = refl

refused-count : (airport : Airport) (blocks : List Block) → length (flat_map refusals_of blocks) ≡ how_many (reply_word airport) (codes "refused") blocks
refused-count airport [] = refl
refused-count airport (block ∷ blocks) =
    let rest = refused-count airport blocks in
    let one = refused-one airport block in
    let long = length-append (refusals_of block) (flat_map refusals_of blocks) in
    let all = sum_by-cons (λ b. cond (bytes_eq (codes "refused") (reply_word airport b)) 1 0) block blocks in
    omega (arith, rest, one, long, all)

pub refusals-sum : (airport : Airport) (blocks : List Block) → All (λ block. block ≡ Refused refusal.Memory → ⊥) blocks
    → sum_by (λ kind. how_many refusal_word kind (flat_map refusals_of blocks)) refusal_kinds ≡ how_many (reply_word airport) (codes "refused") blocks
refusals-sum airport blocks others =
    tallies-sum refusal_word refusal_kinds (flat_map refusals_of blocks) (all-refusals (λ why. count_by (λ kind. bytes_eq kind (refusal_word why)) refusal_kinds ≡ 1) refusal-one blocks others)
    ∙ refused-count airport blocks

-- ---- waits

walk-waits : (c : Conditions) (least wait : Step → ℕ) → ((s : Step) → IsFeasibleStep c s → s.enter + (least s + wait s) ≡ s.leave) → (s : Step) (steps : List Step) → IsFeasibleWalk c (s ∷ steps)
    → s.enter + (sum_by least (s ∷ steps) + sum_by wait (s ∷ steps)) ≡ end_of (s ∷ steps)
walk-waits c least wait each s [] walk =
    let one = each s walk in
    let taken = sum_by-cons least s [] in
    let waited = sum_by-cons wait s [] in
    omega (arith, one, taken, waited)
walk-waits c least wait each s (t ∷ steps) walk =
    let one = each s walk.0 in
    let joined = walk.1.at_once in
    let rest = walk-waits c least wait each t steps walk.2 in
    let taken = sum_by-cons least s (t ∷ steps) in
    let waited = sum_by-cons wait s (t ∷ steps) in
    omega (arith, one, joined, rest, taken, waited)

taxied-parts : (airport : Airport) (state : State) (flight : Flight) (steps : List Step) → IsFeasibleWalk (conditions_of airport state flight) steps
    → end_of steps - begin_of steps ≡ sum_by (least_for airport flight) steps + sum_by (λ step. step.leave - step.enter - least_for airport flight step) steps
taxied-parts airport state flight [] walk = absurd walk
taxied-parts airport state flight (s ∷ steps) walk =
    let all = walk-waits (conditions_of airport state flight) (least_for airport flight) (λ step. step.leave - step.enter - least_for airport flight step)
    (λ step made. let least = step-least airport state flight step made in omega (arith, least)) s steps walk in
    omega (arith, all)

sums-parts : (f g h : Flight → ℕ) (flights : List Flight) → All (λ x. f x ≡ g x + h x) flights → sum_by f flights ≡ sum_by g flights + sum_by h flights
sums-parts f g h [] each = refl
sums-parts f g h (x ∷ flights) each =
    let rest = sums-parts f g h flights (All-tail (λ y. f y ≡ g y + h y) x flights each) in
    let one = All-head (λ y. f y ≡ g y + h y) x flights each in
    let all = sum_by-cons f x flights in
    let first = sum_by-cons g x flights in
    let second = sum_by-cons h x flights in
    omega (arith, rest, one, all, first, second)

pub waits-sum : (airport : Airport) (state : State) → IsSound airport state → (kind : FlightKind) (class : Class)
    → (sums_of airport (filter (is_of kind class) state.flights)).taxied - (sums_of airport (filter (is_of kind class) state.flights)).least ≡ sum_by (waits_of airport) (filter (is_of kind class) state.flights)
waits-sum airport state sound kind class =
    let parts = sums-parts taxied_by (least_by airport) (waits_of airport) (filter (is_of kind class) state.flights)
    (All-filter (is_of kind class) (λ f. taxied_by f ≡ least_by airport f + waits_of airport f) state.flights
    (All-weaker (λ f. IsFeasibleWalk (conditions_of airport state f) f.steps) (λ f. taxied_by f ≡ least_by airport f + waits_of airport f) (λ f walk. taxied-parts airport state f f.steps walk) state.flights sound.feasible.walks)) in
    omega (arith, parts)
