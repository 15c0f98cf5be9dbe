-- What is found for a request: the route does what was asked, and the labels can be printed.
use Rattle.std.proofs.Common.{◌≡◌, ℕ, ◌+◌, ◌*◌, ◌-◌, ◌<◌, ◌≤◌, max, nat_lt, List, [], ◌∷◌, length, get_or, Option, Some, None, IsTrue, IsFalse, refl, sym, ap, subst, arith, inl, inr}
use Rattle.std.specs.Prelude.{All, AllPairs, MatchOption}
use Rattle.std.proofs.lemmas.Bool.{and_parts, ltb-true, or_cases, eqb-true, both_ways, cases_lt}
use Rattle.std.proofs.lemmas.List.{length-map}
use Rattle.std.proofs.lemmas.List.Elements.{All-head, All-tail, All-weaker}
use Rattle.taxi_base.specs.declared.numbers.Node.{Node}
use Rattle.taxi_base.specs.declared.numbers.Segment.{Segment}
use Rattle.taxi_base.specs.declared.rows.Step.{Step}
use Rattle.taxi_base.specs.declared.rows.LabelRow.{LabelRow}
use Rattle.taxi_base.specs.declared.answers.Found.{Found}
use Rattle.taxi_base.specs.declared.answers.Found.TheVariants as found
use Rattle.taxi_base.specs.declared.answers.Chosen.{Chosen}
use Rattle.taxi_base.specs.declared.answers.Chosen.TheVariants as chosen
use Rattle.taxi_base.specs.declared.answers.Request.{Request}
use Rattle.taxi_base.specs.declared.answers.Request.TheVariants as request
use Rattle.taxi_base.specs.Airport.{Airport, IsWellFormed, layout_of, arc_exists, segment_of, seconds}
use Rattle.taxi_base.specs.Windows.{IsWindow}
use Rattle.taxi_base.specs.Walks.{Conditions, IsFeasibleStep, IsFeasibleWalk, AtFirst, AtLast, IsRoute, LeavesNodeWithin, ReachesNodeWithin, Resumes, Meets, begin_of, end_of}
use Rattle.taxi_base.specs.Labels.{window_of, IsStepOf, IsExitLabel, IsEntryLabel, precedes, IsTable, IsExitBefore, IsEntryAfter, AnswersArrival, AnswersDeparture, AnswersDepartureAfter}
use Rattle.taxi_base.specs.Choices.{ReachesOneOfWithin}
use Rattle.taxi_base.specs.State.{IsFrozenWalk, step_begun, steps_done}
use Rattle.taxi_base.specs.Again.{retargeted, IsBestFor, after_steps, AnswersAgain}
use Rattle.taxi_base.specs.Late.{AnswersTurn}
use Rattle.taxi_base.proofs.AirportLaws.{seconds-range, arc_exists-segment}
use Rattle.taxi_base.proofs.AgainLaws.{again-best, frozen-meets}
use Rattle.taxi_base.proofs.ListLaws.{AllPairs-first, AllPairs-rest}
use Rattle.taxi_base.proofs.WalkLaws.{IsSomeAnd-value, IsFeasibleStep-takes, IsFeasibleWalk-steps, IsFeasibleWalk-last, AtLast-both, Meets-IsFeasibleWalk}
use Rattle.taxi_base.proofs.WindowLaws.{IsWindow-by}
use Rattle.replies.specs.Printable.{IsShort, IsCount, IsPrintableStep, IsPrintableLabel}
use Rattle.replies.specs.Asked.{AnswersRequest, Choice, arrival_any, departure_any, AnswersChoice}
use Rattle.replies.specs.CarriedOut.{second_of}

-- ---- a walk lies by the horizon

pub walk-end : (c : Conditions) (steps : List Step) → IsFeasibleWalk c steps → end_of steps ≤ c.airport.horizon
walk-end c [] walk = absurd walk
walk-end c (s ∷ []) walk = walk.in_time
walk-end c (s ∷ t ∷ steps) walk = walk-end c (t ∷ steps) walk.2

pub step-enter : (c : Conditions) (s : Step) → IsFeasibleStep c s → s.enter ≤ c.airport.horizon
step-enter c s made =
    let known = IsSomeAnd-value (seconds c.airport c.class (segment_of s.arc)) (λ n. s.enter + n ≤ s.leave) made.lasts in
    omega (arith, known.2, made.in_time)

pub walk-begin : (c : Conditions) (steps : List Step) → IsFeasibleWalk c steps → begin_of steps ≤ c.airport.horizon
walk-begin c [] walk = absurd walk
walk-begin c (s ∷ []) walk = step-enter c s walk
walk-begin c (s ∷ t ∷ steps) walk = step-enter c s walk.0

pub walk-second : (c : Conditions) (request : Request) (steps : List Step) → IsFeasibleWalk c steps → second_of request steps ≤ c.airport.horizon
walk-second c request.Filed steps walk = walk-end c steps walk
walk-second c (request.Arrival from to time hold) steps walk = walk-end c steps walk
walk-second c (request.Departure from to time queue) steps walk = walk-begin c steps walk

pub walk-some : (c : Conditions) (steps : List Step) → IsFeasibleWalk c steps → 0 < length steps
walk-some c [] walk = absurd walk
walk-some c (s ∷ steps) walk = omega arith

-- ---- what is found does what was asked

pub found-meets : (c : Conditions) (request : Request) (steps : List Step) (labels : List LabelRow) → AnswersRequest c request (found.Route steps labels) → Meets c request steps
found-meets c request.Filed steps labels answers = absurd answers
found-meets c (request.Arrival from to time hold) steps labels answers = answers.0.one
found-meets c (request.Departure from to time queue) steps labels answers = answers.0.one

pub best-one : (request : Request) (IsOne : List Step → Type 0) (steps : List Step) → IsBestFor request IsOne steps → IsOne steps
best-one request.Filed IsOne steps best = absurd best
best-one (request.Arrival from to asked hold) IsOne steps best = best.one
best-one (request.Departure from to asked queue) IsOne steps best = best.one

-- and so does what is found anew, with the node that is meant
pub found_again-meets : (c : Conditions) (old : List Step) (time : ℕ) (target : Node) (request : Request) (steps : List Step) (labels : List LabelRow)
    → Meets c request old → AnswersAgain c old time target request (found.Route steps labels) → Meets c (retargeted request target) steps
found_again-meets c old time target request steps labels met answers =
    frozen-meets c old time target request steps met
    (best-one request (IsFrozenWalk c old time target request) steps
    (again-best c old time target (Meets-IsFeasibleWalk c request old met) request (found.Route steps labels) answers))

-- how a route is told does not depend on the node that is asked for
pub second-retargeted : (request : Request) (target : Node) (steps : List Step) → second_of (retargeted request target) steps ≡ second_of request steps
second-retargeted request.Filed target steps = refl
second-retargeted (request.Arrival from to asked hold) target steps = refl
second-retargeted (request.Departure from to asked queue) target steps = refl

-- ---- a walk's steps can be printed

module _ (c : Conditions) (well : IsWellFormed c.airport) where
  short : (n : ℕ) → n ≤ c.airport.horizon → IsShort n
  short n by = omega (arith, by, well.horizon.1)

  timed : (s : Segment) (n : ℕ) → seconds c.airport c.class s ≡ Some n → 1 ≤ n
  timed s n known = (seconds-range c.airport c.class s n well known).0

  walk-length : (steps : List Step) → IsFeasibleWalk c steps → begin_of steps + length steps ≤ end_of steps
  walk-length [] walk = absurd walk
  walk-length (s ∷ []) walk = omega (arith, IsFeasibleStep-takes c timed s walk)
  walk-length (s ∷ t ∷ steps) walk =
      omega (arith, IsFeasibleStep-takes c timed s walk.0, walk.1.at_once, walk-length (t ∷ steps) walk.2)

  -- there are at most as many as there are seconds
  pub walk-few : (steps : List Step) → IsFeasibleWalk c steps → length steps ≤ c.airport.horizon
  walk-few steps walk = omega (arith, walk-length steps walk, walk-end c steps walk)

  pub walk-count : (steps : List Step) → IsFeasibleWalk c steps → IsCount (length steps)
  walk-count steps walk = omega (arith, walk-few steps walk, well.horizon.1)

  pub walk-printable : (steps : List Step) → IsFeasibleWalk c steps → All (IsPrintableStep c.airport) steps
  walk-printable steps walk =
      All-weaker (IsFeasibleStep c) (IsPrintableStep c.airport) (λ s made. (made.on_arc, (short s.enter (step-enter c s made), short s.leave made.in_time))) steps
      (IsFeasibleWalk-steps c steps walk)

-- ---- a table can be printed

-- Rows in order, each key at least 2 above the one before and 2 below a bound, are at most half as many as the bound.
count-apart : {X : Type 0} (key : X → ℕ) (low bound : ℕ) (xs : List X) → low ≤ bound → AllPairs (λ x y. key x + 2 ≤ key y) xs
    → All (λ x. (low ≤ key x) × (key x + 2 ≤ bound)) xs → low + 2 * length xs ≤ bound
count-apart key low bound [] by apart within = omega (arith, by)
count-apart key low bound (x ∷ xs) by apart within =
    let here = All-head (λ y. (low ≤ key y) × (key y + 2 ≤ bound)) x xs within in
    let rest = All-tail (λ y. (low ≤ key y) × (key y + 2 ≤ bound)) x xs within in
    let after = AllPairs-first (λ y z. key y + 2 ≤ key z) x xs apart in
    let low_after : All (λ y. (key x + 2 ≤ key y) × (key y + 2 ≤ bound)) xs = λ k d h. (after k d h, (rest k d h).1) in
    let count = count-apart key (key x + 2) bound xs here.1 (AllPairs-rest (λ y z. key y + 2 ≤ key z) x xs apart) low_after in
    omega (arith, count, here.0)

-- what is needed of a label to print it, and that its window begins before the horizon
record IsFine (c : Conditions) (label : LabelRow) : Type 0 where
  printable : IsPrintableLabel c.airport label
  window : IsWindow (c.free (segment_of label.arc)) (window_of label)
  early : label.from < c.airport.horizon

-- labels that can be printed, and few enough
abbrev pub ArePrintableLabels : Airport → List LabelRow → Type 0
ArePrintableLabels airport labels = IsCount (length labels) × All (IsPrintableLabel airport) labels

abbrev pub labels_of : Found → List LabelRow
labels_of (found.Route steps labels) = labels
labels_of (found.NoRoute labels) = labels

abbrev pub labels_of_chosen : Chosen → List LabelRow
labels_of_chosen (chosen.Route to steps labels) = labels
labels_of_chosen (chosen.NoRoute labels) = labels

module _ (c : Conditions) (well : IsWellFormed c.airport) (bounded : (s : Segment) (t : ℕ) → c.airport.horizon ≤ t → IsFalse (c.free s t)) where
  label-fine : (label : LabelRow) → IsWindow (c.free (segment_of label.arc)) (window_of label) → IsTrue (arc_exists (layout_of c.airport) label.arc)
      → label.value ≤ c.airport.horizon → IsFine c label
  label-fine label window there by =
      let until : label.until ≤ c.airport.horizon =
      IsWindow-by (c.free (segment_of label.arc)) (window_of label) c.airport.horizon (bounded (segment_of label.arc)) window in
      record {
        printable = (there, (omega (arith, window.some, until, well.horizon.1), (omega (arith, until, well.horizon.1), omega (arith, by, well.horizon.1))));
        window = window;
        early = omega (arith, window.some, until);
      }

  exit-fine : (Begins : Step → Type 0) (label : LabelRow) → IsExitLabel c Begins label → IsFine c label
  exit-fine Begins label exit = go exit.value.0 exit.value.1.one exit.value.2 where
    there : (steps : List Step) → IsFeasibleWalk c steps → AtLast (IsStepOf c label) steps → IsTrue (arc_exists (layout_of c.airport) label.arc)
    there [] walk ends = absurd walk
    there (s ∷ steps) walk ends =
        AtLast-both (λ l. IsFeasibleStep c l × (s.enter ≤ l.enter) × (end_of (s ∷ steps) ≡ l.leave)) (IsStepOf c label) (IsTrue (arc_exists (layout_of c.airport) label.arc))
        (λ l made of. subst (λ a. IsTrue (arc_exists (layout_of c.airport) a)) of.0 made.0.on_arc) (s ∷ steps) (IsFeasibleWalk-last c s steps walk) ends

    go : (steps : List Step) → IsRoute c Begins (IsStepOf c label) steps → end_of steps ≡ label.value → IsFine c label
    go steps route same = label-fine label exit.window (there steps route.walk route.ends) (omega (arith, same, walk-end c steps route.walk))

  entry-fine : (Ends : Step → Type 0) (label : LabelRow) → IsEntryLabel c Ends label → IsFine c label
  entry-fine Ends label entry = go entry.value.0 entry.value.1.one entry.value.2 where
    there : (steps : List Step) → IsFeasibleWalk c steps → AtFirst (IsStepOf c label) steps → IsTrue (arc_exists (layout_of c.airport) label.arc)
    there [] walk begins = absurd walk
    there (s ∷ []) walk begins = subst (λ a. IsTrue (arc_exists (layout_of c.airport) a)) begins.0 walk.on_arc
    there (s ∷ t ∷ steps) walk begins = subst (λ a. IsTrue (arc_exists (layout_of c.airport) a)) begins.0 walk.0.on_arc

    go : (steps : List Step) → IsRoute c (IsStepOf c label) Ends steps → begin_of steps ≡ label.value → IsFine c label
    go steps route same = label-fine label entry.window (there steps route.walk route.begins) (omega (arith, same, walk-begin c steps route.walk))

  -- the rows by one number each: two of one arc lie 2 apart, since there is a second between two windows
  key : LabelRow → ℕ
  key label = label.arc.0 * 604801 + label.from

  two_apart : (p q : LabelRow) → p.arc ≡ q.arc → p.from < q.from → IsFine c p → IsFine c q → p.from + 2 ≤ q.from
  two_apart p q arc later p_fine q_fine =
      elim (cases_lt q.from (p.from + 2)) [
        | inl close ↦
            let free : IsTrue (c.free (segment_of q.arc) p.from) =
            subst (λ a. IsTrue (c.free (segment_of a) p.from)) arc (p_fine.window.all p.from (omega arith) p_fine.window.some) in
            absurd (both_ways _ (q_fine.window.before p.from (omega (arith, close, later))) free)
        | inr far ↦ far
      ]

  key-apart : (p q : LabelRow) → IsTrue (precedes p q) → IsFine c p → IsFine c q → key p + 2 ≤ key q
  unfolding key
  key-apart p q h p_fine q_fine =
      elim (or_cases (nat_lt p.arc.0 q.arc.0) _ h) [
        | inl lower ↦ omega (arith, ltb-true p.arc.0 q.arc.0 lower, p_fine.early, well.horizon.1)
        | inr same ↦
            let parts = and_parts _ _ same in
            let number : p.arc.0 ≡ q.arc.0 = eqb-true p.arc.0 q.arc.0 parts.0 in
            let arc : p.arc ≡ q.arc = (λ i. record { 0 = number i }) in
            omega (arith, number, two_apart p q arc (ltb-true p.from q.from parts.1) p_fine q_fine)
      ]

  key-by : (label : LabelRow) → IsFine c label → key label + 2 ≤ 12096020000
  unfolding key
  key-by label fine =
      let exists = arc_exists-segment c.airport label.arc fine.printable.0 in
      let few : length c.airport.segments ≤ 10000 = omega (arith, well.segments.few, length-map c.airport.segments (λ s. s.name)) in
      omega (arith, exists, few, fine.early, well.horizon.1)

  table-printable : (IsOne : LabelRow → Type 0) → ((label : LabelRow) → IsOne label → IsFine c label) → (labels : List LabelRow) → IsTable IsOne labels
      → ArePrintableLabels c.airport labels
  table-printable IsOne fine labels table =
      let fines : All (IsFine c) labels = All-weaker IsOne (IsFine c) fine labels table.each in
      let apart : AllPairs (λ p q. key p + 2 ≤ key q) labels =
      (λ i j d low high. key-apart (get_or labels i d) (get_or labels j d) (table.ordered i j d low high) (fines i d (omega (arith, low, high))) (fines j d high)) in
      let within : All (λ p. (0 ≤ key p) × (key p + 2 ≤ 12096020000)) labels =
      All-weaker (IsFine c) (λ p. (0 ≤ key p) × (key p + 2 ≤ 12096020000)) (λ p p_fine. (omega arith, key-by p p_fine)) labels fines in
      let count = count-apart key 0 12096020000 labels (omega arith) apart within in
      (omega (arith, count), All-weaker (IsFine c) (IsPrintableLabel c.airport) (λ p p_fine. p_fine.printable) labels fines)

  -- ---- what is found has labels that can be printed

  arrival-printable : (Begins : Step → Type 0) (to : Node) (answer : Found) → AnswersArrival c Begins to answer → ArePrintableLabels c.airport (labels_of answer)
  arrival-printable Begins to (found.Route steps labels) answers =
      table-printable (IsExitBefore c Begins (Some (end_of steps))) (λ label exit. exit-fine Begins label exit.0) labels answers.2
  arrival-printable Begins to (found.NoRoute labels) answers = table-printable (IsExitLabel c Begins) (exit-fine Begins) labels answers.1

  departure-printable : (from : Node) (Ends : Step → Type 0) (answer : Found) → AnswersDeparture c from Ends answer → ArePrintableLabels c.airport (labels_of answer)
  departure-printable from Ends (found.Route steps labels) answers =
      table-printable (IsEntryAfter c Ends (Some (begin_of steps))) (λ label entry. entry-fine Ends label entry.0) labels answers.2
  departure-printable from Ends (found.NoRoute labels) answers = table-printable (IsEntryLabel c Ends) (entry-fine Ends) labels answers.1

  pub found-printable : (request : Request) (answer : Found) → AnswersRequest c request answer → ArePrintableLabels c.airport (labels_of answer)
  found-printable request.Filed answer answers = absurd answers
  found-printable (request.Arrival from to time hold) answer answers =
      arrival-printable (LeavesNodeWithin (layout_of c.airport) from time (time + hold)) to answer answers
  found-printable (request.Departure from to time queue) answer answers =
      departure-printable from (ReachesNodeWithin (layout_of c.airport) to (time - queue) time) answer answers

  same-labels : (done : List Step) (answer rest : Found) → answer ≡ after_steps done rest → labels_of rest ≡ labels_of answer
  same-labels done answer (found.Route steps labels) e = sym (ap labels_of e)
  same-labels done answer (found.NoRoute labels) e = sym (ap labels_of e)

  pub found_again-printable : (old : List Step) (time : ℕ) (target : Node) (request : Request) (answer : Found) → AnswersAgain c old time target request answer
      → ArePrintableLabels c.airport (labels_of answer)
  found_again-printable old time target request.Filed answer answers = absurd answers
  found_again-printable old time target (request.Arrival from to asked hold) answer answers = go (step_begun time old) answers where
    go : (o : Option Step) → MatchOption o
        (AnswersArrival c (LeavesNodeWithin (layout_of c.airport) from (max asked time) (asked + hold)) target answer)
        (λ begun. (rest : Found) × (answer ≡ after_steps (steps_done time old) rest) × AnswersArrival c (Resumes begun time) target rest)
        → ArePrintableLabels c.airport (labels_of answer)
    go None found = arrival-printable (LeavesNodeWithin (layout_of c.airport) from (max asked time) (asked + hold)) target answer found
    go (Some begun) found =
        subst (ArePrintableLabels c.airport) (same-labels (steps_done time old) answer found.0 found.1)
        (arrival-printable (Resumes begun time) target found.0 found.2)
  found_again-printable old time target (request.Departure from to asked queue) answer answers =
      departure-printable from (ReachesNodeWithin (layout_of c.airport) target (asked - queue) asked) answer answers

  departure_after-printable : (from : Node) (Ends : Step → Type 0) (bound : ℕ) (answer : Found) → AnswersDepartureAfter c from Ends bound answer → ArePrintableLabels c.airport (labels_of answer)
  departure_after-printable from Ends bound (found.Route steps labels) answers = departure-printable from Ends (found.Route steps labels) answers.1
  departure_after-printable from Ends bound (found.NoRoute labels) answers =
      table-printable (IsEntryAfter c Ends (Some bound)) (λ label entry. entry-fine Ends label entry.0) labels answers.1

  -- and at the turn of a flight that is late or in the way
  pub turn-printable : (request : Request) (kept : List Step) (time : ℕ) (answer : Found) → AnswersTurn c request kept time answer → ArePrintableLabels c.airport (labels_of answer)
  turn-printable request.Filed kept time answer answers = absurd answers
  turn-printable (request.Arrival from to asked hold) kept time answer answers = found_again-printable kept time to (request.Arrival from to asked hold) answer answers
  turn-printable (request.Departure from to asked queue) kept time answer answers =
      departure_after-printable from (ReachesNodeWithin (layout_of c.airport) to (asked - queue) asked) time answer answers

  -- ---- what is chosen has labels that can be printed

  pub chosen-printable : (choice : Choice) (answer : Chosen) → AnswersChoice c choice answer → ArePrintableLabels c.airport (labels_of_chosen answer)
  chosen-printable (arrival_any from to time hold) (chosen.Route node steps labels) answers =
      arrival-printable (LeavesNodeWithin (layout_of c.airport) from time (time + hold)) node (found.Route steps labels) answers.1
  chosen-printable (arrival_any from to time hold) (chosen.NoRoute labels) answers =
      let Begins = LeavesNodeWithin (layout_of c.airport) from time (time + hold) in table-printable (IsExitLabel c Begins) (exit-fine Begins) labels answers.1
  chosen-printable (departure_any from to time queue) (chosen.Route node steps labels) answers =
      let Ends = ReachesOneOfWithin (layout_of c.airport) to (time - queue) time in
      table-printable (IsEntryAfter c Ends (Some (begin_of steps))) (λ label entry. entry-fine Ends label entry.0) labels answers.3
  chosen-printable (departure_any from to time queue) (chosen.NoRoute labels) answers =
      let Ends = ReachesOneOfWithin (layout_of c.airport) to (time - queue) time in table-printable (IsEntryLabel c Ends) (entry-fine Ends) labels answers.1
