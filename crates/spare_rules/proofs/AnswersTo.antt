-- The same is answered to a search at two such airports: the same route with the same labels, or that there is none.
use Rattle.std.proofs.Common.{◌≡◌, ◌+◌, ◌-◌, ℕ, max, List, [], ◌∷◌, Option, Some, None, All, IsTrue, inl, inr, subst}
use Rattle.std.specs.Prelude.{MatchOption}
use Rattle.std.proofs.lemmas.List.Elements.{All-nil, All-cons, All-head, All-tail}
use Rattle.taxi_base.specs.declared.numbers.Arc.{Arc}
use Rattle.taxi_base.specs.declared.numbers.Node.{Node}
use Rattle.taxi_base.specs.declared.rows.LabelRow.{LabelRow}
use Rattle.taxi_base.specs.declared.rows.Step.{Step}
use Rattle.taxi_base.specs.declared.answers.Chosen.{Chosen}
use Rattle.taxi_base.specs.declared.answers.Chosen.TheVariants as chosen
use Rattle.taxi_base.specs.declared.answers.Found.{Found}
use Rattle.taxi_base.specs.declared.answers.Found.TheVariants as found
use Rattle.taxi_base.specs.declared.answers.Request.{Request}
use Rattle.taxi_base.specs.declared.answers.Request.TheVariants as request
use Rattle.taxi_base.specs.Airport.{Airport, layout_of, ends}
use Rattle.taxi_base.specs.Walks.{Conditions, IsFeasibleWalk, AtFirst, AtLast, begin_of, end_of, IsRoute, LeavesNode, ReachesNode, LeavesNodeWithin, ReachesNodeWithin, Resumes, EndsEarliest, BeginsLatest, IsEarliestEnd, IsLatestBegin}
use Rattle.taxi_base.specs.Labels.{IsStepOf, IsExitLabel, IsEntryLabel, IsTable, IsExitBefore, IsEntryAfter, IsFirst, IsFirstStep, IsBefore, IsTracedTo, IsBestExit, IsPickedArrival, IsLastStep, IsAfter, IsTracedFrom, IsBestEntry, IsPickedDeparture, AnswersArrival, AnswersDeparture, AnswersDepartureAfter}
use Rattle.taxi_base.specs.Choices.{OneOf, ReachesOneOf, ReachesOneOfWithin, IsChosenArrival, IsChosenDeparture, AnswersArrivalChoice, AnswersDepartureChoice}
use Rattle.taxi_base.specs.State.{step_begun, steps_done}
use Rattle.taxi_base.specs.Again.{after_steps, AnswersAgain}
use Rattle.replies.specs.Asked.{AnswersRequest, Choice, arrival_any, departure_any, AnswersChoice}
use Rattle.spare_rules.proofs.Pairs.{Pair, one, other, turned, at, IsOpen, step-is_open, turn-to, walk-to, first-step}

-- ---- what holds of some things holds of others

pub record Same {X : Type 0} (P Q : X → Type 0) : Type 0 where
  pub to : (x : X) → P x → Q x
  pub from : (x : X) → Q x → P x

abbrev back : {X : Type 0} {P Q : X → Type 0} → Same P Q → Same Q P
back same = record { to = same.from; from = same.to }

abbrev itself : {X : Type 0} (P : X → Type 0) → Same P P
itself P = record { to = λ x h. h; from = λ x h. h }

first-map : (P Q : Step → Type 0) → ((s : Step) → P s → Q s) → (steps : List Step) → AtFirst P steps → AtFirst Q steps
first-map P Q f [] h = h
first-map P Q f (s ∷ steps) h = f s h

last-map : (P Q : Step → Type 0) → ((s : Step) → P s → Q s) → (steps : List Step) → AtLast P steps → AtLast Q steps
last-map P Q f [] h = h
last-map P Q f (s ∷ []) h = f s h
last-map P Q f (s ∷ t ∷ steps) h = last-map P Q f (t ∷ steps) h

module _ {P Q : List Step → Type 0} (same : Same P Q) where
  ends-to : (steps : List Step) → EndsEarliest P steps → EndsEarliest Q steps
  ends-to steps best = record { one = same.to steps best.one; earliest = λ others is. best.earliest others (same.from others is) }

  begins-to : (steps : List Step) → BeginsLatest P steps → BeginsLatest Q steps
  begins-to steps best = record { one = same.to steps best.one; latest = λ others is. best.latest others (same.from others is) }

  end-to : (time : ℕ) → IsEarliestEnd P time → IsEarliestEnd Q time
  end-to time (steps, best, is) = (steps, ends-to steps best, is)

  begin-to : (time : ℕ) → IsLatestBegin P time → IsLatestBegin Q time
  begin-to time (steps, best, is) = (steps, begins-to steps best, is)

  none-to : ((steps : List Step) → P steps → ⊥) → (steps : List Step) → Q steps → ⊥
  none-to none steps is = none steps (same.from steps is)

all-to : {P Q : LabelRow → Type 0} → ((label : LabelRow) → P label → Q label) → (rows : List LabelRow) → All P rows → All Q rows
all-to {P} {Q} f [] all = All-nil Q
all-to {P} {Q} f (row ∷ rows) all = All-cons Q row rows (f row (All-head P row rows all)) (all-to f rows (All-tail P row rows all))

table-to : {P Q : LabelRow → Type 0} → Same P Q → (rows : List LabelRow) → IsTable P rows → IsTable Q rows
table-to same rows table = record { ordered = table.ordered; each = all-to same.to rows table.each; whole = λ label is. table.whole label (same.from label is) }

firsts-to : {P Q : LabelRow → Type 0} → Same P Q → (label : LabelRow) → IsFirst P label → IsFirst Q label
firsts-to same label is = record { one = same.to label is.one; first = λ rival of. is.first rival (same.from rival of) }

-- ---- routes

module _ (p : Pair) (c : Conditions) {B D E F : Step → Type 0} (begins : (s : Step) → B s → D s) (ends : (s : Step) → E s → F s) where
  route-to : (steps : List Step) → IsRoute (at (one p) c) B E steps → IsRoute (at (other p) c) D F steps
  route-to steps route = record { walk = walk-to p c steps route.walk; begins = first-map B D begins steps route.begins; ends = last-map E F ends steps route.ends }

routes : (p : Pair) (c : Conditions) {B D E F : Step → Type 0} → Same B D → Same E F → Same (IsRoute (at (one p) c) B E) (IsRoute (at (other p) c) D F)
routes p c begins ends = record { to = route-to p c begins.to ends.to; from = route-to (turned p) c begins.from ends.from }

leaves : (p : Pair) (node : Node) → Same (LeavesNode (layout_of (one p)) node) (LeavesNode (layout_of (other p)) node)
unfolding ends
leaves p node = record { to = λ s h. h; from = λ s h. h }

reaches : (p : Pair) (node : Node) → Same (ReachesNode (layout_of (one p)) node) (ReachesNode (layout_of (other p)) node)
unfolding ends
reaches p node = record { to = λ s h. h; from = λ s h. h }

leaves_within-to : (p : Pair) (node : Node) (earliest latest : ℕ) (s : Step) → LeavesNodeWithin (layout_of (one p)) node earliest latest s → LeavesNodeWithin (layout_of (other p)) node earliest latest s
leaves_within-to p node earliest latest s is = record { leaves = (leaves p node).to s is.leaves; not_before = is.not_before; not_after = is.not_after }

leaves_within : (p : Pair) (node : Node) (earliest latest : ℕ) → Same (LeavesNodeWithin (layout_of (one p)) node earliest latest) (LeavesNodeWithin (layout_of (other p)) node earliest latest)
leaves_within p node earliest latest = record { to = leaves_within-to p node earliest latest; from = leaves_within-to (turned p) node earliest latest }

reaches_within-to : (p : Pair) (node : Node) (earliest latest : ℕ) (s : Step) → ReachesNodeWithin (layout_of (one p)) node earliest latest s → ReachesNodeWithin (layout_of (other p)) node earliest latest s
reaches_within-to p node earliest latest s is = record { reaches = (reaches p node).to s is.reaches; not_before = is.not_before; not_after = is.not_after }

reaches_within : (p : Pair) (node : Node) (earliest latest : ℕ) → Same (ReachesNodeWithin (layout_of (one p)) node earliest latest) (ReachesNodeWithin (layout_of (other p)) node earliest latest)
reaches_within p node earliest latest = record { to = reaches_within-to p node earliest latest; from = reaches_within-to (turned p) node earliest latest }

one_of-to : {A : Type 0} (P Q : A → Type 0) → ((x : A) → P x → Q x) → (xs : List A) → OneOf P xs → OneOf Q xs
one_of-to P Q f [] h = h
one_of-to P Q f (x ∷ []) h = f x h
one_of-to P Q f (x ∷ y ∷ xs) (inl h) = inl (f x h)
one_of-to P Q f (x ∷ y ∷ xs) (inr h) = inr (one_of-to P Q f (y ∷ xs) h)

any : (p : Pair) (nodes : List Node) → Same (ReachesOneOf (layout_of (one p)) nodes) (ReachesOneOf (layout_of (other p)) nodes)
any p nodes = record {
  to = λ s. one_of-to (λ node. ReachesNode (layout_of (one p)) node s) (λ node. ReachesNode (layout_of (other p)) node s) (λ node. (reaches p node).to s) nodes;
  from = λ s. one_of-to (λ node. ReachesNode (layout_of (other p)) node s) (λ node. ReachesNode (layout_of (one p)) node s) (λ node. (reaches p node).from s) nodes;
}

any_within : (p : Pair) (nodes : List Node) (earliest latest : ℕ) → Same (ReachesOneOfWithin (layout_of (one p)) nodes earliest latest) (ReachesOneOfWithin (layout_of (other p)) nodes earliest latest)
any_within p nodes earliest latest = record {
  to = λ s. one_of-to (λ node. ReachesNodeWithin (layout_of (one p)) node earliest latest s) (λ node. ReachesNodeWithin (layout_of (other p)) node earliest latest s) (λ node. (reaches_within p node earliest latest).to s) nodes;
  from = λ s. one_of-to (λ node. ReachesNodeWithin (layout_of (other p)) node earliest latest s) (λ node. ReachesNodeWithin (layout_of (one p)) node earliest latest s) (λ node. (reaches_within p node earliest latest).from s) nodes;
}

-- ---- labels

exit-to : (p : Pair) (c : Conditions) {B D : Step → Type 0} → Same B D → (label : LabelRow) → IsExitLabel (at (one p) c) B label → IsExitLabel (at (other p) c) D label
exit-to p c begins label exit = record { window = exit.window; value = end-to (routes p c begins (itself (IsStepOf (at (one p) c) label))) label.value exit.value }

exits : (p : Pair) (c : Conditions) {B D : Step → Type 0} → Same B D → Same (IsExitLabel (at (one p) c) B) (IsExitLabel (at (other p) c) D)
exits p c begins = record { to = exit-to p c begins; from = exit-to (turned p) c (back begins) }

entry-to : (p : Pair) (c : Conditions) {E F : Step → Type 0} → Same E F → (label : LabelRow) → IsEntryLabel (at (one p) c) E label → IsEntryLabel (at (other p) c) F label
entry-to p c ends label entry = record { window = entry.window; value = begin-to (routes p c (itself (IsStepOf (at (one p) c) label)) ends) label.value entry.value }

entries : (p : Pair) (c : Conditions) {E F : Step → Type 0} → Same E F → Same (IsEntryLabel (at (one p) c) E) (IsEntryLabel (at (other p) c) F)
entries p c ends = record { to = entry-to p c ends; from = entry-to (turned p) c (back ends) }

exit_before-to : (p : Pair) (c : Conditions) {B D : Step → Type 0} → Same B D → (end : Option ℕ) (label : LabelRow) → IsExitBefore (at (one p) c) B end label → IsExitBefore (at (other p) c) D end label
exit_before-to p c begins None label is = exit-to p c begins label is
exit_before-to p c begins (Some end) label is = (exit-to p c begins label is.0, is.1)

exits_before : (p : Pair) (c : Conditions) {B D : Step → Type 0} → Same B D → (end : Option ℕ) → Same (IsExitBefore (at (one p) c) B end) (IsExitBefore (at (other p) c) D end)
exits_before p c begins end = record { to = exit_before-to p c begins end; from = exit_before-to (turned p) c (back begins) end }

entry_after-to : (p : Pair) (c : Conditions) {E F : Step → Type 0} → Same E F → (begin : Option ℕ) (label : LabelRow) → IsEntryAfter (at (one p) c) E begin label → IsEntryAfter (at (other p) c) F begin label
entry_after-to p c ends None label is = entry-to p c ends label is
entry_after-to p c ends (Some begin) label is = (entry-to p c ends label is.0, is.1)

entries_after : (p : Pair) (c : Conditions) {E F : Step → Type 0} → Same E F → (begin : Option ℕ) → Same (IsEntryAfter (at (one p) c) E begin) (IsEntryAfter (at (other p) c) F begin)
entries_after p c ends begin = record { to = entry_after-to p c ends begin; from = entry_after-to (turned p) c (back ends) begin }

-- the class can take the arc of a label
last-open : (p : Pair) (c : Conditions) (arc : Arc) (P : Step → Type 0) → ((s : Step) → P s → s.arc ≡ arc) → (steps : List Step) → IsFeasibleWalk (at (one p) c) steps → AtLast P steps → IsOpen p c.class arc
last-open p c arc P of [] walk last = absurd last
last-open p c arc P of (s ∷ []) walk last = subst (IsOpen p c.class) (of s last) (step-is_open p c s walk)
last-open p c arc P of (s ∷ t ∷ steps) walk last = last-open p c arc P of (t ∷ steps) walk.2 last

first-open : (p : Pair) (c : Conditions) (arc : Arc) (P : Step → Type 0) → ((s : Step) → P s → s.arc ≡ arc) → (steps : List Step) → IsFeasibleWalk (at (one p) c) steps → AtFirst P steps → IsOpen p c.class arc
first-open p c arc P of [] walk first = absurd first
first-open p c arc P of (s ∷ steps) walk first = subst (IsOpen p c.class) (of s first) (step-is_open p c s (first-step (at (one p) c) s steps walk))

exit-open : (p : Pair) (c : Conditions) (B : Step → Type 0) (label : LabelRow) → IsExitLabel (at (one p) c) B label → IsOpen p c.class label.arc
exit-open p c B label exit = let route = exit.value.1.one in last-open p c label.arc (IsStepOf (at (one p) c) label) (λ s is. is.0) exit.value.0 route.walk route.ends

entry-open : (p : Pair) (c : Conditions) (E : Step → Type 0) (label : LabelRow) → IsEntryLabel (at (one p) c) E label → IsOpen p c.class label.arc
entry-open p c E label entry = let route = entry.value.1.one in first-open p c label.arc (IsStepOf (at (one p) c) label) (λ s is. is.0) entry.value.0 route.walk route.begins

-- ---- the picked route of an arrival

first_step-to : (p : Pair) (c : Conditions) {B D : Step → Type 0} → Same B D → (label : LabelRow) (step : Step) → IsFirstStep (at (one p) c) B label step → IsFirstStep (at (other p) c) D label step
first_step-to p c begins label step is = record { route = (routes p c begins (itself (IsStepOf (at (one p) c) label))).to (step ∷ []) is.route; value = is.value }

before-to : (p : Pair) (c : Conditions) {B D : Step → Type 0} → Same B D → (label before : LabelRow) → IsOpen p c.class label.arc → IsBefore (at (one p) c) B label before → IsBefore (at (other p) c) D label before
before-to p c {B} begins label before goes is = record {
  exit = exit-to p c begins before is.exit;
  permitted = subst IsTrue (turn-to p c.class before.arc label.arc (exit-open p c B before is.exit) goes) is.permitted;
  value = is.value;
  in_window = is.in_window;
}

befores : (p : Pair) (c : Conditions) {B D : Step → Type 0} → Same B D → (label : LabelRow) → IsOpen p c.class label.arc → Same (IsBefore (at (one p) c) B label) (IsBefore (at (other p) c) D label)
befores p c begins label goes = record { to = λ before. before-to p c begins label before goes; from = λ before. before-to (turned p) c (back begins) label before goes }

traced-to : (p : Pair) (c : Conditions) {B D : Step → Type 0} → Same B D → (label : LabelRow) (leave : ℕ) (steps : List Step) → IsOpen p c.class label.arc
    → IsTracedTo (at (one p) c) B label leave steps → IsTracedTo (at (other p) c) D label leave steps
traced-to p c begins label leave steps goes (IsTracedTo.begin _ _ step first) = IsTracedTo.begin label leave step (first_step-to p c begins label step first)
traced-to p c {B} begins label leave steps goes (IsTracedTo.after _ before _ rest none first traced) =
    IsTracedTo.after label before leave rest (λ step is. none step (first_step-to (turned p) c (back begins) label step is)) (firsts-to (befores p c begins label goes) before first)
    (traced-to p c begins before _ rest (exit-open p c B before first.one.exit) traced)

best_exit-to : (p : Pair) (c : Conditions) {B D : Step → Type 0} → Same B D → (to : Node) (label : LabelRow) → IsBestExit (at (one p) c) B to label → IsBestExit (at (other p) c) D to label
unfolding ends
best_exit-to p c begins to label is = record { exit = exit-to p c begins label is.exit; reaches = is.reaches; best = end-to (routes p c begins (reaches p to)) label.value is.best }

best_exits : (p : Pair) (c : Conditions) {B D : Step → Type 0} → Same B D → (to : Node) → Same (IsBestExit (at (one p) c) B to) (IsBestExit (at (other p) c) D to)
best_exits p c begins to = record { to = best_exit-to p c begins to; from = best_exit-to (turned p) c (back begins) to }

picked_arrival-to : (p : Pair) (c : Conditions) {B D : Step → Type 0} → Same B D → (to : Node) (steps : List Step) → IsPickedArrival (at (one p) c) B to steps → IsPickedArrival (at (other p) c) D to steps
picked_arrival-to p c {B} begins to steps is = record {
  label = is.label;
  last = firsts-to (best_exits p c begins to) is.label is.last;
  traced = traced-to p c begins is.label is.label.value steps (exit-open p c B is.label is.last.one.exit) is.traced;
}

pub arrival-to : (p : Pair) (c : Conditions) {B D : Step → Type 0} → Same B D → (to : Node) (answer : Found) → AnswersArrival (at (one p) c) B to answer → AnswersArrival (at (other p) c) D to answer
arrival-to p c begins to (found.Route steps labels) (best, picked, table) =
    (ends-to (routes p c begins (reaches p to)) steps best, picked_arrival-to p c begins to steps picked, table-to (exits_before p c begins (Some (end_of steps))) labels table)
arrival-to p c begins to (found.NoRoute labels) (none, table) = (none-to (routes p c begins (reaches p to)) none, table-to (exits_before p c begins None) labels table)

-- ---- the picked route of a departure

last_step-to : (p : Pair) (c : Conditions) {E F : Step → Type 0} → Same E F → (label : LabelRow) (step : Step) → IsLastStep (at (one p) c) E label step → IsLastStep (at (other p) c) F label step
last_step-to p c ends label step is = record { route = (routes p c (itself (IsStepOf (at (one p) c) label)) ends).to (step ∷ []) is.route; value = is.value }

after-to : (p : Pair) (c : Conditions) {E F : Step → Type 0} → Same E F → (label after : LabelRow) → IsOpen p c.class label.arc → IsAfter (at (one p) c) E label after → IsAfter (at (other p) c) F label after
after-to p c {E} ends label after goes is = record {
  entry = entry-to p c ends after is.entry;
  permitted = subst IsTrue (turn-to p c.class label.arc after.arc goes (entry-open p c E after is.entry)) is.permitted;
  value = is.value;
  in_window = is.in_window;
}

afters : (p : Pair) (c : Conditions) {E F : Step → Type 0} → Same E F → (label : LabelRow) → IsOpen p c.class label.arc → Same (IsAfter (at (one p) c) E label) (IsAfter (at (other p) c) F label)
afters p c ends label goes = record { to = λ after. after-to p c ends label after goes; from = λ after. after-to (turned p) c (back ends) label after goes }

traced-from : (p : Pair) (c : Conditions) {E F : Step → Type 0} → Same E F → (label : LabelRow) (enter : ℕ) (steps : List Step) → IsOpen p c.class label.arc
    → IsTracedFrom (at (one p) c) E label enter steps → IsTracedFrom (at (other p) c) F label enter steps
traced-from p c ends label enter steps goes (IsTracedFrom.finish _ _ step last) = IsTracedFrom.finish label enter step (last_step-to p c ends label step last)
traced-from p c {E} ends label enter steps goes (IsTracedFrom.before _ after _ rest none first traced) =
    IsTracedFrom.before label after enter rest (λ step is. none step (last_step-to (turned p) c (back ends) label step is)) (firsts-to (afters p c ends label goes) after first)
    (traced-from p c ends after _ rest (entry-open p c E after first.one.entry) traced)

best_entry-to : (p : Pair) (c : Conditions) {E F : Step → Type 0} → Same E F → (from : Node) (label : LabelRow) → IsBestEntry (at (one p) c) E from label → IsBestEntry (at (other p) c) F from label
unfolding ends
best_entry-to p c ends from label is = record { entry = entry-to p c ends label is.entry; leaves = is.leaves; best = begin-to (routes p c (leaves p from) ends) label.value is.best }

best_entries : (p : Pair) (c : Conditions) {E F : Step → Type 0} → Same E F → (from : Node) → Same (IsBestEntry (at (one p) c) E from) (IsBestEntry (at (other p) c) F from)
best_entries p c ends from = record { to = best_entry-to p c ends from; from = best_entry-to (turned p) c (back ends) from }

picked_departure-to : (p : Pair) (c : Conditions) {E F : Step → Type 0} → Same E F → (from : Node) (steps : List Step) → IsPickedDeparture (at (one p) c) E from steps → IsPickedDeparture (at (other p) c) F from steps
picked_departure-to p c {E} ends from steps is = record {
  label = is.label;
  first = firsts-to (best_entries p c ends from) is.label is.first;
  traced = traced-from p c ends is.label is.label.value steps (entry-open p c E is.label is.first.one.entry) is.traced;
}

pub departure-to : (p : Pair) (c : Conditions) {E F : Step → Type 0} → Same E F → (from : Node) (answer : Found) → AnswersDeparture (at (one p) c) from E answer → AnswersDeparture (at (other p) c) from F answer
departure-to p c ends from (found.Route steps labels) (best, picked, table) =
    (begins-to (routes p c (leaves p from) ends) steps best, picked_departure-to p c ends from steps picked, table-to (entries_after p c ends (Some (begin_of steps))) labels table)
departure-to p c ends from (found.NoRoute labels) (none, table) = (none-to (routes p c (leaves p from) ends) none, table-to (entries_after p c ends None) labels table)

departure_after-to : (p : Pair) (c : Conditions) {E F : Step → Type 0} → Same E F → (from : Node) (bound : ℕ) (answer : Found) → AnswersDepartureAfter (at (one p) c) from E bound answer → AnswersDepartureAfter (at (other p) c) from F bound answer
departure_after-to p c ends from bound (found.Route steps labels) (late, answers) = (late, departure-to p c ends from (found.Route steps labels) answers)
departure_after-to p c ends from bound (found.NoRoute labels) (none, table) =
    (λ steps route. none steps ((routes p c (leaves p from) ends).from steps route), table-to (entries_after p c ends (Some bound)) labels table)

-- ---- a choice of nodes

chosen_arrival-to : (p : Pair) (c : Conditions) {B D : Step → Type 0} → Same B D → (nodes : List Node) (to : Node) → IsChosenArrival (at (one p) c) B nodes to → IsChosenArrival (at (other p) c) D nodes to
chosen_arrival-to p c begins nodes to is = record {
  named = is.named;
  end = is.end;
  best = end-to (routes p c begins (reaches p to)) is.end is.best;
  least = λ node of steps route. is.least node of steps ((routes p c begins (reaches p node)).from steps route);
  first = λ node of steps route. is.first node of steps ((routes p c begins (reaches p node)).from steps route);
}

chosen_departure-to : (p : Pair) (c : Conditions) (from : Node) (nodes : List Node) (earliest latest : ℕ) (to : Node)
    → IsChosenDeparture (at (one p) c) from nodes earliest latest to → IsChosenDeparture (at (other p) c) from nodes earliest latest to
chosen_departure-to p c from nodes earliest latest to is = record {
  named = is.named;
  begin = is.begin;
  best = begin-to (routes p c (leaves p from) (reaches_within p to earliest latest)) is.begin is.best;
  greatest = λ node of steps route. is.greatest node of steps ((routes p c (leaves p from) (reaches_within p node earliest latest)).from steps route);
  first = λ node of steps route. is.first node of steps ((routes p c (leaves p from) (reaches_within p node earliest latest)).from steps route);
}

arrival_choice-to : (p : Pair) (c : Conditions) {B D : Step → Type 0} → Same B D → (nodes : List Node) (answer : Chosen) → AnswersArrivalChoice (at (one p) c) B nodes answer → AnswersArrivalChoice (at (other p) c) D nodes answer
arrival_choice-to p c begins nodes (chosen.Route to steps labels) (is, answers) = (chosen_arrival-to p c begins nodes to is, arrival-to p c begins to (found.Route steps labels) answers)
arrival_choice-to p c begins nodes (chosen.NoRoute labels) (none, table) = (none-to (routes p c begins (any p nodes)) none, table-to (exits_before p c begins None) labels table)

departure_choice-to : (p : Pair) (c : Conditions) (from : Node) (nodes : List Node) (earliest latest : ℕ) (answer : Chosen)
    → AnswersDepartureChoice (at (one p) c) from nodes earliest latest answer → AnswersDepartureChoice (at (other p) c) from nodes earliest latest answer
departure_choice-to p c from nodes earliest latest (chosen.Route to steps labels) (is, best, picked, table) = (
  chosen_departure-to p c from nodes earliest latest to is,
  begins-to (routes p c (leaves p from) (reaches_within p to earliest latest)) steps best,
  picked_departure-to p c (reaches_within p to earliest latest) from steps picked,
  table-to (entries_after p c (any_within p nodes earliest latest) (Some (begin_of steps))) labels table,
)
departure_choice-to p c from nodes earliest latest (chosen.NoRoute labels) (none, table) =
    (none-to (routes p c (leaves p from) (any_within p nodes earliest latest)) none, table-to (entries_after p c (any_within p nodes earliest latest) None) labels table)

-- ---- what is asked

pub request-to : (p : Pair) (c : Conditions) (asked : Request) (answer : Found) → AnswersRequest (at (one p) c) asked answer → AnswersRequest (at (other p) c) asked answer
request-to p c request.Filed answer answers = answers
request-to p c (request.Arrival from to time hold) answer answers = arrival-to p c (leaves_within p from time (time + hold)) to answer answers
request-to p c (request.Departure from to time queue) answer answers = departure-to p c (reaches_within p to (time - queue) time) from answer answers

pub choice-to : (p : Pair) (c : Conditions) (asked : Choice) (answer : Chosen) → AnswersChoice (at (one p) c) asked answer → AnswersChoice (at (other p) c) asked answer
choice-to p c (arrival_any from to time hold) answer answers = arrival_choice-to p c (leaves_within p from time (time + hold)) to answer answers
choice-to p c (departure_any from to time queue) answer answers = departure_choice-to p c from to (time - queue) time answer answers

pub again-to : (p : Pair) (c : Conditions) (old : List Step) (time : ℕ) (target : Node) (asked : Request) (answer : Found) → AnswersAgain (at (one p) c) old time target asked answer → AnswersAgain (at (other p) c) old time target asked answer
again-to p c old time target request.Filed answer answers = answers
again-to p c old time target (request.Departure from to asked queue) answer answers = departure-to p c (reaches_within p target (asked - queue) asked) from answer answers
again-to p c old time target (request.Arrival from to asked hold) answer answers = go (step_begun time old) answers where
  GoesOn : Airport → Step → Type 0
  GoesOn airport begun = (rest : Found) × (answer ≡ after_steps (steps_done time old) rest) × AnswersArrival (at airport c) (Resumes begun time) target rest

  go : (o : Option Step) → MatchOption o (AnswersArrival (at (one p) c) (LeavesNodeWithin (layout_of (one p)) from (max asked time) (asked + hold)) target answer) (GoesOn (one p))
      → MatchOption o (AnswersArrival (at (other p) c) (LeavesNodeWithin (layout_of (other p)) from (max asked time) (asked + hold)) target answer) (GoesOn (other p))
  go None answers = arrival-to p c (leaves_within p from (max asked time) (asked + hold)) target answer answers
  go (Some begun) (rest, is, answers) = (rest, is, arrival-to p c (itself (Resumes begun time)) target rest answers)

pub after-bound-to : (p : Pair) (c : Conditions) (from to : Node) (earliest latest bound : ℕ) (answer : Found)
    → AnswersDepartureAfter (at (one p) c) from (ReachesNodeWithin (layout_of (one p)) to earliest latest) bound answer
    → AnswersDepartureAfter (at (other p) c) from (ReachesNodeWithin (layout_of (other p)) to earliest latest) bound answer
after-bound-to p c from to earliest latest bound answer answers = departure_after-to p c (reaches_within p to earliest latest) from bound answer answers
