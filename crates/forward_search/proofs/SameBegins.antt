-- Two ways to begin that are the same for every step that the class can make have the same answers.
use Rattle.std.proofs.Common.{ℕ, ◌+◌, ◌-◌, ◌≤◌, min, List, [], ◌∷◌, Option, Some, None, arith}
use Rattle.std.proofs.lemmas.List.Elements.{All-weaker}
use Rattle.taxi_base.specs.declared.numbers.Node.{Node}
use Rattle.taxi_base.specs.declared.rows.Step.{Step}
use Rattle.taxi_base.specs.declared.rows.LabelRow.{LabelRow}
use Rattle.taxi_base.specs.declared.answers.Found.{Found}
use Rattle.taxi_base.specs.declared.answers.Found.TheVariants.{Route, NoRoute}
use Rattle.taxi_base.specs.Airport.{layout_of, segment_of, seconds, Layout}
use Rattle.taxi_base.specs.Walks.{Conditions, IsFeasibleStep, IsFeasibleWalk, IsRoute, LeavesNodeWithin, ReachesNode, EndsEarliest, IsEarliestEnd, end_of}
use Rattle.taxi_base.specs.Labels.{IsStepOf, IsExitLabel, IsExitBefore, IsTable, IsFirst, IsFirstStep, IsBefore, IsTracedTo, begin, after, seconds_of, IsBestExit, IsPickedArrival, AnswersArrival}
use Rattle.taxi_base.proofs.WalkLaws.{IsSomeAnd-value}

-- ---- what is the best, the first or a table of some is that of others where these are the same

EndsEarliest-same : (IsOne IsOther : List Step → Type 0) → ((steps : List Step) → IsOne steps → IsOther steps) → ((steps : List Step) → IsOther steps → IsOne steps)
    → (steps : List Step) → EndsEarliest IsOne steps → EndsEarliest IsOther steps
EndsEarliest-same IsOne IsOther forth back steps best =
    record { one = forth steps best.one; earliest = λ others other. best.earliest others (back others other) }

IsEarliestEnd-same : (IsOne IsOther : List Step → Type 0) → ((steps : List Step) → IsOne steps → IsOther steps) → ((steps : List Step) → IsOther steps → IsOne steps)
    → (time : ℕ) → IsEarliestEnd IsOne time → IsEarliestEnd IsOther time
IsEarliestEnd-same IsOne IsOther forth back time end = (end.0, EndsEarliest-same IsOne IsOther forth back end.0 end.1, end.2)

IsFirst-same : (IsOne IsOther : LabelRow → Type 0) → ((l : LabelRow) → IsOne l → IsOther l) → ((l : LabelRow) → IsOther l → IsOne l)
    → (label : LabelRow) → IsFirst IsOne label → IsFirst IsOther label
IsFirst-same IsOne IsOther forth back label first =
    record { one = forth label first.one; first = λ others other. first.first others (back others other) }

IsTable-same : (IsOne IsOther : LabelRow → Type 0) → ((l : LabelRow) → IsOne l → IsOther l) → ((l : LabelRow) → IsOther l → IsOne l)
    → (rows : List LabelRow) → IsTable IsOne rows → IsTable IsOther rows
IsTable-same IsOne IsOther forth back rows table = record {
  ordered = table.ordered;
  each = All-weaker IsOne IsOther forth rows table.each;
  whole = λ label other. table.whole label (back label other);
}

-- ---- walks and labels

-- one way to begin is another for a step that the class can make
abbrev pub BeginsToo : Conditions → (Step → Type 0) → (Step → Type 0) → Type 0
BeginsToo c A B = (s : Step) → IsFeasibleStep c s → A s → B s

first-made : (c : Conditions) (s : Step) (steps : List Step) → IsFeasibleWalk c (s ∷ steps) → IsFeasibleStep c s
first-made c s [] walk = walk
first-made c s (t ∷ steps) walk = walk.0

route-too : (c : Conditions) (A B Ends : Step → Type 0) → BeginsToo c A B → (steps : List Step) → IsRoute c A Ends steps → IsRoute c B Ends steps
route-too c A B Ends too [] route = absurd route.walk
route-too c A B Ends too (s ∷ steps) route =
    record { walk = route.walk; begins = too s (first-made c s steps route.walk) route.begins; ends = route.ends }

first_step-too : (c : Conditions) (A B : Step → Type 0) → BeginsToo c A B → (label : LabelRow) (step : Step) → IsFirstStep c A label step → IsFirstStep c B label step
first_step-too c A B too label step first = record { route = route-too c A B (IsStepOf c label) too (step ∷ []) first.route; value = first.value }

module _ (c : Conditions) (A B : Step → Type 0) (forth : BeginsToo c A B) (back : BeginsToo c B A) where
  exit-too : (label : LabelRow) → IsExitLabel c A label → IsExitLabel c B label
  exit-too label exit = record {
    window = exit.window;
    value = IsEarliestEnd-same (IsRoute c A (IsStepOf c label)) (IsRoute c B (IsStepOf c label)) (route-too c A B (IsStepOf c label) forth) (route-too c B A (IsStepOf c label) back)
        label.value exit.value;
  }

  before-too : (label l : LabelRow) → IsBefore c A label l → IsBefore c B label l
  before-too label l h = record { exit = exit-too l h.exit; permitted = h.permitted; value = h.value; in_window = h.in_window }

  best-too : (to : Node) (label : LabelRow) → IsBestExit c A to label → IsBestExit c B to label
  best-too to label h = record {
    exit = exit-too label h.exit;
    reaches = h.reaches;
    best = IsEarliestEnd-same (IsRoute c A (ReachesNode (layout_of c.airport) to)) (IsRoute c B (ReachesNode (layout_of c.airport) to))
        (route-too c A B (ReachesNode (layout_of c.airport) to) forth) (route-too c B A (ReachesNode (layout_of c.airport) to) back) label.value h.best;
  }

  exit_before-too : (bound : Option ℕ) (label : LabelRow) → IsExitBefore c A bound label → IsExitBefore c B bound label
  exit_before-too None label h = exit-too label h
  exit_before-too (Some end) label h = (exit-too label h.0, h.1)

-- ---- what is answered

traced-same : (c : Conditions) (A B : Step → Type 0) → BeginsToo c A B → BeginsToo c B A → (label : LabelRow) (leave : ℕ) (steps : List Step)
    → IsTracedTo c A label leave steps → IsTracedTo c B label leave steps
traced-same c A B forth back _ _ _ (begin label leave step first) = begin label leave step (first_step-too c A B forth label step first)
traced-same c A B forth back _ _ _ (after label p leave steps none first traced) =
    after label p leave steps (λ step other. none step (first_step-too c B A back label step other))
    (IsFirst-same (IsBefore c A label) (IsBefore c B label) (before-too c A B forth back label) (before-too c B A back forth label) p first)
    (traced-same c A B forth back p (label.value - seconds_of c label) steps traced)

module _ (c : Conditions) (A B : Step → Type 0) (forth : BeginsToo c A B) (back : BeginsToo c B A) (to : Node) where
  picked-same : (steps : List Step) → IsPickedArrival c A to steps → IsPickedArrival c B to steps
  picked-same steps picked = record {
    label = picked.label;
    last = IsFirst-same (IsBestExit c A to) (IsBestExit c B to) (best-too c A B forth back to) (best-too c B A back forth to) picked.label picked.last;
    traced = traced-same c A B forth back picked.label picked.label.value steps picked.traced;
  }

  table-same : (bound : Option ℕ) (rows : List LabelRow) → IsTable (IsExitBefore c A bound) rows → IsTable (IsExitBefore c B bound) rows
  table-same bound rows =
      IsTable-same (IsExitBefore c A bound) (IsExitBefore c B bound) (exit_before-too c A B forth back bound) (exit_before-too c B A back forth bound) rows

  pub AnswersArrival-begins : (found : Found) → AnswersArrival c A to found → AnswersArrival c B to found
  AnswersArrival-begins (Route steps labels) answers = (
    EndsEarliest-same (IsRoute c A (ReachesNode (layout_of c.airport) to)) (IsRoute c B (ReachesNode (layout_of c.airport) to))
        (route-too c A B (ReachesNode (layout_of c.airport) to) forth) (route-too c B A (ReachesNode (layout_of c.airport) to) back) steps answers.0,
    picked-same steps answers.1,
    table-same (Some (end_of steps)) labels answers.2,
  )
  AnswersArrival-begins (NoRoute labels) answers = (
    λ steps route. answers.0 steps (route-too c B A (ReachesNode (layout_of c.airport) to) back steps route),
    table-same None labels answers.1,
  )

-- ---- a latest second past the horizon

-- No step enters past the horizon, so a latest second that is cut there is the same.
pub AnswersArrival-cut : (c : Conditions) (from to : Node) (earliest latest most : ℕ) → c.airport.horizon ≤ most → (found : Found)
    → AnswersArrival c (LeavesNodeWithin (layout_of c.airport) from earliest (min latest most)) to found
    → AnswersArrival c (LeavesNodeWithin (layout_of c.airport) from earliest latest) to found
AnswersArrival-cut c from to earliest latest most far =
    AnswersArrival-begins c (LeavesNodeWithin layout from earliest (min latest most)) (LeavesNodeWithin layout from earliest latest) longer shorter to
  where
    layout : Layout
    layout = layout_of c.airport

    longer : BeginsToo c (LeavesNodeWithin layout from earliest (min latest most)) (LeavesNodeWithin layout from earliest latest)
    longer s made h = record { leaves = h.leaves; not_before = h.not_before; not_after = omega (arith, h.not_after) }

    shorter : BeginsToo c (LeavesNodeWithin layout from earliest latest) (LeavesNodeWithin layout from earliest (min latest most))
    shorter s made h =
        let known = IsSomeAnd-value (seconds c.airport c.class (segment_of s.arc)) (λ n. s.enter + n ≤ s.leave) made.lasts in
        record { leaves = h.leaves; not_before = h.not_before; not_after = omega (arith, h.not_after, known.2, made.in_time) }
