-- Two airports that differ in forbidden turns that no class can take, and in sets by which the same segments conflict: the same walks are feasible.
use Rattle.std.proofs.Common.{◌≡◌, ◌<◌, ◌/◌, ◌&&◌, not, List, [], ◌∷◌, length, IsTrue, sym, ap, subst}
use Rattle.std.specs.Prelude.{◌==◌, is_some}
use Rattle.std.proofs.lemmas.Bool.{and_parts}
use Rattle.taxi_base.specs.declared.numbers.Arc.{Arc}
use Rattle.taxi_base.specs.declared.numbers.Class.{Class}
use Rattle.taxi_base.specs.declared.numbers.Segment.{Segment}
use Rattle.taxi_base.specs.declared.rows.Step.{Step}
use Rattle.taxi_base.specs.Airport.{Airport, layout_of, segment_of, arc_exists, ends, head, tail, meet, permits, is_forbidden, conflict, seconds}
use Rattle.taxi_base.specs.Walks.{Conditions, IsFeasibleStep, IsFeasibleWalk}
use Rattle.class_ways.specs.Ways.{is_open}
use Rattle.class_ways.proofs.WayLaws.{open-class}
use Rattle.class_ways.proofs.WalkLaws.{step-open}
use Rattle.airport_lint.specs.Advice.{is_shared}
use Rattle.airport_lint.proofs.BarLaws.{shared-by}

pub record Pair : Type 0 where
  pub base : Airport
  pub turns_one : List (Arc × Arc)
  pub turns_other : List (Arc × Arc)
  pub sets_one : List (List Segment)
  pub sets_other : List (List Segment)
  pub turns : (x y : Arc) → IsTrue (is_shared base (segment_of x) (segment_of y)) → is_forbidden turns_one x y ≡ is_forbidden turns_other x y
  pub sets : (s t : Segment) → conflict sets_one s t ≡ conflict sets_other s t

abbrev pub one : Pair → Airport
one p = record p.base { forbidden = p.turns_one; conflicts = p.sets_one }

abbrev pub other : Pair → Airport
other p = record p.base { forbidden = p.turns_other; conflicts = p.sets_other }

abbrev pub turned : Pair → Pair
turned p = record {
  base = p.base;
  turns_one = p.turns_other;
  turns_other = p.turns_one;
  sets_one = p.sets_other;
  sets_other = p.sets_one;
  turns = λ x y shared. sym (p.turns x y shared);
  sets = λ s t. sym (p.sets s t);
}

-- conditions at another airport
abbrev pub at : Airport → Conditions → Conditions
at airport c = record c { airport = airport }

-- ---- turns

-- a class is one of the airport's, and has seconds on the segment of an arc
abbrev pub IsOpen : Pair → Class → Arc → Type 0
IsOpen p class arc = (class.0 < length p.base.classes) × IsTrue (is_some (seconds p.base class (segment_of arc)))

open-times : (airport : Airport) (class : Class) (arc : Arc) → IsTrue (is_open airport class arc) → IsTrue (is_some (seconds airport class (segment_of arc)))
unfolding is_open
open-times airport class arc goes = (and_parts (arc_exists (layout_of airport) arc) (is_some (seconds airport class (segment_of arc))) goes).1

pub step-is_open : (p : Pair) (c : Conditions) (s : Step) → IsFeasibleStep (at (one p) c) s → IsOpen p c.class s.arc
step-is_open p c s feasible =
    let goes = step-open (at (one p) c) s feasible in
    (open-class (one p) c.class s.arc goes, open-times (one p) c.class s.arc goes)

pub turn-to : (p : Pair) (class : Class) (x y : Arc) → IsOpen p class x → IsOpen p class y → permits (layout_of (one p)) x y ≡ permits (layout_of (other p)) x y
unfolding permits ends
turn-to p class x y from to =
    ap (λ b. (meet (head (layout_of (one p)) x) (tail (layout_of (one p)) y) && not (x.0 / 2 == y.0 / 2)) && not b)
    (p.turns x y (shared-by p.base class (segment_of x) (segment_of y) from.0 from.1 to.1))

-- ---- walks

step-to : (p : Pair) (c : Conditions) (s : Step) → IsFeasibleStep (at (one p) c) s → IsFeasibleStep (at (other p) c) s
unfolding ends
step-to p c s feasible = record { on_arc = feasible.on_arc; lasts = feasible.lasts; in_time = feasible.in_time; free = feasible.free }

pub first-step : (c : Conditions) (s : Step) (steps : List Step) → IsFeasibleWalk c (s ∷ steps) → IsFeasibleStep c s
first-step c s [] walk = walk
first-step c s (t ∷ steps) walk = walk.0

pub walk-to : (p : Pair) (c : Conditions) (steps : List Step) → IsFeasibleWalk (at (one p) c) steps → IsFeasibleWalk (at (other p) c) steps
walk-to p c [] walk = walk
walk-to p c (s ∷ []) walk = step-to p c s walk
walk-to p c (s ∷ t ∷ steps) walk = (
  step-to p c s walk.0,
  record {
    at_once = walk.1.at_once;
    permitted = subst IsTrue (turn-to p c.class s.arc t.arc (step-is_open p c s walk.0) (step-is_open p c t (first-step (at (one p) c) t steps walk.2))) walk.1.permitted;
  },
  walk-to p c (t ∷ steps) walk.2,
)
