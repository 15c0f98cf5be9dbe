-- What advice leaves no walk.
use Rattle.std.proofs.Common.{◌<◌, ◌+◌, ◌&&◌, ℕ, List, [], ◌∷◌, length, get_or, Bool, Some, None, ◌≡◌, IsTrue, inl, inr, refl, sym, subst, arith}
use Rattle.std.specs.Prelude.{is_some, slice_get, slice_index_or}
use Rattle.std.proofs.lemmas.Bool.{both_ways, and_parts, and_from}
use Rattle.std.proofs.lemmas.List.{length-map}
use Rattle.std.proofs.lemmas.List.Elements.{Contains-get_or}
use Rattle.std.proofs.lemmas.Option.{slice_get_cases}
use Rattle.taxi_base.specs.declared.numbers.Node.{Node}
use Rattle.taxi_base.specs.declared.numbers.Segment.{Segment}
use Rattle.taxi_base.specs.declared.numbers.Class.{Class}
use Rattle.taxi_base.specs.declared.rows.Kind.{Kind}
use Rattle.taxi_base.specs.declared.rows.Kind.TheVariants.{Runway, Junction, Stand}
use Rattle.taxi_base.specs.declared.rows.Step.{Step}
use Rattle.taxi_base.specs.declared.answers.Request.TheVariants.{Arrival, Departure}
use Rattle.taxi_base.specs.Airport.{Airport, NodeRow, layout_of, segment_of, seconds, seconds_in, times_of, is_runway, is_stand}
use Rattle.taxi_base.specs.Walks.{Conditions, IsFeasibleStep, LeavesNode, LeavesNodeWithin, ReachesNode, ReachesNodeWithin, AtFirst, AtLast, Meets}
use Rattle.taxi_base.proofs.ListLaws.{list_any-member}
use Rattle.class_ways.specs.Ways.{is_junction, is_of, is_open, IsWay, Leads}
use Rattle.class_ways.proofs.WayLaws.{open-class, open-seconds}
use Rattle.class_ways.proofs.WalkLaws.{step-open, walk-leads}
use Rattle.airport_lint.specs.declared.advice.Advice.{Advice}
use Rattle.airport_lint.specs.declared.advice.Advice.TheVariants.{ClassNoSeconds, ClassNoArrival, ClassNoDeparture, SegmentNoSeconds, NodeNoArrival, NodeNoDeparture, NodeUnused, DeadEnd, IdleTurn, SameSet, NeedlessSet}
use Rattle.airport_lint.specs.Advice.{has_seconds, is_shared, IsSo}
use Rattle.airport_lint.specs.Bars.{BarsArrival, BarsDeparture}

-- a node is of one kind
pub one-kind : (airport : Airport) (node : Node) (one other : Kind) → (one ≡ other → ⊥) → IsTrue (is_of one airport node) → IsTrue (is_of other airport node) → ⊥
one-kind airport node one other differ is also = elim (slice_get_cases airport.nodes node.0).1 [
  | inl there ↦ kinds there.0 one other differ (by_row there.0 there.2 one is) (by_row there.0 there.2 other also)
  | inr past ↦ nowhere past.1 one is
]
  where
    of_kind : Kind → Kind → Bool
    of_kind Runway kind = is_runway kind
    of_kind Junction kind = is_junction kind
    of_kind Stand kind = is_stand kind

    by_row : (row : NodeRow) → slice_get airport.nodes node.0 ≡ Some row → (kind : Kind) → IsTrue (is_of kind airport node) → IsTrue (of_kind kind row.kind)
    by_row row at Runway h = rw at at h
    by_row row at Junction h = rw at at h
    by_row row at Stand h = rw at at h

    nowhere : slice_get airport.nodes node.0 ≡ None → (kind : Kind) → IsTrue (is_of kind airport node) → ⊥
    nowhere at Runway h = (let no = rw at at h in cc no)
    nowhere at Junction h = (let no = rw at at h in cc no)
    nowhere at Stand h = (let no = rw at at h in cc no)

    kinds : (row : NodeRow) (one other : Kind) → (one ≡ other → ⊥) → IsTrue (of_kind one row.kind) → IsTrue (of_kind other row.kind) → ⊥
    kinds row one other differ is also = by_kind row.kind one other differ is also
      where
        by_kind : (kind one other : Kind) → (one ≡ other → ⊥) → IsTrue (of_kind one kind) → IsTrue (of_kind other kind) → ⊥
        by_kind Runway Runway Runway differ is also = differ refl
        by_kind Runway Runway Junction differ is also = cc also
        by_kind Runway Runway Stand differ is also = cc also
        by_kind Runway Junction other differ is also = cc is
        by_kind Runway Stand other differ is also = cc is
        by_kind Junction Junction Junction differ is also = differ refl
        by_kind Junction Junction Runway differ is also = cc also
        by_kind Junction Junction Stand differ is also = cc also
        by_kind Junction Runway other differ is also = cc is
        by_kind Junction Stand other differ is also = cc is
        by_kind Stand Stand Stand differ is also = differ refl
        by_kind Stand Stand Runway differ is also = cc also
        by_kind Stand Stand Junction differ is also = cc also
        by_kind Stand Runway other differ is also = cc is
        by_kind Stand Junction other differ is also = cc is

-- a runway node is no stand
pub apart : (airport : Airport) (node : Node) → IsTrue (is_of Runway airport node) → IsTrue (is_of Stand airport node) → ⊥
apart airport node runway stand = one-kind airport node Runway Stand (λ e. cc) runway stand

-- a class that may take some arc has seconds
open-has : (airport : Airport) (class : Class) (way : List _) → IsWay airport class way → IsTrue (has_seconds airport class)
open-has airport class [] goes = absurd goes
open-has airport class (x ∷ []) goes = open-seconds airport class x goes
open-has airport class (x ∷ y ∷ way) goes = open-seconds airport class x goes.0

module _ (airport : Airport) (class : Class) (from to : Node) (leads : Leads airport class from to) where
  bars-arrival : (advice : Advice) → IsTrue (is_of Runway airport from) → IsTrue (is_of Stand airport to) → IsSo airport advice → BarsArrival class from to advice → ⊥
  bars-arrival (ClassNoSeconds advised) runway stand so is = both_ways _ so (subst (λ c. IsTrue (has_seconds airport c)) (sym is) (open-has airport class leads.arcs leads.way))
  bars-arrival (ClassNoArrival advised) runway stand so is = so.1 (to, stand, subst (λ c. (n : Node) × IsTrue (is_of Runway airport n) × Leads airport c n to) (sym is) (from, runway, leads))
  bars-arrival (NodeNoArrival advised) runway stand (inl so) (inl is) = apart airport from runway (subst (λ n. IsTrue (is_of Stand airport n)) is so.0)
  bars-arrival (NodeNoArrival advised) runway stand (inr so) (inl is) = so.1 (class, (to, stand, subst (λ n. Leads airport class n to) (sym is) leads))
  bars-arrival (NodeNoArrival advised) runway stand (inl so) (inr is) = so.1 (class, (from, runway, subst (λ n. Leads airport class from n) (sym is) leads))
  bars-arrival (NodeNoArrival advised) runway stand (inr so) (inr is) = apart airport to (subst (λ n. IsTrue (is_of Runway airport n)) is so.0) stand
  bars-arrival (ClassNoDeparture advised) runway stand so is = is
  bars-arrival (SegmentNoSeconds advised) runway stand so is = is
  bars-arrival (NodeNoDeparture advised) runway stand so is = is
  bars-arrival (NodeUnused advised) runway stand so is = is
  bars-arrival (DeadEnd advised) runway stand so is = is
  bars-arrival (IdleTurn x y) runway stand so is = is
  bars-arrival (SameSet set first) runway stand so is = is
  bars-arrival (NeedlessSet set) runway stand so is = is

  bars-departure : (advice : Advice) → IsTrue (is_of Stand airport from) → IsTrue (is_of Runway airport to) → IsSo airport advice → BarsDeparture class from to advice → ⊥
  bars-departure (ClassNoSeconds advised) stand runway so is = both_ways _ so (subst (λ c. IsTrue (has_seconds airport c)) (sym is) (open-has airport class leads.arcs leads.way))
  bars-departure (ClassNoDeparture advised) stand runway so is = so.1 (to, runway, subst (λ c. (n : Node) × IsTrue (is_of Stand airport n) × Leads airport c n to) (sym is) (from, stand, leads))
  bars-departure (NodeNoDeparture advised) stand runway (inr so) (inl is) = apart airport from (subst (λ n. IsTrue (is_of Runway airport n)) is so.0) stand
  bars-departure (NodeNoDeparture advised) stand runway (inl so) (inl is) = so.1 (class, (to, runway, subst (λ n. Leads airport class n to) (sym is) leads))
  bars-departure (NodeNoDeparture advised) stand runway (inr so) (inr is) = so.1 (class, (from, stand, subst (λ n. Leads airport class from n) (sym is) leads))
  bars-departure (NodeNoDeparture advised) stand runway (inl so) (inr is) = apart airport to runway (subst (λ n. IsTrue (is_of Stand airport n)) is so.0)
  bars-departure (ClassNoArrival advised) stand runway so is = is
  bars-departure (SegmentNoSeconds advised) stand runway so is = is
  bars-departure (NodeNoArrival advised) stand runway so is = is
  bars-departure (NodeUnused advised) stand runway so is = is
  bars-departure (DeadEnd advised) stand runway so is = is
  bars-departure (IdleTurn x y) stand runway so is = is
  bars-departure (SameSet set first) stand runway so is = is
  bars-departure (NeedlessSet set) stand runway so is = is

pub first-at : (P Q : Step → Type 0) (steps : List Step) → ((s : Step) → P s → Q s) → AtFirst P steps → AtFirst Q steps
first-at P Q [] to at = at
first-at P Q (s ∷ steps) to at = to s at

pub last-at : (P Q : Step → Type 0) (steps : List Step) → ((s : Step) → P s → Q s) → AtLast P steps → AtLast Q steps
last-at P Q [] to at = at
last-at P Q (s ∷ []) to at = to s at
last-at P Q (s ∷ t ∷ steps) to at = last-at P Q (t ∷ steps) to at

pub barred-arrival : (c : Conditions) (from to : Node) (time hold : ℕ) (steps : List Step) (advice : Advice) → IsTrue (is_of Runway c.airport from) → IsTrue (is_of Stand c.airport to)
    → IsSo c.airport advice → BarsArrival c.class from to advice → Meets c (Arrival from to time hold) steps → ⊥
barred-arrival c from to time hold steps advice runway stand so bars meets =
    bars-arrival c.airport c.class from to
    (walk-leads c from to steps meets.walk
    (first-at (LeavesNodeWithin (layout_of c.airport) from time (time + hold)) (LeavesNode (layout_of c.airport) from) steps (λ s within. within.leaves) meets.begins) meets.ends)
    advice runway stand so bars

pub barred-departure : (c : Conditions) (from to : Node) (time queue : ℕ) (steps : List Step) (advice : Advice) → IsTrue (is_of Stand c.airport from) → IsTrue (is_of Runway c.airport to)
    → IsSo c.airport advice → BarsDeparture c.class from to advice → Meets c (Departure from to time queue) steps → ⊥
barred-departure c from to time queue steps advice stand runway so bars meets =
    bars-departure c.airport c.class from to
    (walk-leads c from to steps meets.walk meets.begins
    (last-at (ReachesNodeWithin (layout_of c.airport) to _ time) (ReachesNode (layout_of c.airport) to) steps (λ s within. within.reaches) meets.ends))
    advice stand runway so bars

-- ---- seconds

-- a class that has seconds on both segments
pub shared-by : (airport : Airport) (class : Class) (s t : Segment) → class.0 < length airport.classes → IsTrue (is_some (seconds airport class s)) → IsTrue (is_some (seconds airport class t))
    → IsTrue (is_shared airport s t)
unfolding is_shared seconds_in
shared-by airport class s t low one other =
    let table = times_of airport in
    let within : class.0 < length table = omega (arith, low, length-map airport.classes (λ row. row.seconds)) in
    list_any-member (λ times. is_some (slice_index_or times s.0 None) && is_some (slice_index_or times t.0 None)) table (get_or table class.0 []) (Contains-get_or table class.0 [] within)
    (and_from (is_some (seconds airport class s)) (is_some (seconds airport class t)) one other)

pub barred-step : (c : Conditions) (step : Step) → IsSo c.airport (SegmentNoSeconds (segment_of step.arc)) → IsFeasibleStep c step → ⊥
unfolding is_open
barred-step c step so feasible =
    let goes = step-open c step feasible in
    let has = (and_parts _ (is_some (seconds c.airport c.class (segment_of step.arc))) goes).1 in
    both_ways _ so (shared-by c.airport c.class (segment_of step.arc) (segment_of step.arc) (open-class c.airport c.class step.arc goes) has has)
