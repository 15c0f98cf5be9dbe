-- The airport of a sound plan keeps the rules of an airport.
use Rattle.std.proofs.Common.{◌≡◌, ◌≢◌, ℕ, ◌<◌, ◌≤◌, ◌+◌, ◌/◌, true, List, [], ◌∷◌, length, map, replicate, get_or, set, Option, Some, None, refl, sym, ap, subst, arith, ◌∙◌, length-set}
use Rattle.std.proofs.lemmas.Bool.{and_parts}
use Rattle.std.specs.Prelude.{All, IfSome, IsTrue, ◌==◌, not, fold, if◌then◌else◌}
use Rattle.std.proofs.lemmas.Bool.Decides.{nat_tests}
use Rattle.std.proofs.lemmas.List.{length-replicate}
use Rattle.std.proofs.lemmas.List.Elements.{All-weaker, All-nil, All-cons, All-head, All-tail, All-set, All-replicate}
use Rattle.taxi_base.specs.declared.numbers.Node.{Node}
use Rattle.taxi_base.specs.declared.numbers.Arc.{Arc}
use Rattle.taxi_base.specs.Airport.{Airport, SegmentRow, ClassRow, Link, Layout, link_of, layout_of, AreNames, IsWellFormed, IsConflictSet, ends_at, meet, head, tail, link_ends}
use Rattle.airport_rules.specs.declared.rows.TimeRow.{TimeRow}
use Rattle.airport_rules.specs.declared.rows.ClearanceRow.{ClearanceRow}
use Rattle.airport_rules.specs.Plan.{Plan, layout_of_plan, table_of, with_time, with_clearance, clearances_of, airport_of_plan}
use Rattle.airport_rules.specs.Rules.{goes_on}
use Rattle.airport_rules.specs.Sound.{IsSound, IsSoundTime, IsSoundClearance}
use Rattle.airport_rules.proofs.AirportViews.{node_names, segment_names, segment_links, class_names, class_times, length-nodes, length-segments, length-classes, length-clearances, layout-plan}

All-from_map : {X Y : Type 0} (P : Y → Type 0) (f : X → Y) (xs : List X) → All P (map f xs) → All (λ x. P (f x)) xs
All-from_map P f [] all = All-nil _
All-from_map P f (x ∷ xs) all = All-cons (λ x. P (f x)) x xs (All-head P (f x) (map f xs) all) (All-from_map P f xs (All-tail P (f x) (map f xs) all))

-- the ends at a node, by the segments and by the links
pub ends_at-links : (node : Node) (segments : List SegmentRow) → ends_at node segments ≡ link_ends node (map link_of segments)
ends_at-links node segments = from 0 segments
  where
    from : (n : ℕ) (segments : List SegmentRow)
        → fold (λ a (s : SegmentRow). a + ((if s.from.0 == node.0 then 1 else 0) + (if s.to.0 == node.0 then 1 else 0))) n segments
        ≡ fold (λ a (l : Link). a + ((if l.from.0 == node.0 then 1 else 0) + (if l.to.0 == node.0 then 1 else 0))) n (map link_of segments)
    from n [] = refl
    from n (s ∷ segments) = from (n + ((if s.from.0 == node.0 then 1 else 0) + (if s.to.0 == node.0 then 1 else 0))) segments

-- ---- the table of times

abbrev pub IsTime : Option ℕ → Type 0
IsTime n = IfSome n (λ k. (1 ≤ k) × (k ≤ 3600))

abbrev pub IsRow : ℕ → List (Option ℕ) → Type 0
IsRow segments row = (length row ≡ segments) × All IsTime row

row-time : (segments : ℕ) (row : List (Option ℕ)) (t : TimeRow) → IsRow segments row → (1 ≤ t.seconds) × (t.seconds ≤ 3600) → IsRow segments (set row t.segment.0 (Some t.seconds))
row-time segments row t is range = (length-set row t.segment.0 (Some t.seconds) ∙ is.0, All-set IsTime row t.segment.0 (Some t.seconds) range is.1)

table-rows : (plan : Plan) (table : List (List (Option ℕ))) (times : List TimeRow) → length table ≡ length plan.classes → All (IsSoundTime plan) times → All (IsRow (length plan.segments)) table
    → All (IsRow (length plan.segments)) (fold with_time table times)
table-rows plan table [] e sound rows = rows
table-rows plan table (t ∷ times) e sound rows =
    let here : IsSoundTime plan t = All-head (IsSoundTime plan) t times sound in
    let row : IsRow (length plan.segments) (get_or table t.class.0 []) = rows t.class.0 [] (omega (arith, here.1, e)) in
    table-rows plan (with_time table t) times (length-set table t.class.0 _ ∙ e) (All-tail (IsSoundTime plan) t times sound)
    (All-set (IsRow (length plan.segments)) table t.class.0 _ (row-time (length plan.segments) (get_or table t.class.0 []) t row (here.2, here.3)) rows)

pub rows-of_plan : (plan : Plan) → IsSound plan → All (IsRow (length plan.segments)) (table_of (length plan.classes) (length plan.segments) plan.times)
rows-of_plan plan h =
    table-rows plan (replicate (length plan.classes) (replicate (length plan.segments) None)) plan.times (length-replicate (length plan.classes) (replicate (length plan.segments) None)) h.times
    (All-replicate (IsRow (length plan.segments)) (length plan.classes) (replicate (length plan.segments) None)
    (length-replicate (length plan.segments) None, All-replicate IsTime (length plan.segments) None tt))

-- ---- the clearances

written-short : (plan : Plan) (clearances : List ℕ) (rows : List ClearanceRow) → All (IsSoundClearance plan) rows → All (λ g. g ≤ 600) clearances → All (λ g. g ≤ 600) (fold with_clearance clearances rows)
written-short plan clearances [] sound short = short
written-short plan clearances (r ∷ rows) sound short =
    written-short plan (with_clearance clearances r) rows (All-tail (IsSoundClearance plan) r rows sound)
    (All-set (λ g. g ≤ 600) clearances r.class.0 r.seconds (All-head (IsSoundClearance plan) r rows sound).1 short)

short-clearances : (plan : Plan) → IsSound plan → All (λ g. g ≤ 600) (clearances_of (length plan.classes) plan.clearances)
short-clearances plan h =
    written-short plan (replicate (length plan.classes) 0) plan.clearances h.clearances (All-replicate (λ g. g ≤ 600) (length plan.classes) 0 (omega arith))

-- ---- the airport

apart : (a b : ℕ) → not (a == b) ≡ true → a ≢ b
apart a b e same = absurd (grind (arith, nat_tests, e, same))

AreNames-same : (limit : ℕ) (a b : List (List ℕ)) → a ≡ b → AreNames limit a → AreNames limit b
AreNames-same limit a b e h = subst (AreNames limit) e h

pub IsWellFormed-plan : (h : ℕ) (plan : Plan) → plan.horizon ≡ Some h → IsSound plan → IsWellFormed (airport_of_plan h plan)
IsWellFormed-plan h plan given s =
    let airport : Airport = airport_of_plan h plan in
    let nodes : length airport.nodes ≡ length plan.nodes = length-nodes h plan s.kinds in
    let segments : length airport.segments ≡ length plan.segments = length-segments h plan s.links in
    let links : map link_of airport.segments ≡ plan.links = segment_links h plan s.links in
    let layout : layout_of airport ≡ layout_of_plan plan = layout-plan h plan s.kinds s.links in
    let table = rows-of_plan plan s in
    record {
      horizon = subst (λ o. IfSome o (λ h. (1 ≤ h) × (h ≤ 604800))) given s.horizon;
      nodes = AreNames-same 10000 plan.nodes (map (λ n. n.name) airport.nodes) (sym (node_names h plan s.kinds)) s.nodes;
      segments = AreNames-same 10000 plan.segments (map (λ n. n.name) airport.segments) (sym (segment_names h plan s.links)) s.segments;
      classes = AreNames-same 32 plan.classes (map (λ c. c.name) airport.classes) (sym (class_names h plan)) s.classes;
      ends = subst (λ n. All (λ (r : SegmentRow). (r.from.0 < n) × (r.to.0 < n)) airport.segments) (sym nodes)
          (All-from_map (λ (l : Link). (l.from.0 < length plan.nodes) × (l.to.0 < length plan.nodes)) link_of airport.segments
          (subst (All (λ (l : Link). (l.from.0 < length plan.nodes) × (l.to.0 < length plan.nodes))) (sym links) s.within));
      degree = λ k low. subst (λ n. n ≤ 32) (ap (link_ends (record { 0 = k })) (sym links) ∙ sym (ends_at-links (record { 0 = k }) airport.segments)) (s.degree (record { 0 = k }));
      times = subst (λ n. All (λ (c : ClassRow). (length c.seconds ≡ n) × All IsTime c.seconds) airport.classes) (sym segments)
          (All-from_map (IsRow (length plan.segments)) (λ (c : ClassRow). c.seconds) airport.classes (subst (All (IsRow (length plan.segments))) (sym (class_times h plan)) table));
      clearances = (length-clearances (length plan.classes) plan.clearances ∙ sym (length-classes h plan), short-clearances plan s);
      few_forbidden = s.few_forbidden;
      forbidden = subst (λ (l : Layout). All (λ (p : Arc × Arc). IsTrue (meet (head l p.0) (tail l p.1)) × (p.0.0 / 2 ≢ p.1.0 / 2)) plan.forbidden) (sym layout)
          (All-weaker (λ (p : Arc × Arc). IsTrue (goes_on (layout_of_plan plan) p.0 p.1)) (λ (p : Arc × Arc). IsTrue (meet (head (layout_of_plan plan) p.0) (tail (layout_of_plan plan) p.1)) × (p.0.0 / 2 ≢ p.1.0 / 2))
          (λ p g. let parts = and_parts (meet (head (layout_of_plan plan) p.0) (tail (layout_of_plan plan) p.1)) (not (p.0.0 / 2 == p.1.0 / 2)) g in (parts.0, apart (p.0.0 / 2) (p.1.0 / 2) parts.1)) plan.forbidden s.forbidden);
      forbidden_order = s.forbidden_order;
      few_conflicts = s.few_conflicts;
      conflicts = subst (λ n. All (IsConflictSet n) plan.conflicts) (sym segments) s.conflicts;
    }
