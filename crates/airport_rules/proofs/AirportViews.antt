-- The airport of a sound plan has the plan's names, arcs, times and sets.
use Rattle.std.proofs.Common.{◌≡◌, ℕ, ◌<◌, List, [], ◌∷◌, length, map, replicate, refl, sym, ap, ◌∙◌, Option, Some, None, length-set}
use Rattle.std.specs.Prelude.{Bool, bytes_eq, fold, if◌then◌else◌}
use Rattle.std.specs.List.{zip}
use Rattle.std.proofs.lemmas.List.{length-map, length-replicate}
use Rattle.std.proofs.lemmas.List.Quantifiers.{position-Some}
use Rattle.std.proofs.lemmas.Slice.Zip.{firsts-zip, seconds-zip}
use Rattle.taxi_base.specs.Airport.{link_of, layout_of, times_of, place_of, arc_named, segment_named, arc_exists, arc_of}
use Rattle.airport_rules.specs.declared.rows.TimeRow.{TimeRow}
use Rattle.airport_rules.specs.declared.rows.ClearanceRow.{ClearanceRow}
use Rattle.airport_rules.specs.Plan.{Plan, layout_of_plan, table_of, with_time, airport_of_plan, with_clearance, clearances_of, node_row, segment_row, class_row}

-- a part of the rows that are made of two lists
part-firsts : {A B R C : Type 0} (make : A × B → R) (part : R → C) (of : A × B → C) → ((p : A × B) → part (make p) ≡ of p) → (ps : List (A × B)) → map part (map make ps) ≡ map of ps
part-firsts make part of same [] = refl
part-firsts make part of same (p ∷ ps) = rw (same p, part-firsts make part of same ps) refl

pub node_names : (h : ℕ) (plan : Plan) → length plan.kinds ≡ length plan.nodes → map (λ n. n.name) (airport_of_plan h plan).nodes ≡ plan.nodes
node_names h plan e = part-firsts node_row (λ n. n.name) (λ p. p.0) (λ p. refl) (zip plan.nodes plan.kinds) ∙ firsts-zip plan.nodes plan.kinds e

pub node_kinds : (h : ℕ) (plan : Plan) → length plan.kinds ≡ length plan.nodes → map (λ n. n.kind) (airport_of_plan h plan).nodes ≡ plan.kinds
node_kinds h plan e = part-firsts node_row (λ n. n.kind) (λ p. p.1) (λ p. refl) (zip plan.nodes plan.kinds) ∙ seconds-zip plan.nodes plan.kinds e

pub segment_names : (h : ℕ) (plan : Plan) → length plan.links ≡ length plan.segments → map (λ s. s.name) (airport_of_plan h plan).segments ≡ plan.segments
segment_names h plan e = part-firsts segment_row (λ s. s.name) (λ p. p.0) (λ p. refl) (zip plan.segments plan.links) ∙ firsts-zip plan.segments plan.links e

pub segment_links : (h : ℕ) (plan : Plan) → length plan.links ≡ length plan.segments → map link_of (airport_of_plan h plan).segments ≡ plan.links
segment_links h plan e = part-firsts segment_row link_of (λ p. p.1) (λ p. refl) (zip plan.segments plan.links) ∙ seconds-zip plan.segments plan.links e

length-table_from : (table : List (List (Option ℕ))) (times : List TimeRow) → length (fold with_time table times) ≡ length table
length-table_from table [] = refl
length-table_from table (t ∷ times) = length-table_from (with_time table t) times ∙ length-set table t.class.0 _

pub length-table : (classes segments : ℕ) (times : List TimeRow) → length (table_of classes segments times) ≡ classes
length-table classes segments times = length-table_from (replicate classes (replicate segments None)) times ∙ length-replicate classes (replicate segments None)

pub class_names : (h : ℕ) (plan : Plan) → map (λ c. c.name) (airport_of_plan h plan).classes ≡ plan.classes
class_names h plan =
    part-firsts class_row (λ c. c.name) (λ p. p.0) (λ p. refl) (zip plan.classes (table_of (length plan.classes) (length plan.segments) plan.times))
    ∙ firsts-zip plan.classes _ (length-table (length plan.classes) (length plan.segments) plan.times)

pub class_times : (h : ℕ) (plan : Plan) → times_of (airport_of_plan h plan) ≡ table_of (length plan.classes) (length plan.segments) plan.times
class_times h plan =
    part-firsts class_row (λ c. c.seconds) (λ p. p.1) (λ p. refl) (zip plan.classes (table_of (length plan.classes) (length plan.segments) plan.times))
    ∙ seconds-zip plan.classes _ (length-table (length plan.classes) (length plan.segments) plan.times)

pub length-nodes : (h : ℕ) (plan : Plan) → length plan.kinds ≡ length plan.nodes → length (airport_of_plan h plan).nodes ≡ length plan.nodes
length-nodes h plan e = sym (length-map (airport_of_plan h plan).nodes (λ n. n.name)) ∙ ap length (node_names h plan e)

pub length-segments : (h : ℕ) (plan : Plan) → length plan.links ≡ length plan.segments → length (airport_of_plan h plan).segments ≡ length plan.segments
length-segments h plan e = sym (length-map (airport_of_plan h plan).segments (λ s. s.name)) ∙ ap length (segment_names h plan e)

pub length-classes : (h : ℕ) (plan : Plan) → length (airport_of_plan h plan).classes ≡ length plan.classes
length-classes h plan = sym (length-map (airport_of_plan h plan).classes (λ c. c.name)) ∙ ap length (class_names h plan)

length-clearances_from : (clearances : List ℕ) (rows : List ClearanceRow) → length (fold with_clearance clearances rows) ≡ length clearances
length-clearances_from clearances [] = refl
length-clearances_from clearances (r ∷ rows) = length-clearances_from (with_clearance clearances r) rows ∙ length-set clearances r.class.0 r.seconds

pub length-clearances : (classes : ℕ) (rows : List ClearanceRow) → length (clearances_of classes rows) ≡ classes
length-clearances classes rows = length-clearances_from (replicate classes 0) rows ∙ length-replicate classes 0

pub layout-plan : (h : ℕ) (plan : Plan) → length plan.kinds ≡ length plan.nodes → length plan.links ≡ length plan.segments → layout_of (airport_of_plan h plan) ≡ layout_of_plan plan
layout-plan h plan kinds links = rw (length-nodes h plan kinds, segment_links h plan links) refl

-- the arc of a segment's name, by the place of the name in the plan
pub arc_named-found : (h : ℕ) (plan : Plan) (name : List ℕ) (forward : Bool) (at : ℕ) → length plan.kinds ≡ length plan.nodes → length plan.links ≡ length plan.segments
    → place_of name plan.segments ≡ Some at
    → arc_named (airport_of_plan h plan) name forward
    ≡ (if arc_exists (layout_of_plan plan) (arc_of (record { 0 = at }) forward) then Some (arc_of (record { 0 = at }) forward) else None)
unfolding arc_named segment_named
arc_named-found h plan name forward at kinds links found =
    rw (segment_names h plan links, found, layout-plan h plan kinds links) refl

pub arc_named-none : (h : ℕ) (plan : Plan) (name : List ℕ) (forward : Bool) → length plan.links ≡ length plan.segments → place_of name plan.segments ≡ None
    → arc_named (airport_of_plan h plan) name forward ≡ None
unfolding arc_named segment_named
arc_named-none h plan name forward links none = rw (segment_names h plan links, none) refl

-- a place that is found is one of the list's
pub place-within : (name : List ℕ) (names : List (List ℕ)) (at : ℕ) → place_of name names ≡ Some at → at < length names
place-within name names at found = (position-Some (bytes_eq name) names at [] found).0
