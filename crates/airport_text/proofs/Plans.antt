-- The plan of an airport gives the airport back.
use Rattle.std.proofs.Common.{◌≡◌, ℕ, List, [], ◌∷◌, length, map, Some, refl, ◌∙◌, ap, ap₂}
use Rattle.std.specs.List.{zip}
use Rattle.std.proofs.lemmas.List.{length-map}
use Rattle.taxi_base.specs.Airport.{Airport, NodeRow, SegmentRow, ClassRow, IsWellFormed, link_of, times_of}
use Rattle.airport_rules.specs.Plan.{Plan, airport_of_plan, clearances_of, node_row, segment_row, class_row, table_of}
use Rattle.airport_text.proofs.Times.{rows_below}
use Rattle.airport_text.proofs.Clearances.{clearances_below, clearances-again}
use Rattle.airport_text.proofs.Tables.{table-again}

-- what an airport's records give
abbrev pub plan_of : Airport → Plan
plan_of airport = record {
  horizon = Some airport.horizon;
  nodes = map (λ n. n.name) airport.nodes;
  kinds = map (λ n. n.kind) airport.nodes;
  classes = map (λ c. c.name) airport.classes;
  segments = map (λ s. s.name) airport.segments;
  links = map link_of airport.segments;
  times = rows_below airport (length airport.segments);
  clearances = clearances_below airport (length airport.classes);
  forbidden = airport.forbidden;
  conflicts = airport.conflicts;
}

nodes-again : (nodes : List NodeRow) → map node_row (zip (map (λ n. n.name) nodes) (map (λ n. n.kind) nodes)) ≡ nodes
nodes-again [] = refl
nodes-again (n ∷ nodes) = ap (λ rest. n ∷ rest) (nodes-again nodes)

segments-again : (segments : List SegmentRow) → map segment_row (zip (map (λ s. s.name) segments) (map link_of segments)) ≡ segments
segments-again [] = refl
segments-again (s ∷ segments) = ap (λ rest. s ∷ rest) (segments-again segments)

classes-again : (classes : List ClassRow) → map class_row (zip (map (λ c. c.name) classes) (map (λ c. c.seconds) classes)) ≡ classes
classes-again [] = refl
classes-again (c ∷ classes) = ap (λ rest. c ∷ rest) (classes-again classes)

airport-same : (airport : Airport) (nodes : List NodeRow) (segments : List SegmentRow) (classes : List ClassRow) (clearances : List ℕ) → nodes ≡ airport.nodes → segments ≡ airport.segments
    → classes ≡ airport.classes → clearances ≡ airport.clearances → record airport { nodes = nodes; segments = segments; classes = classes; clearances = clearances } ≡ airport
airport-same airport nodes segments classes clearances one two three four = rw (one, two, three, four) refl

pub airport-again : (airport : Airport) → IsWellFormed airport → airport_of_plan airport.horizon (plan_of airport) ≡ airport
airport-again airport well =
    let plan : Plan = plan_of airport in
    let table : table_of (length plan.classes) (length plan.segments) plan.times ≡ times_of airport =
    ap₂ (λ c s. table_of c s plan.times) (length-map airport.classes (λ c. c.name)) (length-map airport.segments (λ s. s.name)) ∙ table-again airport well in
    airport-same airport _ _ _ _ (nodes-again airport.nodes) (segments-again airport.segments)
    (ap (λ t. map class_row (zip plan.classes t)) table ∙ classes-again airport.classes)
    (ap (λ n. clearances_of n plan.clearances) (length-map airport.classes (λ c. c.name)) ∙ clearances-again airport well)
