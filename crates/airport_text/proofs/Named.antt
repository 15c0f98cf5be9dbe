-- The records of nodes and of classes are let through.
use Rattle.std.proofs.Common.{◌≡◌, ℕ, List, [], ◌∷◌, ◌++◌, map, Some, Ok, refl, sym, subst, append_assoc, append-nil, ◌∙◌}
use Rattle.taxi_base.specs.declared.rows.Kind.{Kind}
use Rattle.taxi_base.specs.declared.rows.Kind.TheVariants.{Runway, Junction, Stand}
use Rattle.taxi_base.specs.Airport.{NodeRow, ClassRow, AreNames}
use Rattle.airport_rules.specs.declared.version.Version.TheVariants.{Two}
use Rattle.airport_rules.specs.Plan.{Plan}
use Rattle.airport_rules.specs.Rules.{judge, judge_node, judge_class, kind_of}
use Rattle.airport_text.specs.Canonical.{kind_word, node_record, class_record}
use Rattle.airport_text.proofs.Names.{IsNext, names-next}
use Rattle.airport_text.proofs.Judging.{AreTaken}

kind-again : (kind : Kind) → kind_of (kind_word kind) ≡ Some kind
kind-again Runway = refl
kind-again Junction = refl
kind-again Stand = refl

-- the plan with these nodes
abbrev pub with_nodes : Plan → List (List ℕ) → List Kind → Plan
with_nodes plan nodes kinds = record plan { nodes = nodes; kinds = kinds }

node-judged : (plan : Plan) (name word : List ℕ) (kind : Kind) → IsNext 10000 plan.nodes name → kind_of word ≡ Some kind
    → judge_node plan name word ≡ Ok (with_nodes plan (plan.nodes ++ name ∷ []) (plan.kinds ++ kind ∷ []))
node-judged plan name word kind next read = rw (next.valid, next.fresh, read, next.room) refl

node-taken : (plan : Plan) (node : NodeRow) → IsNext 10000 plan.nodes node.name
    → judge Two plan (node_record node) ≡ Ok (with_nodes plan (plan.nodes ++ node.name ∷ []) (plan.kinds ++ node.kind ∷ []))
unfolding judge
node-taken plan node next = node-judged plan node.name (kind_word node.kind) node.kind next (kind-again node.kind)

pub nodes-taken : (plan new : Plan) (nodes : List NodeRow) → AreNames 10000 (plan.nodes ++ map (λ n. n.name) nodes)
    → new ≡ with_nodes plan (plan.nodes ++ map (λ n. n.name) nodes) (plan.kinds ++ map (λ n. n.kind) nodes) → AreTaken plan (map node_record nodes) new
nodes-taken plan new [] names e = sym (e ∙ rw (append-nil plan.nodes, append-nil plan.kinds) refl)
nodes-taken plan new (n ∷ nodes) names e =
    let next : Plan = with_nodes plan (plan.nodes ++ n.name ∷ []) (plan.kinds ++ n.kind ∷ []) in (
      next,
      node-taken plan n (names-next 10000 plan.nodes n.name (map (λ n. n.name) nodes) names),
      nodes-taken next new nodes (subst (AreNames 10000) (sym (append_assoc plan.nodes (n.name ∷ []) (map (λ n. n.name) nodes))) names)
          (rw (append_assoc plan.nodes (n.name ∷ []) (map (λ n. n.name) nodes), append_assoc plan.kinds (n.kind ∷ []) (map (λ n. n.kind) nodes)) e),
    )

-- the plan with these classes
abbrev pub with_classes : Plan → List (List ℕ) → Plan
with_classes plan classes = record plan { classes = classes }

class-judged : (plan : Plan) (name : List ℕ) → IsNext 32 plan.classes name → judge_class plan name ≡ Ok (with_classes plan (plan.classes ++ name ∷ []))
class-judged plan name next = rw (next.valid, next.fresh, next.room) refl

class-taken : (plan : Plan) (class : ClassRow) → IsNext 32 plan.classes class.name → judge Two plan (class_record class) ≡ Ok (with_classes plan (plan.classes ++ class.name ∷ []))
unfolding judge
class-taken plan class next = class-judged plan class.name next

pub classes-taken : (plan new : Plan) (classes : List ClassRow) → AreNames 32 (plan.classes ++ map (λ c. c.name) classes)
    → new ≡ with_classes plan (plan.classes ++ map (λ c. c.name) classes) → AreTaken plan (map class_record classes) new
classes-taken plan new [] names e = sym (e ∙ rw (append-nil plan.classes) refl)
classes-taken plan new (c ∷ classes) names e =
    let next : Plan = with_classes plan (plan.classes ++ c.name ∷ []) in (
      next,
      class-taken plan c (names-next 32 plan.classes c.name (map (λ c. c.name) classes) names),
      classes-taken next new classes (subst (AreNames 32) (sym (append_assoc plan.classes (c.name ∷ []) (map (λ c. c.name) classes))) names)
          (rw (append_assoc plan.classes (c.name ∷ []) (map (λ c. c.name) classes)) e),
    )
