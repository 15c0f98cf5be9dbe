-- What do the words of a choice of nodes name?
use Rattle.std.specs.Prelude.{◌≡◌, Bool, not, ◌&&◌, [], ◌∷◌, Option, Some, None}
use Rattle.std.specs.List.{list_any}
use Rattle.taxi_base.specs.declared.answers.Refusal.{Refusal}
use Rattle.taxi_base.specs.declared.answers.Refusal.TheVariants as refusal
use Rattle.taxi_base.specs.declared.rows.Kind.{Kind}
use Rattle.taxi_base.specs.Airport.{Airport, class_named, node_named, is_node_of}
use Rattle.taxi_base.specs.State.{State}
use Rattle.taxi_text.specs.declared.command.AskedAny.{AskedAny}
use Rattle.taxi_text.specs.declared.command.Command.{Command}
use Rattle.replies.specs.Asked.{nodes_named}
use Rattle.replies.specs.Refusals.{refused_if, first_of, in_force, unknown_class, unknown_node, unknown_node_of, full, first_refusal}
use Rattle.due_refusals.specs.declared.choice.NamedAny.{NamedAny}
use Rattle.due_refusals.specs.declared.choice.NamedAny.TheVariants.{Named, Refused}

-- the class and the nodes are those that the words name, and no refusal is due; or the one that is due is told
abbrev pub AreNamedOr : Airport → AskedAny → Option Refusal → NamedAny → Type 0
AreNamedOr airport asked due (Named class from nodes) =
    (class_named airport asked.class ≡ Some class) × (node_named airport asked.from ≡ Some from) × (nodes_named airport asked.nodes ≡ Some nodes) × (due ≡ None)
AreNamedOr airport asked due (Refused why) = due ≡ Some why

-- the same, where what is due is what a command is refused for
abbrev pub AreAnyNamed : Airport → State → AskedAny → Command → NamedAny → Type 0
AreAnyNamed airport state asked command named = AreNamedOr airport asked (first_refusal airport state command) named

-- whether a choice leads from a node of one kind to nodes of another
abbrev pub leads_among : (Kind → Bool) → (Kind → Bool) → Airport → AskedAny → Bool
leads_among begins ends airport asked = is_node_of begins airport asked.from && not (list_any (λ node. not (is_node_of ends airport node)) asked.nodes)

-- what a choice is refused for, where it is known whether its nodes are of the right kinds
abbrev pub choice_refused : Airport → State → AskedAny → Bool → Option Refusal
choice_refused airport state asked fits =
    first_of (in_force state asked.flight ∷ unknown_class airport asked.class ∷ unknown_node airport asked.from ∷ unknown_node_of airport asked.nodes
    ∷ refused_if (not fits) refusal.WrongKind ∷ full state ∷ [])
