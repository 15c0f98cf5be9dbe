-- A command to one of several nodes is refused for what its choice is refused for.
use Rattle.std.proofs.Common.{◌≡◌, ◌∙◌, Bool, true, false, not, ◌&&◌, List, [], ◌∷◌, Option, Some, None, refl, ap, subst}
use Rattle.std.specs.List.{list_any}
use Rattle.taxi_base.specs.declared.answers.Refusal.{Refusal}
use Rattle.taxi_base.specs.declared.answers.Refusal.TheVariants as refusal
use Rattle.taxi_base.specs.declared.rows.Kind.{Kind}
use Rattle.taxi_base.specs.Airport.{Airport, is_runway, is_stand, is_node_of}
use Rattle.taxi_base.specs.State.{State}
use Rattle.taxi_text.specs.declared.command.AskedAny.{AskedAny}
use Rattle.taxi_text.specs.declared.command.Command.TheVariants as command
use Rattle.replies.specs.Refusals.{refused_if, first_of, in_force, unknown_class, unknown_node, unknown_node_of, full}
use Rattle.due_refusals.specs.declared.choice.NamedAny.{NamedAny}
use Rattle.due_refusals.specs.Choice.{leads_among, choice_refused, AreNamedOr, AreAnyNamed}

-- tests that come to the same do so behind another
behind : (test : Option Refusal) (xs ys : List (Option Refusal)) → first_of xs ≡ first_of ys → first_of (test ∷ xs) ≡ first_of (test ∷ ys)
behind (Some why) xs ys same = refl
behind None xs ys same = same

-- the kinds of both ends are one test or two
both-kinds : (begins others : Bool) (why : Refusal) (rest : List (Option Refusal))
    → first_of (refused_if (not (begins && not others)) why ∷ rest) ≡ first_of (refused_if (not begins) why ∷ refused_if others why ∷ rest)
both-kinds true true why rest = refl
both-kinds true false why rest = refl
both-kinds false others why rest = refl

module _ (airport : Airport) (state : State) (asked : AskedAny) where
  -- the four tests of names come first in both
  behind-names : (first second third fourth : Option Refusal) (xs ys : List (Option Refusal)) → first_of xs ≡ first_of ys
      → first_of (first ∷ second ∷ third ∷ fourth ∷ xs) ≡ first_of (first ∷ second ∷ third ∷ fourth ∷ ys)
  behind-names first second third fourth xs ys same =
      behind first (second ∷ third ∷ fourth ∷ xs) (second ∷ third ∷ fourth ∷ ys)
      (behind second (third ∷ fourth ∷ xs) (third ∷ fourth ∷ ys) (behind third (fourth ∷ xs) (fourth ∷ ys) (behind fourth xs ys same)))

  abbrev due : (begins ends : Kind → Bool) → List (Option Refusal)
  due begins ends =
      refused_if (not (is_node_of begins airport asked.from)) refusal.WrongKind
      ∷ refused_if (list_any (λ node. not (is_node_of ends airport node)) asked.nodes) refusal.WrongKind ∷ full state ∷ []

  due-one : (begins ends : Kind → Bool) → choice_refused airport state asked (leads_among begins ends airport asked)
      ≡ first_of (in_force state asked.flight ∷ unknown_class airport asked.class ∷ unknown_node airport asked.from ∷ unknown_node_of airport asked.nodes ∷ due begins ends)
  due-one begins ends =
      behind-names (in_force state asked.flight) (unknown_class airport asked.class) (unknown_node airport asked.from) (unknown_node_of airport asked.nodes)
      (refused_if (not (leads_among begins ends airport asked)) refusal.WrongKind ∷ full state ∷ []) (due begins ends)
      (both-kinds (is_node_of begins airport asked.from) (list_any (λ node. not (is_node_of ends airport node)) asked.nodes) refusal.WrongKind (full state ∷ []))

  pub named-arrival : (fits : Bool) (named : NamedAny) → fits ≡ leads_among is_runway is_stand airport asked
      → AreNamedOr airport asked (choice_refused airport state asked fits) named → AreAnyNamed airport state asked (command.ArrivalAny asked) named
  named-arrival fits named is told = subst (λ (due : Option Refusal). AreNamedOr airport asked due named) (ap (choice_refused airport state asked) is ∙ due-one is_runway is_stand) told

  pub named-departure : (fits : Bool) (named : NamedAny) → fits ≡ leads_among is_stand is_runway airport asked
      → AreNamedOr airport asked (choice_refused airport state asked fits) named → AreAnyNamed airport state asked (command.DepartureAny asked) named
  named-departure fits named is told = subst (λ (due : Option Refusal). AreNamedOr airport asked due named) (ap (choice_refused airport state asked) is ∙ due-one is_stand is_runway) told
