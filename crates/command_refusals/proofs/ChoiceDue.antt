-- When a choice whose words name what there is is refused.
use Rattle.std.proofs.Common.{◌≡◌, List, ℕ, Bool, true, false, Some, refl, sym, ap, ◌∙◌}
use Rattle.std.specs.Prelude.{nat_le, not}
use Rattle.std.specs.List.{list_any}
use Rattle.taxi_base.specs.declared.rows.Kind.{Kind}
use Rattle.taxi_base.specs.declared.answers.Refusal.TheVariants as refusal
use Rattle.taxi_base.specs.Airport.{Airport, is_runway, is_stand, is_node_of}
use Rattle.taxi_base.specs.State.{State, has_holder, holder_count}
use Rattle.taxi_text.specs.declared.command.AskedAny.{AskedAny}
use Rattle.taxi_text.specs.declared.command.Command.TheVariants as command
use Rattle.replies.specs.Refusals.{most_holders, first_refusal}
use Rattle.command_refusals.specs.declared.choosing.TripToAny.{TripToAny}
use Rattle.command_refusals.specs.Named.{IsTripOfAny}

-- whether one of some names is not that of a node of a kind
abbrev lacks_kind : (Kind → Bool) → Airport → List (List ℕ) → Bool
lacks_kind is_kind airport names = list_any (λ name. not (is_node_of is_kind airport name)) names

-- what is found of a list is so of an equal one
pub of-names : (is_kind : Kind → Bool) (airport : Airport) (names nodes : List (List ℕ)) (found answer : Bool) → found ≡ lacks_kind is_kind airport names → names ≡ nodes → found ≡ answer
    → lacks_kind is_kind airport nodes ≡ answer
of-names is_kind airport names nodes found answer is same e = sym (is ∙ ap (lacks_kind is_kind airport) same) ∙ e

module _ (airport : Airport) (state : State) (asked : AskedAny) (trip : TripToAny) (absent : has_holder asked.flight state ≡ false) (named : IsTripOfAny airport asked trip) where
  pub arrival-no_stand : is_node_of is_runway airport asked.from ≡ true → lacks_kind is_stand airport asked.nodes ≡ true
      → first_refusal airport state (command.ArrivalAny asked) ≡ Some refusal.WrongKind
  arrival-no_stand runway lacks = rw (runway, lacks, absent, named.class_known, named.from_known, named.nodes_known) refl

  pub arrival-full : is_node_of is_runway airport asked.from ≡ true → lacks_kind is_stand airport asked.nodes ≡ false → nat_le most_holders (holder_count state) ≡ true
      → first_refusal airport state (command.ArrivalAny asked) ≡ Some refusal.Full
  arrival-full runway lacks full = rw (runway, lacks, absent, named.class_known, named.from_known, named.nodes_known, full) refl

  pub departure-no_runway : is_node_of is_stand airport asked.from ≡ true → lacks_kind is_runway airport asked.nodes ≡ true
      → first_refusal airport state (command.DepartureAny asked) ≡ Some refusal.WrongKind
  departure-no_runway stand lacks = rw (stand, lacks, absent, named.class_known, named.from_known, named.nodes_known) refl

  pub departure-full : is_node_of is_stand airport asked.from ≡ true → lacks_kind is_runway airport asked.nodes ≡ false → nat_le most_holders (holder_count state) ≡ true
      → first_refusal airport state (command.DepartureAny asked) ≡ Some refusal.Full
  departure-full stand lacks full = rw (stand, lacks, absent, named.class_known, named.from_known, named.nodes_known, full) refl
