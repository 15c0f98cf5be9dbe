-- What is so where a command is refused nothing.
use Rattle.std.proofs.Common.{◌≡◌, ℕ, ◌<◌, Bool, true, false, not, List, [], ◌∷◌, IsTrue, IsFalse, Option, Some, None, option_map, refl, inl, inr}
use Rattle.std.proofs.lemmas.Bool.{cases_lt, le-leb}
use Rattle.taxi_base.specs.declared.numbers.Class.{Class}
use Rattle.taxi_base.specs.declared.numbers.Segment.{Segment}
use Rattle.taxi_base.specs.declared.rows.Step.{Step}
use Rattle.taxi_base.specs.declared.answers.StepFault.{StepFault}
use Rattle.taxi_base.specs.declared.answers.Refusal.{Refusal}
use Rattle.taxi_base.specs.declared.answers.Refusal.TheVariants as refusal
use Rattle.taxi_base.specs.Airport.{Airport, class_named, segment_named, is_runway, is_stand}
use Rattle.taxi_base.specs.State.{State, party_hold, holder_count, has_holder}
use Rattle.taxi_base.specs.Faults.{route_fault, hold_fault}
use Rattle.taxi_text.specs.declared.command.Asked.{Asked}
use Rattle.taxi_text.specs.declared.command.AskedAny.{AskedAny}
use Rattle.taxi_text.specs.declared.command.Filed.{Filed}
use Rattle.taxi_text.specs.declared.command.Shut.{Shut}
use Rattle.replies.specs.Asked.{route_filed, party_of}
use Rattle.taxi_text.specs.declared.command.Command.TheVariants as command
use Rattle.replies.specs.Refusals.{refused_if, first_of, is_in_force, is_at_work, most_holders, in_force, unknown_class, unknown_node, unknown_node_of, not_all, no_runway, no_stand, unknown_segment, unknown_arc, not_in_force, not_at_work, full, step_fails, hold_fails, first_refusal}

-- none of the tests gives a refusal, so neither the first does nor the others
pub none-first : (o : Option Refusal) (tests : List (Option Refusal)) → first_of (o ∷ tests) ≡ None → o ≡ None
none-first None tests e = refl
none-first (Some why) tests e = absurd (cc e)

pub none-others : (o : Option Refusal) (tests : List (Option Refusal)) → first_of (o ∷ tests) ≡ None → first_of tests ≡ None
none-others None tests e = e
none-others (Some why) tests e = absurd (cc e)

pub not_refused : (test : Bool) (why : Refusal) → refused_if test why ≡ None → IsFalse test
not_refused false why e = refl
not_refused true why e = absurd (cc e)

so-not_refused : (test : Bool) (why : Refusal) → refused_if (not test) why ≡ None → IsTrue test
so-not_refused true why e = refl
so-not_refused false why e = absurd (cc e)

-- a flight of the name is in force, and a work party of the name is
pub is-in_force : (state : State) (name : List ℕ) → not_in_force state name ≡ None → IsTrue (is_in_force name state)
is-in_force state name e = so-not_refused (is_in_force name state) refusal.NotInForce e

pub is-at_work : (state : State) (name : List ℕ) → not_at_work state name ≡ None → IsTrue (is_at_work name state)
is-at_work state name e = so-not_refused (is_at_work name state) refusal.NotInForce e

-- there is room for a holder
pub not-full : (state : State) → full state ≡ None → holder_count state < most_holders
not-full state e =
    elim (cases_lt (holder_count state) most_holders) [
      | inl room ↦ room
      | inr many ↦ absurd (cc (rw (le-leb most_holders (holder_count state) many) at e))
    ]

no_fault : (o : Option StepFault) → option_map (λ fault. refusal.Step fault) o ≡ None → o ≡ None
no_fault None h = refl
no_fault (Some fault) h = absurd (cc h)

-- no step of the route fails
pub none-fails : (airport : Airport) (state : State) (filed : Filed) (class : Class) (steps : List Step)
    → class_named airport filed.class ≡ Some class → route_filed airport filed ≡ Some steps
    → step_fails airport state filed ≡ None → route_fault airport class state steps ≡ None
none-fails airport state filed class steps known made e = no_fault (route_fault airport class state steps) (rw (known, made) at e)

-- the segment may be shut
pub none-holds : (airport : Airport) (state : State) (shut : Shut) (s : Segment) → segment_named airport shut.segment ≡ Some s
    → hold_fails airport state shut ≡ None → hold_fault airport state (party_hold (party_of shut s)) ≡ None
none-holds airport state shut s known e = no_fault (hold_fault airport state (party_hold (party_of shut s))) (rw known at e)

-- ---- what the commands that put a holder in force are not refused

-- there is room for a holder of a new name
pub record HasRoom (state : State) (name : List ℕ) : Type 0 where
  pub absent : IsFalse (has_holder name state)
  pub room : holder_count state < most_holders

module _ (airport : Airport) (state : State) where
  pub file-has_room : (filed : Filed) → first_refusal airport state (command.File filed) ≡ None → HasRoom state filed.flight
  file-has_room filed e = record {
    absent = not_refused (has_holder filed.flight state) refusal.InForce (none-first (in_force state filed.flight) _ e);
    room = not-full state (none-first (full state) _ (none-others (unknown_arc airport filed) _ (none-others (unknown_class airport filed.class) _ (none-others (in_force state filed.flight) _ e))));
  }

  pub file-does_not_fail : (filed : Filed) → first_refusal airport state (command.File filed) ≡ None → step_fails airport state filed ≡ None
  file-does_not_fail filed e =
      none-first (step_fails airport state filed) [] (none-others (full state) _ (none-others (unknown_arc airport filed) _ (none-others (unknown_class airport filed.class) _ (none-others (in_force state filed.flight) _ e))))

  pub arrival-has_room : (asked : Asked) → first_refusal airport state (command.Arrival asked) ≡ None → HasRoom state asked.flight
  arrival-has_room asked e = record {
    absent = not_refused (has_holder asked.flight state) refusal.InForce (none-first (in_force state asked.flight) _ e);
    room = not-full state (none-first (full state) _
        (none-others (no_stand airport asked.to) _ (none-others (no_runway airport asked.from) _ (none-others (unknown_node airport asked.to) _ (none-others (unknown_node airport asked.from) _
        (none-others (unknown_class airport asked.class) _ (none-others (in_force state asked.flight) _ e)))))));
  }

  pub departure-has_room : (asked : Asked) → first_refusal airport state (command.Departure asked) ≡ None → HasRoom state asked.flight
  departure-has_room asked e = record {
    absent = not_refused (has_holder asked.flight state) refusal.InForce (none-first (in_force state asked.flight) _ e);
    room = not-full state (none-first (full state) _
        (none-others (no_runway airport asked.to) _ (none-others (no_stand airport asked.from) _ (none-others (unknown_node airport asked.to) _ (none-others (unknown_node airport asked.from) _
        (none-others (unknown_class airport asked.class) _ (none-others (in_force state asked.flight) _ e)))))));
  }

  pub arrival_any-has_room : (asked : AskedAny) → first_refusal airport state (command.ArrivalAny asked) ≡ None → HasRoom state asked.flight
  arrival_any-has_room asked e = record {
    absent = not_refused (has_holder asked.flight state) refusal.InForce (none-first (in_force state asked.flight) _ e);
    room = not-full state (none-first (full state) _
        (none-others (not_all is_stand airport asked.nodes) _ (none-others (no_runway airport asked.from) _ (none-others (unknown_node_of airport asked.nodes) _ (none-others (unknown_node airport asked.from) _
        (none-others (unknown_class airport asked.class) _ (none-others (in_force state asked.flight) _ e)))))));
  }

  pub departure_any-has_room : (asked : AskedAny) → first_refusal airport state (command.DepartureAny asked) ≡ None → HasRoom state asked.flight
  departure_any-has_room asked e = record {
    absent = not_refused (has_holder asked.flight state) refusal.InForce (none-first (in_force state asked.flight) _ e);
    room = not-full state (none-first (full state) _
        (none-others (not_all is_runway airport asked.nodes) _ (none-others (no_stand airport asked.from) _ (none-others (unknown_node_of airport asked.nodes) _ (none-others (unknown_node airport asked.from) _
        (none-others (unknown_class airport asked.class) _ (none-others (in_force state asked.flight) _ e)))))));
  }

  pub work-has_room : (shut : Shut) → first_refusal airport state (command.Work shut) ≡ None → HasRoom state shut.name
  work-has_room shut e = record {
    absent = not_refused (has_holder shut.name state) refusal.InForce (none-first (in_force state shut.name) _ e);
    room = not-full state (none-first (full state) _ (none-others (unknown_segment airport shut.segment) _ (none-others (in_force state shut.name) _ e)));
  }

  pub work-does_not_fail : (shut : Shut) → first_refusal airport state (command.Work shut) ≡ None → hold_fails airport state shut ≡ None
  work-does_not_fail shut e =
      none-first (hold_fails airport state shut) [] (none-others (full state) _ (none-others (unknown_segment airport shut.segment) _ (none-others (in_force state shut.name) _ e)))
