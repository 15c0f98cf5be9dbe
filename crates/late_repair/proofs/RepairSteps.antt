-- Who is taken out for a late flight is in force, and the turns of all of them are its repair.
use Rattle.std.proofs.Common.{◌≡◌, ◌∙◌, ℕ, List, map, get_or, is_some, Option, Some, IsTrue, sym, ap, subst, inl, inr}
use Rattle.std.specs.Prelude.{All, Contains, IfOk, Result, Ok, Err}
use Rattle.std.proofs.lemmas.Bool.{or_left, or_right}
use Rattle.std.proofs.lemmas.List.Elements.{All-cons, All-map, Contains-get_or}
use Rattle.taxi_base.specs.declared.answers.Flight as flights
use Rattle.taxi_base.specs.declared.answers.Party as parties
use Rattle.taxi_base.specs.Airport.{Airport}
use Rattle.taxi_base.specs.State.{State, has_holder, IsFeasibleState}
use Rattle.taxi_base.specs.declared.answers.Found.{Found}
use Rattle.taxi_base.specs.declared.collections.Memory.{Memory}
use Rattle.taxi_base.specs.Late.{Delay, Meeting, IsDelay, IsInTheWay, AreInTheWay, base_state, AreTurns}
use Rattle.taxi_base.proofs.OtherHolds.{there-named}
use Rattle.taxi_base.proofs.BaseLaws.{late-there}
use Rattle.replies.specs.declared.entries.Entry.{Entry}
use Rattle.replies.specs.Repairs.{delay_of, names_in_turn, entries_told}
use Rattle.late_repair.specs.declared.holder.Holder.{Holder}
use Rattle.late_repair.specs.Repairing.{IsRepairedAs}
use Rattle.late_repair.specs.TakenOut.{name_of}

module _ (airport : Airport) (state : State) (delay : Delay) (feasible : IsFeasibleState airport state) (is : IsDelay airport state delay) where
  there : Contains state.flights delay.flight
  there = late-there airport state delay feasible is

  -- ---- all are in force

  has-flight : (f : flights.Flight) → Contains state.flights f → IsTrue (has_holder f.name state)
  has-flight f f_there = or_right _ _ (ap is_some (there-named (λ (g : flights.Flight). g.name) state.flights f feasible.ordered f_there))

  has-party : (p : parties.Party) → Contains state.parties p → IsTrue (has_holder p.name state)
  has-party p p_there = or_left _ _ (ap is_some (there-named (λ (q : parties.Party). q.name) state.parties p feasible.parties_ordered p_there))

  pub way-in_force : (meetings : List Meeting) → AreInTheWay airport state delay meetings → All (λ n. IsTrue (has_holder n state)) (names_in_turn delay meetings)
  way-in_force meetings way =
      All-cons (λ n. IsTrue (has_holder n state)) delay.flight.name (map (λ (m : Meeting). m.name) meetings) (has-flight delay.flight there)
      (All-map (λ n. IsTrue (has_holder n state)) (λ (m : Meeting). m.name) meetings (λ k d low.
      in-way (get_or meetings k d) ((way.whole (get_or meetings k d)).0 (Contains-get_or meetings k d low))))
    where
      in-way : (m : Meeting) → IsInTheWay airport state delay m → IsTrue (has_holder m.name state)
      in-way m (inl p) = subst (λ n. IsTrue (has_holder n state)) p.2 (has-party p.0 p.1)
      in-way m (inr f) = subst (λ n. IsTrue (has_holder n state)) f.2 (has-flight f.0 f.1)

-- two delays that are known are one
pub delay-is : (airport : Airport) (state : State) (name : List ℕ) (time until : ℕ) (delay other : Delay) → delay_of state name time until ≡ Some delay → delay_of state name time until ≡ Some other
    → IsDelay airport state other → IsDelay airport state delay
delay-is airport state name time until delay other known also is = subst (IsDelay airport state) (only (sym also ∙ known)) is where
  only : {a b : Delay} → Some a ≡ Some b → a ≡ b
  only e = cc

-- ---- what comes of it

-- the turns of those that were taken out, from the base state on, are the repair
pub repaired-so : (airport : Airport) (state : State) (delay : Delay) (meetings : List Meeting) → AreInTheWay airport state delay meetings
    → (holders : List Holder) → map name_of holders ≡ names_in_turn delay meetings → (at_first mid after : State) → at_first ≡ state → mid ≡ base_state airport state delay → (r : Result (List (List ℕ × Entry)) Memory)
    → IfOk r (λ entries. (tells : List (Option Found)) × AreTurns airport delay at_first (map name_of holders) mid tells after × (entries ≡ entries_told airport delay at_first (map name_of holders) tells))
    → IfOk r (λ entries. IsRepairedAs airport state delay entries after)
repaired-so airport state delay meetings way holders names at_first mid after same base (Err e) turns = tt
repaired-so airport state delay meetings way holders names at_first mid after same base (Ok entries) turns = record {
  meetings = meetings;
  tells = turns.0;
  repaired = record {
    in_the_way = way;
    turns = subst (λ s. AreTurns airport delay state (names_in_turn delay meetings) s turns.0 after) base
        (subst (λ ns. AreTurns airport delay state ns mid turns.0 after) names (subst (λ s. AreTurns airport delay s (map name_of holders) mid turns.0 after) same turns.1));
  };
  entries_are = turns.2 ∙ ap (λ s. entries_told airport delay s (map name_of holders) turns.0) same ∙ ap (λ ns. entries_told airport delay state ns turns.0) names;
}
