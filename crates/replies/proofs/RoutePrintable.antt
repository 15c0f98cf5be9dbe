-- A route that was found has a text, in an airport that keeps the rules.
use Rattle.std.proofs.Common.{◌≡◌, ℕ, ◌≤◌, List, refl, sym, subst, arith}
use Rattle.std.specs.Prelude.{All}
use Rattle.taxi_base.specs.declared.numbers.Class.{Class}
use Rattle.taxi_base.specs.declared.rows.Step.{Step}
use Rattle.taxi_base.specs.declared.rows.LabelRow.{LabelRow}
use Rattle.taxi_base.specs.declared.answers.Found.{Found}
use Rattle.taxi_base.specs.declared.answers.Found.TheVariants as found
use Rattle.taxi_base.specs.declared.answers.Request.{Request}
use Rattle.taxi_base.specs.Airport.{Airport, IsWellFormed}
use Rattle.taxi_base.specs.Walks.{Conditions, IsFeasibleWalk}
use Rattle.taxi_base.specs.State.{State, with_flight, holds_in}
use Rattle.taxi_base.specs.Faults.{conditions_in}
use Rattle.taxi_base.proofs.WalkLaws.{conditions_among-bounded, Meets-IsFeasibleWalk}
use Rattle.replies.specs.declared.block.Block.{Block}
use Rattle.replies.specs.declared.block.Block.TheVariants.{Route, NoRoute}
use Rattle.replies.specs.Printable.{IsShort, IsName, IsPrintableStep, IsPrintable}
use Rattle.replies.specs.Asked.{AnswersRequest}
use Rattle.replies.specs.CarriedOut.{Reply, IsOf, second_of, found_reply, routed_flight, IsRoutedAs}
use Rattle.replies.proofs.FoundLaws.{walk-second, walk-some, walk-count, walk-printable, found-meets, ArePrintableLabels, found-printable}

pub printable-by : (airport : Airport) (reply : Reply) (block : Block) (after : State) → IsOf reply block after → IsPrintable airport reply.block → IsPrintable airport block
printable-by airport reply block after of fine = rw of.0 fine

module _ (airport : Airport) (well : IsWellFormed airport) where
  -- a second by the horizon has at most 7 digits
  pub number : (n : ℕ) → n ≤ airport.horizon → IsShort n
  number n by = omega (arith, by, well.horizon.1)

  -- a route that was found, with its labels
  pub route-printable : (c : Conditions) (name : List ℕ) (request : Request) (steps : List Step) (labels : List LabelRow) → c.airport ≡ airport → IsName name
      → IsFeasibleWalk c steps → ArePrintableLabels airport labels → IsPrintable airport (Route name (second_of request steps) steps labels)
  route-printable c name request steps labels same named walk fine =
      let on : IsWellFormed c.airport = subst IsWellFormed (sym same) well in
      let by : second_of request steps ≤ airport.horizon = subst (λ (a : Airport). second_of request steps ≤ a.horizon) same (walk-second c request steps walk) in (
        (named, (number (second_of request steps) by, ((walk-some c steps walk, walk-count c on steps walk), fine.0))),
        (subst (λ a. All (IsPrintableStep a) steps) same (walk-printable c on steps walk), fine.1),
      )

  pub routed-printable : (state : State) (name : List ℕ) (class : Class) (request : Request) (block : Block) (after : State) → IsName name
      → IsRoutedAs airport state name class request block after → IsPrintable airport block
  routed-printable state name class request block after named done = go done.found done.answers done.reply where
    c : Conditions
    c = conditions_in airport class state

    go : (answer : Found) → AnswersRequest c request answer
        → IsOf (found_reply state name request (λ steps. with_flight (routed_flight name class request steps) state) answer) block after → IsPrintable airport block
    go (found.NoRoute labels) answers of =
        printable-by airport (record { block = NoRoute labels; after = state }) block after of
        (found-printable c well (conditions_among-bounded airport class (holds_in airport state)) request (found.NoRoute labels) answers)
    go (found.Route steps labels) answers of =
        printable-by airport (record { block = Route name (second_of request steps) steps labels; after = with_flight (routed_flight name class request steps) state }) block after of
        (route-printable c name request steps labels refl named (Meets-IsFeasibleWalk c request steps (found-meets c request steps labels answers))
        (found-printable c well (conditions_among-bounded airport class (holds_in airport state)) request (found.Route steps labels) answers))
