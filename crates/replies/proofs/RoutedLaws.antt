-- A new flight is routed in one way.
use Rattle.std.proofs.Common.{◌≡◌, ℕ, ◌+◌, ◌-◌, ◌≤◌, ◌&&◌, Bool, true, false, nat_lt, List, length, IsFalse, Option, Some, refl, sym, ◌∙◌, ap, subst}
use Rattle.std.proofs.lemmas.Bool.{le-ltb}
use Rattle.taxi_base.specs.declared.numbers.Class.{Class}
use Rattle.taxi_base.specs.declared.numbers.Node.{Node}
use Rattle.taxi_base.specs.declared.numbers.Segment.{Segment}
use Rattle.taxi_base.specs.declared.answers.Found.{Found}
use Rattle.taxi_base.specs.declared.answers.Request.{Request}
use Rattle.taxi_base.specs.declared.answers.Request.TheVariants as request
use Rattle.taxi_base.specs.Airport.{Airport, IsWellFormed, layout_of}
use Rattle.taxi_base.specs.Windows.{Hold, is_free}
use Rattle.taxi_base.specs.Walks.{Conditions, free_among, conditions_among, LeavesNodeWithin, ReachesNodeWithin}
use Rattle.taxi_base.specs.State.{State, with_flight, holds_in}
use Rattle.taxi_base.proofs.AirportLaws.{seconds-range}
use Rattle.taxi_base.proofs.LabelLaws.{HasOneFirstStep, HasOneFirstStep-leaves}
use Rattle.taxi_base.proofs.AnswerLaws.{AnswersArrival-same, AnswersDeparture-same}
use Rattle.replies.specs.declared.block.Block.{Block}
use Rattle.replies.specs.Asked.{AnswersRequest}
use Rattle.replies.specs.Routed.{Reply, IsOf, found_reply, routed_flight, IsRoutedAs}

-- what is found under one name is one thing
pub one-some : {X : Type 0} (o : Option X) (x y : X) → o ≡ Some x → o ≡ Some y → x ≡ y
one-some o x y a b = same x y (sym a ∙ b) where
  same : {X : Type 0} (x y : X) → ◌≡◌ {A = Option X} (Some x) (Some y) → x ≡ y
  same x y e = cc

-- no second from the horizon on is free
free_among-past : (airport : Airport) (holds : List Hold) (s : Segment) (t : ℕ) → airport.horizon ≤ t → IsFalse (free_among airport holds s t)
free_among-past airport holds s t past =
    go (nat_lt s.0 (length airport.segments)) (is_free airport.conflicts airport.horizon holds s t) (rw (le-ltb t airport.horizon past) refl)
  where
    go : (a b : Bool) → IsFalse b → IsFalse (a && b)
    go true b e = e
    go false b e = refl

module _ (airport : Airport) (well : IsWellFormed airport) (class : Class) (holds : List Hold) where
  abbrev c : Conditions
  c = conditions_among airport class holds

  pub one_first_step : (node : Node) (earliest latest : ℕ) → HasOneFirstStep c (LeavesNodeWithin (layout_of airport) node earliest latest)
  one_first_step node earliest latest =
      HasOneFirstStep-leaves c (layout_of airport) node earliest latest (free_among-past airport holds) (λ s k e. (seconds-range airport class s k well e).0)

  pub AnswersRequest-same : (request : Request) (f g : Found) → AnswersRequest c request f → AnswersRequest c request g → f ≡ g
  AnswersRequest-same request.Filed f g a b = absurd a
  AnswersRequest-same (request.Arrival from to time hold) f g a b =
      AnswersArrival-same c (LeavesNodeWithin (layout_of airport) from time (time + hold)) to (one_first_step from time (time + hold)) f g a b
  AnswersRequest-same (request.Departure from to time queue) f g a b =
      AnswersDeparture-same c from (ReachesNodeWithin (layout_of airport) to (time - queue) time) f g a b

-- ---- one block and one state

abbrev pub AreSame : Block → State → Block → State → Type 0
AreSame block after other others = (block ≡ other) × (after ≡ others)

module _ {block : Block} {after : State} {other : Block} {others : State} where
  pub of_one : (reply : Reply) → IsOf reply block after → IsOf reply other others → AreSame block after other others
  of_one reply a b = (a.0 ∙ sym b.0, a.1 ∙ sym b.1)

  pub of_same : (p q : Reply) → p ≡ q → IsOf p block after → IsOf q other others → AreSame block after other others
  of_same p q same a b = of_one p a (subst (λ (r : Reply). IsOf r other others) (sym same) b)

  -- a new flight is routed as it asks in one way
  pub IsRoutedAs-same : (airport : Airport) (state : State) → IsWellFormed airport → (name : List ℕ) (class : Class) (request : Request)
      → IsRoutedAs airport state name class request block after → IsRoutedAs airport state name class request other others → AreSame block after other others
  IsRoutedAs-same airport state well name class request a b =
      let founds : a.found ≡ b.found = AnswersRequest-same airport well class (holds_in airport state) request a.found b.found a.answers b.answers in
      let reply : Found → Reply = found_reply state name request (λ steps. with_flight (routed_flight name class request steps) state) in
      of_same (reply a.found) (reply b.found) (ap reply founds) a.reply b.reply
