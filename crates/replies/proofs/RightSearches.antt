-- What is sought is sought rightly, and what is told of such a search is the best.
use Rattle.std.proofs.Common.{ℕ, List, None, refl, sym, subst}
use Rattle.taxi_base.specs.declared.numbers.Class.{Class}
use Rattle.taxi_base.specs.declared.rows.Step.{Step}
use Rattle.taxi_base.specs.declared.rows.LabelRow.{LabelRow}
use Rattle.taxi_base.specs.declared.answers.Request.{Request}
use Rattle.taxi_base.specs.declared.answers.Request.TheVariants as request
use Rattle.taxi_base.specs.Airport.{Airport, IsWellFormed}
use Rattle.taxi_base.specs.State.{State, holds_in, IsSound}
use Rattle.taxi_base.proofs.StateLaws.{IsSound-with_flight}
use Rattle.walk_labels.specs.Places.{AreFit}
use Rattle.walk_labels.proofs.FitConditions.{among_fit}
use Rattle.replies.specs.declared.block.Block.TheVariants.{Route, NoRoute}
use Rattle.replies.specs.declared.rule.Rule.{Rule}
use Rattle.replies.specs.declared.rule.Rule.TheVariants as rule
use Rattle.replies.specs.CarriedOut.{second_of, routed_flight}
use Rattle.replies.specs.Sought.{Sought, sought_new, IsWalkFor}
use Rattle.replies.specs.Passes.{KeepsSought, IsBestTold}
use Rattle.replies.proofs.RefusalLaws.{HasRoom}
use Rattle.replies.proofs.SoughtPasses.{route-table, no_route-table}
use Rattle.replies.proofs.TablesKept.{IsUnderWay, HasFloorOf, table-best, table-none}

-- walks can be searched, what a flight goes on from is a feasible walk, and only a departure has a floor
pub record IsSearched (s : Sought) : Type 0 where
  pub fit : AreFit s.conditions
  pub way : IsUnderWay s.conditions s.others s.under_way
  pub floor : HasFloorOf s.request s.floor

-- and with a walk that is sought, or with none, the state stays sound
pub record IsRight (airport : Airport) (s : Sought) : Type 0 where
  pub searched : IsSearched s
  pub stays_sound : (steps : List Step) → IsWalkFor s steps → IsSound airport (s.with_steps steps)
  pub none_sound : IsSound airport s.with_none

pub no-floor : (request : Request) → HasFloorOf request None
no-floor request.Filed = refl
no-floor (request.Arrival from to asked hold) = refl
no-floor (request.Departure from to asked queue) = tt

module _ (airport : Airport) (state : State) (well : IsWellFormed airport) (sound : IsSound airport state) where
  pub new-right : (name : List ℕ) (class : Class) (request : Request) → HasRoom state name → IsRight airport (sought_new airport state name class request)
  new-right name class request room = record {
    searched = record { fit = among_fit airport class (holds_in airport state) well; way = tt; floor = no-floor request };
    stays_sound = λ steps met. IsSound-with_flight airport (routed_flight name class request steps) state sound room.room room.absent met;
    none_sound = sound;
  }

-- ---- what is told is the best

pub route-best : (name : List ℕ) (second : ℕ) (steps : List Step) (labels : List LabelRow) (s : Sought) → IsSearched s → ((r : Rule) → KeepsSought r s (Route name second steps labels))
    → IsBestTold s (Route name second steps labels)
route-best name second steps labels s searched rules =
    let walk = rules rule.Walk in (
      table-best s.conditions searched.fit s.request s.others s.under_way searched.way s.floor steps labels walk.0
          (route-table s name (second_of s.request steps) steps labels (λ r. subst (λ n. KeepsSought r s (Route name n steps labels)) (sym walk.1) (rules r))),
      walk.1,
    )

pub no_route-best : (labels : List LabelRow) (s : Sought) → IsSearched s → ((r : Rule) → KeepsSought r s (NoRoute labels)) → IsBestTold s (NoRoute labels)
no_route-best labels s searched rules =
    table-none s.conditions searched.fit s.request s.others s.under_way searched.way s.floor searched.floor labels (no_route-table s labels rules)
