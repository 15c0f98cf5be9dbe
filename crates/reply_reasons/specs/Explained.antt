-- Which lines explain the reply to a line?
use Rattle.std.specs.Prelude.{ℕ, ◌≡◌, ◌⊎◌, IsTrue, IsFalse, if◌then◌else◌, List, [], ◌∷◌, ◌++◌, map, Option, Some, None, MatchOption}
use Rattle.std.specs.Option.{option_map_or}
use Rattle.taxi_base.specs.declared.rows.Step.{Step}
use Rattle.taxi_base.specs.declared.answers.Request.{Request}
use Rattle.taxi_base.specs.Airport.{Airport}
use Rattle.taxi_base.specs.Walks.{begin_of, end_of}
use Rattle.taxi_base.specs.State.{State, no_holder, without}
use Rattle.taxi_text.specs.declared.command.Command.{Command}
use Rattle.taxi_text.specs.Commands.{command_of}
use Rattle.replies.specs.Refusals.{is_departure}
use Rattle.replies.specs.Routed.{second_of}
use Rattle.reply_reasons.specs.declared.asking.Asking.{Asking}
use Rattle.reply_reasons.specs.declared.reason.Reason.{Reason}
use Rattle.reply_reasons.specs.declared.reason.Reason.TheVariants as reason
use Rattle.reply_reasons.specs.Asking.{asking_due, asking_freed}
use Rattle.reply_reasons.specs.Routes.{IsFoundAmong, IsBestSecond, second_found, is_better}
use Rattle.reply_reasons.specs.Waits.{route_reasons}
use Rattle.reply_reasons.specs.Taken.{taking_due, AreTakenReasons}

-- ---- one holder left out

-- the names of the holders: the flights by rising names, and then the work parties
abbrev pub holder_names : State → List (List ℕ)
holder_names state = map (λ f. f.name) state.flights ++ map (λ p. p.name) state.parties

-- What is told of one holder: the best second with that one left out, where it is better than the answer; and nothing where no best second
-- without it is better.
abbrev pub IsWithout : Airport → Asking → State → Option ℕ → List ℕ → List Reason → Type 0
IsWithout airport asking others answer name told =
    ((second : ℕ) × IsBestSecond airport asking (without name others) (Some second) × IsTrue (is_better asking.request second answer) × (told ≡ reason.Without name second ∷ []))
    ⊎ ((told ≡ []) × ((second : ℕ) → IsBestSecond airport asking (without name others) (Some second) → IsFalse (is_better asking.request second answer)))

-- a line that tells of a better second than the answer without some holder, which is no better than with no holder at all
abbrev pub IsGainWithin : Request → Option ℕ → Option ℕ → Reason → Type 0
IsGainWithin asked answer alone (reason.Without holder second) = IsTrue (is_better asked second answer) × IsFalse (is_better asked second alone)
IsGainWithin asked answer alone _ = ⊥

-- of each of some holders in order
abbrev pub AreWithout : Airport → Asking → State → Option ℕ → List (List ℕ) → List Reason → Type 0
AreWithout airport asking others answer [] reasons = reasons ≡ []
AreWithout airport asking others answer (name ∷ names) reasons =
    (told : List Reason) × (later : List Reason) × IsWithout airport asking others answer name told × (reasons ≡ told ++ later)
    × AreWithout airport asking others answer names later

-- ---- with no limit on when to begin, or on how early to end

abbrev pub span_reason : Request → List Step → Reason
span_reason asked steps = if is_departure asked then reason.Sooner (begin_of steps) (end_of steps) else reason.Later (begin_of steps) (end_of steps)

abbrev pub freed_reasons : Request → Option ℕ → Option (List Step) → List Reason
freed_reasons asked answer None = []
freed_reasons asked answer (Some steps) = if is_better asked (second_of asked steps) answer then span_reason asked steps ∷ [] else []

-- ---- the whole

-- What explains the reply to what a line asks for a flight, among the other holders: what is found for it, with no other holder, without each
-- of them where that is better, with no limit where that is better, and where the route waits.
pub record IsRouteExplained (airport : Airport) (asking : Asking) (others : State) (reasons : List Reason) : Type 0 where
  pub answer : Option (List Step)
  pub found : IsFoundAmong airport asking others answer
  pub alone : Option ℕ
  pub best_alone : IsBestSecond airport asking no_holder alone
  pub others_left_out : List Reason
  pub best_without : AreWithout airport asking others (second_found asking.request answer) (holder_names others) others_left_out
  pub free : Option (List Step)
  pub found_free : IsFoundAmong airport (asking_freed airport asking) others free
  pub whole : reasons ≡ (reason.Answer (second_found asking.request answer) ∷ reason.Alone alone ∷ [])
      ++ (others_left_out ++ (freed_reasons asking.request (second_found asking.request answer) free
      ++ option_map_or (route_reasons airport asking.class others asking.request) answer []))

abbrev pub IsRefusalExplained : Airport → State → Command → List Reason → Type 0
IsRefusalExplained airport state command reasons = MatchOption (taking_due airport state command) (reasons ≡ reason.Nothing ∷ []) (λ taking. AreTakenReasons airport state taking reasons)

abbrev pub IsCommandExplained : Airport → State → Command → List Reason → Type 0
IsCommandExplained airport state command reasons =
    MatchOption (asking_due airport state command) (IsRefusalExplained airport state command reasons) (λ asking. IsRouteExplained airport asking (without asking.name state) reasons)

-- These lines explain the reply to a line that is given in a state. There is nothing to explain but of a command that is to be routed, and of
-- a filed route or a work party that a holder stands in the way of.
abbrev pub IsExplained : Airport → State → List ℕ → List Reason → Type 0
IsExplained airport state line reasons = MatchOption (command_of line) (reasons ≡ reason.Nothing ∷ []) (λ command. IsCommandExplained airport state command reasons)

-- ---- no public clause cites these

-- what is told of a holder by the second that is found with that one left out
abbrev pub without_reason : Request → Option ℕ → List ℕ → Option ℕ → List Reason
without_reason asked answer name None = []
without_reason asked answer name (Some second) = if is_better asked second answer then reason.Without name second ∷ [] else []
