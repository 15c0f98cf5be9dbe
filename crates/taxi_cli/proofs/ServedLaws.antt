-- What is kept of flights that had begun where one is late, and that a batch is served in an order no dearer than the given one.
use Rattle.std.proofs.Common.{◌≡◌, ℕ, List, Option, Some, None, refl, sym, subst}
use Rattle.std.specs.Prelude.{Contains, MatchOption}
use Rattle.taxi_base.specs.declared.rows.Step.{Step}
use Rattle.taxi_base.specs.declared.answers.Flight.{Flight}
use Rattle.taxi_base.specs.declared.answers.Refusal.{Refusal}
use Rattle.taxi_base.specs.declared.answers.Refusal.TheVariants as refusal
use Rattle.taxi_base.specs.Airport.{Airport, IsWellFormed}
use Rattle.taxi_base.specs.Late.{KeepsEntered}
use Rattle.taxi_base.specs.State.{State, step_begun, IsSound}
use Rattle.taxi_text.specs.declared.command.BatchRequest.{BatchRequest}
use Rattle.taxi_text.specs.declared.command.Command.{Command}
use Rattle.taxi_text.specs.declared.command.Command.TheVariants as command
use Rattle.taxi_text.specs.Commands.{command_of}
use Rattle.replies.specs.declared.block.Block.{Block}
use Rattle.replies.specs.declared.block.Block.TheVariants as block
use Rattle.replies.specs.Refusals.{first_refusal}
use Rattle.replies.specs.CarriedOut.{IsOf, IsCarriedOut}
use Rattle.replies.specs.Replies.{refused, IsDueTo, IsDue, IsReply, as_due, no_memory}
use Rattle.replies.proofs.LateKept.{told-entered}
use Rattle.replies.proofs.OrderLaws.{sequenced-no_dearer}
use Rattle.taxi_cli.specs.Headline.{KeepEntered, IsServedNoDearer}

-- a command is refused, which leaves the state, or carried out
due-cases : (airport : Airport) (state : State) (line : List ℕ) (c : Command) (b : Block) (after : State) (Then : Type 0) → command_of line ≡ Some c → IsDue airport state line b after
    → ((why : Refusal) → first_refusal airport state c ≡ Some why → after ≡ state → Then) → (first_refusal airport state c ≡ None → IsCarriedOut airport state c b after → Then) → Then
unfolding IsDue
due-cases airport state line c b after Then read due on_refusal on_none = go (first_refusal airport state c) refl (rw read at due) where
  go : (o : Option Refusal) → first_refusal airport state c ≡ o → MatchOption o (IsCarriedOut airport state c b after) (λ why. IsOf (refused state why) b after) → Then
  go None e done = on_none e done
  go (Some why) e of = on_refusal why e of.1

-- ---- a late flight

same-entered : (state after : State) (time : ℕ) → after ≡ state → KeepEntered state time after
same-entered state after time same = λ flight there begun e. (flight, subst (λ (s : State). Contains s.flights flight) (sym same) there, refl, refl)

pub reply-entered : (airport : Airport) (state : State) (line : List ℕ) (b : Block) (after : State) → IsSound airport state → IsReply airport state line b after
    → (name : List ℕ) (time until : ℕ) → command_of line ≡ Some (command.Late name time until) → KeepEntered state time after
reply-entered airport state line _ _ sound (as_due b after due) name time until read =
    due-cases airport state line (command.Late name time until) b after (KeepEntered state time after) read due
    (λ why e same. same-entered state after time same)
    (λ none done. λ flight there begun e. told-entered airport state sound name time until b after none done flight begun there e)
reply-entered airport state line _ _ sound (no_memory other) name time until read = same-entered state state time refl

-- ---- a batch

pub reply-no_dearer : (airport : Airport) (state : State) (line : List ℕ) (b : Block) (after : State) → IsWellFormed airport → IsReply airport state line b after
    → (requests : List BatchRequest) → command_of line ≡ Some (command.Batch requests) → first_refusal airport state (command.Batch requests) ≡ None → (b ≡ block.Refused refusal.Memory → ⊥)
    → IsServedNoDearer airport state requests b after
reply-no_dearer airport state line _ _ well (as_due b after due) requests read none memory =
    due-cases airport state line (command.Batch requests) b after (IsServedNoDearer airport state requests b after) read due
    (λ why e same. absurd (cc (none, e)))
    (λ none done. record {
      wishes = done.wishes;
      known = done.known;
      total = done.total;
      entries = done.entries;
      block_is = done.block_is;
      no_dearer = sequenced-no_dearer airport state done.wishes done.total done.entries after well done.sequenced;
    })
reply-no_dearer airport state line _ _ well (no_memory other) requests read none memory = absurd (memory refl)
