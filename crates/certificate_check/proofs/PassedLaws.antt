-- What a line is answered, from how the block is judged as the answer to its command.
use Rattle.std.proofs.Common.{◌≡◌, ℕ, List, Some, None, inl, inr, refl, sym, subst}
use Rattle.std.specs.Prelude.{Result, Ok, Err}
use Rattle.taxi_base.specs.declared.answers.Refusal.TheVariants as refusal
use Rattle.taxi_base.specs.Airport.{Airport, IsWellFormed}
use Rattle.taxi_base.specs.State.{State, IsSound}
use Rattle.taxi_text.specs.declared.command.Command.{Command}
use Rattle.taxi_text.specs.Commands.{command_of}
use Rattle.replies.specs.declared.block.Block.{Block}
use Rattle.replies.specs.declared.block.Block.TheVariants.{Refused, Filed, Cancelled}
use Rattle.replies.specs.declared.rule.Rule.{Rule}
use Rattle.replies.specs.declared.rule.Rule.TheVariants as rule
use Rattle.replies.specs.Replies.{IsDue, as_due, no_memory, NeedsNoMemory}
use Rattle.replies.specs.Passes.{KeepsReply, Keeps, IsAfter, IsPassed, IsFirstBroken}
use Rattle.replies.proofs.PassLaws.{reply-passes}
use Rattle.replies.proofs.BestLaws.{passed-best, passed-sound}
use Rattle.transcripts.specs.declared.refused.CheckRefused.{CheckRefused}
use Rattle.transcripts.specs.declared.refused.CheckRefused.TheVariants as check
use Rattle.transcripts.specs.Turns.{ChecksIn}
use Rattle.certificate_check.specs.Judged.{KeepsFor, BreaksFor, IsAfterFor, IsJudged}
use Rattle.certificate_check.specs.Checker.{IsBadLineChecked}

module _ (airport : Airport) (state : State) (line : List ℕ) (block : Block) (command : Command) (read : command_of line ≡ Some command) where
  kept : (r : Rule) → KeepsFor airport state command block r → Keeps airport state line block r
  kept rule.Reply h = inr (rw read h)
  kept rule.Walk h = rw read h
  kept rule.Rows h = rw read h
  kept rule.Start h = rw read h
  kept rule.Step h = rw read h
  kept rule.Target h = rw read h

  -- `refused memory` does not stand for the reply
  abbrev IsNoMemory : Type 0
  IsNoMemory = (NeedsNoMemory (Some command) → ⊥) × (block ≡ Refused refusal.Memory) → ⊥

  pub first-broken : IsNoMemory → (r : Rule) → BreaksFor airport state command block r → IsFirstBroken airport state line block r
  first-broken memory rule.Reply fails = go where
    go : KeepsReply airport state line block → ⊥
    go (inl stands) = memory ((λ h. stands.0 (rw read h)), stands.1)
    go (inr form) = fails (rw read at form)
  first-broken memory rule.Walk breaks = (inr (rw read breaks.0), rw read breaks.1)
  first-broken memory rule.Rows breaks = (inr (rw read breaks.0), rw read breaks.1)
  first-broken memory rule.Start breaks = (inr (rw read breaks.0), rw read breaks.1)
  first-broken memory rule.Step breaks = (inr (rw read breaks.0), rw read breaks.1)
  first-broken memory rule.Target breaks = (inr (rw read breaks.0), rw read breaks.1)

  left : (after : State) (b : Block) → IsAfterFor airport state command b after → IsAfter airport state line b after
  unfolding IsDue
  left after (Filed name start end) is = rw read is
  left after (Cancelled name) is = rw read is
  left after b is = rw read is

  pub passed : ((r : Rule) → KeepsFor airport state command block r) → (after : State) → IsAfterFor airport state command block after → IsPassed airport state line block after
  passed all after is = record { keeps = λ r. kept r (all r); after_it = left after block is }

-- ---- what passes

module _ (airport : Airport) (state : State) (well : IsWellFormed airport) (sound : IsSound airport state) (line : List ℕ) (block : Block) where
  pub passes : (after : State) → IsPassed airport state line block after → ChecksIn airport line block state (Ok tt) after
  passes after is = (is, passed-best airport state well sound line block after is, passed-sound airport state well sound line block after is)

  pub memory-passes : (NeedsNoMemory (command_of line) → ⊥) → block ≡ Refused refusal.Memory → ChecksIn airport line block state (Ok tt) state
  memory-passes other is =
      subst (λ b. ChecksIn airport line b state (Ok tt) state) (sym is)
      (let answered = reply-passes airport state line (Refused refusal.Memory) state well sound (no_memory other) in
      (answered, passed-best airport state well sound line (Refused refusal.Memory) state answered, sound))

  pub bad-passes : command_of line ≡ None → block ≡ Refused refusal.BadLine → ChecksIn airport line block state (Ok tt) state
  unfolding IsDue
  bad-passes none is =
      passes state (reply-passes airport state line block state well sound (as_due block state (rw none (is, refl))))

  pub bad-broken : command_of line ≡ None → (block ≡ Refused refusal.BadLine → ⊥) → (block ≡ Refused refusal.Memory → ⊥) → ChecksIn airport line block state (Err (check.Wrong rule.Reply)) state
  bad-broken none bad memory = (go, refl) where
    go : KeepsReply airport state line block → ⊥
    go (inl stands) = memory stands.1
    go (inr form) = bad (rw none at form)

  pub bad-checks : command_of line ≡ None → (r : Result Unit CheckRefused) → IsBadLineChecked block r → ChecksIn airport line block state r state
  bad-checks none (Ok done) (inl bad) = bad-passes none bad
  bad-checks none (Ok done) (inr memory) = memory-passes (λ h. rw none at h) memory
  bad-checks none (Err (check.Wrong r)) checked = subst (λ r. ChecksIn airport line block state (Err (check.Wrong r)) state) (sym checked.0) (bad-broken none checked.1 checked.2)
  bad-checks none (Err check.Memory) checked = absurd checked

  -- a block that is judged
  module _ (command : Command) (read : command_of line ≡ Some command) (memory : (NeedsNoMemory (Some command) → ⊥) × (block ≡ Refused refusal.Memory) → ⊥) where
    pub judged-checks : (r : Result Unit CheckRefused) (after : State) → IsJudged airport command block state r after → ChecksIn airport line block state r after
    judged-checks (Ok done) after judged = passes after (passed airport state line block command read judged.0 after judged.1)
    judged-checks (Err (check.Wrong broken)) after judged = (first-broken airport state line block command read memory broken judged.0, judged.1)
    judged-checks (Err check.Memory) after judged = judged

  -- whatever is answered, the state is sound then
  pub checks-sound : (r : Result Unit CheckRefused) (after : State) → ChecksIn airport line block state r after → IsSound airport after
  checks-sound (Ok done) after checks = checks.2
  checks-sound (Err (check.Wrong broken)) after checks = subst (IsSound airport) (sym checks.1) sound
  checks-sound (Err check.Memory) after checks = subst (IsSound airport) (sym checks) sound
