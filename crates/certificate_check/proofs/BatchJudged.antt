-- How the block of a batch is judged, from what was found out about its form and its entries.
use Rattle.std.proofs.Common.{◌≡◌, ◌∙◌, ℕ, List, All, Some, None, refl, sym, ap, subst}
use Rattle.std.specs.Prelude.{Result, Ok, Err, OnOk, is_err, true}
use Rattle.taxi_base.specs.Airport.{Airport}
use Rattle.taxi_base.specs.State.{State}
use Rattle.taxi_text.specs.declared.command.BatchRequest.{BatchRequest}
use Rattle.taxi_text.specs.declared.command.Command.TheVariants as command
use Rattle.replies.specs.declared.entries.Entry.{Entry}
use Rattle.replies.specs.declared.wish.Wish.{Wish}
use Rattle.replies.specs.declared.block.Block.{Block}
use Rattle.replies.specs.declared.block.Block.TheVariants.{Batch}
use Rattle.replies.specs.declared.rule.Rule.{Rule}
use Rattle.replies.specs.declared.rule.Rule.TheVariants as rule
use Rattle.replies.specs.Refusals.{first_refusal}
use Rattle.replies.specs.Batches.{wishes_of}
use Rattle.replies.specs.Turns.{Turn, turns_for, after_turns}
use Rattle.replies.specs.Passes.{KeepsTurn, BreaksFirst}
use Rattle.transcripts.specs.declared.refused.CheckRefused.{CheckRefused}
use Rattle.transcripts.specs.declared.refused.CheckRefused.TheVariants.{Wrong, Memory}
use Rattle.certificate_check.specs.Judged.{IsDueForm, KeepsFor, BreaksFor, IsJudged}
use Rattle.certificate_check.specs.Entries.{AreChecked}
use Rattle.certificate_check.specs.Batch.{TellsWishes, turns_among}
use Rattle.certificate_check.proofs.EntryTurns.{form-unbroken}
use Rattle.certificate_check.proofs.BatchTurns.{turns-same}

module _ (airport : Airport) (state : State) (requests : List BatchRequest) (wishes : List Wish) (none : first_refusal airport state (command.Batch requests) ≡ None)
    (known : wishes_of airport requests ≡ Some wishes) where
  module _ (total : ℕ) (entries : List (List ℕ × Entry)) where
    abbrev told : Block
    told = Batch total entries

    abbrev turns : List Turn
    turns = turns_among airport state wishes entries

    module _ (tells : TellsWishes wishes total entries) where
      due : IsDueForm airport state (command.Batch requests) told
      due = rw none (wishes, known, tells.0, tells.1, tells.2)

      all-kept : ((r : Rule) → All (λ turn. KeepsTurn turn r) turns) → (r : Rule) → All (λ turn. KeepsTurn turn r) (turns_for airport state (command.Batch requests) told)
      all-kept kept r = subst (All (λ turn. KeepsTurn turn r)) (sym (turns-same airport wishes requests known state total entries)) (kept r)

      keeps : ((r : Rule) → All (λ turn. KeepsTurn turn r) turns) → (r : Rule) → KeepsFor airport state (command.Batch requests) told r
      keeps kept rule.Reply = due
      keeps kept rule.Walk = all-kept kept rule.Walk
      keeps kept rule.Rows = all-kept kept rule.Rows
      keeps kept rule.Start = all-kept kept rule.Start
      keeps kept rule.Step = all-kept kept rule.Step
      keeps kept rule.Target = all-kept kept rule.Target

      broken : (r : Rule) → BreaksFirst turns r → BreaksFor airport state (command.Batch requests) told r
      broken r breaks = go r breaks (subst (λ ts. BreaksFirst ts r) (sym (turns-same airport wishes requests known state total entries)) breaks) where
        go : (r : Rule) → BreaksFirst turns r → BreaksFirst (turns_for airport state (command.Batch requests) told) r → BreaksFor airport state (command.Batch requests) told r
        go rule.Reply breaks first = absurd (form-unbroken turns breaks)
        go rule.Walk breaks first = (due, first)
        go rule.Rows breaks first = (due, first)
        go rule.Start breaks first = (due, first)
        go rule.Step breaks first = (due, first)
        go rule.Target breaks first = (due, first)

      -- entries that were checked, with the state afterwards, which is as before where one does not pass
      pub entries-judged : (r : Result Unit CheckRefused) (after : State) → AreChecked turns r → OnOk r (after ≡ after_turns state turns)
          → ((why : CheckRefused) → r ≡ Err why → after ≡ state) → IsJudged airport (command.Batch requests) told state r after
      entries-judged (Ok done) after checked left back =
          (keeps checked, left ∙ ap (after_turns state) (sym (turns-same airport wishes requests known state total entries)))
      entries-judged (Err (Wrong r)) after checked left back = (broken r checked, back (Wrong r) refl)
      entries-judged (Err Memory) after checked left back = back Memory refl

-- nothing is owed of an error
pub none-done : {A E : Type 0} (r : Result A E) (P : Type 0) → is_err r ≡ true → OnOk r P
none-done (Ok x) P err = absurd (cc err)
none-done (Err e) P err = tt
