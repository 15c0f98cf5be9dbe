-- How the block of a late flight is judged, from what was found out about its form and its entries.
use Rattle.std.proofs.Common.{◌≡◌, ◌∙◌, ℕ, true, false, List, [], ◌∷◌, All, Some, None, refl, sym, ap, subst}
use Rattle.std.specs.Prelude.{flat_map, option_and_then, Result, Ok, Err, OnOk, is_err}
use Rattle.taxi_base.specs.Airport.{Airport}
use Rattle.taxi_base.specs.State.{State}
use Rattle.taxi_base.specs.Late.{Delay, base_state}
use Rattle.taxi_text.specs.declared.command.Command.{Command}
use Rattle.taxi_text.specs.declared.command.Command.TheVariants as command
use Rattle.replies.specs.declared.entries.Entry.{Entry}
use Rattle.replies.specs.declared.entries.Entry.TheVariants as entry
use Rattle.replies.specs.declared.block.Block.{Block}
use Rattle.replies.specs.declared.block.Block.TheVariants.{Route, NoRoute, Late}
use Rattle.replies.specs.declared.rule.Rule.{Rule}
use Rattle.replies.specs.declared.rule.Rule.TheVariants as rule
use Rattle.replies.specs.Refusals.{first_refusal}
use Rattle.replies.specs.Repairs.{delay_of, sought_at_turn, TellsRepair}
use Rattle.replies.specs.Turns.{Turn, sought_for, tellings_of, in_turns, begins_for, turns_for, after_turns}
use Rattle.replies.specs.Passes.{KeepsTurn, BreaksFirst}
use Rattle.transcripts.specs.declared.refused.CheckRefused.{CheckRefused}
use Rattle.transcripts.specs.declared.refused.CheckRefused.TheVariants.{Wrong, Memory}
use Rattle.certificate_check.specs.Judged.{IsDueForm, KeepsFor, BreaksFor, IsJudged}
use Rattle.certificate_check.specs.Entries.{tellings_by, AreChecked}
use Rattle.certificate_check.specs.Late.{TellInTurn, turns_late, IsRepairJudged}
use Rattle.certificate_check.proofs.EntryTurns.{form-unbroken}

module _ (airport : Airport) (state : State) (name : List ℕ) (time until : ℕ) (none : first_refusal airport state (command.Late name time until) ≡ None) where
  abbrev late : Command
  late = command.Late name time until

  -- a block that is not of the form that is due
  pub form-judged : (block : Block) → (TellsRepair airport state name time until block → ⊥) → IsJudged airport late block state (Err (Wrong rule.Reply)) state
  form-judged block other = ((λ form. other (rw none at form)), refl)

  module _ (delay : Delay) (known : delay_of state name time until ≡ Some delay) (entries : List (List ℕ × Entry)) where
    abbrev base : State
    base = base_state airport state delay

    abbrev told : Block
    told = Late name entries

    abbrev turns : List Turn
    turns = turns_late airport state delay base entries

    sought-same : (n : List ℕ) → sought_for airport state late n ≡ sought_at_turn airport delay state n
    sought-same n = λ i now. option_and_then (λ d. sought_at_turn airport d state n now) (known i)

    tellings-same : (es : List (List ℕ × Entry)) → flat_map (tellings_of airport state late) es ≡ flat_map (tellings_by (sought_at_turn airport delay state)) es
    tellings-same [] = refl
    tellings-same ((n, entry.Route second steps labels) ∷ es) = λ i. record { sought_in = sought-same n i; told = Route n second steps labels } ∷ tellings-same es i
    tellings-same ((n, entry.NoRoute labels) ∷ es) = λ i. record { sought_in = sought-same n i; told = NoRoute labels } ∷ tellings-same es i
    tellings-same ((n, entry.Dropped) ∷ es) = tellings-same es

    begins-same : begins_for airport state late told ≡ base
    begins-same = rw known refl

    turns-same : turns_for airport state late told ≡ turns
    turns-same = ap (λ (s : State). in_turns s (flat_map (tellings_of airport state late) entries)) begins-same ∙ ap (in_turns base) (tellings-same entries)

    module _ (tell : TellInTurn airport state delay entries) where
      due : IsDueForm airport state late told
      due = rw none (record {
        delay = delay;
        known = known;
        meetings = tell.meetings;
        in_the_way = tell.in_the_way;
        entries = entries;
        block_is = refl;
        in_turn = tell.in_turn;
        dropped = tell.dropped;
      })

      all-kept : ((r : Rule) → All (λ turn. KeepsTurn turn r) turns) → (r : Rule) → All (λ turn. KeepsTurn turn r) (turns_for airport state late told)
      all-kept kept r = subst (All (λ turn. KeepsTurn turn r)) (sym turns-same) (kept r)

      keeps : ((r : Rule) → All (λ turn. KeepsTurn turn r) turns) → (r : Rule) → KeepsFor airport state late told r
      keeps kept rule.Reply = due
      keeps kept rule.Walk = all-kept kept rule.Walk
      keeps kept rule.Rows = all-kept kept rule.Rows
      keeps kept rule.Start = all-kept kept rule.Start
      keeps kept rule.Step = all-kept kept rule.Step
      keeps kept rule.Target = all-kept kept rule.Target

      broken : (r : Rule) → BreaksFirst turns r → BreaksFor airport state late told r
      broken r breaks = go r breaks (subst (λ ts. BreaksFirst ts r) (sym turns-same) breaks) where
        go : (r : Rule) → BreaksFirst turns r → BreaksFirst (turns_for airport state late told) r → BreaksFor airport state late told r
        go rule.Reply breaks first = absurd (form-unbroken turns breaks)
        go rule.Walk breaks first = (due, first)
        go rule.Rows breaks first = (due, first)
        go rule.Start breaks first = (due, first)
        go rule.Step breaks first = (due, first)
        go rule.Target breaks first = (due, first)

      passed-judged : (after : State) → AreChecked turns (Ok tt) → after ≡ after_turns base turns → IsJudged airport late told state (Ok tt) after
      passed-judged after checked left = (
        keeps checked,
        left ∙ (λ i. after_turns (sym begins-same i) (sym turns-same i)),
      )

      pub turns-judged : (after : State) (result : Result Unit CheckRefused) → AreChecked turns result → OnOk result (after ≡ after_turns base turns) → IsRepairJudged airport state late told result after
      turns-judged after (Ok done) checked left = passed-judged after checked left
      turns-judged after (Err (Wrong r)) checked left = (broken r checked, refl)
      turns-judged after (Err Memory) checked left = refl

-- where a repair is not passed the state before it is put back, and else it is the state that it leaves
module _ (airport : Airport) (before : State) (asked : Command) (block : Block) (after : State) where
  pub put-back : (result : Result Unit CheckRefused) → is_err result ≡ true → IsRepairJudged airport before asked block result after → IsJudged airport asked block before result before
  put-back (Ok done) err judged = absurd (cc err)
  put-back (Err why) err judged = judged

  pub gone-through : (result : Result Unit CheckRefused) → is_err result ≡ false → IsRepairJudged airport before asked block result after → IsJudged airport asked block before result after
  gone-through (Ok done) none judged = judged
  gone-through (Err why) none judged = absurd (cc none)

-- what a call did that is done
pub still-done : {A E : Type 0} (r : Result A E) (P : Type 0) → is_err r ≡ false → OnOk r P → P
still-done (Ok x) P none did = did
still-done (Err e) P none did = absurd (cc none)
