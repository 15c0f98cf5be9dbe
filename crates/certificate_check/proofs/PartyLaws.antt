-- A work party that is not refused can be put in force, and one in force taken out.
use Rattle.std.proofs.Common.{◌≡◌, ℕ, ◌<◌, List, length, Option, Some, None, is_some, IsFalse, refl, sym, subst}
use Rattle.std.specs.Prelude.{Ok, MatchOption, bytes_eq}
use Rattle.std.proofs.lemmas.Bool.{or_parts}
use Rattle.std.proofs.lemmas.List.Elements.{All-contains}
use Rattle.taxi_base.specs.declared.numbers.Segment.{Segment}
use Rattle.taxi_base.specs.declared.answers.Party.{Party}
use Rattle.taxi_base.specs.Airport.{Airport}
use Rattle.taxi_base.specs.State.{State, party_named, parties_without, with_party, without, party_hold, IsFeasibleHold, IsSound}
use Rattle.taxi_base.proofs.FaultLaws.{hold_fault-None}
use Rattle.taxi_base.proofs.StateLaws.{IsSound-with_party, IsSound-without}
use Rattle.taxi_text.specs.declared.command.Shut.{Shut}
use Rattle.taxi_text.specs.declared.command.Command.TheVariants as command
use Rattle.replies.specs.declared.block.Block.{Block}
use Rattle.replies.specs.declared.block.Block.TheVariants.{Filed, Cancelled}
use Rattle.replies.specs.Asked.{party_of}
use Rattle.replies.specs.CarriedOut.{IsOf, IsShut}
use Rattle.replies.specs.Replies.{refused, IsDueTo}
use Rattle.replies.proofs.FlightLaws.{find-there, without-party}
use Rattle.replies.proofs.RefusalLaws.{HasRoom, none-holds, work-has_room, work-does_not_fail}
use Rattle.replies.proofs.WindowsTold.{segment_named-exists}
use Rattle.certificate_check.specs.Parties.{MayShut}
use Rattle.certificate_check.specs.Judged.{IsAfterFor, IsJudged}
use Rattle.certificate_check.proofs.JudgedLaws.{done-judged}

-- ---- a party that is put in force

module _ (airport : Airport) (state : State) (asked : Shut) (segment : Segment) (may : MayShut airport state asked segment) where
  abbrev party : Party
  party = party_of asked segment

  pub may-on : segment.0 < length airport.segments
  may-on = segment_named-exists airport asked.segment segment may.segment_known

  hold : IsFeasibleHold airport state (party_hold party)
  hold =
      (hold_fault-None airport state (party_hold party) may-on).0
      (none-holds airport state asked segment may.segment_known (work-does_not_fail airport state asked may.unrefused))

  room : HasRoom state asked.name
  room = work-has_room airport state asked may.unrefused

  pub may-absent : party_named asked.name state.parties ≡ None
  may-absent = go (party_named asked.name state.parties) (or_parts _ _ room.absent).0 where
    go : (o : Option Party) → IsFalse (is_some o) → o ≡ None
    go None none = refl
    go (Some p) none = absurd (cc none)

  pub may-sound : IsSound airport state → IsSound airport (with_party party state)
  may-sound sound = IsSound-with_party airport party state sound room.room room.absent hold

  done : (block : Block) (after : State) → block ≡ Filed asked.name asked.from asked.until → after ≡ with_party party state → IsShut airport state asked block after
  done block after is left = record { segment = segment; segment_known = may.segment_known; reply = (is, left) }

  -- a block that tells it keeps every rule
  pub may-judged : (block : Block) (after : State) → block ≡ Filed asked.name asked.from asked.until → after ≡ with_party party state
      → IsJudged airport (command.Work asked) block state (Ok tt) after
  may-judged block after is left =
      let due : IsDueTo airport state (command.Work asked) (Filed asked.name asked.from asked.until) after =
      subst (λ o. MatchOption o (IsShut airport state asked (Filed asked.name asked.from asked.until) after) (λ why. IsOf (refused state why) (Filed asked.name asked.from asked.until) after))
      (sym may.unrefused) (done (Filed asked.name asked.from asked.until) after refl left) in
      done-judged airport state (command.Work asked) block may.unrefused tt after (done block after is left)
      (subst (λ b. IsAfterFor airport state (command.Work asked) b after) (sym is) due)

module _ (airport : Airport) (state : State) (sound : IsSound airport state) (name : List ℕ) (party : Party) (found : party_named name state.parties ≡ Some party) where
  abbrev pub opened : State
  opened = record state { parties = parties_without name state.parties }

  pub party-on : party.segment.0 < length airport.segments
  party-on =
      (All-contains (λ p. IsFeasibleHold airport (without p.name state) (party_hold p)) state.parties party sound.feasible.shut
      (find-there (λ (p : Party). bytes_eq p.name name) state.parties party found)).on_segment

  pub opened-sound : IsSound airport opened
  opened-sound = subst (IsSound airport) (sym (without-party airport name state sound.feasible (rw found refl))) (IsSound-without airport name state sound)

  pub opened-judged : (block : Block) (after : State) → block ≡ Cancelled name → after ≡ opened → IsJudged airport (command.WorkDone name) block state (Ok tt) after
  opened-judged block after is left =
      done-judged airport state (command.WorkDone name) block (rw found refl) tt after (is, left)
      (subst (λ b. IsAfterFor airport state (command.WorkDone name) b after) (sym is) (rw found (refl, left)))
