use Rattle.std.proofs.Common.{◌≡◌, All, length}
use Rattle.std.specs.Prelude.{Result}
use Rattle.std.specs.Vec.Iter.{into_iter_items, into_iter_len}
use Rattle.replies.specs.Repairs.{IsDroppedAsDue}
use Rattle.replies.specs.Turns.{after_turns}
use Rattle.checked_state.specs.Flights.{state_of}
use Rattle.transcripts.specs.declared.refused.CheckRefused.{CheckRefused}
use Rattle.certificate_check.specs.Desk.{IsTidy}
use Rattle.certificate_check.specs.Entries.{AreChecked}
use Rattle.certificate_check.specs.Late.{delay_in, turns_late}
use Rattle.certificate_check.proofs.late_turns.check_turns.Given as goal

abbrev pub invariant-loop-name : goal.invariant-loop-name
invariant-loop-name l = record {
  tidy : IsTidy l.airport l.held l.known;
  due : All (IsDroppedAsDue (state_of l.before)) (into_iter_items l.name-iterator);
  parties : (state_of l.held).parties ≡ (state_of l.initial.held).parties;
  checked : (r : Result Unit CheckRefused) → AreChecked (turns_late l.airport (state_of l.before) (delay_in l.late) (state_of l.held) (into_iter_items l.name-iterator)) r
      → AreChecked (turns_late l.airport (state_of l.before) (delay_in l.late) (state_of l.initial.held) (into_iter_items l.initial.name-iterator)) r;
  after : after_turns (state_of l.held) (turns_late l.airport (state_of l.before) (delay_in l.late) (state_of l.held) (into_iter_items l.name-iterator))
      ≡ after_turns (state_of l.initial.held) (turns_late l.airport (state_of l.before) (delay_in l.late) (state_of l.initial.held) (into_iter_items l.initial.name-iterator));
  many : into_iter_len l.name-iterator ≡ length (into_iter_items l.name-iterator);
}
