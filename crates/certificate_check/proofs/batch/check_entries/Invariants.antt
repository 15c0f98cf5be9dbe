use Rattle.std.proofs.Common.{◌≡◌, length}
use Rattle.std.specs.Prelude.{Result}
use Rattle.std.specs.Vec.Iter.{into_iter_items, into_iter_len}
use Rattle.replies.specs.Turns.{after_turns}
use Rattle.checked_state.specs.Flights.{state_of}
use Rattle.transcripts.specs.declared.refused.CheckRefused.{CheckRefused}
use Rattle.certificate_check.specs.Desk.{IsReady}
use Rattle.certificate_check.specs.Entries.{AreChecked}
use Rattle.certificate_check.specs.Batch.{CanBeChecked, turns_among, without_all}
use Rattle.certificate_check.proofs.batch.check_entries.Given as goal

abbrev pub invariant-loop-name : goal.invariant-loop-name
invariant-loop-name l = record {
  ready : IsReady l.airport l.held l.known;
  rest : CanBeChecked l.wishes (state_of l.held) (into_iter_items l.name-iterator);
  checked : (r : Result Unit CheckRefused) → AreChecked (turns_among l.airport (state_of l.held) l.wishes (into_iter_items l.name-iterator)) r
      → AreChecked (turns_among l.airport (state_of l.initial.held) l.wishes (into_iter_items l.initial.name-iterator)) r;
  after : after_turns (state_of l.held) (turns_among l.airport (state_of l.held) l.wishes (into_iter_items l.name-iterator))
      ≡ after_turns (state_of l.initial.held) (turns_among l.airport (state_of l.initial.held) l.wishes (into_iter_items l.initial.name-iterator));
  others : without_all l.wishes (state_of l.held) ≡ without_all l.wishes (state_of l.initial.held);
  many : into_iter_len l.name-iterator ≡ length (into_iter_items l.name-iterator);
}
