-- What a call promises where memory runs out before its words are known, and where what they ask for is carried out.
use Rattle.std.proofs.Common.{◌≡◌, ◌≤◌, inl, inr, ℕ, List, Option, Some, None, refl, subst}
use Rattle.taxi_io.proofs.Pieces.{grew-nothing}
use Rattle.program_files.specs.declared.status.Status.{Status}
use Rattle.program_files.specs.declared.status.Status.TheVariants.{Memory}
use Rattle.program_files.specs.Call.{Call}
use Rattle.command_run.specs.HowFar.{Told}
use Rattle.command_run.specs.Told.{AreTold, IsPromptTold}
use Rattle.command_run.proofs.PaceLaws.{memory-pace}
use Rattle.program_words.specs.Verb.{FileNames}
use Rattle.tool_words.specs.Verb.{Verb, OfAirport, OfRun, Explain, Json}
use Rattle.taxi_tools.specs.Exit.{KeepsPromises}
use Rattle.taxi_tools.specs.Objects.{object_of}
use Rattle.taxi_tools.specs.Order.{IsInOrder}
use Rattle.taxi_tools.specs.Pace.{KeepsPace}
use Rattle.taxi_tools.specs.CarriedOut.{IsCarriedOut}
use Rattle.taxi_tools.proofs.EndingLaws.{nothing-handed}
use Rattle.taxi_tools.proofs.DueLaws.{due-is}

pub no-words : (call : Call) (asked : Option Verb) (left : FileNames → Told) (tried : List (List ℕ)) (Unread : Type 0) → Unread → call.taken.1 ≡ call.taken.0
    → call.reads.0 ≤ call.reads.1 → call.writes.0 ≤ call.writes.1 → KeepsPromises call asked left (tried, tried) Unread Memory
no-words call asked left tried Unread unread nothing reads writes = record {
  ends = inl (rw nothing (grew-nothing call.taken.0));
  usage = λ none. inr (inr refl);
  unread = λ none. unread;
  complete = λ files told no_read no_write. inr refl;
  handed = nothing-handed call asked Memory refl nothing;
  pace = unpaced asked;
  order = inr (refl, unread);
  reads_later = reads;
  writes_later = writes;
}
  where
    unpaced : (asked : Option Verb) → KeepsPace call asked left (tried, tried) Memory
    unpaced None = tt
    unpaced (Some (OfAirport airport tool)) = tt
    unpaced (Some (OfRun names tool)) = tt
    unpaced (Some (Explain names number)) = tt
    unpaced (Some (Json names)) = (
      λ begun. memory-pace (AreTold object_of) (IsPromptTold object_of) call names (left names) Memory refl,
      λ begun. record { fault = λ other. absurd (cc other); large = λ other. absurd (cc other); late = λ other. absurd (cc other) },
    )

-- what words of a form ask for is carried out
pub promised : (call : Call) (asked : Verb) (left : FileNames → Told) (tried : List (List ℕ) × List (List ℕ)) (Unread : Type 0) (ended : Status) (words : Option Verb) → Some asked ≡ words
    → IsCarriedOut call asked left tried ended → KeepsPromises call words left tried Unread ended × IsInOrder call.files words tried.0 tried.1
promised call asked left tried Unread ended words same carried =
    subst (λ (o : Option Verb). KeepsPromises call o left tried Unread ended × IsInOrder call.files o tried.0 tried.1) same (
      record {
        ends = carried.ends;
        usage = λ none. absurd (cc none);
        unread = λ none. absurd (cc none);
        complete = λ files told no_read no_write. due-is call files (Some asked) ended told carried.ends no_read no_write;
        handed = carried.handed;
        pace = carried.pace;
        order = inl carried.order;
        reads_later = carried.reads_later;
        writes_later = carried.writes_later;
      },
      carried.order,
    )
