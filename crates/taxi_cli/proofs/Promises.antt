-- What a call promises where memory runs out before its words are known.
use Rattle.std.proofs.Common.{◌≡◌, ◌≤◌, ◌∷◌, [], inl, inr, ℕ, List, Option, refl, ap}
use Rattle.taxi_io.specs.Written.{Output}
use Rattle.taxi_io.proofs.Pieces.{grew-nothing, handed-nothing}
use Rattle.command_run.specs.Answered.{Told, LinesAreAnswered, IsPrompt}
use Rattle.program_files.specs.declared.status.Status.TheVariants.{Memory}
use Rattle.program_words.specs.Verb.{FileNames, Verb}
use Rattle.taxi_cli.specs.Endings.{Call, Ends}
use Rattle.taxi_cli.specs.Exit.{KeepsPromises}
use Rattle.taxi_cli.proofs.HeadlineLaws.{headline-asked}
use Rattle.command_run.proofs.PaceLaws.{memory-pace}

pub no-words : (call : Call) (asked : Option Verb) (left : FileNames → Told) (tried : List (List ℕ)) (Unread : Type 0) → Unread → call.taken.1 ≡ call.taken.0
    → call.reads.0 ≤ call.reads.1 → call.writes.0 ≤ call.writes.1 → KeepsPromises call asked left (tried, tried) Unread Memory
no-words call asked left tried Unread unread nothing reads writes = record {
  ends = ends;
  usage = λ none. inr (inr refl);
  unread = λ none. unread;
  complete = λ files told no_read no_write. inr refl;
  headline = λ names is. headline-asked call asked names Memory ends is;
  made = λ traffic is. (unread, λ no_write. inr refl);
  pace = λ names is begun. memory-pace LinesAreAnswered IsPrompt call names (left names) Memory refl;
  first = λ names is begun. record { fault = λ other. absurd (cc other); large = λ other. absurd (cc other); late = λ other. absurd (cc other) };
  handed = λ names is. record {
    texts = [] ∷ [];
    are = inl ([], refl);
    handed = handed-nothing call.taken.0 call.taken.1 ([] ∷ []) (ap (λ (o : Output). o.pieces) nothing);
    done = λ other. absurd (cc other);
  };
  order = inr (refl, unread);
  reads_later = reads;
  writes_later = writes;
}
  where
    ends : Ends call asked Memory
    ends = inl (rw nothing (grew-nothing call.taken.0))
