-- How a run keeps pace with its command file: where it came to the end of the file, where it was halted, and before the file was begun.
use Rattle.std.proofs.Common.{◌≡◌, ◌==◌, ◌<◌, ◌≤◌, ◌++◌, ◌∷◌, ◌∙◌, [], inl, inr, ℕ, List, Bool, Option, Some, None, Result, Ok, Err, length, take, unwrap_or, refl, sym, ap, subst, append-nil, arith}
use Rattle.std.specs.Prelude.{⊤}
use Rattle.std.specs.List.{count_by}
use Rattle.std.proofs.lemmas.List.{length-append, take_all, take-append-drop}
use Rattle.std.proofs.KnownBytes.{prepend_known-nil}
use Rattle.taxi_base.specs.Airport.{Airport}
use Rattle.taxi_base.specs.State.{State, no_holder}
use Rattle.taxi_text.specs.Lines.{lines_of}
use Rattle.taxi_io.specs.Files.{Files, IsLonger, Begins, BeganMore}
use Rattle.taxi_io.specs.Written.{Output, GrewInPart}
use Rattle.command_run.specs.declared.refused.RunRefused.{RunRefused}
use Rattle.command_run.specs.declared.refused.RunRefused.TheVariants as refused
use Rattle.command_run.specs.Ended.{ended_lines_of, unended_lines_of}
use Rattle.command_run.specs.HowFar.{Told, Pieces, Outputs, IsReadWhole, IsReadUpTo}
use Rattle.command_run.specs.Halts.{HaltsWith}
use Rattle.command_run.specs.Pace.{HaveBegun, HaveBegunFirst, bytes_told, left_of, commands_left, IsHalted, IsCaughtUp, KeepsPaceBy, EndsBeforeCommands}
use Rattle.command_run.specs.RunEnds.{HasOutcome, IsRunEndBy}
use Rattle.program_files.specs.declared.stop.Stop.{Stop}
use Rattle.program_files.specs.declared.stop.Stop.TheVariants as stop
use Rattle.program_files.specs.declared.status.Status.{Status}
use Rattle.program_files.specs.declared.status.Status.TheVariants as status
use Rattle.program_files.specs.Call.{Call}
use Rattle.program_files.specs.LastLine.{EndsWith}
use Rattle.program_files.specs.Lines.{refusal_line, read_fault_line, too_large_line}
use Rattle.program_files.specs.Stops.{IsCauseOfAirport, StopsWith, IsCauseOfBegin}
use Rattle.program_files.specs.Inputs.{airport_limit, commands_limit, IsJudged}
use Rattle.program_files.proofs.EndingLaws.{other-status, line-told, front-told}
use Rattle.program_files.proofs.InputLaws.{one-judgement, not-longer}
use Rattle.program_words.specs.Verb.{FileNames}

-- ---- the file that is begun

begun-told : (told : Option Files) (name : List ℕ) (rest : Option (List ℕ)) → Begins told name rest → rest ≡ bytes_told told name
begun-told None name rest begins = begins
begun-told (Some files) name rest begins = begins.2 ∙ ap (λ (b : Option (List ℕ)). Some (unwrap_or b [])) (sym begins.1)

-- more names were tried than others
other-names : (before after names others : List (List ℕ)) → BeganMore before after names → BeganMore before after others → (length names ≡ length others → ⊥) → ⊥
other-names before after names others one other apart =
    let l : length (before ++ names) ≡ length (before ++ others) = ap length (sym one ∙ other) in
    let m = length-append before names in
    let n = length-append before others in
    apart (omega (arith, l, m, n))

-- only the airport file was tried
pub not-begun : (names : FileNames) (before after : List (List ℕ)) → HaveBegunFirst names before after → HaveBegun names before after → ⊥
not-begun names before after first both =
    other-names before after (names.airport ∷ []) (names.airport ∷ names.commands ∷ []) first both (λ e. cc e)

-- how much was done where the run was stopped
abbrev pub HasKept : (Airport → List (List ℕ) → Outputs → ℕ → State → Type 0) → (Airport → Told → Pieces → Outputs → Type 0) → Airport → Told → Pieces → Outputs → RunRefused → Type 0
HasKept AreDone IsPrompt airport left given written refused.ReadFault = (taken : List ℕ) × (length taken ≤ commands_limit) × IsReadUpTo (AreDone airport) commands_limit left written taken
HasKept AreDone IsPrompt airport left given written refused.TooLarge = (taken : List ℕ) × (commands_limit < length taken) × IsReadUpTo (AreDone airport) commands_limit left written taken
HasKept AreDone IsPrompt airport left given written refused.WriteFault = IsPrompt airport left given written
HasKept AreDone IsPrompt airport left given written refused.Memory = ⊤

module _ (AreDone : Airport → List (List ℕ) → Outputs → ℕ → State → Type 0) (IsPrompt : Airport → Told → Pieces → Outputs → Type 0) where
  -- ---- where memory runs out

  pub memory-pace : (call : Call) (names : FileNames) (left : Told) (ended : Status) → ended ≡ status.Memory → KeepsPaceBy AreDone IsPrompt call names left ended
  memory-pace call names left ended is = record {
    fault = λ other. absurd (cc (is, other));
    large = λ other. absurd (cc (is, other));
    late = λ other. absurd (cc (is, other));
  }

  -- ---- a run at an accepted airport, over the command file that was begun

  module _ (call : Call) (names : FileNames) (airport : Airport) (accepted : IsJudged call.files names.airport (Ok airport)) (rest left : Option (List ℕ)) (between : Output) where
    abbrev HaltedAt : List ℕ → Type 0
    HaltedAt taken = IsReadUpTo (AreDone airport) commands_limit (rest, left) (call.taken.0, between) taken

    abbrev CaughtUp : Type 0
    CaughtUp = IsCaughtUp (AreDone airport) (rest, left) call.taken

    abbrev KeepsPace : Status → Type 0
    KeepsPace ended = KeepsPaceBy AreDone IsPrompt call names (rest, left) ended

    -- reading ends, and the line that says so is written behind what was written of commands
    halted-pace : (taken line : List ℕ) (whole ended : Status) (faults : ℕ × ℕ) → HaltedAt taken
        → EndsWith line whole faults (between, call.taken.1) ended → ended ≡ status.WriteFault → (whole ≡ status.WriteFault → ⊥) → CaughtUp
    halted-pace taken line whole ended faults halted ends is no_fault =
        let front = front-told line whole ended faults (between, call.taken.1) ends is no_fault in
        record {
          taken = taken;
          gave = halted.gave;
          others = [];
          at_end = inl refl;
          between = between;
          count = halted.count;
          after = halted.after;
          told = rw (append-nil (ended_lines_of (take commands_limit taken))) halted.told;
          front = front.0;
          grew = front.4;
        }

    halted-told : (taken line : List ℕ) (whole ended : Status) (faults : ℕ × ℕ) → HaltedAt taken
        → EndsWith line whole faults (between, call.taken.1) ended → ended ≡ whole → (status.WriteFault ≡ whole → ⊥) → (status.Memory ≡ whole → ⊥) → IsHalted AreDone call names (rest, left) taken line
    halted-told taken line whole ended faults halted ends is no_fault no_memory = record {
      airport = airport;
      accepted = accepted;
      between = between;
      halted = halted;
      told_last = line-told line whole ended faults (between, call.taken.1) ends is no_fault no_memory;
    }

    fault-pace : (taken : List ℕ) (ended : Status) (faults : ℕ × ℕ) → length taken ≤ commands_limit → HaltedAt taken
        → EndsWith read_fault_line status.ReadFault faults (between, call.taken.1) ended → KeepsPace ended
    fault-pace taken ended faults few halted ends = record {
      fault = λ is. (taken, few, halted-told taken read_fault_line status.ReadFault ended faults halted ends is (λ e. cc e) (λ e. cc e));
      large = λ is. absurd (other-status read_fault_line status.ReadFault ended status.TooLarge faults (between, call.taken.1) ends is (λ e. cc e) (λ e. cc e) (λ e. cc e));
      late = λ is. (airport, accepted, inr (halted-pace taken read_fault_line status.ReadFault ended faults halted ends is (λ e. cc e)));
    }

    large-pace : (taken : List ℕ) (ended : Status) (faults : ℕ × ℕ) → commands_limit < length taken → HaltedAt taken
        → EndsWith too_large_line status.TooLarge faults (between, call.taken.1) ended → KeepsPace ended
    large-pace taken ended faults more halted ends = record {
      fault = λ is. absurd (other-status too_large_line status.TooLarge ended status.ReadFault faults (between, call.taken.1) ends is (λ e. cc e) (λ e. cc e) (λ e. cc e));
      large = λ is. (taken, more, halted-told taken too_large_line status.TooLarge ended faults halted ends is (λ e. cc e) (λ e. cc e));
      late = λ is. (airport, accepted, inr (halted-pace taken too_large_line status.TooLarge ended faults halted ends is (λ e. cc e)));
    }

    whole-pace : (count : ℕ) (line : List ℕ) (ended : Status) (faults : ℕ × ℕ) → IsReadWhole (AreDone airport) commands_limit (rest, left) (call.taken.0, between) count
        → EndsWith line status.Done faults (between, call.taken.1) ended → KeepsPace ended
    whole-pace count line ended faults whole ends = record {
      fault = λ is. absurd (other-status line status.Done ended status.ReadFault faults (between, call.taken.1) ends is (λ e. cc e) (λ e. cc e) (λ e. cc e));
      large = λ is. absurd (other-status line status.Done ended status.TooLarge faults (between, call.taken.1) ends is (λ e. cc e) (λ e. cc e) (λ e. cc e));
      late = λ is. (airport, accepted, inr (caught_up (front-told line status.Done ended faults (between, call.taken.1) ends is (λ e. cc e))));
    }
      where
        others : List (List ℕ)
        others = unended_lines_of whole.bytes

        all : lines_of whole.bytes ≡ ended_lines_of (take commands_limit whole.bytes) ++ others
        all =
            let lines : lines_of whole.bytes ≡ ended_lines_of whole.bytes ++ others = sym (take-append-drop (count_by (λ b. b == 10) whole.bytes) (lines_of whole.bytes)) in
            let bytes : take commands_limit whole.bytes ≡ whole.bytes = take_all commands_limit whole.bytes whole.within in
            lines ∙ ap (λ (t : List ℕ). ended_lines_of t ++ others) (sym bytes)

        caught_up : GrewInPart between call.taken.1 line → CaughtUp
        caught_up front = record {
          taken = whole.bytes;
          gave = whole.gave;
          others = others;
          at_end = inr (refl, whole.at_end);
          between = between;
          count = count;
          after = whole.after;
          told = subst (λ (l : List (List ℕ)). AreDone airport l (call.taken.0, between) count whole.after) all whole.told;
          front = front.0;
          grew = front.4;
        }

    halt-pace : (first : List (List ℕ)) (why : RunRefused) (ended : Status) (faults : ℕ × ℕ) → HasKept AreDone IsPrompt airport (rest, left) (first, call.given) (call.taken.0, between) why → HaltsWith why faults (between, call.taken.1) ended → KeepsPace ended
    halt-pace first refused.ReadFault ended faults kept halts = fault-pace kept.0 ended faults kept.1 kept.2 halts
    halt-pace first refused.TooLarge ended faults kept halts = large-pace kept.0 ended faults kept.1 kept.2 halts
    halt-pace first refused.Memory ended faults kept halts = memory-pace call names (rest, left) ended halts.0
    halt-pace first refused.WriteFault ended faults kept halts = record {
      fault = λ other. absurd (cc (halts.0, other));
      large = λ other. absurd (cc (halts.0, other));
      late = λ _. (airport, accepted, inl (first, subst (λ (t : Output). IsPrompt airport (rest, left) (first, call.given) (call.taken.0, t)) (sym halts.1) kept));
    }

  -- the command file can't be begun, and all of it is left
  begin-pace : (nothing_done : (airport : Airport) (now : Output) → AreDone airport [] (now, now) 0 no_holder) (call : Call) (names : FileNames) (airport : Airport) (file next : Option (List ℕ)) (why : Stop) (ended : Status) (faults : ℕ × ℕ)
      → IsJudged call.files names.airport (Ok airport) → next ≡ file → IsCauseOfBegin faults why → StopsWith why call.writes call.taken ended → KeepsPaceBy AreDone IsPrompt call names (file, next) ended
  begin-pace nothing_done call names airport file next (stop.Refused at why) ended faults accepted same cause stops = absurd cause
  begin-pace nothing_done call names airport file next stop.TooLarge ended faults accepted same cause stops = absurd cause
  begin-pace nothing_done call names airport file next stop.Memory ended faults accepted same cause stops = memory-pace call names (file, next) ended stops.0
  begin-pace nothing_done call names airport file next stop.ReadFault ended faults accepted same cause stops =
      fault-pace call names airport accepted file next call.taken.0 [] ended call.writes (omega arith)
      (record {
        gave = sym (prepend_known-nil next ∙ same);
        count = 0;
        after = no_holder;
        told = nothing_done airport call.taken.0;
      })
      stops

  -- ---- the run as a whole, by that nothing is done of no lines, and by how much is where the run is stopped

  module _ (nothing_done : (airport : Airport) (now : Output) → AreDone airport [] (now, now) 0 no_holder)
      (IsStopped : Airport → ℕ → Told → Pieces → Outputs → RunRefused → Type 0)
      (kept : (airport : Airport) (left : Told) (given : Pieces) (written : Outputs) (why : RunRefused) → IsStopped airport commands_limit left given written why → HasKept AreDone IsPrompt airport left given written why)
      (done_line : ℕ → List ℕ) where
    outcome-pace : (call : Call) (names : FileNames) (airport : Airport) (accepted : IsJudged call.files names.airport (Ok airport)) (rest left : Option (List ℕ)) (first : List (List ℕ)) (between : Output) (mid : ℕ)
        (told : Option Files) (reads : ℕ × ℕ) (begun : Bool) (ended : Status) (outcome : Result ℕ RunRefused)
        → HasOutcome (IsReadWhole (AreDone airport) commands_limit) (IsStopped airport commands_limit) done_line
        (record { files = told; reads = reads; writes = call.writes; begun = begun; left = left; given = call.given; taken = call.taken }) rest first between mid ended outcome
        → KeepsPaceBy AreDone IsPrompt call names (rest, left) ended
    outcome-pace call names airport accepted rest left first between mid told reads begun ended (Ok count) has =
        whole-pace call names airport accepted rest left between count (done_line count) ended (mid, call.writes.1) has.0 has.1
    outcome-pace call names airport accepted rest left first between mid told reads begun ended (Err why) has =
        halt-pace call names airport accepted rest left between first why ended (mid, call.writes.1)
        (kept airport (rest, left) (first, call.given) (call.taken.0, between) why has.0) has.1

    -- how the run ends, the call keeps pace with its command file
    pub run-pace : (call : Call) (names : FileNames) (airport : Airport) (told : Option Files) (begun : Bool) (left : Option (List ℕ)) (reads : ℕ × ℕ) (ended : Status)
        → IsJudged call.files names.airport (Ok airport) → told ≡ call.files
        → IsRunEndBy (λ airport. IsReadWhole (AreDone airport)) IsStopped done_line
        (record { files = told; reads = reads; writes = call.writes; begun = begun; left = left; given = call.given; taken = call.taken }) airport names.commands ended
        → KeepsPaceBy AreDone IsPrompt call names (commands_left call.files names begun left) ended
    run-pace call names airport told begun left reads ended accepted same (inl stopped) =
        begin-pace nothing_done call names airport (bytes_told call.files names.commands) (left_of begun (bytes_told call.files names.commands) left) stopped.why ended reads accepted
        (ap (λ (b : Bool). left_of b (bytes_told call.files names.commands) left) stopped.nothing) stopped.cause stopped.stops
    run-pace call names airport told begun left reads ended accepted same (inr run) =
        let begins : Begins call.files names.commands run.rest = subst (λ (t : Option Files). Begins t names.commands run.rest) same run.begins in
        let pace = outcome-pace call names airport accepted run.rest left run.first run.between run.mid told reads begun ended run.outcome run.has in
        let whole = begun-told call.files names.commands run.rest begins in
        let rest : left ≡ left_of begun (bytes_told call.files names.commands) left = ap (λ (b : Bool). left_of b (bytes_told call.files names.commands) left) (sym run.is_begun) in
        subst (λ (l : Option (List ℕ)). KeepsPaceBy AreDone IsPrompt call names (bytes_told call.files names.commands, l) ended) rest
        (subst (λ (f : Option (List ℕ)). KeepsPaceBy AreDone IsPrompt call names (f, left) ended) whole pace)

-- ---- before the command file is begun

module _ (call : Call) (names : FileNames) (ended : Status) where
  -- the airport file ends the call before the command file is begun
  pub before-commands : (why : Stop) → IsCauseOfAirport call.files names.airport call.reads why → StopsWith why call.writes call.taken ended → EndsBeforeCommands call names ended
  before-commands (stop.Refused at why) cause stops =
      let line : List ℕ = refusal_line (record { at = at; why = why }) in
      record {
        fault = λ is. absurd (other-status line status.AirportRefused ended status.ReadFault call.writes call.taken stops is (λ e. cc e) (λ e. cc e) (λ e. cc e));
        large = λ is. absurd (other-status line status.AirportRefused ended status.TooLarge call.writes call.taken stops is (λ e. cc e) (λ e. cc e) (λ e. cc e));
        late = λ is files told airport accepted.
            let one = subst (λ (t : Option Files). IsJudged t names.airport (Ok airport)) told accepted in
            let two = subst (λ (t : Option Files). IsJudged t names.airport (Err (record { at = at; why = why }))) told cause in
            let same = one-judgement files names.airport (Ok airport) (Err (record { at = at; why = why })) one two in
            absurd (cc same);
      }
  before-commands stop.ReadFault cause stops = record {
    fault = λ is. line-told read_fault_line status.ReadFault ended call.writes call.taken stops is (λ e. cc e) (λ e. cc e);
    large = λ is. absurd (other-status read_fault_line status.ReadFault ended status.TooLarge call.writes call.taken stops is (λ e. cc e) (λ e. cc e) (λ e. cc e));
    late = λ is files told airport accepted. (cause, front-told read_fault_line status.ReadFault ended call.writes call.taken stops is (λ e. cc e));
  }
  before-commands stop.TooLarge cause stops = record {
    fault = λ is. absurd (other-status too_large_line status.TooLarge ended status.ReadFault call.writes call.taken stops is (λ e. cc e) (λ e. cc e) (λ e. cc e));
    large = λ is. (cause, line-told too_large_line status.TooLarge ended call.writes call.taken stops is (λ e. cc e) (λ e. cc e));
    late = λ is files told airport accepted.
        let judged = subst (λ (t : Option Files). IsJudged t names.airport (Ok airport)) told accepted in
        let longer = subst (λ (t : Option Files). IsLonger t names.airport airport_limit) told cause in
        absurd (not-longer files names.airport judged.bytes airport_limit judged.file judged.within longer);
  }
  before-commands stop.Memory cause stops = record {
    fault = λ other. absurd (cc (stops.0, other));
    large = λ other. absurd (cc (stops.0, other));
    late = λ other. absurd (cc (stops.0, other));
  }
