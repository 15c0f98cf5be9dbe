-- How a run ends: what was due of it where it came to the end of its command file, where it was halted, and where it was cut short.
use Rattle.std.proofs.Common.{◌≡◌, ◌<◌, ◌≤◌, ◌++◌, ◌∷◌, ◌∙◌, [], inl, inr, ℕ, List, Bool, true, false, cond, Option, Some, Result, Ok, Err, length, take, nat_lt, refl, sym, ap, subst, arith}
use Rattle.std.proofs.lemmas.Bool.{ltb-true, ltb-false}
use Rattle.std.proofs.lemmas.List.{length-append, take-append-le}
use Rattle.taxi_base.specs.Airport.{Airport}
use Rattle.taxi_base.specs.State.{State, no_holder}
use Rattle.taxi_text.specs.Lines.{commands_of, lines_of}
use Rattle.taxi_io.specs.Counts.{Rose}
use Rattle.taxi_io.specs.Files.{Files, IsFile, Begins}
use Rattle.taxi_io.specs.Written.{Output, Grew, AreHanded}
use Rattle.taxi_io.proofs.Pieces.{grew-nothing, handed-nothing, handed-on, handed-all, handed-longer}
use Rattle.replies.specs.declared.block.Block.{Block}
use Rattle.transcripts.specs.Runs.{IsRun, blocks_text, done_line, transcript}
use Rattle.command_run.specs.declared.refused.RunRefused.{RunRefused}
use Rattle.command_run.specs.declared.refused.RunRefused.TheVariants as refused
use Rattle.command_run.specs.Ended.{ended_lines_of, ended_commands_of, commands_among, commands_within}
use Rattle.command_run.specs.Answered.{Told, texts_of, LinesAreAnswered, IsWholeRun, IsHaltedRun, IsCutRun, IsPrompt, IsStopped}
use Rattle.command_run.specs.HowFar.{Pieces, Outputs}
use Rattle.command_run.specs.RunEnds.{HasOutcome}
use Rattle.command_run.specs.Halts.{HaltsWith}
use Rattle.command_run.proofs.BegunFiles.{begun-file, taken-file}
use Rattle.command_run.proofs.Blocks.{none-answered}
use Rattle.command_run.proofs.PaceLaws.{HasKept, run-pace}
use Rattle.program_files.specs.declared.stop.Stop.{Stop}
use Rattle.program_files.specs.declared.stop.Stop.TheVariants as stop
use Rattle.program_files.specs.declared.status.Status.{Status}
use Rattle.program_files.specs.declared.status.Status.TheVariants as status
use Rattle.program_words.specs.Verb.{FileNames, Route}
use Rattle.program_files.specs.Inputs.{commands_limit, IsJudged}
use Rattle.program_files.specs.Lines.{refusal_line, read_fault_line, too_large_line}
use Rattle.taxi_cli.specs.Endings.{Call, IsDueText, IsWhole, IsCutShort, Ends}
use Rattle.program_files.specs.LastLine.{EndsWith}
use Rattle.program_files.specs.Stops.{IsCauseOfAirport, StopsWith, IsCauseOfBegin}
use Rattle.program_files.proofs.EndingLaws.{behind-ends_as, front-of, other-status, line-handed, line-handed-whole}
use Rattle.taxi_cli.specs.RunEnds.{IsRunEnd}
use Rattle.taxi_cli.specs.Handed.{AreRunTexts, IsInPieces}
use Rattle.taxi_cli.specs.Pace.{commands_left, KeepsPace}
use Rattle.taxi_cli.proofs.EndingLaws.{last-ends}

-- ---- before a command is read

-- the airport file ends the call
pub airport-ends : (call : Call) (names : FileNames) (why : Stop) (ended : Status) → IsCauseOfAirport call.files names.airport call.reads why → StopsWith why call.writes call.taken ended
    → Ends call (Some (Route names)) ended
airport-ends call names (stop.Refused at why) ended cause stops =
    last-ends call (Some (Route names)) status.AirportRefused (refusal_line (record { at = at; why = why })) _ ended (record { at = at; why = why }, cause, refl) refl stops (λ whole. whole)
airport-ends call names stop.ReadFault ended cause stops =
    last-ends call (Some (Route names)) status.ReadFault read_fault_line _ ended (cause, inl refl) refl stops (λ whole. whole)
airport-ends call names stop.TooLarge ended cause stops =
    last-ends call (Some (Route names)) status.TooLarge too_large_line _ ended (inl (cause, refl)) refl stops (λ whole. whole)
airport-ends call names stop.Memory ended cause stops = rw stops.0 (inl (rw stops.1 (grew-nothing call.taken.0)))

-- the command file can't be begun
pub begin-ends : (call : Call) (names : FileNames) (why : Stop) (ended : Status) (before : ℕ) → IsCauseOfBegin (before, call.reads.1) why → call.reads.0 ≤ before
    → StopsWith why call.writes call.taken ended → Ends call (Some (Route names)) ended
begin-ends call names (stop.Refused at why) ended before cause later stops = absurd cause
begin-ends call names stop.TooLarge ended before cause later stops = absurd cause
begin-ends call names stop.Memory ended before cause later stops = rw stops.0 (inl (rw stops.1 (grew-nothing call.taken.0)))
begin-ends call names stop.ReadFault ended before cause later stops =
    let rose : Rose call.reads.0 call.reads.1 = omega (arith, cause, later) in
    last-ends call (Some (Route names)) status.ReadFault read_fault_line _ ended (rose, inl refl) refl stops (λ whole. whole)

-- ---- a run at an accepted airport, over the command file that was begun

module _ (call : Call) (names : FileNames) (airport : Airport) (accepted : IsJudged call.files names.airport (Ok airport)) (rest left : Option (List ℕ)) (between : Output) where
  module _ (begins : Begins call.files names.commands rest) (mid : ℕ) (later : call.writes.0 ≤ mid) where
    -- the blocks are written, and the last line decides the status
    ended-by : (blocks : List Block) (line last : List ℕ) (due ended : Status) → Grew call.taken.0 between (blocks_text airport blocks) → line ≡ last
        → IsDueText call (Some (Route names)) due (blocks_text airport blocks ++ last) → (IsWhole call (Some (Route names)) due → Ends call (Some (Route names)) due)
        → EndsWith line due (mid, call.writes.1) (between, call.taken.1) ended → Ends call (Some (Route names)) ended
    ended-by blocks line last due ended grew same text as_whole ends =
        behind-ends_as (IsDueText call (Some (Route names))) call.writes mid call.taken between due (blocks_text airport blocks) line last ended later grew same text as_whole ends

    -- the whole file is read
    pub whole-ends : (count : ℕ) (line : List ℕ) (ended : Status) → IsWholeRun airport commands_limit (rest, left) (call.taken.0, between) count → line ≡ done_line count
        → EndsWith line status.Done (mid, call.writes.1) (between, call.taken.1) ended → Ends call (Some (Route names)) ended
    whole-ends count line ended whole same ends =
        ended-by whole.told.blocks line (done_line (length whole.told.blocks)) status.Done ended whole.told.grew (same ∙ ap done_line whole.told.counted)
        (record {
          airport = airport;
          commands = whole.bytes;
          accepted = record { accepted = accepted; file = begun-file call.files names.commands rest whole.bytes begins whole.file; within = whole.within };
          blocks = whole.told.blocks;
          after = whole.after;
          run = whole.told.run;
          whole = refl;
        })
        (λ whole. whole) ends

    fault-ends : (taken : List ℕ) (ended : Status) → Rose call.reads.0 call.reads.1 → IsHaltedRun airport commands_limit (rest, left) (call.taken.0, between) taken
        → EndsWith read_fault_line status.ReadFault (mid, call.writes.1) (between, call.taken.1) ended → Ends call (Some (Route names)) ended
    fault-ends taken ended rose halted ends =
        let file = taken-file call.files names.commands rest left taken begins halted.gave in
        ended-by halted.told.blocks read_fault_line read_fault_line status.ReadFault ended halted.told.grew refl
        (rose, inr (taken, file.0, file.1, record { airport = airport; accepted = accepted; blocks = halted.told.blocks; after = halted.after; run = halted.told.run; whole = refl }))
        (λ whole. whole) ends

    large-ends : (taken : List ℕ) (ended : Status) → commands_limit < length taken → IsHaltedRun airport commands_limit (rest, left) (call.taken.0, between) taken
        → EndsWith too_large_line status.TooLarge (mid, call.writes.1) (between, call.taken.1) ended → Ends call (Some (Route names)) ended
    large-ends taken ended more halted ends =
        let file = taken-file call.files names.commands rest left taken begins halted.gave in
        let longer : commands_limit < length (taken ++ file.0) = let l = length-append taken file.0 in omega (arith, l, more) in
        let counted : take commands_limit taken ≡ take commands_limit (taken ++ file.0) = sym (take-append-le commands_limit taken file.0 (omega (arith, more))) in
        ended-by halted.told.blocks too_large_line too_large_line status.TooLarge ended halted.told.grew refl
        (inr (
          taken ++ file.0,
          file.1,
          longer,
          record {
            airport = airport;
            accepted = accepted;
            blocks = halted.told.blocks;
            after = halted.after;
            run = subst (λ (t : List ℕ). IsRun airport no_holder (ended_commands_of t) halted.told.blocks halted.after) counted halted.told.run;
            whole = refl;
          },
        ))
        (λ whole. whole) ends

    -- a front of the blocks is written
    cut-ends : IsCutRun airport commands_limit (rest, left) call.taken → IsCutShort call (Some (Route names))
    cut-ends cut = go (nat_lt commands_limit (length cut.bytes)) refl where
      file : IsFile call.files names.commands cut.bytes
      file = begun-file call.files names.commands rest cut.bytes begins cut.file

      run-if : (b : Bool) → nat_lt commands_limit (length cut.bytes) ≡ b → IsRun airport no_holder (commands_among (cond b (ended_lines_of (take commands_limit cut.bytes)) (lines_of cut.bytes))) cut.blocks cut.after
      run-if b is = subst (λ (c : Bool). IsRun airport no_holder (commands_among (cond c (ended_lines_of (take commands_limit cut.bytes)) (lines_of cut.bytes))) cut.blocks cut.after) is cut.run

      go : (b : Bool) → nat_lt commands_limit (length cut.bytes) ≡ b → IsCutShort call (Some (Route names))
      go false is = (
        status.Done,
        transcript airport cut.blocks,
        record {
          airport = airport;
          commands = cut.bytes;
          accepted = record { accepted = accepted; file = file; within = ltb-false _ _ is };
          blocks = cut.blocks;
          after = cut.after;
          run = run-if false is;
          whole = refl;
        },
        front-of call.taken.0 call.taken.1 cut.front cut.behind (blocks_text airport cut.blocks) (done_line (length cut.blocks)) cut.split (omega arith) cut.grew,
      )
      go true is = (
        status.TooLarge,
        blocks_text airport cut.blocks ++ too_large_line,
        inr (cut.bytes, file, ltb-true _ _ is, record { airport = airport; accepted = accepted; blocks = cut.blocks; after = cut.after; run = run-if true is; whole = refl }),
        front-of call.taken.0 call.taken.1 cut.front cut.behind (blocks_text airport cut.blocks) too_large_line cut.split (omega arith) cut.grew,
      )

    pub halt-ends : (first : List (List ℕ)) (why : RunRefused) (ended : Status) (before : ℕ) → IsStopped airport commands_limit (rest, left) (first, call.given) (call.taken.0, between) why
        → (why ≡ refused.ReadFault → Rose before call.reads.1) → call.reads.0 ≤ before → (why ≡ refused.WriteFault → Rose call.writes.0 mid) → mid ≤ call.writes.1
        → HaltsWith why (mid, call.writes.1) (between, call.taken.1) ended → Ends call (Some (Route names)) ended
    halt-ends first refused.ReadFault ended before stopped read earlier write after halts =
        let risen = read refl in
        let rose : Rose call.reads.0 call.reads.1 = omega (arith, risen, earlier) in
        fault-ends stopped.0 ended rose stopped.2 halts
    halt-ends first refused.TooLarge ended before stopped read earlier write after halts = large-ends stopped.0 ended stopped.1 stopped.2 halts
    halt-ends first refused.WriteFault ended before stopped read earlier write after halts =
        let risen = write refl in
        let rose : Rose call.writes.0 call.writes.1 = omega (arith, risen, after) in
        rw halts.0 (rose, cut-ends (subst (λ (t : Output). IsCutRun airport commands_limit (rest, left) (call.taken.0, t)) (sym halts.1) stopped.0))
    halt-ends first refused.Memory ended before stopped read earlier write after halts =
        rw halts.0 (inr (cut-ends (subst (λ (t : Output). IsCutRun airport commands_limit (rest, left) (call.taken.0, t)) (sym halts.1) stopped)))

-- ---- the pieces that are handed over

-- one line alone is written
module _ (call : Call) (names : FileNames) where
  one-line : (line : List ℕ) (whole ended : Status) → (whole ≡ status.Done → ⊥) → EndsWith line whole call.writes call.taken ended → IsInPieces call names ended
  one-line line whole ended other ends = record {
    texts = line ∷ [];
    are = inl (line, refl);
    handed = line-handed line whole ended call.writes call.taken ends;
    done = λ is. absurd (other-status line whole ended status.Done call.writes call.taken ends is other (λ e. cc e) (λ e. cc e));
  }

  -- nothing is
  pub stop-handed : (why : Stop) (ended : Status) → StopsWith why call.writes call.taken ended → IsInPieces call names ended
  stop-handed (stop.Refused at why) ended stops = one-line (refusal_line (record { at = at; why = why })) status.AirportRefused ended (λ e. cc e) stops
  stop-handed stop.ReadFault ended stops = one-line read_fault_line status.ReadFault ended (λ e. cc e) stops
  stop-handed stop.TooLarge ended stops = one-line too_large_line status.TooLarge ended (λ e. cc e) stops
  stop-handed stop.Memory ended stops = record {
    texts = [] ∷ [];
    are = inl ([], refl);
    handed = handed-nothing call.taken.0 call.taken.1 ([] ∷ []) (ap (λ (o : Output). o.pieces) stops.1);
    done = λ is. absurd (cc (stops.0, is));
  }

module _ (call : Call) (names : FileNames) (airport : Airport) (accepted : IsJudged call.files names.airport (Ok airport)) (rest left : Option (List ℕ)) (between : Output) where
  blocks-and-line : (lines : List (List ℕ)) (blocks : List Block) (after : State) (line : List ℕ) → IsRun airport no_holder lines blocks after
      → AreRunTexts call.files names (texts_of airport blocks ++ line ∷ [])
  blocks-and-line lines blocks after line run =
      inr (record { airport = airport; accepted = accepted; lines = lines; blocks = blocks; after = after; run = run; last = line; are = refl })

  -- the whole file is read
  whole-handed : (begins : Begins call.files names.commands rest) (count : ℕ) (ended : Status) (faults : ℕ × ℕ) → IsWholeRun airport commands_limit (rest, left) (call.taken.0, between) count
      → EndsWith (done_line count) status.Done faults (between, call.taken.1) ended → IsInPieces call names ended
  whole-handed begins count ended faults whole ends =
      let answered = whole.told in
      record {
        texts = texts_of airport answered.blocks ++ done_line count ∷ [];
        are = blocks-and-line (commands_of whole.bytes) answered.blocks whole.after (done_line count) answered.run;
        handed = handed-on call.taken.0 between call.taken.1 (texts_of airport answered.blocks) (done_line count ∷ []) answered.handed
            (line-handed (done_line count) status.Done ended faults (between, call.taken.1) ends);
        done = λ is. (
          transcript airport answered.blocks,
          record {
            airport = airport;
            commands = whole.bytes;
            accepted = record { accepted = accepted; file = begun-file call.files names.commands rest whole.bytes begins whole.file; within = whole.within };
            blocks = answered.blocks;
            after = whole.after;
            run = answered.run;
            whole = refl;
          },
          subst (λ (n : ℕ). AreHanded call.taken.0 call.taken.1 (texts_of airport answered.blocks ++ done_line n ∷ [])) answered.counted
              (handed-all call.taken.0 between call.taken.1 (texts_of airport answered.blocks) (done_line count ∷ []) answered.handed
              (line-handed-whole (done_line count) ended faults (between, call.taken.1) ends is)),
        );
      }

  halted-handed : (taken line : List ℕ) (whole ended : Status) (faults : ℕ × ℕ) → (whole ≡ status.Done → ⊥) → IsHaltedRun airport commands_limit (rest, left) (call.taken.0, between) taken
      → EndsWith line whole faults (between, call.taken.1) ended → IsInPieces call names ended
  halted-handed taken line whole ended faults other halted ends =
      let answered = halted.told in
      record {
        texts = texts_of airport answered.blocks ++ line ∷ [];
        are = blocks-and-line (ended_commands_of (take commands_limit taken)) answered.blocks halted.after line answered.run;
        handed = handed-on call.taken.0 between call.taken.1 (texts_of airport answered.blocks) (line ∷ []) answered.handed
            (line-handed line whole ended faults (between, call.taken.1) ends);
        done = λ is. absurd (other-status line whole ended status.Done faults (between, call.taken.1) ends is other (λ e. cc e) (λ e. cc e));
      }

  cut-handed : (ended : Status) → (ended ≡ status.Done → ⊥) → IsCutRun airport commands_limit (rest, left) call.taken → IsInPieces call names ended
  cut-handed ended other cut = record {
    texts = texts_of airport cut.blocks ++ [] ∷ [];
    are = blocks-and-line (commands_within commands_limit cut.bytes) cut.blocks cut.after [] cut.run;
    handed = handed-longer call.taken.0 call.taken.1 (texts_of airport cut.blocks) ([] ∷ []) cut.handed;
    done = λ is. absurd (other is);
  }

  halt-handed : (first : List (List ℕ)) (why : RunRefused) (ended : Status) (faults : ℕ × ℕ) → IsStopped airport commands_limit (rest, left) (first, call.given) (call.taken.0, between) why
      → HaltsWith why faults (between, call.taken.1) ended → IsInPieces call names ended
  halt-handed first refused.ReadFault ended faults stopped halts = halted-handed stopped.0 read_fault_line status.ReadFault ended faults (λ e. cc e) stopped.2 halts
  halt-handed first refused.TooLarge ended faults stopped halts = halted-handed stopped.0 too_large_line status.TooLarge ended faults (λ e. cc e) stopped.2 halts
  halt-handed first refused.WriteFault ended faults stopped halts =
      cut-handed ended (λ is. cc (halts.0, is)) (subst (λ (t : Output). IsCutRun airport commands_limit (rest, left) (call.taken.0, t)) (sym halts.1) stopped.0)
  halt-handed first refused.Memory ended faults stopped halts =
      cut-handed ended (λ is. cc (halts.0, is)) (subst (λ (t : Output). IsCutRun airport commands_limit (rest, left) (call.taken.0, t)) (sym halts.1) stopped)

-- ---- the call as a whole

-- what was answered where the run was stopped
kept : (airport : Airport) (left : Told) (given : Pieces) (written : Outputs) (why : RunRefused) → IsStopped airport commands_limit left given written why → HasKept LinesAreAnswered IsPrompt airport left given written why
kept airport left given written refused.ReadFault stopped = stopped
kept airport left given written refused.TooLarge stopped = stopped
kept airport left given written refused.WriteFault stopped = stopped.1
kept airport left given written refused.Memory stopped = tt

run-outcome : (call : Call) (names : FileNames) (airport : Airport) (accepted : IsJudged call.files names.airport (Ok airport)) (rest left : Option (List ℕ)) (first : List (List ℕ)) (between : Output)
    (told : Option Files) (begun : Bool) (before mid : ℕ) (ended : Status) (outcome : Result ℕ RunRefused) → Begins call.files names.commands rest → call.writes.0 ≤ mid → mid ≤ call.writes.1 → call.reads.0 ≤ before
    → HasOutcome (IsWholeRun airport commands_limit) (IsStopped airport commands_limit) done_line
    (record { files = told; reads = (before, call.reads.1); writes = call.writes; begun = begun; left = left; given = call.given; taken = call.taken }) rest first between mid ended outcome
    → Ends call (Some (Route names)) ended × IsInPieces call names ended
run-outcome call names airport accepted rest left first between told begun before mid ended (Ok count) begins later after earlier has = (
  whole-ends call names airport accepted rest left between begins mid later count (done_line count) ended has.0 refl has.1,
  whole-handed call names airport accepted rest left between begins count ended (mid, call.writes.1) has.0 has.1,
)
run-outcome call names airport accepted rest left first between told begun before mid ended (Err why) begins later after earlier has = (
  halt-ends call names airport accepted rest left between begins mid later first why ended before has.0 has.2 earlier has.3 after has.1,
  halt-handed call names airport accepted rest left between first why ended (mid, call.writes.1) has.0 has.1,
)

-- how the run ends ends the call, and it keeps pace with its command file
pub run-ends : (call : Call) (names : FileNames) (airport : Airport) (told : Option Files) (begun : Bool) (left : Option (List ℕ)) (before : ℕ) (ended : Status)
    → IsJudged call.files names.airport (Ok airport) → told ≡ call.files → call.reads.0 ≤ before
    → IsRunEnd (record { files = told; reads = (before, call.reads.1); writes = call.writes; begun = begun; left = left; given = call.given; taken = call.taken }) airport names.commands ended
    → Ends call (Some (Route names)) ended × KeepsPace call names (commands_left call.files names begun left) ended × IsInPieces call names ended
run-ends call names airport told begun left before ended accepted same earlier ends =
    let both = of ends in (
      both.0,
      run-pace LinesAreAnswered IsPrompt (λ airport now. none-answered airport no_holder no_holder now refl) IsStopped kept done_line call names airport told begun left (before, call.reads.1) ended accepted same ends,
      both.1,
    )
  where
    of : IsRunEnd (record { files = told; reads = (before, call.reads.1); writes = call.writes; begun = begun; left = left; given = call.given; taken = call.taken }) airport names.commands ended
        → Ends call (Some (Route names)) ended × IsInPieces call names ended
    of (inl stopped) = (
      begin-ends call names stopped.why ended before stopped.cause earlier stopped.stops,
      stop-handed call names stopped.why ended stopped.stops,
    )
    of (inr run) =
        run-outcome call names airport accepted run.rest left run.first run.between told begun before run.mid ended run.outcome
        (subst (λ (t : Option Files). Begins t names.commands run.rest) same run.begins) run.later run.after earlier run.has
