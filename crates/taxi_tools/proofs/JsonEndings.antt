-- How `json` ends: what was due where it came to the end of its command file, where it was halted, and where it was cut short.
use Rattle.std.proofs.Common.{◌≡◌, ◌<◌, ◌≤◌, ◌++◌, ◌∷◌, [], inl, inr, ℕ, List, Bool, true, false, cond, Option, Some, Result, Ok, Err, length, take, nat_lt, refl, sym, ap, subst, arith}
use Rattle.std.proofs.lemmas.Bool.{ltb-true, ltb-false}
use Rattle.std.proofs.lemmas.List.{length-append, take-append-le}
use Rattle.taxi_base.specs.Airport.{Airport}
use Rattle.taxi_base.specs.State.{State, no_holder}
use Rattle.taxi_text.specs.Lines.{lines_of}
use Rattle.taxi_io.specs.Counts.{Rose}
use Rattle.taxi_io.specs.Files.{Files, IsFile, Begins}
use Rattle.taxi_io.specs.Written.{Output, Grew, AreHanded}
use Rattle.taxi_io.proofs.Pieces.{grew-nothing, handed-nothing, handed-on, handed-all, handed-longer}
use Rattle.replies.specs.declared.block.Block.{Block}
use Rattle.transcripts.specs.Runs.{IsRun}
use Rattle.command_run.specs.declared.refused.RunRefused.{RunRefused}
use Rattle.command_run.specs.declared.refused.RunRefused.TheVariants as refused
use Rattle.command_run.specs.Ended.{ended_lines_of, commands_among}
use Rattle.command_run.specs.Halts.{HaltsWith}
use Rattle.command_run.specs.HowFar.{Told, Pieces, Outputs}
use Rattle.command_run.specs.Pace.{commands_left}
use Rattle.command_run.specs.RunEnds.{HasOutcome}
use Rattle.command_run.specs.Told.{numbered_among, lines_within, texts_told, all_told, AreTold, IsWholeTold, IsHaltedTold, IsCutTold, IsPromptTold, IsStoppedTold}
use Rattle.command_run.proofs.BegunFiles.{begun-file, taken-file}
use Rattle.command_run.proofs.PaceLaws.{HasKept, run-pace}
use Rattle.command_run.proofs.Told.{nothing-told}
use Rattle.reply_json.specs.Lines.{done_line}
use Rattle.program_files.specs.declared.status.Status.{Status}
use Rattle.program_files.specs.declared.status.Status.TheVariants as status
use Rattle.program_files.specs.Call.{Call, IsWholeAs, IsCutShortAs, EndsAs}
use Rattle.program_files.specs.LastLine.{EndsWith}
use Rattle.program_files.specs.Lines.{read_fault_line, too_large_line, refusal_line}
use Rattle.program_files.proofs.EndingLaws.{last-ends_as, behind-ends_as, front-of, other-status, line-handed, line-handed-whole}
use Rattle.program_files.specs.declared.stop.Stop.{Stop}
use Rattle.program_files.specs.declared.stop.Stop.TheVariants as stop
use Rattle.program_files.specs.Inputs.{commands_limit, IsJudged}
use Rattle.program_files.specs.Stops.{IsCauseOfAirport, IsCauseOfBegin, StopsWith}
use Rattle.program_words.specs.Verb.{FileNames}
use Rattle.tool_words.specs.Verb.{Json}
use Rattle.taxi_tools.specs.Endings.{IsDueText, Ends}
use Rattle.taxi_tools.specs.Handed.{AreJsonTexts, IsInPieces}
use Rattle.taxi_tools.specs.Objects.{object_of}
use Rattle.taxi_tools.specs.RunEnds.{AreStopped, IsRunEnd}
use Rattle.taxi_tools.specs.Pace.{ObjectsKeepPace}

-- the lines of a file whose commands are answered, by whether it is longer than a command file may be
abbrev lines_if : List ℕ → Bool → List (List ℕ)
lines_if bytes longer = cond longer (ended_lines_of (take commands_limit bytes)) (lines_of bytes)

-- ---- before a command is read

module _ (call : Call) (names : FileNames) where
  abbrev Due : Status → List ℕ → Type 0
  Due = IsDueText call (Some (Json names))

  -- the airport file ends the call
  pub airport-ends : (why : Stop) (ended : Status) → IsCauseOfAirport call.files names.airport call.reads why → StopsWith why call.writes call.taken ended → Ends call (Some (Json names)) ended
  airport-ends (stop.Refused at why) ended cause stops =
      last-ends_as Due call.writes call.taken status.AirportRefused (refusal_line (record { at = at; why = why })) _ ended (record { at = at; why = why }, cause, refl) refl stops (λ whole. whole)
  airport-ends stop.ReadFault ended cause stops = last-ends_as Due call.writes call.taken status.ReadFault read_fault_line _ ended (cause, inl refl) refl stops (λ whole. whole)
  airport-ends stop.TooLarge ended cause stops = last-ends_as Due call.writes call.taken status.TooLarge too_large_line _ ended (inl (cause, refl)) refl stops (λ whole. whole)
  airport-ends stop.Memory ended cause stops = rw stops.0 (inl (rw stops.1 (grew-nothing call.taken.0)))

  -- the command file can't be begun
  begin-ends : (why : Stop) (ended : Status) (before : ℕ) → IsCauseOfBegin (before, call.reads.1) why → call.reads.0 ≤ before → StopsWith why call.writes call.taken ended
      → Ends call (Some (Json names)) ended
  begin-ends (stop.Refused at why) ended before cause later stops = absurd cause
  begin-ends stop.TooLarge ended before cause later stops = absurd cause
  begin-ends stop.Memory ended before cause later stops = rw stops.0 (inl (rw stops.1 (grew-nothing call.taken.0)))
  begin-ends stop.ReadFault ended before cause later stops =
      let rose : Rose call.reads.0 call.reads.1 = omega (arith, cause, later) in
      last-ends_as Due call.writes call.taken status.ReadFault read_fault_line _ ended (rose, inl refl) refl stops (λ whole. whole)

-- ---- a run at an accepted airport, over the command file that was begun

module _ (call : Call) (names : FileNames) (airport : Airport) (accepted : IsJudged call.files names.airport (Ok airport)) (rest left : Option (List ℕ)) (between : Output)
    (begins : Begins call.files names.commands rest) (mid : ℕ) (later : call.writes.0 ≤ mid) where
  abbrev Asked : Status → List ℕ → Type 0
  Asked = IsDueText call (Some (Json names))

  -- the objects are written, and the last line decides the status
  ended-by : (objects line last : List ℕ) (due ended : Status) → Grew call.taken.0 between objects → line ≡ last → Asked due (objects ++ last)
      → (IsWholeAs Asked call.taken due → EndsAs Asked call.writes call.taken due) → EndsWith line due (mid, call.writes.1) (between, call.taken.1) ended → Ends call (Some (Json names)) ended
  ended-by objects line last due ended grew same text as_whole ends =
      behind-ends_as Asked call.writes mid call.taken between due objects line last ended later grew same text as_whole ends

  -- the whole file is read
  whole-ends : (count : ℕ) (ended : Status) → IsWholeTold object_of airport commands_limit (rest, left) (call.taken.0, between) count
      → EndsWith (done_line count) status.Done (mid, call.writes.1) (between, call.taken.1) ended → Ends call (Some (Json names)) ended
  whole-ends count ended whole ends =
      ended-by (all_told object_of airport (lines_of whole.bytes) whole.told.blocks) (done_line count) (done_line (length whole.told.blocks)) status.Done ended whole.told.grew (ap done_line whole.told.counted)
      (record {
        airport = airport;
        commands = whole.bytes;
        accepted = record { accepted = accepted; file = begun-file call.files names.commands rest whole.bytes begins whole.file; within = whole.within };
        blocks = whole.told.blocks;
        after = whole.after;
        run = whole.told.run;
        whole = refl;
      })
      (λ whole. whole) ends

  fault-ends : (taken : List ℕ) (ended : Status) → Rose call.reads.0 call.reads.1 → IsHaltedTold object_of airport commands_limit (rest, left) (call.taken.0, between) taken
      → EndsWith read_fault_line status.ReadFault (mid, call.writes.1) (between, call.taken.1) ended → Ends call (Some (Json names)) ended
  fault-ends taken ended rose halted ends =
      let file = taken-file call.files names.commands rest left taken begins halted.gave in
      ended-by (all_told object_of airport (ended_lines_of (take commands_limit taken)) halted.told.blocks) read_fault_line read_fault_line status.ReadFault ended halted.told.grew refl
      (rose, inr (taken, file.0, file.1, record { airport = airport; accepted = accepted; blocks = halted.told.blocks; after = halted.after; run = halted.told.run; whole = refl }))
      (λ whole. whole) ends

  large-ends : (taken : List ℕ) (ended : Status) → commands_limit < length taken → IsHaltedTold object_of airport commands_limit (rest, left) (call.taken.0, between) taken
      → EndsWith too_large_line status.TooLarge (mid, call.writes.1) (between, call.taken.1) ended → Ends call (Some (Json names)) ended
  large-ends taken ended more halted ends =
      let file = taken-file call.files names.commands rest left taken begins halted.gave in
      let longer : commands_limit < length (taken ++ file.0) = let l = length-append taken file.0 in omega (arith, l, more) in
      let counted : take commands_limit taken ≡ take commands_limit (taken ++ file.0) = sym (take-append-le commands_limit taken file.0 (omega (arith, more))) in
      ended-by (all_told object_of airport (ended_lines_of (take commands_limit taken)) halted.told.blocks) too_large_line too_large_line status.TooLarge ended halted.told.grew refl
      (inr (
        taken ++ file.0,
        file.1,
        longer,
        record {
          airport = airport;
          accepted = accepted;
          blocks = halted.told.blocks;
          after = halted.after;
          run = subst (λ (t : List ℕ). IsRun airport no_holder (commands_among (ended_lines_of t)) halted.told.blocks halted.after) counted halted.told.run;
          whole = ap (λ (t : List ℕ). all_told object_of airport (ended_lines_of t) halted.told.blocks ++ too_large_line) counted;
        },
      ))
      (λ whole. whole) ends

  -- a front of the objects is written
  cut-ends : IsCutTold object_of airport commands_limit (rest, left) call.taken → IsCutShortAs Asked call.taken
  cut-ends cut = go (nat_lt commands_limit (length cut.bytes)) refl where
    file : IsFile call.files names.commands cut.bytes
    file = begun-file call.files names.commands rest cut.bytes begins cut.file

    run-if : (b : Bool) → nat_lt commands_limit (length cut.bytes) ≡ b → IsRun airport no_holder (commands_among (lines_if cut.bytes b)) cut.blocks cut.after
    run-if b is = subst (λ (c : Bool). IsRun airport no_holder (commands_among (lines_if cut.bytes c)) cut.blocks cut.after) is cut.run

    split-if : (b : Bool) → nat_lt commands_limit (length cut.bytes) ≡ b → cut.front ++ cut.behind ≡ all_told object_of airport (lines_if cut.bytes b) cut.blocks
    split-if b is = subst (λ (c : Bool). cut.front ++ cut.behind ≡ all_told object_of airport (lines_if cut.bytes c) cut.blocks) is cut.split

    go : (b : Bool) → nat_lt commands_limit (length cut.bytes) ≡ b → IsCutShortAs Asked call.taken
    go false is = (
      status.Done,
      all_told object_of airport (lines_of cut.bytes) cut.blocks ++ done_line (length cut.blocks),
      record {
        airport = airport;
        commands = cut.bytes;
        accepted = record { accepted = accepted; file = file; within = ltb-false _ _ is };
        blocks = cut.blocks;
        after = cut.after;
        run = run-if false is;
        whole = refl;
      },
      front-of call.taken.0 call.taken.1 cut.front cut.behind (all_told object_of airport (lines_of cut.bytes) cut.blocks) (done_line (length cut.blocks)) (split-if false is) (omega arith) cut.grew,
    )
    go true is = (
      status.TooLarge,
      all_told object_of airport (ended_lines_of (take commands_limit cut.bytes)) cut.blocks ++ too_large_line,
      inr (cut.bytes, file, ltb-true _ _ is, record { airport = airport; accepted = accepted; blocks = cut.blocks; after = cut.after; run = run-if true is; whole = refl }),
      front-of call.taken.0 call.taken.1 cut.front cut.behind (all_told object_of airport (ended_lines_of (take commands_limit cut.bytes)) cut.blocks) too_large_line (split-if true is) (omega arith) cut.grew,
    )

  halt-ends : (why : RunRefused) (ended : Status) (before : ℕ) → IsStoppedTold object_of airport commands_limit (rest, left) (call.taken.0, between) why
      → (why ≡ refused.ReadFault → Rose before call.reads.1) → call.reads.0 ≤ before → (why ≡ refused.WriteFault → Rose call.writes.0 mid) → mid ≤ call.writes.1
      → HaltsWith why (mid, call.writes.1) (between, call.taken.1) ended → Ends call (Some (Json names)) ended
  halt-ends refused.ReadFault ended before stopped reads earlier write after halts =
      let risen = reads refl in
      let rose : Rose call.reads.0 call.reads.1 = omega (arith, risen, earlier) in
      fault-ends stopped.0 ended rose stopped.2 halts
  halt-ends refused.TooLarge ended before stopped reads earlier write after halts = large-ends stopped.0 ended stopped.1 stopped.2 halts
  halt-ends refused.WriteFault ended before stopped reads earlier write after halts =
      let risen = write refl in
      let rose : Rose call.writes.0 call.writes.1 = omega (arith, risen, after) in
      rw halts.0 (rose, cut-ends (subst (λ (t : Output). IsCutTold object_of airport commands_limit (rest, left) (call.taken.0, t)) (sym halts.1) stopped))
  halt-ends refused.Memory ended before stopped reads earlier write after halts =
      rw halts.0 (inr (cut-ends (subst (λ (t : Output). IsCutTold object_of airport commands_limit (rest, left) (call.taken.0, t)) (sym halts.1) stopped)))

-- ---- the pieces that are handed over

-- one line alone is written
module _ (call : Call) (names : FileNames) where
  one-line : (line : List ℕ) (whole ended : Status) → (whole ≡ status.Done → ⊥) → EndsWith line whole call.writes call.taken ended → IsInPieces call names ended
  one-line line whole ended other ends = record {
    texts = line ∷ [];
    are = inl (line, refl);
    handed = line-handed line whole ended call.writes call.taken ends;
    done = λ is. absurd (other-status line whole ended status.Done call.writes call.taken ends is other (λ e. cc e) (λ e. cc e));
  }

  pub stop-handed : (why : Stop) (ended : Status) → StopsWith why call.writes call.taken ended → IsInPieces call names ended
  stop-handed (stop.Refused at why) ended stops = one-line (refusal_line (record { at = at; why = why })) status.AirportRefused ended (λ e. cc e) stops
  stop-handed stop.ReadFault ended stops = one-line read_fault_line status.ReadFault ended (λ e. cc e) stops
  stop-handed stop.TooLarge ended stops = one-line too_large_line status.TooLarge ended (λ e. cc e) stops
  stop-handed stop.Memory ended stops = record {
    texts = [] ∷ [];
    are = inl ([], refl);
    handed = handed-nothing call.taken.0 call.taken.1 ([] ∷ []) (ap (λ (o : Output). o.pieces) stops.1);
    done = λ is. absurd (cc (stops.0, is));
  }

module _ (call : Call) (names : FileNames) (airport : Airport) (accepted : IsJudged call.files names.airport (Ok airport)) (rest left : Option (List ℕ)) (between : Output) where
  abbrev texts : List (List ℕ) → List Block → List (List ℕ)
  texts lines blocks = texts_told object_of airport (numbered_among lines) blocks

  objects-and-line : (lines : List (List ℕ)) (blocks : List Block) (after : State) (line : List ℕ) → IsRun airport no_holder (commands_among lines) blocks after
      → AreJsonTexts call.files names (texts lines blocks ++ line ∷ [])
  objects-and-line lines blocks after line run =
      inr (record { airport = airport; accepted = accepted; lines = lines; blocks = blocks; after = after; run = run; last = line; are = refl })

  -- the whole file is read
  whole-handed : (begins : Begins call.files names.commands rest) (count : ℕ) (ended : Status) (faults : ℕ × ℕ) → IsWholeTold object_of airport commands_limit (rest, left) (call.taken.0, between) count
      → EndsWith (done_line count) status.Done faults (between, call.taken.1) ended → IsInPieces call names ended
  whole-handed begins count ended faults whole ends =
      let told = whole.told in
      let objects = texts (lines_of whole.bytes) told.blocks in
      record {
        texts = objects ++ done_line count ∷ [];
        are = objects-and-line (lines_of whole.bytes) told.blocks whole.after (done_line count) told.run;
        handed = handed-on call.taken.0 between call.taken.1 objects (done_line count ∷ []) told.handed (line-handed (done_line count) status.Done ended faults (between, call.taken.1) ends);
        done = λ is. (
          all_told object_of airport (lines_of whole.bytes) told.blocks ++ done_line (length told.blocks),
          record {
            airport = airport;
            commands = whole.bytes;
            accepted = record { accepted = accepted; file = begun-file call.files names.commands rest whole.bytes begins whole.file; within = whole.within };
            blocks = told.blocks;
            after = whole.after;
            run = told.run;
            whole = refl;
          },
          subst (λ (n : ℕ). AreHanded call.taken.0 call.taken.1 (objects ++ done_line n ∷ [])) told.counted
              (handed-all call.taken.0 between call.taken.1 objects (done_line count ∷ []) told.handed (line-handed-whole (done_line count) ended faults (between, call.taken.1) ends is)),
        );
      }

  halted-handed : (taken line : List ℕ) (whole ended : Status) (faults : ℕ × ℕ) → (whole ≡ status.Done → ⊥) → IsHaltedTold object_of airport commands_limit (rest, left) (call.taken.0, between) taken
      → EndsWith line whole faults (between, call.taken.1) ended → IsInPieces call names ended
  halted-handed taken line whole ended faults other halted ends =
      let told = halted.told in
      let objects = texts (ended_lines_of (take commands_limit taken)) told.blocks in
      record {
        texts = objects ++ line ∷ [];
        are = objects-and-line (ended_lines_of (take commands_limit taken)) told.blocks halted.after line told.run;
        handed = handed-on call.taken.0 between call.taken.1 objects (line ∷ []) told.handed (line-handed line whole ended faults (between, call.taken.1) ends);
        done = λ is. absurd (other-status line whole ended status.Done faults (between, call.taken.1) ends is other (λ e. cc e) (λ e. cc e));
      }

  cut-handed : (ended : Status) → (ended ≡ status.Done → ⊥) → IsCutTold object_of airport commands_limit (rest, left) call.taken → IsInPieces call names ended
  cut-handed ended other cut =
      let objects = texts (lines_within commands_limit cut.bytes) cut.blocks in
      record {
        texts = objects ++ [] ∷ [];
        are = objects-and-line (lines_within commands_limit cut.bytes) cut.blocks cut.after [] cut.run;
        handed = handed-longer call.taken.0 call.taken.1 objects ([] ∷ []) cut.handed;
        done = λ is. absurd (other is);
      }

  halt-handed : (why : RunRefused) (ended : Status) (faults : ℕ × ℕ) → IsStoppedTold object_of airport commands_limit (rest, left) (call.taken.0, between) why
      → HaltsWith why faults (between, call.taken.1) ended → IsInPieces call names ended
  halt-handed refused.ReadFault ended faults stopped halts = halted-handed stopped.0 read_fault_line status.ReadFault ended faults (λ e. cc e) stopped.2 halts
  halt-handed refused.TooLarge ended faults stopped halts = halted-handed stopped.0 too_large_line status.TooLarge ended faults (λ e. cc e) stopped.2 halts
  halt-handed refused.WriteFault ended faults stopped halts =
      cut-handed ended (λ is. cc (halts.0, is)) (subst (λ (t : Output). IsCutTold object_of airport commands_limit (rest, left) (call.taken.0, t)) (sym halts.1) stopped)
  halt-handed refused.Memory ended faults stopped halts =
      cut-handed ended (λ is. cc (halts.0, is)) (subst (λ (t : Output). IsCutTold object_of airport commands_limit (rest, left) (call.taken.0, t)) (sym halts.1) stopped)

-- ---- the call as a whole

-- what was told where the run was stopped
kept : (airport : Airport) (left : Told) (given : Pieces) (written : Outputs) (why : RunRefused) → AreStopped airport commands_limit left given written why
    → HasKept (AreTold object_of) (IsPromptTold object_of) airport left given written why
kept airport left given written refused.ReadFault stopped = stopped.0
kept airport left given written refused.TooLarge stopped = stopped.0
kept airport left given written refused.WriteFault stopped = stopped.1 refl
kept airport left given written refused.Memory stopped = tt

run-outcome : (call : Call) (names : FileNames) (airport : Airport) (accepted : IsJudged call.files names.airport (Ok airport)) (rest left : Option (List ℕ)) (first : List (List ℕ)) (between : Output)
    (told : Option Files) (begun : Bool) (before mid : ℕ) (ended : Status) (outcome : Result ℕ RunRefused) → Begins call.files names.commands rest → call.writes.0 ≤ mid → mid ≤ call.writes.1 → call.reads.0 ≤ before
    → HasOutcome (IsWholeTold object_of airport commands_limit) (AreStopped airport commands_limit) done_line
    (record { files = told; reads = (before, call.reads.1); writes = call.writes; begun = begun; left = left; given = call.given; taken = call.taken }) rest first between mid ended outcome
    → Ends call (Some (Json names)) ended × IsInPieces call names ended
run-outcome call names airport accepted rest left first between told begun before mid ended (Ok count) begins later after earlier has = (
  whole-ends call names airport accepted rest left between begins mid later count ended has.0 has.1,
  whole-handed call names airport accepted rest left between begins count ended (mid, call.writes.1) has.0 has.1,
)
run-outcome call names airport accepted rest left first between told begun before mid ended (Err why) begins later after earlier has = (
  halt-ends call names airport accepted rest left between begins mid later why ended before has.0.0 has.2 earlier has.3 after has.1,
  halt-handed call names airport accepted rest left between why ended (mid, call.writes.1) has.0.0 has.1,
)

-- how the run ends ends the call, and it keeps pace with its command file
pub run-ends : (call : Call) (names : FileNames) (airport : Airport) (told : Option Files) (begun : Bool) (left : Option (List ℕ)) (before : ℕ) (ended : Status)
    → IsJudged call.files names.airport (Ok airport) → told ≡ call.files → call.reads.0 ≤ before
    → IsRunEnd (record { files = told; reads = (before, call.reads.1); writes = call.writes; begun = begun; left = left; given = call.given; taken = call.taken }) airport names.commands ended
    → Ends call (Some (Json names)) ended × ObjectsKeepPace call names (commands_left call.files names begun left) ended × IsInPieces call names ended
run-ends call names airport told begun left before ended accepted same earlier ends =
    let both = of ends in (
      both.0,
      run-pace (AreTold object_of) (IsPromptTold object_of) (λ airport now. nothing-told object_of airport now no_holder refl) AreStopped kept done_line call names airport told begun left (before, call.reads.1) ended accepted same ends,
      both.1,
    )
  where
    of : IsRunEnd (record { files = told; reads = (before, call.reads.1); writes = call.writes; begun = begun; left = left; given = call.given; taken = call.taken }) airport names.commands ended
        → Ends call (Some (Json names)) ended × IsInPieces call names ended
    of (inl stopped) = (
      begin-ends call names stopped.why ended before stopped.cause earlier stopped.stops,
      stop-handed call names stopped.why ended stopped.stops,
    )
    of (inr run) =
        run-outcome call names airport accepted run.rest left run.first run.between told begun before run.mid ended run.outcome
        (subst (λ (t : Option Files). Begins t names.commands run.rest) same run.begins) run.later run.after earlier run.has
