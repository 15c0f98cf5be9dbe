-- What is told of the commands among lines: of one more line, and where it is cut short.
use Rattle.std.proofs.Common.{◌≡◌, inl, inr, ◌+◌, ◌-◌, ◌≤◌, ◌++◌, ◌∷◌, ◌∙◌, [], ℕ, List, Bool, true, false, Option, Some, None, Result, Err, length, take, refl, sym, ap, ap₂, subst, append_assoc, append-nil, arith}
use Rattle.std.specs.List.{flat_map}
use Rattle.std.proofs.lemmas.List.{length-append}
use Rattle.std.proofs.lemmas.Grind.{flat_map-append}
use Rattle.taxi_base.specs.Airport.{Airport}
use Rattle.taxi_base.specs.State.{State, no_holder}
use Rattle.taxi_text.specs.Lines.{is_skipped}
use Rattle.taxi_text.specs.FirstLines.{first_line_of, behind_first_line, last_line_of, only_line}
use Rattle.taxi_io.specs.Files.{Gave, GaveByte}
use Rattle.taxi_io.specs.Written.{Output, Grew, Handed, AreHanded, AreHandedInPart}
use Rattle.taxi_io.proofs.Pieces.{grew-nothing, grew-more, gave-more, handed-then, handed-on, handed-part, handed-longer}
use Rattle.taxi_io.specs.declared.trouble.Trouble.{Trouble}
use Rattle.taxi_io.specs.declared.trouble.Trouble.TheVariants as trouble
use Rattle.taxi_io.specs.declared.trouble.ReadRefused.{ReadRefused}
use Rattle.taxi_io.specs.declared.trouble.ReadRefused.TheVariants as reads
use Rattle.replies.specs.declared.block.Block.{Block}
use Rattle.replies.specs.Replies.{IsAnswered}
use Rattle.transcripts.specs.Runs.{IsRun}
use Rattle.transcripts.proofs.RunLaws.{none-sound, in_turn-append, IsRun-sound, in_turn-length, run-over}
use Rattle.command_run.specs.declared.refused.RunRefused.{RunRefused}
use Rattle.command_run.specs.declared.refused.RunRefused.TheVariants as refused
use Rattle.command_run.specs.Ended.{commands_among, ended_lines_of, lines_within}
use Rattle.command_run.specs.HowFar.{Told, Pieces, Outputs, AreLeft, last_piece, IsReadWhole, IsReadUpTo, IsInTime}
use Rattle.command_run.specs.Refusals.{refused_for_read, refused_for_write}
use Rattle.command_run.specs.Told.{Numbered, numbered_from, numbered_among, Telling, texts_told, AreTold, last_text, AreToldBy, IsHandedOn, IsTold, IsCommandCut, IsWholeTold, IsHaltedTold, IsCutTold, IsPromptTold, IsStoppedTold, IsLineTold, IsLineCut}
use Rattle.command_run.proofs.Reading.{among-append, among-skipped, among-holds}
use Rattle.command_run.proofs.Taken.{IsTaken, IsFirst, nothing-taken, taken-fed, taken-dropped, taken-ended, first-in_time, last-in_time, taken-few, lines-few, are-first, whole-lines, whole-file, last-first, ended-at_fault, ended-at_limit, longer-by_one}

-- ---- troubles

-- a write fault comes of a failed write alone
pub failed-of : (why : Trouble) → refused_for_write why ≡ refused.WriteFault → why ≡ trouble.Failed
failed-of trouble.Failed is = refl
failed-of trouble.Memory is = absurd (cc is)

-- where a write ends a run nothing is said of who told
pub write-on : (AreDone : List (List ℕ) → Outputs → ℕ → State → Type 0) (limit : ℕ) (left : Told) (written : Outputs) (why : Trouble) → IsHandedOn AreDone limit left written (refused_for_write why)
write-on AreDone limit left written trouble.Failed = tt
write-on AreDone limit left written trouble.Memory = tt

pub same-err : (result : Result ℕ RunRefused) (one other : RunRefused) → result ≡ Err one → result ≡ Err other → one ≡ other
same-err result one other a b = cc (a, b)

-- ---- numbers

numbered-from : (c d l m : ℕ) (lines : List (List ℕ)) → c ≡ d → l ≡ m → numbered_from c l lines ≡ numbered_from d m lines
numbered-from c d l m lines same_command same_line = ap₂ (λ (x : ℕ) (y : ℕ). numbered_from x y lines) same_command same_line

-- lines that follow are numbered on
pub numbered-append : (command line : ℕ) (lines more : List (List ℕ))
    → numbered_from command line (lines ++ more) ≡ numbered_from command line lines ++ numbered_from (command + length (commands_among lines)) (line + length lines) more
numbered-append command line [] more = numbered-from command (command + 0) line (line + 0) more (omega arith) (omega arith)
numbered-append command line (text ∷ lines) more = go (is_skipped text) refl (λ c l. numbered-append c l lines more) where
  go : (b : Bool) → is_skipped text ≡ b
      → ((c l : ℕ) → numbered_from c l (lines ++ more) ≡ numbered_from c l lines ++ numbered_from (c + length (commands_among lines)) (l + length lines) more)
      → numbered_from command line (text ∷ (lines ++ more)) ≡ numbered_from command line (text ∷ lines) ++ numbered_from (command + length (commands_among (text ∷ lines))) (line + length (text ∷ lines)) more
  go true at rest =
      rw at (rest command (line + 1)
      ∙ ap (λ (n : List Numbered). numbered_from command (line + 1) lines ++ n)
      (numbered-from (command + length (commands_among lines)) (command + length (commands_among lines)) (line + 1 + length lines) (line + length (text ∷ lines)) more refl (omega arith)))
  go false at rest =
      rw at (ap (λ (n : List Numbered). record { command = command; line = line; text = text } ∷ n)
      (rest (command + 1) (line + 1)
      ∙ ap (λ (n : List Numbered). numbered_from (command + 1) (line + 1) lines ++ n)
      (numbered-from (command + 1 + length (commands_among lines)) (command + length (text ∷ commands_among lines)) (line + 1 + length lines) (line + length (text ∷ lines)) more (omega arith) (omega arith))))

pub numbered-count : (command line : ℕ) (lines : List (List ℕ)) → length (numbered_from command line lines) ≡ length (commands_among lines)
numbered-count command line [] = refl
numbered-count command line (text ∷ lines) = go (is_skipped text) refl (λ c l. numbered-count c l lines) where
  go : (b : Bool) → is_skipped text ≡ b → ((c l : ℕ) → length (numbered_from c l lines) ≡ length (commands_among lines)) → length (numbered_from command line (text ∷ lines)) ≡ length (commands_among (text ∷ lines))
  go true at rest = rw at (rest command (line + 1))
  go false at rest = rw at (let more = rest (command + 1) (line + 1) in omega (arith, more))

-- there are no more commands than lines
among-few : (lines : List (List ℕ)) → length (commands_among lines) ≤ length lines
among-few [] = omega arith
among-few (line ∷ lines) = go (is_skipped line) refl (among-few lines) where
  go : (b : Bool) → is_skipped line ≡ b → length (commands_among lines) ≤ length lines → length (commands_among (line ∷ lines)) ≤ length (line ∷ lines)
  go true at rest = rw at (omega (arith, rest))
  go false at rest = rw at (omega (arith, rest))

one-skipped : (command line : ℕ) (text : List ℕ) → is_skipped text ≡ true → numbered_from command line (text ∷ []) ≡ []
one-skipped command line text skipped = rw skipped refl

one-holds : (command line : ℕ) (text : List ℕ) → is_skipped text ≡ false → numbered_from command line (text ∷ []) ≡ record { command = command; line = line; text = text } ∷ []
one-holds command line text holds = rw holds refl

-- ---- texts

pub texts-append : (telling : Telling) (airport : Airport) (commands more : List Numbered) (blocks others : List Block) → length blocks ≡ length commands
    → texts_told telling airport (commands ++ more) (blocks ++ others) ≡ texts_told telling airport commands blocks ++ texts_told telling airport more others
texts-append telling airport [] more [] others same = refl
texts-append telling airport [] more (block ∷ blocks) others same = absurd (omega (arith, same))
texts-append telling airport (command ∷ commands) more [] others same = absurd (omega (arith, same))
texts-append telling airport (command ∷ commands) more (block ∷ blocks) others same =
    ap (λ (t : List (List ℕ)). telling airport command block ∷ t) (texts-append telling airport commands more blocks others (omega (arith, same)))

abbrev joined : List (List ℕ) → List ℕ
joined texts = flat_map (λ text. text) texts

joined-append : (texts more : List (List ℕ)) → joined (texts ++ more) ≡ joined texts ++ joined more
joined-append texts more = flat_map-append (λ (text : List ℕ). text) texts more

joined-one : (texts : List (List ℕ)) (text : List ℕ) → joined (texts ++ text ∷ []) ≡ joined texts ++ text
joined-one texts text = joined-append texts (text ∷ []) ∙ ap (λ (t : List ℕ). joined texts ++ t) (append-nil text)

last_text-one : (before : List ℕ) (texts : List (List ℕ)) (text : List ℕ) → last_text before (texts ++ text ∷ []) ≡ text
last_text-one before [] text = refl
last_text-one before (first ∷ texts) text = last_text-one first texts text

module _ (telling : Telling) (airport : Airport) where
  -- ---- lines that are told

  pub nothing-told : (now : Output) (state : State) → state ≡ no_holder → AreTold telling airport [] (now, now) 0 state
  nothing-told now state fresh = record { blocks = []; run = fresh; grew = grew-nothing now; handed = refl; counted = refl }

  -- the same of other lines with the same commands
  told-by : (lines others : List (List ℕ)) (w0 w1 : Output) (count : ℕ) (after : State) → commands_among lines ≡ commands_among others → numbered_among lines ≡ numbered_among others
      → AreTold telling airport lines (w0, w1) count after → AreTold telling airport others (w0, w1) count after
  told-by lines others w0 w1 count after same numbers told = record {
    blocks = told.blocks;
    run = subst (λ (c : List (List ℕ)). IsRun airport no_holder c told.blocks after) same told.run;
    grew = subst (λ (n : List Numbered). Grew w0 w1 (joined (texts_told telling airport n told.blocks))) numbers told.grew;
    handed = subst (λ (n : List Numbered). AreHanded w0 w1 (texts_told telling airport n told.blocks)) numbers told.handed;
    counted = told.counted;
  }

  -- there is a block for each command
  pub told-count : (lines : List (List ℕ)) (blocks : List Block) (after : State) → IsRun airport no_holder (commands_among lines) blocks after → length blocks ≡ length (numbered_among lines)
  told-count lines blocks after run = in_turn-length IsAnswered airport no_holder after (commands_among lines) blocks run ∙ sym (numbered-count 1 1 lines)

  module _ (lines : List (List ℕ)) (w0 w1 : Output) (count : ℕ) (state : State) (told : AreTold telling airport lines (w0, w1) count state) where
    -- the texts so far, and the number of the next command
    abbrev texts : List (List ℕ)
    texts = texts_told telling airport (numbered_among lines) told.blocks

    next-command : 1 + length (commands_among lines) ≡ count + 1
    next-command = let blocks = in_turn-length IsAnswered airport no_holder state (commands_among lines) told.blocks told.run in let counted = told.counted in omega (arith, blocks, counted)

    -- a line more that holds no command
    pub told-skipped : (line : List ℕ) → is_skipped line ≡ true → AreTold telling airport (lines ++ line ∷ []) (w0, w1) count state
    told-skipped line skipped =
        told-by lines (lines ++ line ∷ []) w0 w1 count state
        (sym (among-append lines (line ∷ []) ∙ ap (λ (c : List (List ℕ)). commands_among lines ++ c) (among-skipped line skipped) ∙ append-nil (commands_among lines)))
        (sym (numbered-append 1 1 lines (line ∷ []) ∙ ap (λ (n : List Numbered). numbered_among lines ++ n) (one-skipped (1 + length (commands_among lines)) (1 + length lines) line skipped) ∙ append-nil (numbered_among lines)))
        told

    module _ (line : List ℕ) (number : ℕ) (is : number ≡ length lines + 1) (holds : is_skipped line ≡ false) where
      abbrev command : Numbered
      command = record { command = count + 1; line = number; text = line }

      numbers : numbered_among (lines ++ line ∷ []) ≡ numbered_among lines ++ command ∷ []
      numbers =
          numbered-append 1 1 lines (line ∷ [])
          ∙ ap (λ (n : List Numbered). numbered_among lines ++ n)
          (one-holds (1 + length (commands_among lines)) (1 + length lines) line holds
          ∙ ap₂ (λ (c : ℕ) (l : ℕ). record { command = c; line = l; text = line } ∷ []) next-command (omega (arith, is)))

      commands : commands_among (lines ++ line ∷ []) ≡ commands_among lines ++ line ∷ []
      commands = among-append lines (line ∷ []) ∙ ap (λ (c : List (List ℕ)). commands_among lines ++ c) (among-holds line holds)

      module _ (text : List ℕ) (after : State) (one : IsTold telling airport state command text after) where
        more-run : IsRun airport no_holder (commands_among (lines ++ line ∷ [])) (told.blocks ++ one.block ∷ []) after
        more-run =
            subst (λ (c : List (List ℕ)). IsRun airport no_holder c (told.blocks ++ one.block ∷ []) after) (sym commands)
            (in_turn-append IsAnswered airport no_holder state after (commands_among lines) (line ∷ []) told.blocks (one.block ∷ []) told.run (after, one.answered, refl))

        more-texts : texts_told telling airport (numbered_among (lines ++ line ∷ [])) (told.blocks ++ one.block ∷ []) ≡ texts ++ text ∷ []
        more-texts =
            ap (λ (n : List Numbered). texts_told telling airport n (told.blocks ++ one.block ∷ [])) numbers
            ∙ texts-append telling airport (numbered_among lines) (command ∷ []) told.blocks (one.block ∷ []) (told-count lines told.blocks state told.run)
            ∙ ap (λ (t : List ℕ). texts ++ t ∷ []) (sym one.is_text)

        -- a line more, whose command is told
        pub told-line : (w2 : Output) → Grew w1 w2 text → Handed w1 w2 text → AreTold telling airport (lines ++ line ∷ []) (w0, w2) (count + 1) after
        told-line w2 grew handed = record {
          blocks = told.blocks ++ one.block ∷ [];
          run = more-run;
          grew = subst (Grew w0 w2) (sym (ap joined more-texts ∙ joined-one texts text)) (grew-more w0 w1 w2 (joined texts) text told.grew grew);
          handed = subst (AreHanded w0 w2) (sym more-texts) (handed-then w0 w1 w2 texts text told.handed handed);
          counted = let counted = told.counted in let l = length-append told.blocks (one.block ∷ []) in omega (arith, counted, l);
        }

  -- ---- by whom they are told

  module _ (lines : List (List ℕ)) (w0 w1 : Output) (count : ℕ) (state : State) (l0 l1 : List ℕ) (by : AreToldBy telling airport (l0, l1) state lines (w0, w1) count state) where
    by-skipped : (line : List ℕ) → is_skipped line ≡ true → AreToldBy telling airport (l0, l1) state (lines ++ line ∷ []) (w0, w1) count state
    unfolding told-skipped told-by
    by-skipped line skipped = record {
      told = told-skipped lines w0 w1 count state by.told line skipped;
      in_force = refl;
      last_told = by.last_told ∙ ap (λ (n : List Numbered). last_text l0 (texts_told telling airport n by.told.blocks))
          (sym (numbered-append 1 1 lines (line ∷ []) ∙ ap (λ (n : List Numbered). numbered_among lines ++ n) (one-skipped (1 + length (commands_among lines)) (1 + length lines) line skipped) ∙ append-nil (numbered_among lines)));
    }

    by-line : (line : List ℕ) (number : ℕ) (is : number ≡ length lines + 1) (holds : is_skipped line ≡ false) (text : List ℕ) (after : State)
        → IsTold telling airport state (record { command = count + 1; line = number; text = line }) text after → (w2 : Output) → Grew w1 w2 text → Handed w1 w2 text
        → AreToldBy telling airport (l0, text) after (lines ++ line ∷ []) (w0, w2) (count + 1) after
    unfolding told-line
    by-line line number is holds text after one w2 grew handed = record {
      told = told-line lines w0 w1 count state by.told line number is holds text after one w2 grew handed;
      in_force = refl;
      last_told = sym (ap (last_text l0) (more-texts lines w0 w1 count state by.told line number is holds text after one) ∙ last_text-one l0 (texts lines w0 w1 count state by.told) text);
    }

  -- ---- cut short

  -- a front is written of what is told of some lines, and the run goes on over the others
  cut-over : (limit : ℕ) (old left : Option (List ℕ)) (lines : List (List ℕ)) (blocks : List Block) (between : State) (front behind : List ℕ) (w0 now : Output) → IsFirst limit old lines
      → IsRun airport no_holder (commands_among lines) blocks between → front ++ behind ≡ joined (texts_told telling airport (numbered_among lines) blocks) → Grew w0 now front
      → AreHandedInPart w0 now (texts_told telling airport (numbered_among lines) blocks) → IsCutTold telling airport limit (old, left) (w0, now)
  cut-over limit old left lines blocks between front behind w0 now first run split grew handed =
      let going_on = run-over airport between (commands_among first.rest) (IsRun-sound airport no_holder between (commands_among lines) blocks run (none-sound airport)) in
      let texts = texts_told telling airport (numbered_among lines) blocks in
      let others = texts_told telling airport (numbered_from (1 + length (commands_among lines)) (1 + length lines) first.rest) going_on.0 in
      let all : texts_told telling airport (numbered_among (lines_within limit first.bytes)) (blocks ++ going_on.0) ≡ texts ++ others =
      ap (λ (l : List (List ℕ)). texts_told telling airport (numbered_among l) (blocks ++ going_on.0)) first.split
      ∙ ap (λ (n : List Numbered). texts_told telling airport n (blocks ++ going_on.0)) (numbered-append 1 1 lines first.rest)
      ∙ texts-append telling airport (numbered_among lines) (numbered_from (1 + length (commands_among lines)) (1 + length lines) first.rest) blocks going_on.0 (told-count lines blocks between run) in
      record {
        bytes = first.bytes;
        file = first.file_is;
        blocks = blocks ++ going_on.0;
        after = going_on.1;
        run = subst (λ (c : List (List ℕ)). IsRun airport no_holder c (blocks ++ going_on.0) going_on.1) (sym (ap commands_among first.split ∙ among-append lines first.rest))
            (in_turn-append IsAnswered airport no_holder between going_on.1 (commands_among lines) (commands_among first.rest) blocks going_on.0 run going_on.2);
        front = front;
        behind = behind ++ joined others;
        split = sym (append_assoc front behind (joined others)) ∙ ap (λ (t : List ℕ). t ++ joined others) split ∙ sym (ap joined all ∙ joined-append texts others);
        grew = grew;
        handed = subst (AreHandedInPart w0 now) (sym all) (handed-longer w0 now texts others handed);
      }

  module _ (limit : ℕ) (old left : Option (List ℕ)) (lines : List (List ℕ)) (w0 w1 : Output) (count : ℕ) (state : State) (told : AreTold telling airport lines (w0, w1) count state) where
    -- nothing more is written
    pub told-stays : IsFirst limit old lines → IsCutTold telling airport limit (old, left) (w0, w1)
    told-stays first =
        let texts = texts_told telling airport (numbered_among lines) told.blocks in
        cut-over limit old left lines told.blocks state (joined texts) [] w0 w1 first told.run (append-nil (joined texts)) told.grew (handed-part w0 w1 texts told.handed)

    -- one line more is cut short
    pub told-cut : (line : List ℕ) (number : ℕ) (now : Output) → number ≡ length lines + 1 → IsFirst limit old lines → IsFirst limit old (lines ++ line ∷ [])
        → IsLineCut telling airport state count number line (w1, now) → IsCutTold telling airport limit (old, left) (w0, now)
    told-cut line number now is first next (inl nothing) = subst (λ (w : Output). IsCutTold telling airport limit (old, left) (w0, w)) (sym nothing) (told-stays first)
    told-cut line number now is first next (inr cut) =
        let texts = texts_told telling airport (numbered_among lines) told.blocks in
        let same = more-texts lines w0 w1 count state told line number is cut.holds cut.text cut.after cut.told in
        cut-over limit old left (lines ++ line ∷ []) (told.blocks ++ cut.told.block ∷ []) cut.after (joined texts ++ cut.front.0) cut.front.1 w0 now next
        (more-run lines w0 w1 count state told line number is cut.holds cut.text cut.after cut.told)
        (append_assoc (joined texts) cut.front.0 cut.front.1 ∙ ap (λ (t : List ℕ). joined texts ++ t) cut.front.2 ∙ sym (ap joined same ∙ joined-one texts cut.text))
        (grew-more w0 w1 now (joined texts) cut.front.0 told.grew cut.front.4)
        (subst (AreHandedInPart w0 now) (sym same) (handed-on w0 w1 now texts (cut.text ∷ []) told.handed (inl (inr cut.in_part))))

  -- ---- by whom, where a run ends

  pub whole-told : (limit : ℕ) (old left : Option (List ℕ)) (w0 w1 : Output) (last : List ℕ × List ℕ) (state : State) (count : ℕ)
      → IsReadWhole (AreToldBy telling airport last state) limit (old, left) (w0, w1) count → IsWholeTold telling airport limit (old, left) (w0, w1) count
  whole-told limit old left w0 w1 last state count whole = record {
    bytes = whole.bytes;
    gave = whole.gave;
    file = whole.file;
    at_end = whole.at_end;
    within = whole.within;
    after = whole.after;
    told = whole.told.told;
  }

  halted-told : (limit : ℕ) (old left : Option (List ℕ)) (taken : List ℕ) (w0 w1 : Output) (last : List ℕ × List ℕ) (state : State)
      → IsReadUpTo (AreToldBy telling airport last state) limit (old, left) (w0, w1) taken → IsHaltedTold telling airport limit (old, left) (w0, w1) taken
  halted-told limit old left taken w0 w1 last state halted = record { gave = halted.gave; count = halted.count; after = halted.after; told = halted.told.told }

  -- ---- so far

  -- the lines that are read of the file are told, and so many they are
  pub record IsToldSoFar (limit : ℕ) (left : Told) (given : Pieces) (written : Outputs) (kept : List ℕ) (room number count : ℕ) (last : List ℕ × List ℕ) (state : State) : Type 0 where
    pub read : List (List ℕ)
    pub taken : IsTaken limit left given kept room read
    pub numbered : number ≡ length read
    pub by : AreToldBy telling airport last state read written count state

  pub so_far-nothing : (limit : ℕ) (left : Option (List ℕ)) (given : List (List ℕ)) (now : Output) (last : List ℕ) (state : State) → state ≡ no_holder
      → IsToldSoFar limit (left, left) (given, given) (now, now) [] limit 0 0 (last, last) state
  so_far-nothing limit left given now last state fresh = record {
    read = [];
    taken = nothing-taken limit left given;
    numbered = refl;
    by = record { told = nothing-told now state fresh; in_force = refl; last_told = refl };
  }

  module _ (limit : ℕ) (old left : Option (List ℕ)) (given : Pieces) (w0 w1 : Output) (kept : List ℕ) (room number count : ℕ) (l0 l1 : List ℕ) (state : State)
      (so_far : IsToldSoFar limit (old, left) given (w0, w1) kept room number count (l0, l1) state) where
    pub told-fed : (next : Option (List ℕ)) (now : List (List ℕ)) (piece : List ℕ) (more : ℕ) → first_line_of kept ≡ None → Gave left next piece → now ≡ given.1 ++ piece ∷ []
        → length piece ≤ 4096 → length piece ≤ room → more ≡ room - length piece → IsToldSoFar limit (old, next) (given.0, now) (w0, w1) (kept ++ piece) more number count (l0, l1) state
    told-fed next now piece more none gave told few within less = record {
      read = so_far.read;
      taken = taken-fed limit old left given kept room so_far.read so_far.taken next now piece more none gave told few within less;
      numbered = so_far.numbered;
      by = so_far.by;
    }

    -- the file has ended, as the last read told, which gave nothing
    pub told-ended : (next : Option (List ℕ)) (now : List (List ℕ)) (piece : List ℕ) → next ≡ left → now ≡ given.1 ++ piece ∷ [] → piece ≡ [] → first_line_of kept ≡ None
        → (ended : IsToldSoFar limit (old, next) (given.0, now) (w0, w1) kept room number count (l0, l1) state) × (last_piece ended.taken.pieces ≡ [])
    told-ended next now piece same told nothing none =
        let ended = taken-ended limit old left given kept room so_far.read so_far.taken next now piece same told nothing none in (
          record { read = so_far.read; taken = ended.0; numbered = so_far.numbered; by = so_far.by },
          ended.1,
        )

    -- the number of the next line
    next-number : number + 1 ≡ length so_far.read + 1
    next-number = let numbered = so_far.numbered in omega (arith, numbered)

    -- a line more is told
    one-more : (line l2 : List ℕ) (w2 : Output) (few : ℕ) (after : State) → IsLineTold telling airport state count (number + 1) line (l1, l2) (w1, w2) few after
        → AreToldBy telling airport (l0, l2) after (so_far.read ++ line ∷ []) (w0, w2) (count + few) after
    one-more line l2 w2 few after (inl (skipped, none, same, kept_state, kept_text)) =
        let none_more : count ≡ count + few = omega (arith, none) in
        subst (λ (n : ℕ). AreToldBy telling airport (l0, l2) after (so_far.read ++ line ∷ []) (w0, w2) n after) none_more
        (subst (λ (w : Output). AreToldBy telling airport (l0, l2) after (so_far.read ++ line ∷ []) (w0, w) count after) (sym same)
        (subst (λ (s : State). AreToldBy telling airport (l0, l2) s (so_far.read ++ line ∷ []) (w0, w1) count s) (sym kept_state)
        (subst (λ (l : List ℕ). AreToldBy telling airport (l0, l) state (so_far.read ++ line ∷ []) (w0, w1) count state) (sym kept_text)
        (by-skipped so_far.read w0 w1 count state l0 l1 so_far.by line skipped))))
    one-more line l2 w2 few after (inr (holds, one, told, grew, handed)) =
        let one_more : count + 1 ≡ count + few = omega (arith, one) in
        subst (λ (n : ℕ). AreToldBy telling airport (l0, l2) after (so_far.read ++ line ∷ []) (w0, w2) n after) one_more
        (by-line so_far.read w0 w1 count state l0 l1 so_far.by line (number + 1) next-number holds l2 after told w2 grew handed)

    pub told-first : (line : List ℕ) → first_line_of kept ≡ Some line → (l2 : List ℕ) (w2 : Output) (few : ℕ) (after : State) → IsLineTold telling airport state count (number + 1) line (l1, l2) (w1, w2) few after
        → IsToldSoFar limit (old, left) given (w0, w2) (behind_first_line kept) room (number + 1) (count + few) (l0, l2) after
    told-first line first l2 w2 few after line_told = record {
      read = so_far.read ++ line ∷ [];
      taken = taken-dropped limit old left given kept room so_far.read so_far.taken line first;
      numbered = let numbered = so_far.numbered in let l = length-append so_far.read (line ∷ []) in omega (arith, numbered, l);
      by = one-more line l2 w2 few after line_told;
    }

    -- there are no more lines than bytes, and no more commands than lines
    pub numbers-few : (number ≤ limit) × (count ≤ limit)
    numbers-few =
        let lines = lines-few limit old left given kept room so_far.read so_far.taken in
        let numbered = so_far.numbered in
        let counted = so_far.by.told.counted in
        let blocks = in_turn-length IsAnswered airport no_holder state (commands_among so_far.read) so_far.by.told.blocks so_far.by.told.run in
        let fewer = among-few so_far.read in
        (omega (arith, lines, numbered), omega (arith, lines, counted, blocks, fewer))

    -- ---- how it ends

    -- memory runs out between two lines, perhaps with a piece more taken
    pub so_far-left : (next : Option (List ℕ)) → IsCutTold telling airport limit (old, next) (w0, w1)
    so_far-left next = told-stays limit old next so_far.read w0 w1 count state so_far.by.told (are-first limit old left given kept room so_far.read so_far.taken)

    -- what is told of the next line is cut short
    cut-stops : (why : Trouble) (now : Output) → IsCutTold telling airport limit (old, left) (w0, now) → IsStoppedTold telling airport limit (old, left) (w0, now) (refused_for_write why)
    cut-stops trouble.Failed now cut = cut
    cut-stops trouble.Memory now cut = cut

    prompt-of : (line : List ℕ) (now : Output) → IsInTime (old, left) given so_far.read line → IsCommandCut telling airport state (record { command = count + 1; line = number + 1; text = line }) (w1, now)
        → IsPromptTold telling airport (old, left) given (w0, now)
    prompt-of line now in_time cut = record {
      before = so_far.read;
      line = line;
      in_time = in_time;
      between = w1;
      count = count;
      state = state;
      told = so_far.by.told;
      cut = subst (λ (n : ℕ). IsCommandCut telling airport state (record { command = count + 1; line = n; text = line }) (w1, now)) next-number cut;
    }

    -- that of the first line that has ended
    pub first-stops : (line : List ℕ) → first_line_of kept ≡ Some line → (now : Output) → IsLineCut telling airport state count (number + 1) line (w1, now) → (why : Trouble)
        → IsStoppedTold telling airport limit (old, left) (w0, now) (refused_for_write why)
    first-stops line first now cut why =
        cut-stops why now (told-cut limit old left so_far.read w0 w1 count state so_far.by.told line (number + 1) now next-number
        (are-first limit old left given kept room so_far.read so_far.taken)
        (are-first limit old left given (behind_first_line kept) room (so_far.read ++ line ∷ []) (taken-dropped limit old left given kept room so_far.read so_far.taken line first)) cut)

    pub first-prompt : (line : List ℕ) → first_line_of kept ≡ Some line → (now : Output) → IsCommandCut telling airport state (record { command = count + 1; line = number + 1; text = line }) (w1, now)
        → IsPromptTold telling airport (old, left) given (w0, now)
    first-prompt line first now cut = prompt-of line now (first-in_time limit old left given kept room so_far.read so_far.taken line first) cut

    module _ (none : first_line_of kept ≡ None) where
      -- that of the last line, which has no line feed
      pub last-stops : (line : List ℕ) → last_line_of kept ≡ Some line → AreLeft left [] → (now : Output) → IsLineCut telling airport state count (number + 1) line (w1, now) → (why : Trouble)
          → IsStoppedTold telling airport limit (old, left) (w0, now) (refused_for_write why)
      last-stops line last ended now cut why =
          cut-stops why now (told-cut limit old left so_far.read w0 w1 count state so_far.by.told line (number + 1) now next-number
          (are-first limit old left given kept room so_far.read so_far.taken) (last-first limit old left given kept room so_far.read so_far.taken none line last ended) cut)

      pub last-prompt : (line : List ℕ) → last_line_of kept ≡ Some line → last_piece so_far.taken.pieces ≡ [] → (now : Output)
          → IsCommandCut telling airport state (record { command = count + 1; line = number + 1; text = line }) (w1, now) → IsPromptTold telling airport (old, left) given (w0, now)
      last-prompt line last ended now cut = prompt-of line now (last-in_time limit old left given kept room so_far.read so_far.taken none line last ended) cut

      whole-with : (lines : List (List ℕ)) (l2 : List ℕ) (w2 : Output) (n : ℕ) (after : State) → AreLeft left [] → so_far.read ++ only_line (last_line_of kept) ≡ lines
          → AreToldBy telling airport (l0, l2) after lines (w0, w2) n after → IsReadWhole (AreToldBy telling airport (l0, l2) after) limit (old, left) (w0, w2) n
      whole-with lines l2 w2 n after ended are told = record {
        bytes = so_far.taken.front ++ kept;
        gave = so_far.taken.gave;
        file = whole-file limit old left given kept room so_far.read so_far.taken none ended;
        at_end = ended;
        within = taken-few limit old left given kept room so_far.read so_far.taken;
        after = after;
        told = subst (λ (l : List (List ℕ)). AreToldBy telling airport (l0, l2) after l (w0, w2) n after) (sym (whole-lines limit old left given kept room so_far.read so_far.taken none ∙ are)) told;
      }

      -- the file is read to its end, and its last line is told too
      pub by-last : (line : List ℕ) → last_line_of kept ≡ Some line → AreLeft left [] → (l2 : List ℕ) (w2 : Output) (few : ℕ) (after : State)
          → IsLineTold telling airport state count (number + 1) line (l1, l2) (w1, w2) few after → IsReadWhole (AreToldBy telling airport (l0, l2) after) limit (old, left) (w0, w2) (count + few)
      by-last line last ended l2 w2 few after line_told =
          whole-with (so_far.read ++ line ∷ []) l2 w2 (count + few) after ended (ap (λ (l : Option (List ℕ)). so_far.read ++ only_line l) last) (one-more line l2 w2 few after line_told)

      -- or there is none
      pub by-none : last_line_of kept ≡ None → AreLeft left [] → IsReadWhole (AreToldBy telling airport (l0, l1) state) limit (old, left) (w0, w1) count
      by-none last ended =
          whole-with so_far.read l1 w1 count state ended (ap (λ (l : Option (List ℕ)). so_far.read ++ only_line l) last ∙ append-nil so_far.read) so_far.by

      halted-with : (next : Option (List ℕ)) (taken : List ℕ) → Gave old next taken → so_far.read ≡ ended_lines_of (take limit taken)
          → IsReadUpTo (AreToldBy telling airport (l0, l1) state) limit (old, next) (w0, w1) taken
      halted-with next taken gave are = record {
        gave = gave;
        count = count;
        after = state;
        told = subst (λ (l : List (List ℕ)). AreToldBy telling airport (l0, l1) state l (w0, w1) count state) are so_far.by;
      }

      -- a read fails, or gives one byte too many
      pub read-stops : (next : Option (List ℕ)) (why : ReadRefused) → (why ≡ reads.TooLarge → (room ≡ 0) × GaveByte left next) → (why ≡ reads.Fault → next ≡ left)
          → IsStoppedTold telling airport limit (old, next) (w0, w1) (refused_for_read why) × IsHandedOn (AreToldBy telling airport (l0, l1) state) limit (old, next) (w0, w1) (refused_for_read why)
      read-stops next reads.Fault large same =
          let stays = same refl in
          let few = taken-few limit old left given kept room so_far.read so_far.taken in
          let halted = halted-with next (so_far.taken.front ++ kept) (subst (λ (l : Option (List ℕ)). Gave old l (so_far.taken.front ++ kept)) (sym stays) so_far.taken.gave)
          (sym (ended-at_fault limit old left given kept room so_far.read so_far.taken none)) in (
            (so_far.taken.front ++ kept, few, halted-told limit old next (so_far.taken.front ++ kept) w0 w1 (l0, l1) state halted),
            (so_far.taken.front ++ kept, halted),
          )
      read-stops next reads.TooLarge large same =
          let byte = large refl in
          let taken = (so_far.taken.front ++ kept) ++ byte.1.0 ∷ [] in
          let long = longer-by_one limit old left given kept room so_far.read so_far.taken none byte.1.0 byte.0 in
          let halted = halted-with next taken (gave-more old left next (so_far.taken.front ++ kept) (byte.1.0 ∷ []) so_far.taken.gave byte.1.1)
          (sym (ended-at_limit limit old left given kept room so_far.read so_far.taken none byte.1.0 byte.0)) in (
            (taken, omega (arith, long), halted-told limit old next taken w0 w1 (l0, l1) state halted),
            (taken, halted),
          )
      read-stops next reads.Memory large same = (so_far-left next, tt)

  -- nothing was read, and nothing is told
  pub unread-cut : (limit : ℕ) (left : Option (List ℕ)) (now : Output) → IsCutTold telling airport limit (left, left) (now, now)
  unread-cut limit left now = so_far-left limit left left ([], []) now now [] limit 0 0 [] [] no_holder (so_far-nothing limit left [] now [] no_holder refl) left
