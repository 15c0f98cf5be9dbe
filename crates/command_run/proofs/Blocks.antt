-- What is told of a router's commands is their blocks: a run that is told so answers them.
use Rattle.std.proofs.Common.{◌≡◌, ◌∙◌, ◌+◌, ◌++◌, ◌∷◌, [], ℕ, List, Option, Result, Ok, Err, IfOk, IfErr, length, refl, ap, subst, arith}
use Rattle.std.specs.Prelude.{IsErrOf}
use Rattle.std.specs.List.{flat_map}
use Rattle.taxi_base.specs.Airport.{Airport}
use Rattle.taxi_base.specs.State.{State, no_holder}
use Rattle.taxi_io.specs.Written.{Output, Grew, GrewInPart, HandedInPart, AreHanded, AreHandedInPart}
use Rattle.taxi_io.proofs.Pieces.{grew-nothing}
use Rattle.replies.specs.declared.block.Block.{Block}
use Rattle.replies.specs.Texts.{block_text}
use Rattle.transcripts.specs.Runs.{IsRun, blocks_text}
use Rattle.command_run.specs.declared.refused.RunRefused.{RunRefused}
use Rattle.command_run.specs.declared.refused.RunRefused.TheVariants as refused
use Rattle.command_run.specs.Ended.{commands_among, lines_within}
use Rattle.command_run.specs.HowFar.{Pieces, IsReadWhole, IsReadUpTo}
use Rattle.command_run.specs.Answered.{texts_of, AreAnswered, LinesAreAnswered, AreAnsweredBy, IsBlockCut, IsWholeRun, IsHaltedRun, IsCutRun, IsPrompt, IsStopped}
use Rattle.command_run.specs.Told.{Numbered, numbered_among, texts_told, all_told, block_told, AreTold, last_text, AreToldBy, IsCommandCut, IsWholeTold, IsHaltedTold, IsCutTold, IsPromptTold, IsStoppedTold, IsHandedOn}
use Rattle.command_run.proofs.Told.{told-count, unread-cut}

pub none-answered : (airport : Airport) (before after : State) (now : Output) → after ≡ before → AreAnswered airport before [] (now, now) 0 after
none-answered airport before after now same = record { blocks = []; run = same; grew = grew-nothing now; handed = refl; counted = refl }

-- ---- texts

-- of each command its block's text is told
texts-are : (airport : Airport) (commands : List Numbered) (blocks : List Block) → length blocks ≡ length commands → texts_told block_told airport commands blocks ≡ texts_of airport blocks
texts-are airport [] [] same = refl
texts-are airport [] (block ∷ blocks) same = absurd (omega (arith, same))
texts-are airport (command ∷ commands) [] same = absurd (omega (arith, same))
texts-are airport (command ∷ commands) (block ∷ blocks) same =
    ap (λ (t : List (List ℕ)). block_text airport block ∷ t) (texts-are airport commands blocks (omega (arith, same)))

joined-texts : (airport : Airport) (blocks : List Block) → flat_map (λ text. text) (texts_of airport blocks) ≡ blocks_text airport blocks
joined-texts airport [] = refl
joined-texts airport (block ∷ blocks) = ap (λ (t : List ℕ). block_text airport block ++ t) (joined-texts airport blocks)

module _ (airport : Airport) where
  module _ (lines : List (List ℕ)) (blocks : List Block) (after : State) (run : IsRun airport no_holder (commands_among lines) blocks after) where
    all-texts : texts_told block_told airport (numbered_among lines) blocks ≡ texts_of airport blocks
    all-texts = texts-are airport (numbered_among lines) blocks (told-count block_told airport lines blocks after run)

    all-blocks : all_told block_told airport lines blocks ≡ blocks_text airport blocks
    all-blocks = ap (λ (t : List (List ℕ)). flat_map (λ text. text) t) all-texts ∙ joined-texts airport blocks

  -- ---- how much is answered

  lines-answered : (lines : List (List ℕ)) (w0 w1 : Output) (count : ℕ) (after : State) → AreTold block_told airport lines (w0, w1) count after → LinesAreAnswered airport lines (w0, w1) count after
  lines-answered lines w0 w1 count after told = record {
    blocks = told.blocks;
    run = told.run;
    grew = subst (Grew w0 w1) (all-blocks lines told.blocks after told.run) told.grew;
    handed = subst (AreHanded w0 w1) (all-texts lines told.blocks after told.run) told.handed;
    counted = told.counted;
  }

  answered-by : (last : List ℕ × List ℕ) (state : State) (lines : List (List ℕ)) (w0 w1 : Output) (count : ℕ) (after : State)
      → AreToldBy block_told airport last state lines (w0, w1) count after → AreAnsweredBy airport last state lines (w0, w1) count after
  unfolding lines-answered
  answered-by last state lines w0 w1 count after by = record {
    answered = lines-answered lines w0 w1 count after by.told;
    in_force = by.in_force;
    last_reply = by.last_told ∙ ap (last_text last.0) (all-texts lines by.told.blocks after by.told.run);
  }

  module _ (limit : ℕ) (old left : Option (List ℕ)) (w0 w1 : Output) where
    whole-by : (last : List ℕ × List ℕ) (state : State) (count : ℕ) → IsReadWhole (AreToldBy block_told airport last state) limit (old, left) (w0, w1) count
        → IsReadWhole (AreAnsweredBy airport last state) limit (old, left) (w0, w1) count
    whole-by last state count whole = record {
      bytes = whole.bytes;
      gave = whole.gave;
      file = whole.file;
      at_end = whole.at_end;
      within = whole.within;
      after = whole.after;
      told = answered-by last state _ w0 w1 count whole.after whole.told;
    }

    halted-by : (last : List ℕ × List ℕ) (state : State) (taken : List ℕ) → IsReadUpTo (AreToldBy block_told airport last state) limit (old, left) (w0, w1) taken
        → IsReadUpTo (AreAnsweredBy airport last state) limit (old, left) (w0, w1) taken
    halted-by last state taken halted = record {
      gave = halted.gave;
      count = halted.count;
      after = halted.after;
      told = answered-by last state _ w0 w1 halted.count halted.after halted.told;
    }

    on-by : (last : List ℕ × List ℕ) (state : State) (why : RunRefused) → IsHandedOn (AreToldBy block_told airport last state) limit (old, left) (w0, w1) why
        → IsHandedOn (AreAnsweredBy airport last state) limit (old, left) (w0, w1) why
    on-by last state refused.ReadFault on = (on.0, halted-by last state on.0 on.1)
    on-by last state refused.TooLarge on = (on.0, halted-by last state on.0 on.1)
    on-by last state refused.WriteFault on = tt
    on-by last state refused.Memory on = tt

    -- who answered is handed on
    pub whole-handed_on : (last : List ℕ × List ℕ) (state : State) (result : Result ℕ RunRefused) → IfOk result (IsReadWhole (AreToldBy block_told airport last state) limit (old, left) (w0, w1))
        → IfOk result (IsReadWhole (AreAnsweredBy airport last state) limit (old, left) (w0, w1))
    whole-handed_on last state (Ok count) whole = whole-by last state count whole
    whole-handed_on last state (Err why) whole = tt

    pub stopped-handed_on : (last : List ℕ × List ℕ) (state : State) (result : Result ℕ RunRefused) → IfErr result (IsHandedOn (AreToldBy block_told airport last state) limit (old, left) (w0, w1))
        → IfErr result (IsHandedOn (AreAnsweredBy airport last state) limit (old, left) (w0, w1))
    stopped-handed_on last state (Ok count) on = tt
    stopped-handed_on last state (Err why) on = on-by last state why on

    whole-run : (count : ℕ) → IsWholeTold block_told airport limit (old, left) (w0, w1) count → IsWholeRun airport limit (old, left) (w0, w1) count
    whole-run count whole = record {
      bytes = whole.bytes;
      gave = whole.gave;
      file = whole.file;
      at_end = whole.at_end;
      within = whole.within;
      after = whole.after;
      told = lines-answered _ w0 w1 count whole.after whole.told;
    }

    halted-run : (taken : List ℕ) → IsHaltedTold block_told airport limit (old, left) (w0, w1) taken → IsHaltedRun airport limit (old, left) (w0, w1) taken
    halted-run taken halted = record {
      gave = halted.gave;
      count = halted.count;
      after = halted.after;
      told = lines-answered _ w0 w1 halted.count halted.after halted.told;
    }

    cut-run : IsCutTold block_told airport limit (old, left) (w0, w1) → IsCutRun airport limit (old, left) (w0, w1)
    cut-run cut = record {
      bytes = cut.bytes;
      file = cut.file;
      blocks = cut.blocks;
      after = cut.after;
      run = cut.run;
      front = cut.front;
      behind = cut.behind;
      split = cut.split ∙ all-blocks (lines_within limit cut.bytes) cut.blocks cut.after cut.run;
      grew = cut.grew;
      handed = subst (AreHandedInPart w0 w1) (all-texts (lines_within limit cut.bytes) cut.blocks cut.after cut.run) cut.handed;
    }

  block-cut : (state : State) (command : Numbered) (w0 w1 : Output) → IsCommandCut block_told airport state command (w0, w1) → IsBlockCut airport state command.text (w0, w1)
  block-cut state command w0 w1 cut = record {
    holds = cut.holds;
    block = cut.told.block;
    after = cut.after;
    answered = cut.told.answered;
    front = subst (GrewInPart w0 w1) cut.told.is_text cut.front;
    in_part = subst (HandedInPart w0 w1) cut.told.is_text cut.in_part;
  }

  prompt-run : (old left : Option (List ℕ)) (given : Pieces) (w0 w1 : Output) → IsPromptTold block_told airport (old, left) given (w0, w1) → IsPrompt airport (old, left) given (w0, w1)
  prompt-run old left given w0 w1 prompt = record {
    before = prompt.before;
    line = prompt.line;
    in_time = prompt.in_time;
    between = prompt.between;
    count = prompt.count;
    state = prompt.state;
    answered = lines-answered prompt.before w0 prompt.between prompt.count prompt.state prompt.told;
    cut = block-cut prompt.state (record { command = prompt.count + 1; line = length prompt.before + 1; text = prompt.line }) prompt.between w1 prompt.cut;
  }

  -- ---- how the run ended

  module _ (limit : ℕ) (old left : Option (List ℕ)) (given : Pieces) (w0 w1 : Output) where
    pub whole-answered : (result : Result ℕ RunRefused) → IfOk result (IsWholeTold block_told airport limit (old, left) (w0, w1)) → IfOk result (IsWholeRun airport limit (old, left) (w0, w1))
    whole-answered (Ok count) whole = whole-run limit old left w0 w1 count whole
    whole-answered (Err why) whole = tt

    stopped-by : (why : RunRefused) → IsStoppedTold block_told airport limit (old, left) (w0, w1) why
        → (why ≡ refused.WriteFault → IsPromptTold block_told airport (old, left) given (w0, w1)) → IsStopped airport limit (old, left) given (w0, w1) why
    stopped-by refused.ReadFault stopped prompt = (stopped.0, stopped.1, halted-run limit old left w0 w1 stopped.0 stopped.2)
    stopped-by refused.TooLarge stopped prompt = (stopped.0, stopped.1, halted-run limit old left w0 w1 stopped.0 stopped.2)
    stopped-by refused.WriteFault stopped prompt = (cut-run limit old left w0 w1 stopped, prompt-run old left given w0 w1 (prompt refl))
    stopped-by refused.Memory stopped prompt = cut-run limit old left w0 w1 stopped

    pub stopped-answered : (result : Result ℕ RunRefused) → IfErr result (IsStoppedTold block_told airport limit (old, left) (w0, w1))
        → (IsErrOf result refused.WriteFault → IsPromptTold block_told airport (old, left) given (w0, w1)) → IfErr result (IsStopped airport limit (old, left) given (w0, w1))
    stopped-answered (Ok count) stopped prompt = tt
    stopped-answered (Err why) stopped prompt = stopped-by why stopped (λ is. prompt (ap Err is))

  -- nothing was read, and nothing is answered
  pub unread-run : (limit : ℕ) (left : Option (List ℕ)) (now : Output) → IsCutRun airport limit (left, left) (now, now)
  unread-run limit left now = cut-run limit left left now now (unread-cut block_told airport limit left now)
