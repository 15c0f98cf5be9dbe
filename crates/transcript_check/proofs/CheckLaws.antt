-- Blocks that pass in turn: what they promise, and the check of a transcript up to some line.
use Rattle.std.proofs.Common.{◌≡◌, ◌+◌, ◌-◌, ◌≤◌, ◌++◌, ◌∷◌, ◌∙◌, [], ℕ, List, true, false, length, take, drop, All, refl, sym, ap, append_assoc, append-nil, arith}
use Rattle.std.proofs.lemmas.List.Elements.{filter-append, All-append, All-nil, All-cons}
use Rattle.std.proofs.lemmas.List.{length-append, length-drop, take_all}
use Rattle.std.proofs.Math.Seq.{drop-append_seam}
use Rattle.taxi_base.specs.Airport.{Airport, IsWellFormed}
use Rattle.taxi_base.specs.State.{State, no_holder, IsSound}
use Rattle.taxi_base.proofs.StateLaws.{IsClashFree-feasible}
use Rattle.taxi_text.specs.Lines.{lines_of, is_skipped}
use Rattle.replies.specs.declared.block.Block.{Block}
use Rattle.replies.specs.Texts.{block_text}
use Rattle.replies.specs.Printable.{IsPrintable}
use Rattle.replies.specs.Passes.{IsPassed}
use Rattle.replies.proofs.BestLaws.{passed-best, passed-sound}
use Rattle.block_reader.specs.Read.{BeginsWith}
use Rattle.transcript_check.specs.declared.failure.Failure.{Failure}
use Rattle.transcript_check.specs.declared.failure.Failure.TheVariants.{Form}
use Rattle.transcript_check.specs.declared.checking.Verdict.TheVariants.{Right}
use Rattle.transcripts.specs.Runs.{InTurn, blocks_text, done_line}
use Rattle.transcript_check.specs.Checks.{IsPassedRun, IsWrongAt, IsTrusted, BlockFails}
use Rattle.transcript_check.specs.Verdicts.{IsVerdict}
use Rattle.transcripts.proofs.RunLaws.{none-sound, in_turn-append, in_turn-length}
use Rattle.transcripts.proofs.CommandsIn.{commands_in, commands_in-skipped, commands_in-kept, commands_in-count, split-more, blocks_text-more}

-- what passes in turn from sound flights on is trusted in turn
pub passed-trusted : (airport : Airport) (before after : State) (lines : List (List ℕ)) (blocks : List Block) → IsWellFormed airport → IsSound airport before
    → IsPassedRun airport before lines blocks after → InTurn IsTrusted airport before lines blocks after
passed-trusted airport before after [] [] well sound run = run
passed-trusted airport before after [] (block ∷ blocks) well sound run = absurd run
passed-trusted airport before after (line ∷ lines) [] well sound run = absurd run
passed-trusted airport before after (line ∷ lines) (block ∷ blocks) well sound run =
    let next = passed-sound airport before well sound line block run.0 run.1 in (
      run.0,
      record {
        passed = run.1;
        best = passed-best airport before well sound line block run.0 run.1;
        sound = next;
        clash_free = IsClashFree-feasible airport run.0 next.feasible;
      },
      passed-trusted airport run.0 after lines blocks well next run.2,
    )

-- Of all lines some are still left. The commands before those have their blocks, so many, which pass in turn, and the rest of the
-- text stands behind them.
pub record IsCheckedSoFar (airport : Airport) (all left : List (List ℕ)) (text : List ℕ) (state : State) (rest : List ℕ) (count : ℕ) : Type 0 where
  pub read : List (List ℕ)
  pub blocks : List Block
  pub split : read ++ left ≡ all
  pub passed : IsPassedRun airport no_holder (commands_in read) blocks state
  pub printable : All (IsPrintable airport) blocks
  pub front : text ≡ blocks_text airport blocks ++ rest
  pub counted : count ≡ length blocks

pub nothing-checked : (airport : Airport) (all : List (List ℕ)) (text : List ℕ) (state : State) → state ≡ no_holder → IsCheckedSoFar airport all all text state text 0
nothing-checked airport all text state none =
    record { read = []; blocks = []; split = refl; passed = none; printable = All-nil (IsPrintable airport); front = refl; counted = refl }

pub checked-skipped : (airport : Airport) (all left next : List (List ℕ)) (text : List ℕ) (state : State) (rest : List ℕ) (count : ℕ) (line : List ℕ)
    → IsCheckedSoFar airport all left text state rest count → left ≡ line ∷ next → is_skipped line ≡ true → IsCheckedSoFar airport all next text state rest count
checked-skipped airport all left next text state rest count line so_far steps skipped = record {
  read = so_far.read ++ line ∷ [];
  blocks = so_far.blocks;
  split = split-more so_far.read left next all line so_far.split steps;
  passed = rw (commands_in-skipped so_far.read line skipped) so_far.passed;
  printable = so_far.printable;
  front = so_far.front;
  counted = so_far.counted;
}

-- behind a block's text stands what follows it
behind-block : (airport : Airport) (rest behind : List ℕ) (block : Block) (count : ℕ) (begins : BeginsWith airport rest block)
    → count ≡ length (block_text airport block) → behind ≡ drop count rest → rest ≡ block_text airport block ++ behind
behind-block airport rest behind block count begins counted dropped =
    let all : drop count rest ≡ begins.1.0 = rw (counted, begins.1.1) (drop-append_seam (block_text airport block) begins.1.0) in
    begins.1.1 ∙ ap (λ (l : List ℕ). block_text airport block ++ l) (sym (dropped ∙ all))

-- a slice's bytes from one on
pub rest-from : (n : ℕ) (rest : List ℕ) → take (length rest - n) (drop n rest) ≡ drop n rest
rest-from n rest = take_all (length rest - n) (drop n rest) (let l = length-drop n rest in omega (arith, l))

pub checked-passed : (airport : Airport) (all left next : List (List ℕ)) (text : List ℕ) (state after : State) (rest behind : List ℕ) (count size : ℕ) (line : List ℕ) (block : Block)
    → IsCheckedSoFar airport all left text state rest count → left ≡ line ∷ next → is_skipped line ≡ false
    → BeginsWith airport rest block → size ≡ length (block_text airport block) → behind ≡ drop size rest → IsPassed airport state line block after
    → IsCheckedSoFar airport all next text after behind (count + 1)
checked-passed airport all left next text state after rest behind count size line block so_far steps kept begins sized dropped passed = record {
  read = so_far.read ++ line ∷ [];
  blocks = so_far.blocks ++ block ∷ [];
  split = split-more so_far.read left next all line so_far.split steps;
  passed = rw (commands_in-kept so_far.read line kept)
      (in_turn-append IsPassed airport no_holder state after (commands_in so_far.read) (line ∷ []) so_far.blocks (block ∷ []) so_far.passed (after, passed, refl));
  printable = All-append (IsPrintable airport) so_far.blocks (block ∷ []) so_far.printable (All-cons (IsPrintable airport) block [] begins.0 (All-nil (IsPrintable airport)));
  front = so_far.front
      ∙ ap (λ (l : List ℕ). blocks_text airport so_far.blocks ++ l) (behind-block airport rest behind block size begins sized dropped)
      ∙ sym (append_assoc (blocks_text airport so_far.blocks) (block_text airport block) behind)
      ∙ ap (λ (l : List ℕ). l ++ behind) (sym (blocks_text-more airport so_far.blocks block));
  counted = let more = length-append so_far.blocks (block ∷ []) in let counted = so_far.counted in omega (arith, more, counted);
}

-- the lines that are left, with the commands among them
lines-split : (read left next all : List (List ℕ)) (line : List ℕ) → read ++ left ≡ all → left ≡ line ∷ next → is_skipped line ≡ false
    → commands_in read ++ (line ∷ commands_in next) ≡ commands_in all
lines-split read left next all line split steps kept =
    sym (
    ap commands_in (sym (split-more read left next all line split steps)) ∙ filter-append _ (read ++ line ∷ []) next
    ∙ ap (λ (l : List (List ℕ)). l ++ commands_in next) (commands_in-kept read line kept)
    ∙ append_assoc (commands_in read) (line ∷ []) (commands_in next))

-- the block that is due fails
pub checked-failed : (airport : Airport) (all left next : List (List ℕ)) (text : List ℕ) (state : State) (rest : List ℕ) (count : ℕ) (line : List ℕ) (why : Failure)
    → IsCheckedSoFar airport all left text state rest count → left ≡ line ∷ next → is_skipped line ≡ false → BlockFails airport state line rest why
    → IsWrongAt airport (commands_in all) text (count + 1) why
checked-failed airport all left next text state rest count line why so_far steps kept fails = record {
  before = commands_in so_far.read;
  left = line ∷ commands_in next;
  split = lines-split so_far.read left next all line so_far.split steps kept;
  blocks = so_far.blocks;
  state = state;
  passed = so_far.passed;
  printable = so_far.printable;
  rest = rest;
  front = so_far.front;
  fails = fails;
  counted = let counted = so_far.counted in omega (arith, counted);
}

all-read : (read left all : List (List ℕ)) → read ++ left ≡ all → left ≡ [] → read ≡ all
all-read read left all split none = sym (append-nil read) ∙ ap (λ (l : List (List ℕ)). read ++ l) (sym none) ∙ split

-- all lines are read, and the last line stands there
pub checked-right : (airport : Airport) (all left : List (List ℕ)) (text : List ℕ) (state : State) (rest : List ℕ) (count : ℕ) → IsWellFormed airport
    → IsCheckedSoFar airport all left text state rest count → left ≡ [] → rest ≡ done_line count → IsVerdict airport (commands_in all) text (Right count)
checked-right airport all left text state rest count well so_far none last =
    let passed : IsPassedRun airport no_holder (commands_in all) so_far.blocks state = rw (sym (all-read so_far.read left all so_far.split none)) so_far.passed in (
      so_far.blocks,
      record {
        after = state;
        passed = passed;
        printable = so_far.printable;
        whole = so_far.front ∙ ap (λ (l : List ℕ). blocks_text airport so_far.blocks ++ l) (last ∙ ap done_line so_far.counted);
      },
      passed-trusted airport no_holder state (commands_in all) so_far.blocks well (none-sound airport) passed,
      so_far.counted,
    )

-- all lines are read, and something else stands there
pub checked-no_end : (airport : Airport) (all left : List (List ℕ)) (text : List ℕ) (state : State) (rest : List ℕ) (count : ℕ)
    → IsCheckedSoFar airport all left text state rest count → left ≡ [] → (rest ≡ done_line count → ⊥) → IsWrongAt airport (commands_in all) text (count + 1) Form
checked-no_end airport all left text state rest count so_far none other = record {
  before = commands_in all;
  left = [];
  split = append-nil (commands_in all);
  blocks = so_far.blocks;
  state = state;
  passed = rw (sym (all-read so_far.read left all so_far.split none)) so_far.passed;
  printable = so_far.printable;
  rest = rest;
  front = so_far.front;
  fails = λ last. other (last ∙ ap done_line (sym so_far.counted));
  counted = let counted = so_far.counted in omega (arith, counted);
}

-- fewer blocks pass than the command file has bytes, or as many, and one
pub checked-count : (airport : Airport) (bytes : List ℕ) (left : List (List ℕ)) (text : List ℕ) (state : State) (rest : List ℕ) (count : ℕ)
    → IsCheckedSoFar airport (lines_of bytes) left text state rest count → count ≤ length bytes + 1
checked-count airport bytes left text state rest count so_far =
    let counted = so_far.counted in
    let blocks = in_turn-length IsPassed airport no_holder state (commands_in so_far.read) so_far.blocks so_far.passed in
    let commands = commands_in-count bytes so_far.read left so_far.split in
    omega (arith, counted, blocks, commands)
