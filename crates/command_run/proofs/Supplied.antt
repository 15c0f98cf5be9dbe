-- A run over lines up to some line, in which memory ran out for none.
use Rattle.std.proofs.Common.{◌≡◌, ◌<◌, ◌+◌, ◌-◌, ◌≤◌, ◌++◌, ◌∷◌, ◌∙◌, [], ℕ, List, Some, None, true, false, refl, sym, ap, append-nil, length, arith, codes}
use Rattle.std.specs.Prelude.{bytes_eq, slice_get}
use Rattle.std.specs.Cmp.Lexicographic.{bytes_decides}
use Rattle.std.proofs.lemmas.Bool.{both_ways}
use Rattle.std.proofs.lemmas.List.{length-append, take_all}
use Rattle.std.proofs.lemmas.List.Elements.{All-append, All-nil, All-cons, filter-append}
use Rattle.std.proofs.lemmas.Option.{slice_get_past}
use Rattle.std.proofs.Math.Seq.{take-append_seam}
use Rattle.taxi_base.specs.declared.answers.Refusal.TheVariants as refusal
use Rattle.taxi_base.specs.Airport.{Airport}
use Rattle.taxi_base.specs.State.{State, no_holder}
use Rattle.taxi_text.specs.Lines.{lines_of, is_skipped}
use Rattle.replies.specs.declared.block.Block.{Block}
use Rattle.replies.specs.declared.block.Block.TheVariants.{Refused}
use Rattle.replies.specs.Texts.{block_text}
use Rattle.replies.specs.Replies.{IsAnswered}
use Rattle.transcripts.proofs.RunLaws.{in_turn-append, in_turn-length}
use Rattle.transcripts.proofs.CommandsIn.{commands_in, split-more, commands_in-skipped, commands_in-kept, commands_in-count}
use Rattle.command_run.specs.Supplied.{FoundMemory, IsRunBefore, IsKeptRun, IsKept}

-- Of all lines some are still left. The commands before those are answered, and something is kept of their blocks.
pub record IsKeptSoFar (airport : Airport) (all left : List (List ℕ)) (state : State) (Kept : List Block → Type 0) : Type 0 where
  pub read : List (List ℕ)
  pub split : read ++ left ≡ all
  pub so_far : IsKeptRun airport (commands_in read) state Kept

pub kept-first : (airport : Airport) (all : List (List ℕ)) (state : State) (Kept : List Block → Type 0) → state ≡ no_holder → Kept [] → IsKeptSoFar airport all all state Kept
kept-first airport all state Kept none kept = record {
  read = [];
  split = refl;
  so_far = record { run = record { blocks = []; run = none; found_memory = All-nil FoundMemory }; kept = kept };
}

pub kept-skipped : (airport : Airport) (all left rest : List (List ℕ)) (state : State) (Kept : List Block → Type 0) (line : List ℕ)
    → IsKeptSoFar airport all left state Kept → left ≡ line ∷ rest → is_skipped line ≡ true → IsKeptSoFar airport all rest state Kept
kept-skipped airport all left rest state Kept line before next skipped = record {
  read = before.read ++ line ∷ [];
  split = split-more before.read left rest all line before.split next;
  so_far = rw (commands_in-skipped before.read line skipped) before.so_far;
}

pub kept-answered : (airport : Airport) (all left rest : List (List ℕ)) (state after : State) (Kept Keeps : List Block → Type 0) (line : List ℕ)
    → IsKeptSoFar airport all left state Kept → left ≡ line ∷ rest → is_skipped line ≡ false → IsKept airport state line after Kept Keeps
    → IsKeptSoFar airport all rest after Keeps
kept-answered airport all left rest state after Kept Keeps line before next kept got =
    let old = before.so_far.run in
    record {
      read = before.read ++ line ∷ [];
      split = split-more before.read left rest all line before.split next;
      so_far = rw (commands_in-kept before.read line kept) (record {
        run = record {
          blocks = old.blocks ++ got.block ∷ [];
          run = in_turn-append IsAnswered airport no_holder state after (commands_in before.read) (line ∷ []) old.blocks (got.block ∷ []) old.run (after, got.answered, refl);
          found_memory = All-append FoundMemory old.blocks (got.block ∷ []) old.found_memory (All-cons FoundMemory got.block [] got.found_memory (All-nil FoundMemory));
        };
        kept = got.kept old.blocks before.so_far.kept;
      });
    }

pub kept-whole : (airport : Airport) (all left : List (List ℕ)) (state : State) (Kept : List Block → Type 0) → IsKeptSoFar airport all left state Kept → left ≡ []
    → IsKeptRun airport (commands_in all) state Kept
kept-whole airport all left state Kept before none =
    let whole : before.read ≡ all = sym (append-nil before.read) ∙ ap (λ l. before.read ++ l) (sym none) ∙ before.split in
    rw (← whole) before.so_far

-- so many blocks were kept, of the lines of so many bytes
pub kept-few : (airport : Airport) (bytes : List ℕ) (left : List (List ℕ)) (state : State) (Kept : List Block → Type 0) → IsKeptSoFar airport (lines_of bytes) left state Kept
    → length bytes < 536870912 → (blocks : List Block) × Kept blocks × (length blocks < 1073741824)
kept-few airport bytes left state Kept before few =
    let run = before.so_far.run in
    let all = in_turn-length IsAnswered airport no_holder state (commands_in before.read) run.blocks run.run in
    let commands = commands_in-count bytes before.read left before.split in
    (run.blocks, before.so_far.kept, omega (arith, all, commands, few))

-- ---- the commands before one of them

-- so many blocks come before the command of this number
abbrev pub AreBefore : ℕ → List Block → Type 0
AreBefore number blocks = length blocks + 1 ≡ number

pub more-before : (number : ℕ) (blocks : List Block) (block : Block) → AreBefore number blocks → AreBefore (number + 1) (blocks ++ block ∷ [])
more-before number blocks block before = let l = length-append blocks (block ∷ []) in omega (arith, before, l)

-- so many commands are answered
answered-before : (airport : Airport) (all left : List (List ℕ)) (state : State) (number : ℕ) (before : IsKeptSoFar airport all left state (AreBefore number))
    → length (commands_in before.read) + 1 ≡ number
answered-before airport all left state number before =
    let run = before.so_far.run in
    let many = in_turn-length IsAnswered airport no_holder state (commands_in before.read) run.blocks run.run in
    let counted = before.so_far.kept in
    omega (arith, many, counted)

-- an item behind so many others
item-behind : (before after : List (List ℕ)) (item : List ℕ) → slice_get (before ++ item ∷ after) (length before) ≡ Some item
item-behind [] after item = refl
item-behind (first ∷ before) after item = item-behind before after item

-- the next line holds the command of this number
pub before-found : (airport : Airport) (all left rest : List (List ℕ)) (state : State) (number : ℕ) (line : List ℕ)
    → IsKeptSoFar airport all left state (AreBefore number) → left ≡ line ∷ rest → is_skipped line ≡ false → IsRunBefore airport (commands_in all) number (Some line) state
before-found airport all left rest state number line before next holds =
    let answered = commands_in before.read in
    let many = answered-before airport all left state number before in
    let lines : before.read ++ line ∷ rest ≡ all = ap (λ (l : List (List ℕ)). before.read ++ l) (sym next) ∙ before.split in
    let commands : commands_in all ≡ answered ++ line ∷ commands_in rest =
    ap commands_in (sym lines) ∙ filter-append _ before.read (line ∷ rest) ∙ ap (λ (l : List (List ℕ)). answered ++ l) (rw holds refl) in
    let place : number - 1 ≡ length answered = omega (arith, many) in
    record {
      run = rw (place, commands, take-append_seam answered (line ∷ commands_in rest)) before.so_far.run;
      next_is = rw (place, commands) (sym (item-behind answered (commands_in rest) line));
    }

-- there are fewer commands than this number
pub before-none : (airport : Airport) (all left : List (List ℕ)) (state : State) (next number : ℕ)
    → IsKeptSoFar airport all left state (AreBefore next) → left ≡ [] → next ≤ number → IsRunBefore airport (commands_in all) number None state
before-none airport all left state next number before none within =
    let whole = kept-whole airport all left state (AreBefore next) before none in
    let many = in_turn-length IsAnswered airport no_holder state (commands_in all) whole.run.blocks whole.run.run in
    let counted = whole.kept in
    let few : length (commands_in all) ≤ number - 1 = omega (arith, many, counted, within) in
    record {
      run = rw (take_all (number - 1) (commands_in all) few) whole.run;
      next_is = sym (slice_get_past (commands_in all) (number - 1) few);
    }

-- ---- one answer

-- the text of the reply that memory ran out
memory-text : (airport : Airport) → block_text airport (Refused refusal.Memory) ≡ codes "refused memory\n"
unfolding block_text
memory-text airport = refl

-- a reply with another text is another
pub other-text : (airport : Airport) (block : Block) (text : List ℕ) → text ≡ block_text airport block → bytes_eq text (codes "refused memory\n") ≡ false → FoundMemory block
other-text airport block text is other memory =
    let same : text ≡ codes "refused memory\n" = is ∙ ap (λ (b : Block). block_text airport b) memory ∙ memory-text airport in
    both_ways (bytes_eq text (codes "refused memory\n")) other ((bytes_decides text (codes "refused memory\n")).1 same)
