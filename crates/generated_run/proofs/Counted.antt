-- A run up to some line: what is answered and counted so far, and what comes of it.
use Rattle.std.proofs.Common.{◌≡◌, ◌*◌, ◌^◌, ◌≤◌, ◌<◌, ◌++◌, ◌∷◌, ◌∙◌, [], ℕ, List, true, false, length, All, refl, sym, ap, append-nil, arith}
use Rattle.std.proofs.lemmas.List.Elements.{All-append, All-nil, All-cons, filter-append}
use Rattle.std.proofs.lemmas.List.{length-append}
use Rattle.std.proofs.lemmas.List.Sums.{count_by-le-length}
use Rattle.taxi_base.specs.Airport.{Airport}
use Rattle.taxi_base.specs.State.{State, no_holder}
use Rattle.taxi_text.specs.Lines.{is_skipped}
use Rattle.replies.specs.declared.block.Block.{Block}
use Rattle.replies.specs.Replies.{IsAnswered}
use Rattle.transcripts.specs.Runs.{IsRun}
use Rattle.transcripts.proofs.RunLaws.{in_turn-append, in_turn-length}
use Rattle.transcripts.proofs.CommandsIn.{commands_in, split-more, commands_in-skipped, commands_in-kept}
use Rattle.generated_run.specs.declared.summary.Summary.{Summary}
use Rattle.generated_run.specs.Summaries.{is_route, is_no_route, summary_of, FoundMemory, IsSummaryOf}

-- Of all lines some are still left. The commands before those are answered by blocks, for none of which memory ran out, and are
-- counted. A route takes fewer than 2 ^ 32 seconds.
pub record IsCounted (airport : Airport) (all left : List (List ℕ)) (state : State) (summary : Summary) : Type 0 where
  pub read : List (List ℕ)
  pub blocks : List Block
  pub split : read ++ left ≡ all
  pub run : IsRun airport no_holder (commands_in read) blocks state
  pub found_memory : All FoundMemory blocks
  pub counted : summary ≡ summary_of airport blocks
  pub seconds : summary.seconds ≤ summary.commands * 2 ^ 32

pub nothing-counted : (airport : Airport) (all : List (List ℕ)) (state : State) (summary : Summary) → state ≡ no_holder → summary ≡ summary_of airport [] → IsCounted airport all all state summary
nothing-counted airport all state summary none counted = record {
  read = [];
  blocks = [];
  split = refl;
  run = none;
  found_memory = All-nil FoundMemory;
  counted = counted;
  seconds = rw counted (omega arith);
}

pub counted-skipped : (airport : Airport) (all left rest : List (List ℕ)) (state : State) (summary : Summary) (line : List ℕ)
    → IsCounted airport all left state summary → left ≡ line ∷ rest → is_skipped line ≡ true → IsCounted airport all rest state summary
counted-skipped airport all left rest state summary line so_far next skipped = record {
  read = so_far.read ++ line ∷ [];
  blocks = so_far.blocks;
  split = split-more so_far.read left rest all line so_far.split next;
  run = rw (commands_in-skipped so_far.read line skipped) so_far.run;
  found_memory = so_far.found_memory;
  counted = so_far.counted;
  seconds = so_far.seconds;
}

pub counted-answered : (airport : Airport) (all left rest : List (List ℕ)) (state after : State) (summary then : Summary) (line : List ℕ) (block : Block)
    → (so_far : IsCounted airport all left state summary) → left ≡ line ∷ rest → is_skipped line ≡ false → IsAnswered airport state line block after → FoundMemory block
    → then ≡ summary_of airport (so_far.blocks ++ block ∷ []) → then.seconds ≤ then.commands * 2 ^ 32 → IsCounted airport all rest after then
counted-answered airport all left rest state after summary then line block so_far next kept answered found counted seconds = record {
  read = so_far.read ++ line ∷ [];
  blocks = so_far.blocks ++ block ∷ [];
  split = split-more so_far.read left rest all line so_far.split next;
  run = rw (commands_in-kept so_far.read line kept)
      (in_turn-append IsAnswered airport no_holder state after (commands_in so_far.read) (line ∷ []) so_far.blocks (block ∷ []) so_far.run (after, answered, refl));
  found_memory = All-append FoundMemory so_far.blocks (block ∷ []) so_far.found_memory (All-cons FoundMemory block [] found (All-nil FoundMemory));
  counted = counted;
  seconds = seconds;
}

-- while a command is left, fewer are counted than there are
pub counted-few : (airport : Airport) (all left rest : List (List ℕ)) (state : State) (summary : Summary) (line : List ℕ)
    → IsCounted airport all left state summary → left ≡ line ∷ rest → is_skipped line ≡ false → summary.commands < length (commands_in all)
counted-few airport all left rest state summary line so_far next kept =
    let commands : summary.commands ≡ length so_far.blocks = ap (λ (s : Summary). s.commands) so_far.counted in
    let blocks = in_turn-length IsAnswered airport no_holder state (commands_in so_far.read) so_far.blocks so_far.run in
    let lines : commands_in all ≡ (commands_in so_far.read ++ line ∷ []) ++ commands_in rest =
    ap commands_in (sym (split-more so_far.read left rest all line so_far.split next)) ∙ filter-append _ (so_far.read ++ line ∷ []) rest
    ∙ ap (λ (l : List (List ℕ)). l ++ commands_in rest) (commands_in-kept so_far.read line kept) in
    let all_lines = ap length lines in
    let more = length-append (commands_in so_far.read ++ line ∷ []) (commands_in rest) in
    let one = length-append (commands_in so_far.read) (line ∷ []) in
    omega (arith, commands, blocks, all_lines, more, one)

-- no more routes are counted than commands
pub counted-routes : (airport : Airport) (all left : List (List ℕ)) (state : State) (summary : Summary) → IsCounted airport all left state summary → summary.routes ≤ summary.commands
counted-routes airport all left state summary so_far = let few = count_by-le-length is_route so_far.blocks in rw so_far.counted few

pub counted-no_routes : (airport : Airport) (all left : List (List ℕ)) (state : State) (summary : Summary) → IsCounted airport all left state summary → summary.no_routes ≤ summary.commands
counted-no_routes airport all left state summary so_far = let few = count_by-le-length is_no_route so_far.blocks in rw so_far.counted few

-- all lines are read
pub counted-whole : (airport : Airport) (all left : List (List ℕ)) (state : State) (summary : Summary)
    → IsCounted airport all left state summary → left ≡ [] → IsSummaryOf airport (commands_in all) summary
counted-whole airport all left state summary so_far none =
    let lines : so_far.read ≡ all = sym (append-nil so_far.read) ∙ ap (λ (l : List (List ℕ)). so_far.read ++ l) (sym none) ∙ so_far.split in
    record {
      blocks = so_far.blocks;
      after = state;
      run = rw (sym lines) so_far.run;
      found_memory = so_far.found_memory;
      counted = so_far.counted;
    }
