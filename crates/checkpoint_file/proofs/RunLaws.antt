-- A run over a checkpoint brings back what is in force.
use Rattle.std.proofs.Common.{◌≡◌, ◌∙◌, ℕ, List, [], ◌∷◌, ◌++◌, map, refl, sym, ap, ap₂, subst}
use Rattle.std.specs.Prelude.{All}
use Rattle.std.proofs.lemmas.List.Elements.{All-nil, All-head, All-tail}
use Rattle.taxi_base.specs.declared.answers.Refusal.TheVariants as refusal
use Rattle.taxi_base.specs.declared.answers.Flight.{Flight}
use Rattle.taxi_base.specs.Airport.{Airport, IsWellFormed}
use Rattle.taxi_base.specs.Windows.{Hold}
use Rattle.taxi_base.specs.State.{State, no_holder, party_hold, flight_holds, held_by_each, IsSound}
use Rattle.taxi_text.specs.Lines.{commands_of}
use Rattle.replies.specs.declared.block.Block.{Block}
use Rattle.replies.specs.declared.block.Block.TheVariants.{Refused}
use Rattle.replies.specs.Replies.{IsDue, IsReply, as_due, no_memory, HaveNames}
use Rattle.replies.proofs.OneReply.{IsDue-same}
use Rattle.transcripts.specs.Runs.{InTurn, IsRun}
use Rattle.transcripts.proofs.RunLaws.{none-sound, IsRun-sound}
use Rattle.checkpoint_file.specs.Lines.{checkpoint_text}
use Rattle.checkpoint_file.specs.Restored.{fileable, as_filed, restored, flight_filed, party_filed, all_filed}
use Rattle.checkpoint_file.proofs.CommandsAgain.{file_line, work_line, commands-again}
use Rattle.checkpoint_file.proofs.DueLaws.{all-due}

-- what flights come to as filed, they come to as they are
as-filed-same : {B : Type 0} (f : Flight → B) → ((flight : Flight) → f (as_filed flight) ≡ f flight) → (flights : List Flight) → map f (map as_filed flights) ≡ map f flights
as-filed-same f same [] = refl
as-filed-same f same (x ∷ xs) = ap₂ (λ b bs. b ∷ bs) (same x) (as-filed-same f same xs)

pub restored-due : (airport : Airport) (state : State) → IsWellFormed airport → IsSound airport state → HaveNames state
    → InTurn IsDue airport no_holder (commands_of (checkpoint_text airport state)) (all_filed (restored state)) (restored state)
restored-due airport state well sound names =
    let blocks : map flight_filed (map as_filed (fileable state.flights)) ≡ map flight_filed (fileable state.flights) = as-filed-same flight_filed (λ flight. refl) (fileable state.flights) in
    let commands : List (List ℕ) = map (file_line airport) (fileable state.flights) ++ map (work_line airport) state.parties in
    subst (λ (lines : List (List ℕ)). InTurn IsDue airport no_holder lines (all_filed (restored state)) (restored state)) (sym (commands-again airport well state names))
    (subst (λ (bs : List Block). InTurn IsDue airport no_holder commands (bs ++ map party_filed state.parties) (restored state)) (sym blocks) (all-due airport well state sound names))

-- each holder that is brought back holds what it held
pub restored-held : (airport : Airport) (state : State) → held_by_each airport (restored state) ≡ held_by_each airport (record state { flights = fileable state.flights })
restored-held airport state =
    ap (λ (holds : List (List Hold)). map (λ p. party_hold p ∷ []) state.parties ++ holds) (as-filed-same (flight_holds airport) (λ flight. refl) (fileable state.flights))

-- ---- runs

-- a reply is the due one, where memory didn't run out
due-reply : (airport : Airport) (state : State) (line : List ℕ) (block : Block) (after : State) → IsReply airport state line block after → (block ≡ Refused refusal.Memory → ⊥)
    → IsDue airport state line block after
due-reply airport state line _ _ (as_due block after due) found = due
due-reply airport state line _ _ (no_memory other) found = absurd (found refl)

-- so a run in which memory ran out for no command is the due one
pub run-due : (airport : Airport) → IsWellFormed airport → (before : State) (lines : List (List ℕ)) (dues blocks : List Block) (due after : State)
    → InTurn IsDue airport before lines dues due → IsRun airport before lines blocks after → All (λ block. block ≡ Refused refusal.Memory → ⊥) blocks
    → (blocks ≡ dues) × (after ≡ due)
run-due airport well before [] [] [] due after dues run found = (refl, run ∙ sym dues)
run-due airport well before [] (b ∷ bs) blocks due after dues run found = absurd dues
run-due airport well before [] [] (b ∷ bs) due after dues run found = absurd run
run-due airport well before (line ∷ lines) [] blocks due after dues run found = absurd dues
run-due airport well before (line ∷ lines) (d ∷ ds) [] due after dues run found = absurd run
run-due airport well before (line ∷ lines) (d ∷ ds) (b ∷ bs) due after dues run found =
    let one = IsDue-same b run.0 d dues.0 airport before well line
    (due-reply airport before line b run.0 run.1.reply (All-head (λ block. block ≡ Refused refusal.Memory → ⊥) b bs found)) dues.1 in
    let rest = run-due airport well dues.0 lines ds bs due after dues.2 (subst (λ (s : State). IsRun airport s lines bs after) one.1 run.2)
    (All-tail (λ block. block ≡ Refused refusal.Memory → ⊥) b bs found) in
    (ap₂ (λ x xs. x ∷ xs) one.0 rest.0, rest.1)

-- holders have names after a run
run-names : (airport : Airport) → IsWellFormed airport → (before after : State) (lines : List (List ℕ)) (blocks : List Block) → IsRun airport before lines blocks after → HaveNames before → HaveNames after
run-names airport well before after [] [] run names = subst HaveNames (sym run) names
run-names airport well before after [] (b ∷ bs) run names = absurd run
run-names airport well before after (line ∷ lines) [] run names = absurd run
run-names airport well before after (line ∷ lines) (b ∷ bs) run names = run-names airport well run.0 after lines bs run.2 (run.1.named well names)

pub restored-run : (airport : Airport) (lines : List (List ℕ)) (blocks others : List Block) (state after : State) → IsWellFormed airport → IsRun airport no_holder lines blocks state
    → IsRun airport no_holder (commands_of (checkpoint_text airport state)) others after → All (λ block. block ≡ Refused refusal.Memory → ⊥) others
    → (others ≡ all_filed (restored state)) × (after ≡ restored state)
restored-run airport lines blocks others state after well run again found =
    let sound : IsSound airport state = IsRun-sound airport no_holder state lines blocks run (none-sound airport) in
    let names : HaveNames state = run-names airport well no_holder state lines blocks run (All-nil _, All-nil _) in
    run-due airport well no_holder (commands_of (checkpoint_text airport state)) (all_filed (restored state)) others (restored state) after (restored-due airport state well sound names) again found
