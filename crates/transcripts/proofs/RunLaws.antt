-- Runs: they begin, go on, keep the flights sound, and always come to an end.
use Rattle.std.proofs.Common.{◌≡◌, ◌++◌, ◌∷◌, [], ℕ, List, length, refl, arith}
use Rattle.taxi_base.specs.Airport.{Airport}
use Rattle.taxi_base.specs.State.{State, no_holder, IsSound}
use Rattle.taxi_base.proofs.StateLaws.{IsSound-nil}
use Rattle.replies.specs.declared.block.Block.{Block}
use Rattle.replies.proofs.ReplyLaws.{IsAnswered-sound, reply-is_there}
use Rattle.transcripts.specs.Runs.{InTurn, IsRun}

-- an airport without holders is sound
pub none-sound : (airport : Airport) → IsSound airport no_holder
none-sound airport = IsSound-nil airport

-- lines that meet their blocks in turn, and others that go on from them, do so together
pub in_turn-append : (IsMet : Airport → State → List ℕ → Block → State → Type 0) (airport : Airport) (before between after : State) (lines more : List (List ℕ)) (blocks others : List Block)
    → InTurn IsMet airport before lines blocks between → InTurn IsMet airport between more others after → InTurn IsMet airport before (lines ++ more) (blocks ++ others) after
in_turn-append IsMet airport before between after [] more [] others run rest = rw run at rest
in_turn-append IsMet airport before between after [] more (block ∷ blocks) others run rest = absurd run
in_turn-append IsMet airport before between after (line ∷ lines) more [] others run rest = absurd run
in_turn-append IsMet airport before between after (line ∷ lines) more (block ∷ blocks) others run rest =
    (run.0, run.1, in_turn-append IsMet airport run.0 between after lines more blocks others run.2 rest)

-- a run keeps the flights sound
pub IsRun-sound : (airport : Airport) (before after : State) (lines : List (List ℕ)) (blocks : List Block)
    → IsRun airport before lines blocks after → IsSound airport before → IsSound airport after
IsRun-sound airport before after [] [] run sound = rw run sound
IsRun-sound airport before after [] (block ∷ blocks) run sound = absurd run
IsRun-sound airport before after (line ∷ lines) [] run sound = absurd run
IsRun-sound airport before after (line ∷ lines) (block ∷ blocks) run sound =
    IsRun-sound airport run.0 after lines blocks run.2 run.1.sound

-- from sound flights there is a run over any lines
pub run-over : (airport : Airport) (before : State) (lines : List (List ℕ)) → IsSound airport before
    → (blocks : List Block) × (after : State) × IsRun airport before lines blocks after
run-over airport before [] sound = ([], before, refl)
run-over airport before (line ∷ lines) sound =
    let reply = reply-is_there airport before line in
    let answered = IsAnswered-sound airport before line reply.0.block reply.0.after sound reply.1 in
    let rest = run-over airport reply.0.after lines answered.sound in
    (reply.0.block ∷ rest.0, rest.1, (reply.0.after, answered, rest.2))

-- there is a block for each line
pub in_turn-length : (IsMet : Airport → State → List ℕ → Block → State → Type 0) (airport : Airport) (before after : State) (lines : List (List ℕ)) (blocks : List Block)
    → InTurn IsMet airport before lines blocks after → length blocks ≡ length lines
in_turn-length IsMet airport before after [] [] run = refl
in_turn-length IsMet airport before after [] (block ∷ blocks) run = absurd run
in_turn-length IsMet airport before after (line ∷ lines) [] run = absurd run
in_turn-length IsMet airport before after (line ∷ lines) (block ∷ blocks) run =
    let rest = in_turn-length IsMet airport run.0 after lines blocks run.2 in omega (arith, rest)
