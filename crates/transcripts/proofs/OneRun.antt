-- Over the same lines there is one run in which memory runs out for no command.
use Rattle.std.proofs.Common.{◌≡◌, ◌∷◌, [], ℕ, List, All, refl, sym, ◌∙◌, subst}
use Rattle.std.proofs.lemmas.List.Elements.{All-head, All-tail}
use Rattle.taxi_base.specs.Airport.{Airport, IsWellFormed}
use Rattle.taxi_base.specs.State.{State, no_holder}
use Rattle.replies.specs.declared.block.Block.{Block}
use Rattle.replies.specs.Replies.{IsReply}
use Rattle.replies.proofs.OneReply.{IsDue-same}
use Rattle.transcripts.specs.Runs.{IsRun}
use Rattle.transcripts.specs.Supplied.{FoundMemory, IsSuppliedRun}

-- two replies to a line, neither for want of memory, are one
reply-one : (airport : Airport) (state : State) (line : List ℕ) (a b : Block) (one other : State) → IsWellFormed airport
    → IsReply airport state line a one → IsReply airport state line b other → FoundMemory a → FoundMemory b → (a ≡ b) × (one ≡ other)
reply-one airport state line a b one other well (IsReply.as_due _ _ due) (IsReply.as_due _ _ rest) found too = IsDue-same a one b other airport state well line due rest
reply-one airport state line a b one other well (IsReply.no_memory _) reply found too = absurd (found refl)
reply-one airport state line a b one other well (IsReply.as_due _ _ due) (IsReply.no_memory _) found too = absurd (too refl)

pub run-one : (airport : Airport) (before : State) (lines : List (List ℕ)) (ones bs : List Block) (one other : State) → IsWellFormed airport
    → IsRun airport before lines ones one → IsRun airport before lines bs other → All FoundMemory ones → All FoundMemory bs → (ones ≡ bs) × (one ≡ other)
run-one airport before [] [] [] one other well a b found too = (refl, a ∙ sym b)
run-one airport before [] [] (b1 ∷ bs) one other well a b found too = absurd b
run-one airport before [] (a1 ∷ ones) bs one other well a b found too = absurd a
run-one airport before (line ∷ lines) [] bs one other well a b found too = absurd a
run-one airport before (line ∷ lines) (a1 ∷ ones) [] one other well a b found too = absurd b
run-one airport before (line ∷ lines) (a1 ∷ ones) (b1 ∷ bs) one other well a b found too =
    let same = reply-one airport before line a1 b1 a.0 b.0 well a.1.reply b.1.reply (All-head FoundMemory a1 ones found) (All-head FoundMemory b1 bs too) in
    let rest = run-one airport b.0 lines ones bs one other well (subst (λ s. IsRun airport s lines ones one) same.1 a.2) b.2
    (All-tail FoundMemory a1 ones found) (All-tail FoundMemory b1 bs too) in
    ((λ i. same.0 i ∷ rest.0 i), rest.1)

pub supplied-one : (airport : Airport) (commands : List (List ℕ)) (after other : State) (one : IsSuppliedRun airport commands after) (two : IsSuppliedRun airport commands other)
    → IsWellFormed airport → (one.blocks ≡ two.blocks) × (after ≡ other)
supplied-one airport commands after other one two well =
    run-one airport no_holder commands one.blocks two.blocks after other well one.run two.run one.found_memory two.found_memory
