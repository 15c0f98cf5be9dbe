-- Each refusal is read as it was printed, and nothing else is read.
use Rattle.std.proofs.Common.{◌≡◌, ◌∙◌, ℕ, List, [], ◌∷◌, ◌++◌, Option, Some, codes, decimal, refl, sym, ap, append_assoc}
use Rattle.std.specs.Prelude.{option_map, ⊤}
use Rattle.taxi_base.specs.declared.answers.StepCause.{StepCause}
use Rattle.taxi_base.specs.declared.answers.StepCause.TheVariants.{ClassBarred, BadTurn, TooFast, PastHorizon, Taken}
use Rattle.taxi_base.specs.declared.answers.StepFault.{StepFault}
use Rattle.taxi_base.specs.declared.answers.Refusal.{Refusal}
use Rattle.taxi_base.specs.declared.answers.Refusal.TheVariants as refusal
use Rattle.taxi_text.specs.Fields.{name_of}
use Rattle.replies.specs.Texts.{line_text, cause_words, refusal_words}
use Rattle.replies.specs.Printable.{IsShort, IsName, IsPrintableCause, IsPrintableFault, IsPrintableRefusal}
use Rattle.block_reader.specs.Fields.{number_of}
use Rattle.block_reader.specs.Reading.{word_at, word_then, word_last}
use Rattle.block_reader.specs.Blocks.{plain_cause_of, cause_at, fault_at, plain_refusal_of, refusal_at}
use Rattle.block_reader.proofs.Pieces.{word-takes}
use Rattle.block_reader.proofs.Spellings.{some-both, some-map, Takes, IsSpelling, last-spelling, then-spelling, made-spelling, made-takes, either-takes}
use Rattle.block_reader.proofs.Words.{tried, number-word, step_number-word, name-word}

-- the only word of a cause that is one word
abbrev IsOneWord : List ℕ → StepCause → Type 0
IsOneWord w cause = IsPrintableCause cause × (w ++ 10 ∷ [] ≡ line_text (cause_words cause))

plain_cause-only : (w : List ℕ) (cause : StepCause) → plain_cause_of w ≡ Some cause → IsOneWord w cause
unfolding plain_cause_of
plain_cause-only w =
    tried (IsOneWord w) w (codes "class-barred") ClassBarred _ (λ e. (tt, ap (λ (t : List ℕ). t ++ 10 ∷ []) e))
    (tried (IsOneWord w) w (codes "bad-turn") BadTurn _ (λ e. (tt, ap (λ (t : List ℕ). t ++ 10 ∷ []) e))
    (tried (IsOneWord w) w (codes "too-fast") TooFast _ (λ e. (tt, ap (λ (t : List ℕ). t ++ 10 ∷ []) e))
    (tried (IsOneWord w) w (codes "past-horizon") PastHorizon _ (λ e. (tt, ap (λ (t : List ℕ). t ++ 10 ∷ []) e))
    (λ y e. absurd cc))))

abbrev IsPlainRefusal : List ℕ → Refusal → Type 0
IsPlainRefusal w why = IsPrintableRefusal why × (w ++ 10 ∷ [] ≡ line_text (refusal_words why))

plain_refusal-only : (w : List ℕ) (why : Refusal) → plain_refusal_of w ≡ Some why → IsPlainRefusal w why
unfolding plain_refusal_of
plain_refusal-only w =
    tried (IsPlainRefusal w) w (codes "bad-line") refusal.BadLine _ ended
    (tried (IsPlainRefusal w) w (codes "in-force") refusal.InForce _ ended
    (tried (IsPlainRefusal w) w (codes "unknown-class") refusal.UnknownClass _ ended
    (tried (IsPlainRefusal w) w (codes "unknown-node") refusal.UnknownNode _ ended
    (tried (IsPlainRefusal w) w (codes "wrong-kind") refusal.WrongKind _ ended
    (tried (IsPlainRefusal w) w (codes "unknown-segment") refusal.UnknownSegment _ ended
    (tried (IsPlainRefusal w) w (codes "not-in-force") refusal.NotInForce _ ended
    (tried (IsPlainRefusal w) w (codes "not-routed") refusal.NotRouted _ ended
    (tried (IsPlainRefusal w) w (codes "not-arrival") refusal.NotArrival _ ended
    (tried (IsPlainRefusal w) w (codes "full") refusal.Full _ ended
    (tried (IsPlainRefusal w) w (codes "memory") refusal.Memory _ ended
    (λ y e. absurd cc))))))))))) where
      ended : {text : List ℕ} → w ≡ text → ⊤ × (w ++ 10 ∷ [] ≡ text ++ 10 ∷ [])
      ended e = (tt, ap (λ (t : List ℕ). t ++ 10 ∷ []) e)

-- ---- causes

-- a word that ends a line, of several kinds of value
word-takes-only : {X : Type 0} (Good : X → Type 0) (text : X → List ℕ) (read : List ℕ → Option X) → ((w : List ℕ) (x : X) → read w ≡ Some x → Good x × (w ++ 10 ∷ [] ≡ text x)) → Takes Good text (word_last read)
word-takes-only {X = X} Good text read only bytes x rest e =
    let a = some-both (word_at 10 bytes) (λ p. option_map (λ y. (y, p.1)) (read p.0)) (x, rest) e in
    let b = some-map (read a.0.0) (λ y. (y, a.0.1)) (x, rest) a.2 in
    let is : b.0 ≡ x = ap (λ (p : X × List ℕ). p.0) b.2 in
    let behind : a.0.1 ≡ rest = ap (λ (p : X × List ℕ). p.1) b.2 in
    let o = only a.0.0 x (b.1 ∙ ap (λ (y : X). Some y) is) in
    (o.0, word-takes 10 bytes a.0.0 a.0.1 a.1 ∙ ap (λ (r : List ℕ). a.0.0 ++ 10 ∷ r) behind ∙ sym (append_assoc a.0.0 (10 ∷ []) rest) ∙ ap (λ (t : List ℕ). t ++ rest) o.1)

taken-spelling : IsSpelling (λ (p : ℕ × List ℕ). IsShort p.0 × IsName p.1) (λ p. decimal p.0 ++ 32 ∷ (p.1 ++ 10 ∷ [])) (word_then number_of (word_last name_of))
taken-spelling = then-spelling number-word (last-spelling name-word)

abbrev cause_text : StepCause → List ℕ
cause_text cause = line_text (cause_words cause)

cause-spelling : IsSpelling IsPrintableCause cause_text cause_at
unfolding cause_at plain_cause_of
cause-spelling = record {
  again = again;
  takes = either-takes IsPrintableCause cause_text (codes "taken ")
      (made-takes (λ p. decimal p.0 ++ 32 ∷ (p.1 ++ 10 ∷ [])) IsPrintableCause cause_text (λ p. Taken p.0 p.1) (codes "taken ") (λ p good. good) (λ p. refl) taken-spelling.takes)
      (word-takes-only IsPrintableCause cause_text plain_cause_of plain_cause-only);
} where
  again : (cause : StepCause) (rest : List ℕ) → IsPrintableCause cause → cause_at (cause_text cause ++ rest) ≡ Some (cause, rest)
  again ClassBarred rest good = refl
  again BadTurn rest good = refl
  again TooFast rest good = refl
  again PastHorizon rest good = refl
  again (Taken at by) rest good = ap (option_map (λ x. (Taken x.0.0 x.0.1, x.1))) (taken-spelling.again (at, by) rest good)

-- ---- refusals

fault_text : StepFault → List ℕ
fault_text fault = decimal fault.number ++ 32 ∷ cause_text fault.cause

fault-spelling : IsSpelling IsPrintableFault fault_text fault_at
unfolding fault_at fault_text
fault-spelling = made-spelling (λ p. record { number = p.0; cause = p.1 }) (λ fault. (fault.number, fault.cause)) (λ fault. refl) (λ p. refl) (then-spelling step_number-word cause-spelling)

abbrev pub refusal_text : Refusal → List ℕ
refusal_text why = line_text (refusal_words why)

time-spelling : IsSpelling IsShort (λ n. decimal n ++ 10 ∷ []) (word_last number_of)
time-spelling = last-spelling number-word

step_text-is : (fault : StepFault) → codes "step " ++ fault_text fault ≡ refusal_text (refusal.Step fault)
unfolding fault_text
step_text-is fault = go fault.cause where
  go : (cause : StepCause) → codes "step " ++ (decimal fault.number ++ 32 ∷ cause_text cause) ≡ line_text (codes "step" ∷ decimal fault.number ∷ cause_words cause)
  go ClassBarred = refl
  go BadTurn = refl
  go TooFast = refl
  go PastHorizon = refl
  go (Taken at by) = refl

pub refusal-spelling : IsSpelling IsPrintableRefusal refusal_text refusal_at
unfolding refusal_at plain_refusal_of
refusal-spelling = record {
  again = again;
  takes = either-takes IsPrintableRefusal refusal_text (codes "already-done ")
      (made-takes (λ n. decimal n ++ 10 ∷ []) IsPrintableRefusal refusal_text refusal.AlreadyDone (codes "already-done ") (λ n good. good) (λ n. refl) time-spelling.takes)
      (either-takes IsPrintableRefusal refusal_text (codes "already-moving ")
      (made-takes (λ n. decimal n ++ 10 ∷ []) IsPrintableRefusal refusal_text refusal.AlreadyMoving (codes "already-moving ") (λ n good. good) (λ n. refl) time-spelling.takes)
      (either-takes IsPrintableRefusal refusal_text (codes "not-moving ")
      (made-takes (λ n. decimal n ++ 10 ∷ []) IsPrintableRefusal refusal_text refusal.NotMoving (codes "not-moving ") (λ n good. good) (λ n. refl) time-spelling.takes)
      (either-takes IsPrintableRefusal refusal_text (codes "not-late ")
      (made-takes (λ n. decimal n ++ 10 ∷ []) IsPrintableRefusal refusal_text refusal.NotLate (codes "not-late ") (λ n good. good) (λ n. refl) time-spelling.takes)
      (either-takes IsPrintableRefusal refusal_text (codes "past-end ")
      (made-takes (λ n. decimal n ++ 10 ∷ []) IsPrintableRefusal refusal_text refusal.PastEnd (codes "past-end ") (λ n good. good) (λ n. refl) time-spelling.takes)
      (either-takes IsPrintableRefusal refusal_text (codes "step ")
      (made-takes fault_text IsPrintableRefusal refusal_text refusal.Step (codes "step ") (λ fault good. good) step_text-is fault-spelling.takes)
      (word-takes-only IsPrintableRefusal refusal_text plain_refusal_of plain_refusal-only))))));
} where
  again : (why : Refusal) (rest : List ℕ) → IsPrintableRefusal why → refusal_at (refusal_text why ++ rest) ≡ Some (why, rest)
  again refusal.BadLine rest good = refl
  again refusal.InForce rest good = refl
  again refusal.UnknownClass rest good = refl
  again refusal.UnknownNode rest good = refl
  again refusal.WrongKind rest good = refl
  again refusal.UnknownSegment rest good = refl
  again refusal.NotInForce rest good = refl
  again refusal.NotRouted rest good = refl
  again refusal.NotArrival rest good = refl
  again (refusal.AlreadyDone end) rest good = ap (option_map (λ x. (refusal.AlreadyDone x.0, x.1))) (time-spelling.again end rest good)
  again (refusal.AlreadyMoving start) rest good = ap (option_map (λ x. (refusal.AlreadyMoving x.0, x.1))) (time-spelling.again start rest good)
  again refusal.Full rest good = refl
  again (refusal.Step fault) rest good =
      ap (λ (t : List ℕ). refusal_at (t ++ rest)) (sym (step_text-is fault)) ∙ ap (option_map (λ x. (refusal.Step x.0, x.1))) (fault-spelling.again fault rest good)
  again (refusal.NotMoving start) rest good = ap (option_map (λ x. (refusal.NotMoving x.0, x.1))) (time-spelling.again start rest good)
  again (refusal.NotLate leave) rest good = ap (option_map (λ x. (refusal.NotLate x.0, x.1))) (time-spelling.again leave rest good)
  again (refusal.PastEnd horizon) rest good = ap (option_map (λ x. (refusal.PastEnd x.0, x.1))) (time-spelling.again horizon rest good)
  again refusal.Memory rest good = refl
