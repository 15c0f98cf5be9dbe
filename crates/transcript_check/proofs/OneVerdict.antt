-- A transcript is right or wrong, and not both; and it is wrong at one block, for one reason.
use Rattle.std.proofs.Common.{◌≡◌, ◌+◌, ◌++◌, ◌∷◌, ◌∙◌, [], ℕ, List, length, All, refl, sym, ap, subst, append_assoc, arith}
use Rattle.std.proofs.lemmas.List.Elements.{All-head, All-tail}
use Rattle.taxi_base.specs.Airport.{Airport, IsWellFormed}
use Rattle.taxi_base.specs.State.{State, no_holder}
use Rattle.replies.specs.declared.block.Block.{Block}
use Rattle.replies.specs.Texts.{block_text}
use Rattle.replies.specs.Printable.{IsPrintable}
use Rattle.replies.specs.Passes.{IsPassed, IsFirstBroken}
use Rattle.replies.proofs.TurnLaws.{first_broken-one, passed-unbroken}
use Rattle.block_reader.specs.Read.{BeginsWith}
use Rattle.block_reader.proofs.ReadLaws.{texts-differ, one-begins}
use Rattle.transcript_check.specs.declared.failure.Failure.{Failure}
use Rattle.transcript_check.specs.declared.failure.Failure.TheVariants.{Form, Rule}
use Rattle.transcripts.proofs.OneAfter.{passed-one}
use Rattle.transcripts.specs.Runs.{blocks_text, done_line}
use Rattle.transcript_check.specs.Checks.{IsPassedRun, IsRight, IsWrongAt, BlockFails, EndFails, Fails}

line-same : (x y : List ℕ) (xs ys : List (List ℕ)) → ◌≡◌ {A = List (List ℕ)} (x ∷ xs) (y ∷ ys) → (x ≡ y) × (xs ≡ ys)
line-same x y xs ys e = (cc, cc)

module _ (airport : Airport) (well : IsWellFormed airport) where
  -- a block that passes does not fail
  passed-fails : (state after : State) (line : List ℕ) (block : Block) (rest : List ℕ) (why : Failure) → IsPassed airport state line block after
      → BeginsWith airport rest block → BlockFails airport state line rest why → ⊥
  passed-fails state after line block rest Form passed begins fails = fails block begins
  passed-fails state after line block rest (Rule r) passed begins fails =
      let same : fails.0 ≡ block = one-begins airport well rest fails.0 block fails.1 begins in
      passed-unbroken airport state line block after passed r (subst (λ b. IsFirstBroken airport state line b r) same fails.2)

  fails-one : (state : State) (line rest : List ℕ) (a b : Failure) → BlockFails airport state line rest a → BlockFails airport state line rest b → a ≡ b
  fails-one state line rest Form Form one two = refl
  fails-one state line rest Form (Rule r) one two = absurd (one two.0 two.1)
  fails-one state line rest (Rule r) Form one two = absurd (two one.0 one.1)
  fails-one state line rest (Rule r) (Rule q) one two =
      let same : one.0 ≡ two.0 = one-begins airport well rest one.0 two.0 one.1 two.1 in
      ap Rule (first_broken-one airport state line two.0 r q (subst (λ b. IsFirstBroken airport state line b r) same one.2) two.2)

  -- the text of a block and what follows
  behind : (block : Block) (blocks : List Block) (tail : List ℕ) → blocks_text airport (block ∷ blocks) ++ tail ≡ block_text airport block ++ (blocks_text airport blocks ++ tail)
  behind block blocks tail = append_assoc (block_text airport block) (blocks_text airport blocks) tail

  front-same : (a b : Block) (fs bs : List Block) (x y : List ℕ) → All (IsPrintable airport) (a ∷ fs) → All (IsPrintable airport) (b ∷ bs)
      → blocks_text airport (a ∷ fs) ++ x ≡ blocks_text airport (b ∷ bs) ++ y → (a ≡ b) × (blocks_text airport fs ++ x ≡ blocks_text airport bs ++ y)
  front-same a b fs bs x y pa pb e =
      texts-differ airport well a b (blocks_text airport fs ++ x) (blocks_text airport bs ++ y) (All-head (IsPrintable airport) a fs pa) (All-head (IsPrintable airport) b bs pb)
      (sym (behind a fs x) ∙ e ∙ behind b bs y)

  -- ---- right and wrong

  right-fails : (state after wrong_state : State) (lines before left : List (List ℕ)) (blocks front : List Block) (tail rest : List ℕ) (count : ℕ) (why : Failure)
      → IsPassedRun airport state lines blocks after → All (IsPrintable airport) blocks → before ++ left ≡ lines
      → IsPassedRun airport state before front wrong_state → All (IsPrintable airport) front
      → blocks_text airport front ++ rest ≡ blocks_text airport blocks ++ tail → (count + length blocks ≡ count + length front → tail ≡ done_line (count + length front))
      → Fails airport wrong_state left (count + length front) rest why → ⊥
  right-fails state after wrong_state lines [] [] [] [] tail rest count Form run printable split fronts shown text end fails = fails (text ∙ end refl)
  right-fails state after wrong_state lines [] [] [] [] tail rest count (Rule r) run printable split fronts shown text end fails = fails
  right-fails state after wrong_state lines [] [] (b ∷ blocks) [] tail rest count why run printable split fronts shown text end fails =
      absurd (subst (λ ls. IsPassedRun airport state ls (b ∷ blocks) after) (sym split) run)
  right-fails state after wrong_state lines [] (line ∷ left) [] [] tail rest count why run printable split fronts shown text end fails =
      absurd (subst (λ ls. IsPassedRun airport state ls [] after) (sym split) run)
  right-fails state after wrong_state lines [] (line ∷ left) (b ∷ blocks) [] tail rest count why run printable split fronts shown text end fails =
      let here : IsPassedRun airport state (line ∷ left) (b ∷ blocks) after = subst (λ ls. IsPassedRun airport state ls (b ∷ blocks) after) (sym split) run in
      passed-fails state here.0 line b rest why here.1
      (All-head (IsPrintable airport) b blocks printable, (blocks_text airport blocks ++ tail, text ∙ behind b blocks tail))
      (subst (λ s. BlockFails airport s line rest why) fronts fails)
  right-fails state after wrong_state lines [] left blocks (f ∷ front) tail rest count why run printable split fronts shown text end fails = absurd fronts
  right-fails state after wrong_state lines (line ∷ before) left blocks [] tail rest count why run printable split fronts shown text end fails = absurd fronts
  right-fails state after wrong_state [] (line ∷ before) left blocks (f ∷ front) tail rest count why run printable split fronts shown text end fails = absurd (cc)
  right-fails state after wrong_state (l ∷ lines) (line ∷ before) left [] (f ∷ front) tail rest count why run printable split fronts shown text end fails = absurd run
  right-fails state after wrong_state (l ∷ lines) (line ∷ before) left (b ∷ blocks) (f ∷ front) tail rest count why run printable split fronts shown text end fails =
      let lines_same = line-same line l (before ++ left) lines split in
      let same = front-same f b front blocks rest tail shown printable text in
      let passed : IsPassed airport state line f run.0 = subst (λ x. IsPassed airport state line x run.0) (sym same.0) (subst (λ x. IsPassed airport state x b run.0) (sym lines_same.0) run.1) in
      let state_same : fronts.0 ≡ run.0 = passed-one airport state line f fronts.0 run.0 well fronts.1 passed in
      let more : count + length (f ∷ front) ≡ (count + 1) + length front = omega arith in
      right-fails run.0 after wrong_state lines before left blocks front tail rest (count + 1) why run.2 (All-tail (IsPrintable airport) b blocks printable) lines_same.1
      (subst (λ s. IsPassedRun airport s before front wrong_state) state_same fronts.2) (All-tail (IsPrintable airport) f front shown) same.1
      (λ e. end (omega (arith, e)) ∙ ap done_line more)
      (subst (λ n. Fails airport wrong_state left n rest why) more fails)

  -- counted from none on
  from-nothing : (state : State) (left : List (List ℕ)) (blocks : List Block) (rest : List ℕ) (why : Failure) → Fails airport state left (length blocks) rest why
      → Fails airport state left (0 + length blocks) rest why
  from-nothing state left blocks rest why fails = let same : length blocks ≡ 0 + length blocks = omega arith in subst (λ n. Fails airport state left n rest why) same fails

  pub right-not-wrong : (commands : List (List ℕ)) (text : List ℕ) (blocks : List Block) (number : ℕ) (why : Failure) → IsRight airport commands text blocks → IsWrongAt airport commands text number why → ⊥
  right-not-wrong commands text blocks number why right wrong =
      right-fails no_holder right.after wrong.state commands wrong.before wrong.left blocks wrong.blocks (done_line (length blocks)) wrong.rest 0 why
      right.passed right.printable wrong.split wrong.passed wrong.printable (sym wrong.front ∙ right.whole)
      (λ e. let same : length blocks ≡ 0 + length wrong.blocks = omega (arith, e) in ap done_line same) (from-nothing wrong.state wrong.left wrong.blocks wrong.rest why wrong.fails)

  -- ---- wrong at one block

  wrong-meets : (state at bt : State) (before left fore other : List (List ℕ)) (fs bs : List Block) (x y : List ℕ) (count : ℕ) (why how : Failure)
      → before ++ left ≡ fore ++ other
      → IsPassedRun airport state before fs at → All (IsPrintable airport) fs → Fails airport at left (count + length fs) x why
      → IsPassedRun airport state fore bs bt → All (IsPrintable airport) bs → Fails airport bt other (count + length bs) y how
      → blocks_text airport fs ++ x ≡ blocks_text airport bs ++ y → (length fs ≡ length bs) × (why ≡ how)
  wrong-meets state at bt [] left [] other [] [] x y count why how split a pa fa b pb fb text =
      (refl, go left other split (subst (λ s. Fails airport s left (count + 0) x why) a fa) (subst (λ s. Fails airport s other (count + 0) y how) b fb))
    where
      ends : (w h : Failure) → EndFails (count + 0) x w → EndFails (count + 0) y h → w ≡ h
      ends Form Form one two = refl
      ends (Rule r) h one two = absurd one
      ends Form (Rule r) one two = absurd two

      go : (l o : List (List ℕ)) → l ≡ o → Fails airport state l (count + 0) x why → Fails airport state o (count + 0) y how → why ≡ how
      go [] [] e one two = ends why how one two
      go [] (m ∷ o) e one two = absurd (cc)
      go (m ∷ l) [] e one two = absurd (cc)
      go (m ∷ l) (n ∷ o) e one two =
          fails-one state m x why how one (subst (λ z. BlockFails airport state m z how) (sym text) (subst (λ k. BlockFails airport state k y how) (sym (line-same m n l o e).0) two))
  wrong-meets state at bt [] left fore other (a1 ∷ fs) bs x y count why how split a pa fa b pb fb text = absurd a
  wrong-meets state at bt (m ∷ before) left fore other [] bs x y count why how split a pa fa b pb fb text = absurd a
  wrong-meets state at bt before left [] other fs (b1 ∷ bs) x y count why how split a pa fa b pb fb text = absurd b
  wrong-meets state at bt before left (n ∷ fore) other fs [] x y count why how split a pa fa b pb fb text = absurd b
  wrong-meets state at bt [] left (n ∷ fore) other [] (b1 ∷ bs) x y count why how split a pa fa b pb fb text =
      absurd (passed-fails state b.0 n b1 x why b.1 (All-head (IsPrintable airport) b1 bs pb, (blocks_text airport bs ++ y, text ∙ behind b1 bs y))
      (subst (λ s. BlockFails airport s n x why) a (subst (λ l. Fails airport at l (count + 0) x why) split fa)))
  wrong-meets state at bt (m ∷ before) left [] other (a1 ∷ fs) [] x y count why how split a pa fa b pb fb text =
      absurd (passed-fails state a.0 m a1 y how a.1 (All-head (IsPrintable airport) a1 fs pa, (blocks_text airport fs ++ x, sym text ∙ behind a1 fs x))
      (subst (λ s. BlockFails airport s m y how) b (subst (λ l. Fails airport bt l (count + 0) y how) (sym split) fb)))
  wrong-meets state at bt (m ∷ before) left (n ∷ fore) other (a1 ∷ fs) (b1 ∷ bs) x y count why how split a pa fa b pb fb text =
      let lines_same = line-same m n (before ++ left) (fore ++ other) split in
      let same = front-same a1 b1 fs bs x y pa pb text in
      let passed : IsPassed airport state m a1 b.0 = subst (λ z. IsPassed airport state m z b.0) (sym same.0) (subst (λ z. IsPassed airport state z b1 b.0) (sym lines_same.0) b.1) in
      let state_same : a.0 ≡ b.0 = passed-one airport state m a1 a.0 b.0 well a.1 passed in
      let more_a : count + length (a1 ∷ fs) ≡ (count + 1) + length fs = omega arith in
      let more_b : count + length (b1 ∷ bs) ≡ (count + 1) + length bs = omega arith in
      let rest = wrong-meets b.0 at bt before left fore other fs bs x y (count + 1) why how lines_same.1
      (subst (λ s. IsPassedRun airport s before fs at) state_same a.2) (All-tail (IsPrintable airport) a1 fs pa) (subst (λ k. Fails airport at left k x why) more_a fa)
      b.2 (All-tail (IsPrintable airport) b1 bs pb) (subst (λ k. Fails airport bt other k y how) more_b fb) same.1 in
      (omega (arith, rest.0), rest.1)

  pub wrong-one : (commands : List (List ℕ)) (text : List ℕ) (number other : ℕ) (why how : Failure) → IsWrongAt airport commands text number why → IsWrongAt airport commands text other how
      → (number ≡ other) × (why ≡ how)
  wrong-one commands text number other why how a b =
      let met = wrong-meets no_holder a.state b.state a.before a.left b.before b.left a.blocks b.blocks a.rest b.rest 0 why how (a.split ∙ sym b.split)
      a.passed a.printable (from-nothing a.state a.left a.blocks a.rest why a.fails) b.passed b.printable (from-nothing b.state b.left b.blocks b.rest how b.fails) (sym a.front ∙ b.front) in
      let x = a.counted in
      let y = b.counted in
      (omega (arith, met.0, x, y), met.1)
