-- The one block that the bytes begin with.
use Rattle.std.proofs.Common.{◌≡◌, ◌∙◌, ◌+◌, ◌-◌, ◌≤◌, ℕ, List, ◌++◌, length, length-append, Option, Some, None, sym, ap, arith}
use Rattle.std.proofs.lemmas.Option.{none-some}
use Rattle.taxi_base.specs.Airport.{Airport, IsWellFormed}
use Rattle.replies.specs.declared.block.Block.{Block}
use Rattle.replies.specs.Texts.{block_text}
use Rattle.replies.specs.Printable.{IsPrintable}
use Rattle.block_reader.specs.Blocks.{block_at}
use Rattle.block_reader.specs.Read.{BeginsWith}
use Rattle.block_reader.proofs.BlockLaws.{block-again, block-takes}

abbrev first_or : {A B : Type 0} → A → Option (A × B) → A
first_or d None = d
first_or d (Some p) = p.0

abbrev second_or : {A B : Type 0} → B → Option (A × B) → B
second_or d None = d
second_or d (Some p) = p.1

some-first : {A B : Type 0} (a b : A) (x y : B) (o p : Option (A × B)) → o ≡ p → o ≡ Some (a, x) → p ≡ Some (b, y) → (a ≡ b) × (x ≡ y)
some-first {A = A} {B = B} a b x y o p e left right =
    let left_first : first_or a o ≡ a = ap (λ (q : Option (A × B)). first_or a q) left in
    let right_first : first_or a p ≡ b = ap (λ (q : Option (A × B)). first_or a q) right in
    let left_second : second_or x o ≡ x = ap (λ (q : Option (A × B)). second_or x q) left in
    let right_second : second_or x p ≡ y = ap (λ (q : Option (A × B)). second_or x q) right in
    (sym left_first ∙ ap (λ (q : Option (A × B)). first_or a q) e ∙ right_first, sym left_second ∙ ap (λ (q : Option (A × B)). second_or x q) e ∙ right_second)

some-none : {A : Type 0} (o : Option A) (x : A) → o ≡ Some x → o ≡ None → ⊥
some-none o x some none = none-some x (sym none ∙ some)

module _ (airport : Airport) (well : IsWellFormed airport) where
  -- what was printed is read again, whatever follows
  pub printed-again : (block : Block) (rest : List ℕ) → IsPrintable airport block → block_at airport (block_text airport block ++ rest) ≡ Some (block, rest)
  printed-again = block-again airport well

  -- the text of no printable block is a proper prefix of that of another
  pub texts-differ : (a b : Block) (x y : List ℕ) → IsPrintable airport a → IsPrintable airport b → block_text airport a ++ x ≡ block_text airport b ++ y → (a ≡ b) × (x ≡ y)
  texts-differ a b x y good_a good_b e = some-first a b x y _ _ (ap (block_at airport) e) (printed-again a x good_a) (printed-again b y good_b)

  pub one-begins : (bytes : List ℕ) (a b : Block) → BeginsWith airport bytes a → BeginsWith airport bytes b → a ≡ b
  one-begins bytes a b p q = (texts-differ a b p.1.0 q.1.0 p.0 q.0 (sym p.1.1 ∙ q.1.1)).0

  module _ (bytes : List ℕ) where
    -- a block that was found
    pub begins : (block : Block) (rest : List ℕ) → block_at airport bytes ≡ Some (block, rest) → BeginsWith airport bytes block
    begins block rest e = let t = block-takes airport well bytes block rest e in (t.0, (rest, t.1))

    pub shorter : (block : Block) (rest : List ℕ) → block_at airport bytes ≡ Some (block, rest) → length rest ≤ length bytes
    shorter block rest e =
        let t = block-takes airport well bytes block rest e in
        let l : length bytes ≡ length (block_text airport block) + length rest = ap length t.1 ∙ length-append (block_text airport block) rest in
        omega (arith, l)

    pub text-length : (block : Block) (rest : List ℕ) → block_at airport bytes ≡ Some (block, rest) → length bytes - length rest ≡ length (block_text airport block)
    text-length block rest e =
        let t = block-takes airport well bytes block rest e in
        let l : length bytes ≡ length (block_text airport block) + length rest = ap length t.1 ∙ length-append (block_text airport block) rest in
        omega (arith, l)

    -- none was found
    pub none-begins : block_at airport bytes ≡ None → (block : Block) → BeginsWith airport bytes block → ⊥
    none-begins e block p = some-none (block_at airport bytes) (block, p.1.0) (ap (block_at airport) p.1.1 ∙ printed-again block p.1.0 p.0) e

    pub same-begins : (found block : Block) (rest : List ℕ) → block_at airport bytes ≡ Some (found, rest) → BeginsWith airport bytes block → found ≡ block
    same-begins found block rest e p = one-begins bytes found block (begins found rest e) p
