-- What is spelled is read again, and nothing else is read: for words, and for lines made of them.
use Rattle.std.proofs.Common.{◌≡◌, ◌∙◌, ◌≤◌, ℕ, zero, suc, List, [], ◌∷◌, ◌++◌, length, Option, Some, None, refl, sym, ap, subst, append_assoc, arith}
use Rattle.std.specs.Prelude.{option_map}
use Rattle.std.specs.Option.{option_map_or}
use Rattle.std.specs.List.{AllByRecursion, flat_map}
use Rattle.std.proofs.lemmas.List.Concat.{flat_map-cons}
use Rattle.taxi_text.specs.Commands.{◌>>=◌}
use Rattle.block_reader.specs.Reading.{behind, word_at, field_at, after, word_then, word_last, made, either, rows_at}
use Rattle.block_reader.proofs.Pieces.{IsPlain, behind-again, behind-takes, word-again, word-takes}

-- ---- options

pub some-both : {A B : Type 0} (o : Option A) (f : A → Option B) (y : B) → (o >>= f) ≡ Some y → (x : A) × (o ≡ Some x) × (f x ≡ Some y)
some-both (Some x) f y e = (x, refl, e)
some-both None f y e = absurd cc

pub some-map : {A B : Type 0} (o : Option A) (f : A → B) (y : B) → option_map f o ≡ Some y → (x : A) × (o ≡ Some x) × (f x ≡ y)
some-map (Some x) f y e = (x, refl, cc)
some-map None f y e = absurd cc

-- ---- spellings

-- what has a word, its word, and how a word is read
pub record IsWord {X : Type 0} (Good : X → Type 0) (word : X → List ℕ) (read : List ℕ → Option X) : Type 0 where
  pub again : (x : X) → Good x → read (word x) ≡ Some x
  pub only : (w : List ℕ) (x : X) → read w ≡ Some x → Good x × (w ≡ word x)
  pub plain : (x : X) → Good x → IsPlain (word x)

-- what is read is spelled so
abbrev pub Takes : {X : Type 0} → (X → Type 0) → (X → List ℕ) → (List ℕ → Option (X × List ℕ)) → Type 0
Takes {X = X} Good text read = (bytes : List ℕ) (x : X) (rest : List ℕ) → read bytes ≡ Some (x, rest) → Good x × (bytes ≡ text x ++ rest)

-- what has a text, its text, and how it is read
pub record IsSpelling {X : Type 0} (Good : X → Type 0) (text : X → List ℕ) (read : List ℕ → Option (X × List ℕ)) : Type 0 where
  pub again : (x : X) (rest : List ℕ) → Good x → read (text x ++ rest) ≡ Some (x, rest)
  pub takes : Takes Good text read

-- ---- words

module _ {X : Type 0} {Good : X → Type 0} {word : X → List ℕ} {read : List ℕ → Option X} (own : IsWord Good word read) (last : ℕ) where
  pub field-again : last ≤ 32 → (x : X) (rest : List ℕ) → Good x → field_at read last (word x ++ last ∷ rest) ≡ Some (x, rest)
  field-again low x rest good = rw (word-again last (word x) rest low (own.plain x good), own.again x good) refl

  pub field-takes : (bytes : List ℕ) (x : X) (rest : List ℕ) → field_at read last bytes ≡ Some (x, rest) → Good x × (bytes ≡ word x ++ last ∷ rest)
  field-takes bytes x rest e =
      let a = some-both (word_at last bytes) (λ p. option_map (λ y. (y, p.1)) (read p.0)) (x, rest) e in
      let b = some-map (read a.0.0) (λ y. (y, a.0.1)) (x, rest) a.2 in
      let is : b.0 ≡ x = ap (λ (p : X × List ℕ). p.0) b.2 in
      let behind : a.0.1 ≡ rest = ap (λ (p : X × List ℕ). p.1) b.2 in
      let w = own.only a.0.0 x (b.1 ∙ ap (λ y. Some y) is) in
      (w.0, word-takes last bytes a.0.0 a.0.1 a.1 ∙ ap (λ (r : List ℕ). a.0.0 ++ last ∷ r) behind ∙ ap (λ (v : List ℕ). v ++ last ∷ rest) w.1)

-- a word and a line feed
pub last-spelling : {X : Type 0} {Good : X → Type 0} {word : X → List ℕ} {read : List ℕ → Option X} → IsWord Good word read → IsSpelling Good (λ x. word x ++ 10 ∷ []) (word_last read)
last-spelling {X = X} {Good = Good} {word = word} {read = read} own = record {
  again = λ x rest good. ap (word_last read) (append_assoc (word x) (10 ∷ []) rest) ∙ field-again own 10 (omega arith) x rest good;
  takes = λ bytes x rest e. let t = field-takes own 10 bytes x rest e in (t.0, t.1 ∙ sym (append_assoc (word x) (10 ∷ []) rest));
}

-- a word and a blank, and more
pub then-spelling : {X Y : Type 0} {GoodX : X → Type 0} {word : X → List ℕ} {readX : List ℕ → Option X} {GoodY : Y → Type 0} {text : Y → List ℕ} {readY : List ℕ → Option (Y × List ℕ)}
    → IsWord GoodX word readX → IsSpelling GoodY text readY → IsSpelling (λ (p : X × Y). GoodX p.0 × GoodY p.1) (λ p. word p.0 ++ 32 ∷ text p.1) (word_then readX readY)
then-spelling {X = X} {Y = Y} {GoodX = GoodX} {word = word} {readX = readX} {GoodY = GoodY} {text = text} {readY = readY} own more = record {
  again = λ p rest good. ap (word_then readX readY) (append_assoc (word p.0) (32 ∷ text p.1) rest) ∙ rw (field-again own 32 (omega arith) p.0 (text p.1 ++ rest) good.0, more.again p.1 rest good.1) refl;
  takes = λ bytes p rest e.
      let a = some-both (field_at readX 32 bytes) (λ x. option_map (λ y. ((x.0, y.0), y.1)) (readY x.1)) (p, rest) e in
      let b = some-map (readY a.0.1) (λ y. ((a.0.0, y.0), y.1)) (p, rest) a.2 in
      let first : a.0.0 ≡ p.0 = ap (λ (q : (X × Y) × List ℕ). q.0.0) b.2 in
      let second : b.0.0 ≡ p.1 = ap (λ (q : (X × Y) × List ℕ). q.0.1) b.2 in
      let behind : b.0.1 ≡ rest = ap (λ (q : (X × Y) × List ℕ). q.1) b.2 in
      let x = field-takes own 32 bytes a.0.0 a.0.1 a.1 in
      let y = more.takes a.0.1 b.0.0 b.0.1 b.1 in
      let whole : bytes ≡ word p.0 ++ 32 ∷ (text p.1 ++ rest) =
      x.1 ∙ ap (λ (r : List ℕ). word a.0.0 ++ 32 ∷ r) y.1 ∙ ap (λ (v : X). word v ++ 32 ∷ (text b.0.0 ++ b.0.1)) first
      ∙ ap (λ (v : Y). word p.0 ++ 32 ∷ (text v ++ b.0.1)) second ∙ ap (λ (r : List ℕ). word p.0 ++ 32 ∷ (text p.1 ++ r)) behind in
      ((subst GoodX first x.0, subst GoodY second y.0), whole ∙ sym (append_assoc (word p.0) (32 ∷ text p.1) rest));
}

-- ---- fixed texts

pub after-spelling : {X : Type 0} {Good : X → Type 0} {text : X → List ℕ} {read : List ℕ → Option (X × List ℕ)} (front : List ℕ) → IsSpelling Good text read
    → IsSpelling Good (λ x. front ++ text x) (after front read)
after-spelling {X = X} {Good = Good} {text = text} {read = read} front own = record {
  again = λ x rest good. ap (after front read) (append_assoc front (text x) rest) ∙ rw (behind-again front (text x ++ rest)) (own.again x rest good);
  takes = λ bytes x rest e.
      let a = some-both (behind front bytes) read (x, rest) e in
      let t = own.takes a.0 x rest a.2 in
      (t.0, behind-takes front bytes a.0 a.1 ∙ ap (λ (r : List ℕ). front ++ r) t.1 ∙ sym (append_assoc front (text x) rest));
}

pub after-takes : {X : Type 0} (Good : X → Type 0) (text : X → List ℕ) {read : List ℕ → Option (X × List ℕ)} (front : List ℕ)
    → ((bytes : List ℕ) (x : X) (rest : List ℕ) → read bytes ≡ Some (x, rest) → Good x × (front ++ bytes ≡ text x ++ rest)) → Takes Good text (after front read)
after-takes {X = X} Good text {read = read} front own bytes x rest e =
    let a = some-both (behind front bytes) read (x, rest) e in
    let t = own a.0 x rest a.2 in
    (t.0, behind-takes front bytes a.0 a.1 ∙ t.1)

-- ---- other values

-- a value that is made of what is read, and nothing lost
pub made-spelling : {X Y : Type 0} {Good : X → Type 0} {text : X → List ℕ} {read : List ℕ → Option (X × List ℕ)} (make : X → Y) (part : Y → X)
    → ((y : Y) → make (part y) ≡ y) → ((x : X) → part (make x) ≡ x) → IsSpelling Good text read → IsSpelling (λ y. Good (part y)) (λ y. text (part y)) (made make read)
made-spelling {X = X} {Y = Y} {Good = Good} {text = text} {read = read} make part whole parts own = record {
  again = λ y rest good. rw (own.again (part y) rest good) (ap (λ (z : Y). Some (z, rest)) (whole y));
  takes = λ bytes y rest e.
      let a = some-map (read bytes) (λ x. (make x.0, x.1)) (y, rest) e in
      let is : a.0.0 ≡ part y = sym (parts a.0.0) ∙ ap (λ (p : Y × List ℕ). part p.0) a.2 in
      let behind : a.0.1 ≡ rest = ap (λ (p : Y × List ℕ). p.1) a.2 in
      let t = own.takes bytes a.0.0 a.0.1 a.1 in
      (subst Good is t.0, t.1 ∙ ap (λ (x : X). text x ++ a.0.1) is ∙ ap (λ (r : List ℕ). text (part y) ++ r) behind);
}

-- one of several kinds of value
pub made-takes : {X Y : Type 0} {GoodX : X → Type 0} {read : List ℕ → Option (X × List ℕ)} (textX : X → List ℕ) (Good : Y → Type 0) (text : Y → List ℕ) (make : X → Y) (front : List ℕ)
    → ((x : X) → GoodX x → Good (make x)) → ((x : X) → front ++ textX x ≡ text (make x)) → Takes GoodX textX read
    → (bytes : List ℕ) (y : Y) (rest : List ℕ) → made make read bytes ≡ Some (y, rest) → Good y × (front ++ bytes ≡ text y ++ rest)
made-takes {X = X} {Y = Y} {GoodX = GoodX} {read = read} textX Good text make front good same takes bytes y rest e =
    let a = some-map (read bytes) (λ x. (make x.0, x.1)) (y, rest) e in
    let is : make a.0.0 ≡ y = ap (λ (p : Y × List ℕ). p.0) a.2 in
    let behind : a.0.1 ≡ rest = ap (λ (p : Y × List ℕ). p.1) a.2 in
    let t = takes bytes a.0.0 a.0.1 a.1 in (
      subst Good is (good a.0.0 t.0),
      ap (λ (b : List ℕ). front ++ b) (t.1 ∙ ap (λ (r : List ℕ). textX a.0.0 ++ r) behind) ∙ sym (append_assoc front (textX a.0.0) rest)
          ∙ ap (λ (b : List ℕ). b ++ rest) (same a.0.0 ∙ ap text is),
    )

pub either-takes : {X : Type 0} (Good : X → Type 0) (text : X → List ℕ) {here other : List ℕ → Option (X × List ℕ)} (front : List ℕ)
    → ((bytes : List ℕ) (x : X) (rest : List ℕ) → here bytes ≡ Some (x, rest) → Good x × (front ++ bytes ≡ text x ++ rest)) → Takes Good text other
    → Takes Good text (either front here other)
either-takes {X = X} Good text {here = here} {other = other} front first second bytes x rest e = go (behind front bytes) refl e where
  go : (o : Option (List ℕ)) → behind front bytes ≡ o → option_map_or here o (other bytes) ≡ Some (x, rest) → Good x × (bytes ≡ text x ++ rest)
  go (Some b) is e = let t = first b x rest e in (t.0, behind-takes front bytes b is ∙ t.1)
  go None is e = second bytes x rest e

-- ---- rows

module _ {X : Type 0} {Good : X → Type 0} {text : X → List ℕ} {row : List ℕ → Option (X × List ℕ)} (own : IsSpelling Good text row) where
  rows_of : Option (List X × List ℕ) → List X
  rows_of None = []
  rows_of (Some p) = p.0

  rest_of : List ℕ → Option (List X × List ℕ) → List ℕ
  rest_of rest None = rest
  rest_of rest (Some p) = p.1

  pub rows-again : (xs : List X) (rest : List ℕ) → AllByRecursion Good xs → rows_at row (length xs) (flat_map text xs ++ rest) ≡ Some (xs, rest)
  unfolding rows_at
  rows-again [] rest good = refl
  rows-again (x ∷ xs) rest good =
      let regrouped : flat_map text (x ∷ xs) ++ rest ≡ text x ++ (flat_map text xs ++ rest) = ap (λ (t : List ℕ). t ++ rest) (flat_map-cons text x xs) ∙ append_assoc (text x) (flat_map text xs) rest in
      ap (rows_at row (suc (length xs))) regrouped ∙ rw (own.again x (flat_map text xs ++ rest) good.0, rows-again xs rest good.1) refl

  pub rows-takes : (n : ℕ) (bytes : List ℕ) (xs : List X) (rest : List ℕ) → rows_at row n bytes ≡ Some (xs, rest) → (length xs ≡ n) × AllByRecursion Good xs × (bytes ≡ flat_map text xs ++ rest)
  unfolding rows_at rows_of rest_of
  rows-takes zero bytes xs rest e =
      let none : [] ≡ xs = ap rows_of e in
      let behind : bytes ≡ rest = ap (rest_of rest) e in
      rw (← none, behind) (refl, tt, refl)
  rows-takes (suc n) bytes xs rest e =
      let a = some-both (row bytes) (λ first. option_map (λ others. (first.0 ∷ others.0, others.1)) (rows_at row n first.1)) (xs, rest) e in
      let b = some-map (rows_at row n a.0.1) (λ others. (a.0.0 ∷ others.0, others.1)) (xs, rest) a.2 in
      let first = own.takes bytes a.0.0 a.0.1 a.1 in
      let others = rows-takes n a.0.1 b.0.0 b.0.1 b.1 in
      let joined : bytes ≡ flat_map text (a.0.0 ∷ b.0.0) ++ b.0.1 =
      first.1 ∙ ap (λ (r : List ℕ). text a.0.0 ++ r) others.2 ∙ sym (append_assoc (text a.0.0) (flat_map text b.0.0) b.0.1) ∙ ap (λ (t : List ℕ). t ++ b.0.1) (sym (flat_map-cons text a.0.0 b.0.0)) in
      subst (λ (p : List X × List ℕ). (length p.0 ≡ suc n) × AllByRecursion Good p.0 × (bytes ≡ flat_map text p.0 ++ p.1)) b.2 (ap suc others.0, (first.0, others.1), joined)
