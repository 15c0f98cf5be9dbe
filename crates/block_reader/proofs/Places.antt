-- Segments and arcs, each read by the word that names it in the airport.
use Rattle.std.proofs.Common.{◌≡◌, ◌≢◌, ◌∙◌, ◌<◌, ◌==◌, ◌%◌, ◌/◌, ◌+◌, ◌*◌, ◌++◌, ◌∷◌, [], ℕ, Bool, true, false, cond, IsTrue, List, length, map, Some, None, refl, sym, ap, subst, arith, rules}
use Rattle.std.specs.Prelude.{option_map, unwrap_or, slice_get, bytes_eq}
use Rattle.std.proofs.lemmas.Bool.{eqb-true}
use Rattle.std.proofs.lemmas.Bool.Decides.{nat_tests}
use Rattle.std.proofs.lemmas.List.{length-map}
use Rattle.std.proofs.lemmas.List.Quantifiers.{position-Some}
use Rattle.std.proofs.lemmas.Slice.Eq.{bytes_eq-Decides}
use Rattle.taxi_base.specs.declared.numbers.Segment.{Segment}
use Rattle.taxi_base.specs.declared.numbers.Arc.{Arc}
use Rattle.taxi_base.specs.declared.numbers.Class.{Class}
use Rattle.taxi_base.specs.Words.{is_name}
use Rattle.taxi_base.specs.Airport.{Airport, IsWellFormed, place_of, class_named, segment_named, arc_named, segment_of, arc_exists, layout_of, arc_of}
use Rattle.taxi_base.proofs.AirportLaws.{arc_exists-segment}
use Rattle.taxi_text.specs.Fields.{name_of, arc_word, arc_word_of, sign_of}
use Rattle.taxi_text.proofs.ArcWords.{arc_word-again, arc_word-only}
use Rattle.airport_file.specs.Words.{class_word, segment_word, word_of_arc}
use Rattle.airport_file.proofs.NamedPlaces.{word-at, word-found}
use Rattle.replies.specs.Printable.{HasArc, HasSegment, HasClass}
use Rattle.replies.proofs.FiledLaws.{and_then-some}
use Rattle.block_reader.specs.Fields.{class_of_word, segment_of_word, arc_of_word}
use Rattle.block_reader.proofs.Pieces.{IsPlain}
use Rattle.block_reader.proofs.Spellings.{some-both, some-map, IsWord}
use Rattle.block_reader.proofs.Words.{name-word, name-plain}

-- ---- classes and segments

-- what a name finds has that name
place-named : {X : Type 0} (word : X → List ℕ) (rows : List X) (name : List ℕ) (k : ℕ) → place_of name (map word rows) ≡ Some k
    → (k < length rows) × (name ≡ unwrap_or (option_map word (slice_get rows k)) [])
place-named word rows name k e =
    let p = position-Some (bytes_eq name) (map word rows) k [] e in
    (omega (arith, p.0, length-map rows word), (bytes_eq-Decides name _).0 p.1 ∙ sym (word-at word rows k))

module _ (airport : Airport) where
  class-named : (name : List ℕ) (class : Class) → class_named airport name ≡ Some class → HasClass airport class × (name ≡ class_word airport class)
  unfolding class_named
  class-named name class e =
      let a = some-map (place_of name (map (λ c. c.name) airport.classes)) (λ k. record { 0 = k }) class e in
      subst (λ c. HasClass airport c × (name ≡ class_word airport c)) a.2 (place-named (λ c. c.name) airport.classes name a.0 a.1)

  pub segment-named : (name : List ℕ) (segment : Segment) → segment_named airport name ≡ Some segment → HasSegment airport segment × (name ≡ segment_word airport segment)
  unfolding segment_named
  segment-named name segment e =
      let a = some-map (place_of name (map (λ s. s.name) airport.segments)) (λ k. record { 0 = k }) segment e in
      subst (λ s. HasSegment airport s × (name ≡ segment_word airport s)) a.2 (place-named (λ s. s.name) airport.segments name a.0 a.1)

  module _ (well : IsWellFormed airport) where
    class-name : (class : Class) → HasClass airport class → is_name (class_word airport class) ≡ true
    class-name class has = (word-found (λ c. c.name) airport.classes class.0 32 well.classes has).valid

    pub segment-name : (segment : Segment) → HasSegment airport segment → is_name (segment_word airport segment) ≡ true
    segment-name segment has = (word-found (λ s. s.name) airport.segments segment.0 10000 well.segments has).valid

    -- and is found by it
    class-again : (class : Class) → HasClass airport class → class_named airport (class_word airport class) ≡ Some class
    unfolding class_named
    class-again class has = rw ((word-found (λ c. c.name) airport.classes class.0 32 well.classes has).place) refl

    pub segment-again : (segment : Segment) → HasSegment airport segment → segment_named airport (segment_word airport segment) ≡ Some segment
    unfolding segment_named
    segment-again segment has = rw ((word-found (λ s. s.name) airport.segments segment.0 10000 well.segments has).place) refl

    pub class-word : IsWord (HasClass airport) (class_word airport) (class_of_word airport)
    class-word = record {
      again = λ c has. rw (class-name c has) (class-again c has);
      only = λ w c e.
          let a = some-both (name_of w) (class_named airport) c e in
          let n = name-word.only w a.0 a.1 in
          let p = class-named a.0 c a.2 in
          (p.0, n.1 ∙ p.1);
      plain = λ c has. name-plain (class_word airport c) (let e = class-name c has in search rules);
    }

    pub segment-word : IsWord (HasSegment airport) (segment_word airport) (segment_of_word airport)
    segment-word = record {
      again = λ s has. rw (segment-name s has) (segment-again s has);
      only = λ w s e.
          let a = some-both (name_of w) (segment_named airport) s e in
          let n = name-word.only w a.0 a.1 in
          let p = segment-named a.0 s a.2 in
          (p.0, n.1 ∙ p.1);
      plain = λ s has. name-plain (segment_word airport s) (let e = segment-name s has in search rules);
    }

-- ---- arcs

arc-again : (arc : Arc) → arc_of (segment_of arc) (arc.0 % 2 == 0) ≡ arc
arc-again arc = ap (λ n. record { 0 = n }) (go (arc.0 % 2 == 0) refl)
  where
    go : (b : Bool) → (arc.0 % 2 == 0) ≡ b → 2 * (arc.0 / 2) + cond b 0 1 ≡ arc.0
    go true e = let even : arc.0 % 2 ≡ 0 = eqb-true (arc.0 % 2) 0 e in omega (arith, even)
    go false e = let odd : arc.0 % 2 ≢ 0 = grind (arith, nat_tests, e) in omega (arith, odd)

pub arc-segment : (s : Segment) (forward : Bool) → segment_of (arc_of s forward) ≡ s
arc-segment s true = ap (λ n. record { 0 = n }) (omega arith)
arc-segment s false = ap (λ n. record { 0 = n }) (omega arith)

arc-forward : (s : Segment) (forward : Bool) → ((arc_of s forward).0 % 2 == 0) ≡ forward
arc-forward s true = let e : (2 * s.0 + 0) % 2 ≡ 0 = omega arith in rw e refl
arc-forward s false = let e : (2 * s.0 + 1) % 2 ≡ 1 = omega arith in rw e refl

plain-and : (word : List ℕ) (b : ℕ) → IsPlain word → 32 < b → IsPlain (word ++ b ∷ [])
plain-and [] b plain high = (high, tt)
plain-and (c ∷ word) b plain high = (plain.0, plain-and word b plain.1 high)

sign-plain : (forward : Bool) → 32 < sign_of forward
sign-plain true = omega arith
sign-plain false = omega arith

is_true : (b : Bool) → IsTrue b → b ≡ true
is_true b h = search rules

chosen : {A : Type 0} (b : Bool) (x y : A) → cond b (Some x) None ≡ Some y → (b ≡ true) × (x ≡ y)
chosen true x y e = (refl, cc)
chosen false x y e = absurd cc

module _ (airport : Airport) where
  -- the word of a segment's arc in a direction
  pub word_of_arc-of : (segment : Segment) (forward : Bool) → word_of_arc airport (arc_of segment forward) ≡ segment_word airport segment ++ sign_of forward ∷ []
  word_of_arc-of segment forward =
      ap (λ (s : Segment). arc_word (segment_word airport s) ((arc_of segment forward).0 % 2 == 0)) (arc-segment segment forward)
      ∙ ap (λ (b : Bool). arc_word (segment_word airport segment) b) (arc-forward segment forward)

  module _ (well : IsWellFormed airport) where
    pub arc-read : (arc : Arc) → HasArc airport arc → arc_named airport (segment_word airport (segment_of arc)) (arc.0 % 2 == 0) ≡ Some arc
    unfolding arc_named
    arc-read arc has = rw (segment-again airport well (segment_of arc) (arc_exists-segment airport arc has), arc-again arc, is_true _ has) refl

    arc-only : (segment : List ℕ) (forward : Bool) (arc : Arc) → arc_named airport segment forward ≡ Some arc → HasArc airport arc × (arc_word segment forward ≡ word_of_arc airport arc)
    unfolding arc_named
    arc-only segment forward arc e =
        let a = and_then-some _ (segment_named airport segment) arc e in
        let c = chosen (arc_exists (layout_of airport) (arc_of a.0 forward)) (arc_of a.0 forward) arc a.2 in
        let n = segment-named airport segment a.0 a.1 in
        let there : HasArc airport (arc_of a.0 forward) = (let k = c.0 in search rules) in
        let word : arc_word segment forward ≡ word_of_arc airport (arc_of a.0 forward) = ap (λ (w : List ℕ). arc_word w forward) n.1 ∙ sym (word_of_arc-of a.0 forward) in
        subst (λ (x : Arc). HasArc airport x × (arc_word segment forward ≡ word_of_arc airport x)) c.1 (there, word)

    pub arc-spelled : IsWord (HasArc airport) (word_of_arc airport) (arc_of_word airport)
    arc-spelled = record {
      again = λ arc has.
          let name = segment-name airport well (segment_of arc) (arc_exists-segment airport arc has) in
          rw (arc_word-again (segment_word airport (segment_of arc)) (arc.0 % 2 == 0) (search rules)) (arc-read arc has);
      only = λ w arc e.
          let a = some-both (arc_word_of w) (λ named. arc_named airport named.0 named.1) arc e in
          let n = arc_word-only w a.0.0 a.0.1 a.1 in
          let p = arc-only a.0.0 a.0.1 arc a.2 in
          (p.0, n.0 ∙ p.1);
      plain = λ arc has.
          let name = segment-name airport well (segment_of arc) (arc_exists-segment airport arc has) in
          plain-and (segment_word airport (segment_of arc)) (sign_of (arc.0 % 2 == 0)) (name-plain _ (search rules)) (sign-plain (arc.0 % 2 == 0));
    }
