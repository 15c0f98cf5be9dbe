-- Words that have no blank and no mark of a line: a line of them is read as those words, and lines of them as those lines.
use Rattle.std.proofs.Common.{◌≡◌, ◌∙◌, ◌==◌, ◌%◌, ℕ, Bool, true, false, List, [], ◌∷◌, ◌++◌, length, map, refl, ap, sym, inl, inr, append_assoc, decimal}
use Rattle.std.specs.Prelude.{All, unwrap_or, option_map, slice_get, ⊤}
use Rattle.std.specs.List.{list_all, join_with_byte}
use Rattle.std.specs.Char.{is_ascii_digit}
use Rattle.std.proofs.lemmas.Bool.{and_parts, and_from, cases_lt}
use Rattle.std.proofs.lemmas.Option.{slice_get_past}
use Rattle.std.proofs.lemmas.List.Elements.{All-head, All-tail}
use Rattle.taxi_base.specs.declared.numbers.Arc.{Arc}
use Rattle.taxi_base.specs.declared.numbers.Class.{Class}
use Rattle.taxi_base.specs.declared.numbers.Node.{Node}
use Rattle.taxi_base.specs.declared.numbers.Segment.{Segment}
use Rattle.taxi_base.specs.Words.{is_name, is_name_byte}
use Rattle.taxi_base.specs.Airport.{Airport, IsWellFormed, AreNames, segment_of, node_word}
use Rattle.taxi_text.specs.Fields.{sign_of}
use Rattle.taxi_text.specs.Lines.{lines_of}
use Rattle.taxi_text.specs.Words.{words_of}
use Rattle.airport_file.specs.Words.{class_word, segment_word, word_of_arc}
use Rattle.airport_file.proofs.NamedPlaces.{word-found}
use Rattle.replies.specs.Texts.{line_text, lines_text}
use Rattle.schedule_import.proofs.Bytes.{lacks, lacks-failing, lacks-append, lacks-join, decimal-digits, split-join}
use Rattle.schedule_import.proofs.AnswerLines.{IsLine, lines-again}

-- ---- plain words

pub record IsPlainWord (word : List ℕ) : Type 0 where
  pub feed : lacks 10 word ≡ true
  pub return : lacks 13 word ≡ true
  pub blank : lacks 32 word ≡ true

-- bytes that pass a test which blanks and marks of a line fail
plain-by : (test : ℕ → Bool) (word : List ℕ) → test 10 ≡ false → test 13 ≡ false → test 32 ≡ false → list_all test word ≡ true → IsPlainWord word
plain-by test word feed return blank all = record {
  feed = lacks-failing test 10 word feed all;
  return = lacks-failing test 13 word return all;
  blank = lacks-failing test 32 word blank all;
}

pub name-plain : (name : List ℕ) → is_name name ≡ true → IsPlainWord name
name-plain name is = plain-by is_name_byte name refl refl refl (and_parts _ (list_all is_name_byte name) is).1

pub number-plain : (n : ℕ) → IsPlainWord (decimal n)
number-plain n = plain-by is_ascii_digit (decimal n) refl refl refl (decimal-digits n)

sign-plain : (forward : Bool) → IsPlainWord (sign_of forward ∷ [])
sign-plain true = record { feed = refl; return = refl; blank = refl }
sign-plain false = record { feed = refl; return = refl; blank = refl }

both-plain : (xs ys : List ℕ) → IsPlainWord xs → IsPlainWord ys → IsPlainWord (xs ++ ys)
both-plain xs ys a b = record {
  feed = lacks-append 10 xs ys a.feed b.feed;
  return = lacks-append 13 xs ys a.return b.return;
  blank = lacks-append 32 xs ys a.blank b.blank;
}

-- ---- the words of an airport, also of what it lacks

row-plain : {X : Type 0} (name : X → List ℕ) (rows : List X) (k limit : ℕ) → AreNames limit (map name rows) → IsPlainWord (unwrap_or (option_map name (slice_get rows k)) [])
row-plain name rows k limit names = elim (cases_lt k (length rows)) [
  | inl there ↦ name-plain _ (word-found name rows k limit names there).valid
  | inr past ↦ rw (slice_get_past rows k past) (record { feed = refl; return = refl; blank = refl })
]

module _ (airport : Airport) (well : IsWellFormed airport) where
  pub class-plain : (class : Class) → IsPlainWord (class_word airport class)
  class-plain class = row-plain (λ c. c.name) airport.classes class.0 32 well.classes

  pub node-plain : (node : Node) → IsPlainWord (node_word airport node)
  node-plain node = row-plain (λ n. n.name) airport.nodes node.0 10000 well.nodes

  pub segment-plain : (segment : Segment) → IsPlainWord (segment_word airport segment)
  segment-plain segment = row-plain (λ s. s.name) airport.segments segment.0 10000 well.segments

  pub arc-plain : (arc : Arc) → IsPlainWord (word_of_arc airport arc)
  arc-plain arc = both-plain (segment_word airport (segment_of arc)) (sign_of (arc.0 % 2 == 0) ∷ []) (segment-plain (segment_of arc)) (sign-plain (arc.0 % 2 == 0))

-- ---- lines of plain words

abbrev pub ArePlain : List (List ℕ) → Type 0
ArePlain [] = ⊤
ArePlain (word ∷ words) = IsPlainWord word × ArePlain words

all-lack : (byte : ℕ) → ((word : List ℕ) → IsPlainWord word → lacks byte word ≡ true) → (words : List (List ℕ)) → ArePlain words → list_all (lacks byte) words ≡ true
all-lack byte each [] plain = refl
all-lack byte each (word ∷ words) plain = and_from (lacks byte word) (list_all (lacks byte) words) (each word plain.0) (all-lack byte each words plain.1)

-- the words of a line
pub words-again : (word : List ℕ) (words : List (List ℕ)) → ArePlain (word ∷ words) → words_of (join_with_byte 32 (word ∷ words)) ≡ word ∷ words
words-again word words plain = split-join 32 word words (all-lack 32 (λ w is. is.blank) (word ∷ words) plain)

line-plain : (words : List (List ℕ)) → ArePlain words → IsLine (join_with_byte 32 words)
line-plain words plain = record {
  feed = lacks-join 10 32 words refl (all-lack 10 (λ w is. is.feed) words plain);
  return = lacks-join 13 32 words refl (all-lack 13 (λ w is. is.return) words plain);
}

line-joined : (words : List (List ℕ)) → line_text words ≡ join_with_byte 32 words ++ 10 ∷ []
line-joined [] = refl
line-joined (word ∷ []) = refl
line-joined (word ∷ next ∷ words) =
    ap (λ t. word ++ (32 ∷ t)) (line-joined (next ∷ words)) ∙ sym (append_assoc word (32 ∷ join_with_byte 32 (next ∷ words)) (10 ∷ []))

-- the lines of a text
pub lines-plain : (lines : List (List (List ℕ))) → All ArePlain lines → lines_of (lines_text lines) ≡ map (join_with_byte 32) lines
lines-plain [] plain = refl
lines-plain (words ∷ lines) plain =
    let line : List ℕ = join_with_byte 32 words in
    let rest : List ℕ = lines_text lines in
    ap lines_of (ap (λ t. t ++ rest) (line-joined words) ∙ append_assoc line (10 ∷ []) rest)
    ∙ lines-again line rest (line-plain words (All-head ArePlain words lines plain))
    ∙ ap (λ ls. line ∷ ls) (lines-plain lines (All-tail ArePlain words lines plain))
