-- Each entry is read as it was printed.
use Rattle.std.proofs.Common.{◌≡◌, ◌∙◌, ◌++◌, ◌∷◌, [], ℕ, true, List, codes, Some, refl, sym, ap, subst, append_assoc, append-nil}
use Rattle.std.specs.Prelude.{bytes_eq, option_map}
use Rattle.std.proofs.lemmas.Slice.Eq.{bytes_eq-Decides}
use Rattle.taxi_base.specs.declared.rows.Step.{Step}
use Rattle.taxi_base.specs.declared.rows.LabelRow.{LabelRow}
use Rattle.taxi_base.specs.Airport.{Airport, IsWellFormed}
use Rattle.taxi_text.specs.Fields.{name_of}
use Rattle.replies.specs.declared.block.Block.{Block}
use Rattle.replies.specs.declared.block.Block.TheVariants.{Refused, Filed, Cancelled, Route, NoRoute, Windows, Occupancy, Timetable, Batch, Late}
use Rattle.replies.specs.declared.entries.Entry.{Entry}
use Rattle.replies.specs.declared.entries.Entry.TheVariants as entry
use Rattle.replies.specs.Texts.{lines_text, entry_lines, block_text}
use Rattle.replies.specs.Printable.{IsName, IsPrintableEntry, IsPrintable}
use Rattle.block_reader.specs.Reading.{word_last}
use Rattle.block_reader.specs.Blocks.{found_at, entry_of, told_at, entry_at}
use Rattle.block_reader.proofs.Spellings.{some-both, some-map, Takes, IsSpelling, last-spelling, after-takes, made-takes, either-takes}
use Rattle.block_reader.proofs.Words.{kept, name-word}
use Rattle.block_reader.proofs.RouteLaws.{text, found-takes, found_route-again, found_none-again}

-- ---- the line that names a flight

abbrev name_line : List ℕ → List ℕ
name_line name = name ++ 10 ∷ []

abbrev next_text : List ℕ → List ℕ
next_text name = codes "next " ++ name_line name

name_line-spelling : IsSpelling IsName name_line (word_last name_of)
name_line-spelling = last-spelling name-word

module _ (airport : Airport) where
  abbrev pub text_of : List ℕ × Entry → List ℕ
  text_of told = lines_text (entry_lines airport told)

  dropped_text-is : (name : List ℕ) → codes "dropped " ++ name_line name ≡ text_of (name, entry.Dropped)
  dropped_text-is name = sym (append-nil _)

  -- ---- what is told of a flight

  route_entry-is : (name flight : List ℕ) → flight ≡ name → (told : List ℕ × Entry) → (second : ℕ) (steps : List Step) (labels : List LabelRow) → (name, entry.Route second steps labels) ≡ told
      → IsPrintable airport (Route flight second steps labels) → IsPrintableEntry airport told × (next_text name ++ text airport (Route flight second steps labels) ≡ text_of told)
  unfolding block_text
  route_entry-is name flight same told second steps labels is good =
      subst (λ t. IsPrintableEntry airport t × (next_text name ++ text airport (Route flight second steps labels) ≡ text_of t)) is
      (subst
      (λ (f : List ℕ). IsPrintable airport (Route f second steps labels)
      → IsPrintableEntry airport (name, entry.Route second steps labels) × (next_text name ++ text airport (Route f second steps labels) ≡ text_of (name, entry.Route second steps labels)))
      (sym same) (λ g. (g, refl)) good)

  no_route_entry-is : (name : List ℕ) (told : List ℕ × Entry) (labels : List LabelRow) → (name, entry.NoRoute labels) ≡ told → IsName name
      → IsPrintable airport (NoRoute labels) → IsPrintableEntry airport told × (next_text name ++ text airport (NoRoute labels) ≡ text_of told)
  unfolding block_text
  no_route_entry-is name told labels is named good =
      subst (λ t. IsPrintableEntry airport t × (next_text name ++ text airport (NoRoute labels) ≡ text_of t)) is ((named, good), refl)

  entry_of-takes : (name : List ℕ) (block : Block) (told : List ℕ × Entry) → IsName name → IsPrintable airport block → entry_of name block ≡ Some told
      → IsPrintableEntry airport told × (next_text name ++ text airport block ≡ text_of told)
  entry_of-takes name (Route flight second steps labels) told named good e =
      let k = kept (bytes_eq flight name) (name, entry.Route second steps labels) told e in
      route_entry-is name flight ((bytes_eq-Decides flight name).0 k.0) told second steps labels k.1 good
  entry_of-takes name (NoRoute labels) told named good e = no_route_entry-is name told labels (cc e) named good
  entry_of-takes name (Refused why) told named good e = absurd (cc e)
  entry_of-takes name (Filed flight start end) told named good e = absurd (cc e)
  entry_of-takes name (Cancelled flight) told named good e = absurd (cc e)
  entry_of-takes name (Windows segment windows) told named good e = absurd (cc e)
  entry_of-takes name (Occupancy segment held) told named good e = absurd (cc e)
  entry_of-takes name (Timetable flights) told named good e = absurd (cc e)
  entry_of-takes name (Batch total entries) told named good e = absurd (cc e)
  entry_of-takes name (Late flight entries) told named good e = absurd (cc e)

  module _ (well : IsWellFormed airport) where
    told-takes : (bytes : List ℕ) (told : List ℕ × Entry) (rest : List ℕ) → told_at airport bytes ≡ Some (told, rest)
        → IsPrintableEntry airport told × (codes "next " ++ bytes ≡ text_of told ++ rest)
    unfolding told_at
    told-takes bytes told rest e =
        let a = some-both (word_last name_of bytes) _ (told, rest) e in
        let b = some-both (found_at airport a.0.1) _ (told, rest) a.2 in
        let d = some-map (entry_of a.0.0 b.0.0) _ (told, rest) b.2 in
        let named = name_line-spelling.takes bytes a.0.0 a.0.1 a.1 in
        let found = found-takes airport well a.0.1 b.0.0 b.0.1 b.1 in
        let of_flight = entry_of-takes a.0.0 b.0.0 d.0 named.0 found.0 d.1 in
        let front : codes "next " ++ bytes ≡ next_text a.0.0 ++ a.0.1 =
        ap (λ (t : List ℕ). codes "next " ++ t) named.1 ∙ sym (append_assoc (codes "next ") (name_line a.0.0) a.0.1) in
        let is : codes "next " ++ bytes ≡ text_of d.0 ++ b.0.1 =
        front ∙ ap (λ (t : List ℕ). next_text a.0.0 ++ t) found.1 ∙ sym (append_assoc (next_text a.0.0) (text airport b.0.0) b.0.1) ∙ ap (λ (t : List ℕ). t ++ b.0.1) of_flight.1 in
        subst (λ (p : (List ℕ × Entry) × List ℕ). IsPrintableEntry airport p.0 × (codes "next " ++ bytes ≡ text_of p.0 ++ p.1)) d.2 (of_flight.0, is)

    entry-takes : Takes (IsPrintableEntry airport) text_of (entry_at airport)
    unfolding entry_at
    entry-takes =
        either-takes (IsPrintableEntry airport) text_of (codes "next ") told-takes
        (after-takes (IsPrintableEntry airport) text_of (codes "dropped ")
        (made-takes name_line (IsPrintableEntry airport) text_of (λ name. (name, entry.Dropped)) (codes "dropped ") (λ name good. good) dropped_text-is name_line-spelling.takes))

    -- ---- what is printed is read again

    told_route-again : (name : List ℕ) (second : ℕ) (steps : List Step) (labels : List LabelRow) (rest : List ℕ) → IsPrintable airport (Route name second steps labels)
        → told_at airport (name_line name ++ (text airport (Route name second steps labels) ++ rest)) ≡ Some ((name, entry.Route second steps labels), rest)
    unfolding told_at
    told_route-again name second steps labels rest good =
        let same : bytes_eq name name ≡ true = (bytes_eq-Decides name name).1 refl in
        rw (name_line-spelling.again name (text airport (Route name second steps labels) ++ rest) good.0.0, found_route-again airport well name second steps labels rest good, same) refl

    told_none-again : (name : List ℕ) (labels : List LabelRow) (rest : List ℕ) → IsName name → IsPrintable airport (NoRoute labels)
        → told_at airport (name_line name ++ (text airport (NoRoute labels) ++ rest)) ≡ Some ((name, entry.NoRoute labels), rest)
    unfolding told_at
    told_none-again name labels rest named good =
        rw (name_line-spelling.again name (text airport (NoRoute labels) ++ rest) named, found_none-again airport well labels rest good) refl

    entry-again : (told : List ℕ × Entry) (rest : List ℕ) → IsPrintableEntry airport told → entry_at airport (text_of told ++ rest) ≡ Some (told, rest)
    unfolding entry_at block_text
    entry-again (name, entry.Route second steps labels) rest good =
        ap (entry_at airport) (append_assoc (next_text name) (text airport (Route name second steps labels)) rest) ∙ told_route-again name second steps labels rest good
    entry-again (name, entry.NoRoute labels) rest good =
        ap (entry_at airport) (append_assoc (next_text name) (text airport (NoRoute labels)) rest) ∙ told_none-again name labels rest good.0 good.1
    entry-again (name, entry.Dropped) rest good =
        ap (λ (t : List ℕ). entry_at airport (t ++ rest)) (sym (dropped_text-is name))
        ∙ ap (option_map (λ x. ((x.0, entry.Dropped), x.1))) (name_line-spelling.again name rest good)

    pub entry-spelling : IsSpelling (IsPrintableEntry airport) text_of (entry_at airport)
    entry-spelling = record { again = entry-again; takes = entry-takes }
