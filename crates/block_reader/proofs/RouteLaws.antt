-- A route, or that there is none, is read as it was printed.
use Rattle.std.proofs.Common.{◌≡◌, ◌∙◌, ◌<◌, ℕ, List, [], ◌∷◌, ◌++◌, length, Some, codes, decimal, map, refl, sym, ap, subst, append_assoc}
use Rattle.std.specs.Prelude.{All}
use Rattle.std.proofs.lemmas.List.Elements.{recursion_from_All, All-from_recursion}
use Rattle.taxi_base.specs.declared.rows.Step.{Step}
use Rattle.taxi_base.specs.declared.rows.LabelRow.{LabelRow}
use Rattle.taxi_base.specs.Airport.{Airport, IsWellFormed}
use Rattle.replies.specs.declared.block.Block.{Block}
use Rattle.replies.specs.declared.block.Block.TheVariants.{Route, NoRoute}
use Rattle.replies.specs.Texts.{line_text, lines_text, step_words, label_words, block_text}
use Rattle.replies.specs.Printable.{IsShort, IsCount, IsName, IsPrintableStep, IsPrintableLabel, IsPrintable}
use Rattle.block_reader.specs.Reading.{rows_at}
use Rattle.block_reader.specs.Blocks.{step_at, label_at, route_head_at, route_at, no_route_at, found_at}
use Rattle.block_reader.proofs.Spellings.{some-both, some-map, Takes, IsSpelling, last-spelling, then-spelling, after-takes, either-takes, rows-again, rows-takes}
use Rattle.block_reader.proofs.Words.{number-word, count-word, some_count-word, name-word}
use Rattle.block_reader.proofs.RowLaws.{step-spelling, label-spelling, lines-before, lines-all, steps_text, labels_text, counted_text, counted-again, counted-takes}

abbrev IsRouteHead : List ℕ × (ℕ × (ℕ × ℕ)) → Type 0
IsRouteHead p = IsName p.0 × (IsShort p.1.0 × (((0 < p.1.1.0) × IsCount p.1.1.0) × IsCount p.1.1.1))

abbrev pub route_head_text : List ℕ × (ℕ × (ℕ × ℕ)) → List ℕ
route_head_text p = p.0 ++ 32 ∷ (decimal p.1.0 ++ 32 ∷ (decimal p.1.1.0 ++ 32 ∷ (decimal p.1.1.1 ++ 10 ∷ [])))

route_head-spelling : IsSpelling IsRouteHead route_head_text route_head_at
unfolding route_head_at
route_head-spelling = then-spelling name-word (then-spelling number-word (then-spelling some_count-word (last-spelling count-word)))

module _ (airport : Airport) where
  abbrev pub text : Block → List ℕ
  text block = block_text airport block

  pub route_text-is : (flight : List ℕ) (second : ℕ) (steps : List Step) (labels : List LabelRow)
      → codes "route " ++ (route_head_text (flight, (second, (length steps, length labels))) ++ (steps_text airport steps ++ labels_text airport labels)) ≡ text (Route flight second steps labels)
  unfolding block_text
  route_text-is flight second steps labels =
      ap (λ (t : List ℕ). codes "route " ++ (route_head_text (flight, (second, (length steps, length labels))) ++ t))
      (sym (lines-before (step_words airport) steps (map (label_words airport) labels) ∙ ap (λ (t : List ℕ). steps_text airport steps ++ t) (lines-all (label_words airport) labels)))
      ∙ sym (long flight second (length steps) (length labels) (lines_text (map (step_words airport) steps ++ map (label_words airport) labels)))
    where
      long : (flight : List ℕ) (second n m : ℕ) (more : List ℕ) → line_text (codes "route" ∷ flight ∷ decimal second ∷ decimal n ∷ decimal m ∷ []) ++ more ≡ codes "route " ++ (route_head_text (flight, (second, (n, m))) ++ more)
      long flight second n m more = refl

  pub no_route_text-is : (labels : List LabelRow) → codes "no-route " ++ counted_text (label_words airport) labels ≡ text (NoRoute labels)
  unfolding block_text
  no_route_text-is labels = ap (λ (t : List ℕ). codes "no-route " ++ ((decimal (length labels) ++ 10 ∷ []) ++ t)) (sym (lines-all (label_words airport) labels))

  -- the text of a block, behind a first part that was read
  abbrev pub IsRest : List ℕ → Block → List ℕ → Type 0
  IsRest bytes block rest = IsPrintable airport block × (bytes ≡ text block ++ rest)

  route-is : (flight : List ℕ) (second n m : ℕ) (steps : List Step) (labels : List LabelRow) (bytes lines more rest : List ℕ) → IsRouteHead (flight, (second, (n, m)))
      → bytes ≡ route_head_text (flight, (second, (n, m))) ++ lines → length steps ≡ n → All (IsPrintableStep airport) steps → lines ≡ steps_text airport steps ++ more
      → length labels ≡ m → All (IsPrintableLabel airport) labels → more ≡ labels_text airport labels ++ rest
      → IsRest (codes "route " ++ bytes) (Route flight second steps labels) rest
  route-is flight second n m steps labels bytes lines more rest good is counted_s each_s rows_s counted_l each_l rows_l =
      let head : ℕ → ℕ → List ℕ = λ a b. route_head_text (flight, (second, (a, b))) in
      let k : List ℕ = head (length steps) (length labels) in
      let lengths : bytes ≡ k ++ lines = is ∙ ap (λ (a : ℕ). head a m ++ lines) (sym counted_s) ∙ ap (λ (b : ℕ). head (length steps) b ++ lines) (sym counted_l) in
      let all_rows : lines ≡ (steps_text airport steps ++ labels_text airport labels) ++ rest = rows_s ∙ ap (λ (t : List ℕ). steps_text airport steps ++ t) rows_l ∙ sym (append_assoc (steps_text airport steps) (labels_text airport labels) rest) in (
        ((good.0, (good.1.0, ((subst (λ (a : ℕ). 0 < a) (sym counted_s) good.1.1.0.0, subst IsCount (sym counted_s) good.1.1.0.1), subst IsCount (sym counted_l) good.1.1.1))), (each_s, each_l)),
        ap (λ (t : List ℕ). codes "route " ++ t) (lengths ∙ ap (λ (t : List ℕ). k ++ t) all_rows ∙ sym (append_assoc k (steps_text airport steps ++ labels_text airport labels) rest))
            ∙ ap (λ (t : List ℕ). t ++ rest) (route_text-is flight second steps labels),
      )

  module _ (well : IsWellFormed airport) where
    no_route-takes : (bytes : List ℕ) (block : Block) (rest : List ℕ) → no_route_at airport bytes ≡ Some (block, rest) → IsRest (codes "no-route " ++ bytes) block rest
    unfolding no_route_at
    no_route-takes bytes block rest e =
        let t = counted-takes (label_words airport) (label-spelling airport well) NoRoute bytes block rest e in
        subst (λ b. IsRest (codes "no-route " ++ bytes) b rest) t.made
        (t.good, ap (λ (r : List ℕ). codes "no-route " ++ r) t.is ∙ ap (λ (r : List ℕ). r ++ rest) (no_route_text-is t.rows))

    route-takes : (bytes : List ℕ) (block : Block) (rest : List ℕ) → route_at airport bytes ≡ Some (block, rest) → IsRest (codes "route " ++ bytes) block rest
    unfolding route_at
    route-takes bytes block rest e =
        let a = some-both (route_head_at bytes) _ (block, rest) e in
        let b = some-both (rows_at (step_at airport) a.0.0.1.1.0 a.0.1) _ (block, rest) a.2 in
        let d = some-map (rows_at (label_at airport) a.0.0.1.1.1 b.0.1) _ (block, rest) b.2 in
        let head = route_head-spelling.takes bytes a.0.0 a.0.1 a.1 in
        let steps = rows-takes (step-spelling airport well) a.0.0.1.1.0 a.0.1 b.0.0 b.0.1 b.1 in
        let labels = rows-takes (label-spelling airport well) a.0.0.1.1.1 b.0.1 d.0.0 d.0.1 d.1 in
        subst (λ (p : Block × List ℕ). IsRest (codes "route " ++ bytes) p.0 p.1) d.2
        (route-is a.0.0.0 a.0.0.1.0 a.0.0.1.1.0 a.0.0.1.1.1 b.0.0 d.0.0 bytes a.0.1 b.0.1 d.0.1 head.0 head.1
        steps.0 (All-from_recursion (IsPrintableStep airport) b.0.0 steps.1) steps.2 labels.0 (All-from_recursion (IsPrintableLabel airport) d.0.0 labels.1) labels.2)

    pub no_route-again : (labels : List LabelRow) (rest : List ℕ) → IsPrintable airport (NoRoute labels) → no_route_at airport (counted_text (label_words airport) labels ++ rest) ≡ Some (NoRoute labels, rest)
    unfolding no_route_at
    no_route-again labels rest good = counted-again (label_words airport) (label-spelling airport well) NoRoute labels rest good

    pub route-again : (flight : List ℕ) (second : ℕ) (steps : List Step) (labels : List LabelRow) (rest : List ℕ) → IsPrintable airport (Route flight second steps labels)
        → route_at airport ((route_head_text (flight, (second, (length steps, length labels))) ++ (steps_text airport steps ++ labels_text airport labels)) ++ rest) ≡ Some (Route flight second steps labels, rest)
    unfolding route_at
    route-again flight second steps labels rest good =
        ap (route_at airport) (append_assoc (route_head_text (flight, (second, (length steps, length labels)))) (steps_text airport steps ++ labels_text airport labels) rest
        ∙ ap (λ (t : List ℕ). route_head_text (flight, (second, (length steps, length labels))) ++ t) (append_assoc (steps_text airport steps) (labels_text airport labels) rest))
        ∙ rw (
          route_head-spelling.again (flight, (second, (length steps, length labels))) (steps_text airport steps ++ (labels_text airport labels ++ rest)) good.0,
          rows-again (step-spelling airport well) steps (labels_text airport labels ++ rest) (recursion_from_All (IsPrintableStep airport) steps good.1.0),
          rows-again (label-spelling airport well) labels rest (recursion_from_All (IsPrintableLabel airport) labels good.1.1),
        ) refl

    -- ---- what is found

    pub found-takes : Takes (IsPrintable airport) text (found_at airport)
    unfolding found_at
    found-takes =
        either-takes (IsPrintable airport) text (codes "route ") route-takes
        (after-takes (IsPrintable airport) text (codes "no-route ") no_route-takes)

    pub found_route-again : (flight : List ℕ) (second : ℕ) (steps : List Step) (labels : List LabelRow) (rest : List ℕ) → IsPrintable airport (Route flight second steps labels)
        → found_at airport (text (Route flight second steps labels) ++ rest) ≡ Some (Route flight second steps labels, rest)
    unfolding found_at
    found_route-again flight second steps labels rest good =
        ap (λ (t : List ℕ). found_at airport (t ++ rest)) (sym (route_text-is flight second steps labels)) ∙ route-again flight second steps labels rest good

    pub found_none-again : (labels : List LabelRow) (rest : List ℕ) → IsPrintable airport (NoRoute labels) → found_at airport (text (NoRoute labels) ++ rest) ≡ Some (NoRoute labels, rest)
    unfolding found_at
    found_none-again labels rest good = ap (λ (t : List ℕ). found_at airport (t ++ rest)) (sym (no_route_text-is labels)) ∙ no_route-again labels rest good
