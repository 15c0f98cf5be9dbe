-- The lines of the graph, one after the other.
use Rattle.std.proofs.Common.{◌≡◌, ℕ, ◌<◌, ◌+◌, List, [], ◌∷◌, ◌++◌, length, map, take, get_or, Option, Some, None, min, refl, sym, ap, subst, arith, ◌∙◌, inl, inr, append_assoc, append-nil}
use Rattle.std.specs.Prelude.{IfSome, slice_get, slice_index_or, flat_map}
use Rattle.std.proofs.lemmas.List.{map_more, length-take}
use Rattle.std.proofs.lemmas.Option.{slice_get_cases}
use Rattle.std.proofs.lemmas.Grind.{flat_map-append, take_at_read}
use Rattle.taxi_base.specs.declared.numbers.Segment.{Segment}
use Rattle.taxi_base.specs.Airport.{Airport, SegmentRow}
use Rattle.airport_graph.specs.Graph.{lesser, least, segment_line, segment_lines}

-- ---- one more line

pub node-more : {A : Type 0} (f : A → List ℕ) (xs : List A) (i : ℕ) (before text after : List ℕ) → i < length xs
    → text ≡ before ++ flat_map f (take i xs) → IfSome (slice_get xs i) (λ x. after ≡ text ++ f x) → after ≡ before ++ flat_map f (take (i + 1) xs)
node-more f xs i before text after low so_far next = elim (slice_get_cases xs i).1 [
  | inl there ↦
      let got : after ≡ text ++ f there.0 = subst (λ o. IfSome o (λ x. after ≡ text ++ f x)) there.2 next in
      let more : take (i + 1) xs ≡ take i xs ++ there.0 ∷ [] = rw there.3 at ((take_at_read xs i there.0 low).1) in
      got ∙ rw so_far (append_assoc before (flat_map f (take i xs)) (f there.0))
      ∙ ap (λ t. before ++ t) (sym (ap (flat_map f) more ∙ flat_map-append f (take i xs) (there.0 ∷ []) ∙ ap (λ t. flat_map f (take i xs) ++ t) (append-nil (f there.0))))
  | inr past ↦ absurd (let far = past.0 in omega arith)
]

lines-append : (airport : Airport) (number : ℕ) (rows : List SegmentRow) (row : SegmentRow)
    → segment_lines airport number (rows ++ row ∷ []) ≡ segment_lines airport number rows ++ segment_line airport (record { 0 = number + length rows }) row
lines-append airport number [] row =
    let e : number + 0 ≡ number = omega arith in rw e (append-nil (segment_line airport (record { 0 = number }) row))
lines-append airport number (r ∷ rows) row =
    let e : number + length (r ∷ rows) ≡ number + 1 + length rows = omega arith in
    rw e (ap (λ t. segment_line airport (record { 0 = number }) r ++ t) (lines-append airport (number + 1) rows row)
    ∙ sym (append_assoc (segment_line airport (record { 0 = number }) r) (segment_lines airport (number + 1) rows) (segment_line airport (record { 0 = number + 1 + length rows }) row)))

pub segment-more : (airport : Airport) (i : ℕ) (before text after : List ℕ) → i < length airport.segments
    → text ≡ before ++ segment_lines airport 0 (take i airport.segments)
    → IfSome (slice_get airport.segments i) (λ row. after ≡ text ++ segment_line airport (record { 0 = i }) row)
    → after ≡ before ++ segment_lines airport 0 (take (i + 1) airport.segments)
segment-more airport i before text after low so_far next = elim (slice_get_cases airport.segments i).1 [
  | inl there ↦
      let got : after ≡ text ++ segment_line airport (record { 0 = i }) there.0 = subst (λ o. IfSome o (λ row. after ≡ text ++ segment_line airport (record { 0 = i }) row)) there.2 next in
      let more : take (i + 1) airport.segments ≡ take i airport.segments ++ there.0 ∷ [] = rw there.3 at ((take_at_read airport.segments i there.0 low).1) in
      let long : 0 + length (take i airport.segments) ≡ i = grind (arith, length-take) in
      let line = rw long at (lines-append airport 0 (take i airport.segments) there.0) in
      got ∙ rw so_far (append_assoc before (segment_lines airport 0 (take i airport.segments)) (segment_line airport (record { 0 = i }) there.0))
      ∙ ap (λ t. before ++ t) (sym (ap (segment_lines airport 0) more ∙ line))
  | inr past ↦ absurd (let far = past.0 in omega arith)
]

-- ---- the least of some numbers

lesser-assoc : (a b c : Option ℕ) → lesser (lesser a b) c ≡ lesser a (lesser b c)
lesser-assoc None b c = refl
lesser-assoc (Some a) None c = refl
lesser-assoc (Some a) (Some b) None = refl
lesser-assoc (Some a) (Some b) (Some c) = ap Some (let e : min (min a b) c ≡ min a (min b c) = omega arith in e)

lesser-none : (a : Option ℕ) → lesser a None ≡ a
lesser-none None = refl
lesser-none (Some a) = refl

least-append : (ns : List (Option ℕ)) (n : Option ℕ) → least (ns ++ n ∷ []) ≡ lesser (least ns) n
least-append [] n = lesser-none n
least-append (m ∷ ns) n = ap (lesser m) (least-append ns n) ∙ sym (lesser-assoc m (least ns) n)

abbrev on_segment : Segment → List (Option ℕ) → Option ℕ
on_segment segment row = slice_index_or row segment.0 None

pub least-more : (table : List (List (Option ℕ))) (segment : Segment) (i : ℕ) → i < length table
    → least (map (on_segment segment) (take (i + 1) table)) ≡ lesser (least (map (on_segment segment) (take i table))) (slice_index_or (slice_index_or table i []) segment.0 None)
least-more table segment i low = ap least (map_more (on_segment segment) table i [] low) ∙ least-append (map (on_segment segment) (take i table)) (on_segment segment (get_or table i []))
