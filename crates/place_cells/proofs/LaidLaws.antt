-- How numbers are laid, block by block.
use Rattle.std.proofs.Common.{◌≡◌, ℕ, zero, suc, ◌+◌, ◌-◌, ◌*◌, ◌/◌, ◌<◌, ◌≤◌, List, [], ◌∷◌, ◌++◌, length, get_or, inl, inr, refl, sym, ◌∙◌, ap, subst, arith}
use Rattle.std.specs.Prelude.{All}
use Rattle.std.proofs.lemmas.Bool.{cases_lt}
use Rattle.std.proofs.lemmas.List.{get_or-map, get_or_past, get_or_default, get_or_append_left, get_or-append-add, get_or-append_right, get_or_push, length-map, length-append}
use Rattle.taxi_base.specs.declared.numbers.Arc.{Arc}
use Rattle.taxi_base.specs.declared.rows.Span.{Span}
use Rattle.taxi_base.specs.Windows.{AreApart}
use Rattle.window_store.specs.Store.{Store, no_list, spans_at}
use Rattle.interval_list.specs.Intervals.{spans_of}
use Rattle.place_cells.specs.declared.spots.Spot.{Spot}
use Rattle.place_cells.specs.Laid.{windows_of, no_spot, spot_in, first_in, AreNumbered}
use Rattle.place_cells.specs.Blocks.{block, stretches_for}
use Rattle.place_cells.specs.Twins.{AreTwins}

-- a segment's windows are its list's
pub windows_of-at : (store : Store) (k : ℕ) → get_or (windows_of store) k [] ≡ spans_at store (record { 0 = k })
windows_of-at store k =
    elim (cases_lt k (length store.lists)) [
      | inl on ↦ get_or-map (λ l. spans_of l.intervals.windows) store.lists k no_list [] on
      | inr past ↦ get_or_past (windows_of store) k [] (omega (arith, length-map store.lists (λ l. spans_of l.intervals.windows))) ∙ sym (ap (λ l. spans_of l.intervals.windows) (get_or_past store.lists k no_list past))
    ]

pub windows_of-length : (store : Store) → length (windows_of store) ≡ length store.lists
windows_of-length store = length-map store.lists (λ l. spans_of l.intervals.windows)

-- ---- a block

pub length-block : (arc : Arc) (n : ℕ) → length (block arc n) ≡ n
length-block arc zero = refl
length-block arc (suc n) = omega (arith, length-block arc n, length-append (block arc n) (record { arc = arc; window = n } ∷ []))

pub block_at : (arc : Arc) (n j : ℕ) (d : Spot) → j < n → get_or (block arc n) j d ≡ record { arc = arc; window = j }
block_at arc zero j d on = absurd (omega arith)
block_at arc (suc n) j d on =
    elim (cases_lt j n) [
      | inl earlier ↦ get_or_append_left (block arc n) (record { arc = arc; window = n } ∷ []) d j (omega (arith, earlier, length-block arc n)) ∙ block_at arc n j d earlier
      | inr last ↦
          let e : n ≡ j = omega arith in
          get_or_push (block arc n) (record { arc = arc; window = n }) d j (length-block arc n ∙ e) ∙ ap (λ (w : ℕ). record { arc = arc; window = w }) e
    ]

-- ---- block by block

module _ (spots : List Spot) (first : List ℕ) (n room : ℕ) (are : AreNumbered spots first) (many : length first ≡ suc n) (last : first_in first n ≡ length spots) where
  abbrev more : List Spot
  more = block (record { 0 = n }) room

  abbrev end : ℕ
  end = length (spots ++ more)

  end_is : end ≡ length spots + room
  end_is = omega (arith, length-append spots more, length-block (record { 0 = n }) room)

  first_old : (a : ℕ) → a < suc n → first_in (first ++ end ∷ []) a ≡ first_in first a
  first_old a on = get_or_append_left first (end ∷ []) 0 a (omega (arith, on, many))

  first_end : (a : ℕ) → a ≡ suc n → first_in (first ++ end ∷ []) a ≡ end
  first_end a is = get_or_push first end 0 a (many ∙ sym is)

  first_by : (a : ℕ) → a < length (first ++ end ∷ []) → first_in (first ++ end ∷ []) a ≤ end
  first_by a on =
      elim (cases_lt a (suc n)) [
        | inl old ↦ omega (arith, first_old a old, are.inside a (omega (arith, old, many)), end_is)
        | inr new ↦ omega (arith, first_end a (omega (arith, new, on, many, length-append first (end ∷ []))))
      ]

  pub numbered_more : AreNumbered (spots ++ more) (first ++ end ∷ [])
  numbered_more = record { rising = rising; inside = first_by; block = blocks; own = own }
    where
      count : length (first ++ end ∷ []) ≡ suc (suc n)
      count = omega (arith, length-append first (end ∷ []), many)

      rising : (a b : ℕ) → a ≤ b → b < length (first ++ end ∷ []) → first_in (first ++ end ∷ []) a ≤ first_in (first ++ end ∷ []) b
      rising a b le on =
          elim (cases_lt b (suc n)) [
            | inl old ↦ omega (arith, first_old a (omega (arith, le, old)), first_old b old, are.rising a b le (omega (arith, old, many)))
            | inr new ↦ omega (arith, first_end b (omega (arith, new, on, count)), first_by a (omega (arith, le, on)))
          ]

      blocks : (a j : ℕ) → suc a < length (first ++ end ∷ []) → first_in (first ++ end ∷ []) a + j < first_in (first ++ end ∷ []) (suc a)
          → spot_in (spots ++ more) (first_in (first ++ end ∷ []) a + j) ≡ record { arc = record { 0 = a }; window = j }
      blocks a j on within =
          elim (cases_lt a n) [
            | inl old ↦
                let here = first_old a (omega (arith, old)) in
                let low : first_in first a + j < first_in first (suc a) = omega (arith, within, here, first_old (suc a) (omega (arith, old))) in
                let inside : first_in first a + j < length spots = omega (arith, low, are.inside (suc a) (omega (arith, old, many))) in
                ap (λ (k : ℕ). spot_in (spots ++ more) (k + j)) here ∙ get_or_append_left spots more no_spot (first_in first a + j) inside ∙ are.block a j (omega (arith, old, many)) low
            | inr new ↦
                let is : n ≡ a = omega (arith, new, on, count) in
                let here : first_in (first ++ end ∷ []) a ≡ length spots = ap (first_in (first ++ end ∷ [])) (sym is) ∙ first_old n (omega arith) ∙ last in
                let low : j < room = omega (arith, within, here, first_end (suc a) (ap suc (sym is)), end_is) in
                ap (λ (k : ℕ). spot_in (spots ++ more) (k + j)) here ∙ get_or-append-add spots more j no_spot ∙ block_at (record { 0 = n }) room j no_spot low ∙ ap (λ (m : ℕ). record { arc = record { 0 = m }; window = j }) is
          ]

      Own : ℕ → Spot → Type 0
      Own k s = (suc s.arc.0 < length (first ++ end ∷ [])) × (first_in (first ++ end ∷ []) s.arc.0 + s.window ≡ k) × (k < first_in (first ++ end ∷ []) (suc s.arc.0))

      own : (k : ℕ) → k < length (spots ++ more) → Own k (spot_in (spots ++ more) k)
      own k on =
          elim (cases_lt k (length spots)) [
            | inl old ↦
                let h = are.own k old in
                subst (Own k) (sym (get_or_append_left spots more no_spot k old))
                (omega (arith, h.0, count, many), omega (arith, h.1, first_old (spot_in spots k).arc.0 (omega (arith, h.0, many))), omega (arith, h.2, first_old (suc (spot_in spots k).arc.0) (omega (arith, h.0, many))))
            | inr new ↦
                let m : ℕ = k - length spots in
                let low : m < room = omega (arith, on, new, end_is) in
                let is : spot_in (spots ++ more) k ≡ record { arc = record { 0 = n }; window = m } = get_or-append_right spots more (length spots) k no_spot refl new ∙ block_at (record { 0 = n }) room m no_spot low in
                subst (Own k) (sym is) (omega (arith, count), omega (arith, first_old n (omega arith), last, new), omega (arith, first_end (suc n) refl, on))
          ]

-- the first arcs are numbered, and the windows of their segments have room and lie apart
pub record AreNumberedTo (windows : List (List Span)) (n : ℕ) (spots : List Spot) (first : List ℕ) : Type 0 where
  pub are : AreNumbered spots first
  pub count : length first ≡ suc n
  pub last : first_in first n ≡ length spots
  pub sized : (a : ℕ) → a < n → first_in first (suc a) ≡ first_in first a + 8 * stretches_for (length (get_or windows (a / 2) []))
  pub apart : (a : ℕ) → a < n → AreApart 0 (get_or windows (a / 2) [])

module _ (windows : List (List Span)) where
  pub numbered_to_more : (n room : ℕ) (spots : List Spot) (first : List ℕ) → AreNumberedTo windows n spots first → 8 * stretches_for (length (get_or windows (n / 2) [])) ≡ room → AreApart 0 (get_or windows (n / 2) [])
      → AreNumberedTo windows (n + 1) (spots ++ block (record { 0 = n }) room) (first ++ length (spots ++ block (record { 0 = n }) room) ∷ [])
  numbered_to_more n room spots first to size apart = record {
    are = numbered_more spots first n room to.are to.count to.last;
    count = omega (arith, length-append first (end spots first n room to.are to.count to.last ∷ []), to.count);
    last = first_end spots first n room to.are to.count to.last (n + 1) (omega arith);
    sized = λ a on. elim (cases_lt a n) [
      | inl old ↦ omega (arith, to.sized a old, first_old spots first n room to.are to.count to.last a (omega (arith, old)), first_old spots first n room to.are to.count to.last (suc a) (omega (arith, old)))
      | inr new ↦
          let is : n ≡ a = omega (arith, new, on) in
          subst (λ (b : ℕ). first_in (first ++ end spots first n room to.are to.count to.last ∷ []) (suc b) ≡ first_in (first ++ end spots first n room to.are to.count to.last ∷ []) b + 8 * stretches_for (length (get_or windows (b / 2) []))) is
          (omega (arith, size, first_old spots first n room to.are to.count to.last n (omega arith), first_end spots first n room to.are to.count to.last (suc n) refl, to.last, end_is spots first n room to.are to.count to.last))
    ];
    apart = λ a on. elim (cases_lt a n) [
      | inl old ↦ to.apart a old
      | inr new ↦ let is : n ≡ a = omega (arith, new, on) in subst (λ (b : ℕ). AreApart 0 (get_or windows (b / 2) [])) is apart
    ];
  }

  module _ (n : ℕ) (spots : List Spot) (first : List ℕ) (to : AreNumberedTo windows n spots first) where
    -- so each arc has room, and both arcs of a segment have as much
    pub roomy : (a : ℕ) → a < n → first_in first a + length (get_or windows (a / 2) []) ≤ first_in first (suc a)
    roomy a on = omega (arith, to.sized a on)

    pub twins : AreTwins first
    twins s on =
        let there : 2 * s / 2 ≡ s = omega arith in
        let back : (2 * s + 1) / 2 ≡ s = omega arith in
        let same : length (get_or windows (2 * s / 2) []) ≡ length (get_or windows ((2 * s + 1) / 2) []) = ap (λ (k : ℕ). length (get_or windows k [])) (there ∙ sym back) in
        let one = to.sized (2 * s) (omega (arith, on, to.count)) in
        let other = to.sized (2 * s + 1) (omega (arith, on, to.count)) in
        let next : suc (2 * s) ≡ 2 * s + 1 = omega arith in
        let after : suc (2 * s + 1) ≡ 2 * s + 2 = omega arith in
        omega (arith, one, other, ap (first_in first) next, ap (first_in first) after, ap stretches_for same)

  -- what holds for each arc's windows holds for each segment's
  pub apart_all : (n : ℕ) → 2 * length windows ≡ n → ((a : ℕ) → a < n → AreApart 0 (get_or windows (a / 2) [])) → All (AreApart 0) windows
  apart_all n whole each k d on =
      let half : 2 * k / 2 ≡ k = omega arith in
      subst (AreApart 0) (get_or_default windows k [] d on) (subst (λ (i : ℕ). AreApart 0 (get_or windows i [])) half (each (2 * k) (omega (arith, on, whole))))
