-- Reading and writing in pieces: what several pieces come to.
use Rattle.std.proofs.Common.{◌≡◌, ◌<◌, ◌∷◌, inl, inr, ◌-◌, ◌++◌, ◌∙◌, ℕ, List, [], Option, Some, None, refl, sym, ap, append_assoc, append-nil, take, drop, length, arith}
use Rattle.std.proofs.lemmas.List.{take_all, length-drop, take-append-drop}
use Rattle.taxi_io.specs.Files.{Gave}
use Rattle.std.specs.Io.KnownBytes.{append_known}
use Rattle.taxi_io.specs.Written.{Output, Grew, ArePieces, Handed, AreHanded, AreHandedInPart}

-- a sink that took nothing grew by the empty piece
pub grew-nothing : (a : Output) → Grew a a []
grew-nothing a = go a.bytes where
  go : (a : Option (List ℕ)) → a ≡ append_known a []
  go None = refl
  go (Some a) = ap (λ (t : List ℕ). Some t) (sym (append-nil a))

-- one piece and then another make one piece
pub grew-more : (a b c : Output) (xs ys : List ℕ) → Grew a b xs → Grew b c ys → Grew a c (xs ++ ys)
grew-more a b c xs ys h k = go a.bytes b.bytes c.bytes h k where
  go : (a b c : Option (List ℕ)) → b ≡ append_known a xs → c ≡ append_known b ys → c ≡ append_known a (xs ++ ys)
  go None b c h k = rw h at k
  go (Some a) b c h k = (rw h at k) ∙ ap (λ (t : List ℕ). Some t) (append_assoc a xs ys)

-- a front and a piece behind it make one front
pub gave-more : (a b c : Option (List ℕ)) (xs ys : List ℕ) → Gave a b xs → Gave b c ys → Gave a c (xs ++ ys)
gave-more a b None xs ys h k = rw k at h
gave-more a b (Some c) xs ys h k = (rw k at h) ∙ ap (λ (t : List ℕ). Some t) (sym (append_assoc xs ys c))

rest-of : (n : ℕ) (rest : List ℕ) → take (length rest - n) (drop n rest) ≡ drop n rest
rest-of n rest = take_all (length rest - n) (drop n rest) (let l = length-drop n rest in omega (arith, l))

-- after n more bytes, what was written and what is left still make the piece
pub part-more : (done rest piece : List ℕ) (n : ℕ) → done ++ rest ≡ piece → (done ++ take n rest) ++ take (length rest - n) (drop n rest) ≡ piece
part-more done rest piece n e =
    append_assoc done (take n rest) (take (length rest - n) (drop n rest))
    ∙ ap (λ (t : List ℕ). done ++ (take n rest ++ t)) (rest-of n rest)
    ∙ ap (λ (t : List ℕ). done ++ t) (take-append-drop n rest) ∙ e

-- ---- pieces that are handed over

-- what is left is handed over, and some of it taken
pub pieces-more : (text rest : List ℕ) (pieces : List (List ℕ)) (n : ℕ) → 0 < n → ArePieces text rest pieces
    → ArePieces text (take (length rest - n) (drop n rest)) (pieces ++ rest ∷ [])
pieces-more text rest [] n some is = (is, (n, some, rest-of n rest ∙ ap (λ (t : List ℕ). drop n t) is))
pieces-more text rest (piece ∷ more) n some (here, (taken, any, next)) = (here, (taken, any, pieces-more (drop taken text) rest more n some next))

-- nothing is handed over
pub handed-nothing : (a b : Output) (texts : List (List ℕ)) → b.pieces ≡ a.pieces → AreHandedInPart a b texts
handed-nothing a b [] same = same
handed-nothing a b (text ∷ texts) same = inl (inl same)

-- one text more is handed over
pub handed-then : (a b c : Output) (texts : List (List ℕ)) (text : List ℕ) → AreHanded a b texts → Handed b c text → AreHanded a c (texts ++ text ∷ [])
handed-then a b c [] text same one = (c, (one.0, one.1 ∙ ap (λ (l : List (List ℕ)). l ++ one.0) same, one.2), refl)
handed-then a b c (first ∷ texts) text more one = (more.0, more.1, handed-then more.0 b c texts text more.2 one)

-- some texts are handed over, and then of others the first
pub handed-on : (a b c : Output) (texts others : List (List ℕ)) → AreHanded a b texts → AreHandedInPart b c others → AreHandedInPart a c (texts ++ others)
handed-on a b c [] [] same more = more ∙ same
handed-on a b c [] (text ∷ others) same (inl (inl none)) = inl (inl (none ∙ same))
handed-on a b c [] (text ∷ others) same (inl (inr (pieces, rest, grew, are))) = inl (inr (pieces, rest, grew ∙ ap (λ (l : List (List ℕ)). l ++ (pieces ++ rest ∷ [])) same, are))
handed-on a b c [] (text ∷ others) same (inr (between, (pieces, grew, are), more)) = inr (between, (pieces, grew ∙ ap (λ (l : List (List ℕ)). l ++ pieces) same, are), more)
handed-on a b c (first ∷ texts) others one more = inr (one.0, one.1, handed-on one.0 b c texts others one.2 more)

-- and all of the others
pub handed-all : (a b c : Output) (texts others : List (List ℕ)) → AreHanded a b texts → AreHanded b c others → AreHanded a c (texts ++ others)
handed-all a b c [] [] same more = more ∙ same
handed-all a b c [] (text ∷ others) same (between, (pieces, grew, are), more) = (between, (pieces, grew ∙ ap (λ (l : List (List ℕ)). l ++ pieces) same, are), more)
handed-all a b c (first ∷ texts) others one more = (one.0, one.1, handed-all one.0 b c texts others one.2 more)

-- whole texts are handed over so too
pub handed-part : (a b : Output) (texts : List (List ℕ)) → AreHanded a b texts → AreHandedInPart a b texts
handed-part a b [] same = same
handed-part a b (text ∷ texts) (between, one, more) = inr (between, one, handed-part between b texts more)

-- and the first of more texts
pub handed-longer : (a b : Output) (texts others : List (List ℕ)) → AreHandedInPart a b texts → AreHandedInPart a b (texts ++ others)
handed-longer a b [] others same = handed-nothing a b others same
handed-longer a b (text ∷ texts) others (inl first) = inl first
handed-longer a b (text ∷ texts) others (inr (between, one, more)) = inr (between, one, handed-longer between b texts others more)
