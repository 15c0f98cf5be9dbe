-- What has a sink taken, and in which pieces was it handed over?
use Rattle.std.specs.Prelude.{◌≡◌, ◌<◌, ◌⊎◌, ℕ, List, [], ◌∷◌, ◌++◌, length, drop, Option}
use Rattle.std.specs.Io.KnownBytes.{append_known}

pub record Output : Type 0 where
  -- the bytes taken so far, where they are told
  pub bytes : Option (List ℕ)
  -- the pieces that were handed over so far, each of which was taken whole, in part or not at all
  pub pieces : List (List ℕ)

-- ---- bytes

-- the bytes taken, where they are told, grew by this piece
abbrev pub Grew : Output → Output → List ℕ → Type 0
Grew old new piece = new.bytes ≡ append_known old.bytes piece

-- the bytes taken, where they are told, grew by a front of the piece, which may be empty, and not by the whole
abbrev pub GrewInPart : Output → Output → List ℕ → Type 0
GrewInPart old new piece = (front : List ℕ) × (left : List ℕ) × (front ++ left ≡ piece) × (0 < length left) × Grew old new front

-- ---- pieces

-- the pieces in which a text is handed over until this rest is left: the whole, and then each time what was left of it
abbrev pub ArePieces : List ℕ → List ℕ → List (List ℕ) → Type 0
ArePieces text rest [] = rest ≡ text
ArePieces text rest (piece ∷ more) = (piece ≡ text) × ((taken : ℕ) × (0 < taken) × ArePieces (drop taken text) rest more)

-- a text was handed over as one piece, and again what was left of it until nothing was
abbrev pub Handed : Output → Output → List ℕ → Type 0
Handed old new text = (more : List (List ℕ)) × (new.pieces ≡ old.pieces ++ more) × ArePieces text [] more

-- the same, up to a rest of which nothing was taken
abbrev pub HandedInPart : Output → Output → List ℕ → Type 0
HandedInPart old new text = (more : List (List ℕ)) × (rest : List ℕ) × (new.pieces ≡ old.pieces ++ (more ++ rest ∷ [])) × ArePieces text rest more

-- some texts were handed over in turn, each as one piece
abbrev pub AreHanded : Output → Output → List (List ℕ) → Type 0
AreHanded old new [] = new.pieces ≡ old.pieces
AreHanded old new (text ∷ texts) = (between : Output) × Handed old between text × AreHanded between new texts

-- the first of some texts were handed over in turn, none to all of them, and the last of these perhaps in part
abbrev pub AreHandedInPart : Output → Output → List (List ℕ) → Type 0
AreHandedInPart old new [] = new.pieces ≡ old.pieces
AreHandedInPart old new (text ∷ texts) =
    ((new.pieces ≡ old.pieces) ⊎ HandedInPart old new text) ⊎ ((between : Output) × Handed old between text × AreHandedInPart between new texts)
