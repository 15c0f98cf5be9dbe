-- Runs that are logged, one line after the other.
use Rattle.std.proofs.Common.{◌≡◌, ◌++◌, ◌∷◌, [], ℕ, List, Option, Some, None, Result, Ok, Err, IfOk, IfSome, OnOk, true, false, refl, sym, ap, ◌∙◌, ◌-◌, ◌+◌, ◌<◌, length, take, get_or}
use Rattle.std.specs.Prelude.{Vec, map, option_map, slice_get}
use Rattle.std.specs.declared.alloc.Global.{Global}
use Rattle.std.specs.Result.{is_ok}
use Rattle.std.proofs.lemmas.List.{length-map, map-append, take_more}
use Rattle.std.proofs.lemmas.Option.{slice_get-map}
use Rattle.std.proofs.lemmas.List.Elements.{All-append, All-nil, All-cons}
use Rattle.taxi_base.specs.Airport.{Airport}
use Rattle.taxi_base.specs.State.{State, no_holder}
use Rattle.replies.specs.declared.block.Block.{Block}
use Rattle.replies.specs.Replies.{IsAnswered}
use Rattle.transcripts.proofs.RunLaws.{in_turn-append}
use Rattle.command_run.specs.Supplied.{FoundMemory, IsSuppliedRun, IsKeptRun}
use Rattle.engine_texts.specs.Log.{texts_of, last_of}

-- one more line is answered, for which memory did not run out
abbrev pub supplied-more : (airport : Airport) (lines : List (List ℕ)) (state after : State) (line : List ℕ) (block : Block)
    → IsSuppliedRun airport lines state → IsAnswered airport state line block after → FoundMemory block → IsSuppliedRun airport (lines ++ line ∷ []) after
supplied-more airport lines state after line block before answered found = record {
  blocks = before.blocks ++ block ∷ [];
  run = in_turn-append IsAnswered airport no_holder state after lines (line ∷ []) before.blocks (block ∷ []) before.run (after, answered, refl);
  found_memory = All-append FoundMemory before.blocks (block ∷ []) before.found_memory (All-cons FoundMemory block [] found (All-nil FoundMemory));
}

-- the same, and something is kept of the blocks
pub kept-more : (airport : Airport) (lines : List (List ℕ)) (state after : State) (Kept Keeps : List Block → Type 0) (line : List ℕ) (block : Block)
    → IsKeptRun airport lines state Kept → IsAnswered airport state line block after → FoundMemory block → ((blocks : List Block) → Kept blocks → Keeps (blocks ++ block ∷ []))
    → IsKeptRun airport (lines ++ line ∷ []) after Keeps
kept-more airport lines state after Kept Keeps line block before answered found keeps = record {
  run = supplied-more airport lines state after line block before.run answered found;
  kept = keeps before.run.blocks before.kept;
}

pub ok-map : {A E : Type 0} (r : Result A E) (P Q : A → Type 0) → ((x : A) → P x → Q x) → IfOk r P → IfOk r Q
ok-map (Ok x) P Q f p = f x p
ok-map (Err e) P Q f p = tt

pub some-any : {A : Type 0} (o : Option A) (P : Type 0) → P → IfSome o (λ x. P)
some-any (Some x) P p = p
some-any None P p = tt

false-true : false ≡ true → ⊥
false-true is = cc

pub on-ok : {A E : Type 0} (r : Result A E) (P : Type 0) → is_ok r ≡ true → OnOk r P → P
on-ok (Ok x) P is p = p
on-ok (Err e) P is p = absurd (false-true is)

-- the bytes of the last line
pub last-map : (lines : List (Vec ℕ Global)) (line : Vec ℕ Global) → Some line ≡ slice_get lines (length lines - 1) → last_of (texts_of lines) ≡ Some line.items
last-map lines line is =
    ap (λ (n : ℕ). slice_get (texts_of lines) (n - 1)) (length-map lines (λ (l : Vec ℕ Global). l.items)) ∙ slice_get-map (λ (l : Vec ℕ Global). l.items) lines (length lines - 1)
    ∙ ap (option_map (λ (l : Vec ℕ Global). l.items)) (sym is)

-- the bytes of the lines so far and of one more
pub texts-more : (lines : List (Vec ℕ Global)) (i : ℕ) (line : Vec ℕ Global) → i < length lines → line ≡ get_or lines i line
    → texts_of (take (i + 1) lines) ≡ texts_of (take i lines) ++ line.items ∷ []
texts-more lines i line within is =
    ap texts_of (take_more lines i line within) ∙ map-append (λ (l : Vec ℕ Global). l.items) (take i lines) (get_or lines i line ∷ [])
    ∙ ap (λ (l : Vec ℕ Global). texts_of (take i lines) ++ l.items ∷ []) (sym is)

ok-or : {A E : Type 0} → A → Result A E → A
ok-or x (Ok y) = y
ok-or x (Err e) = x

-- what is in an `Ok` is one
pub ok-one : {A E : Type 0} (x y : A) → (is : (λ (r : Result A E). r) (Ok x) ≡ Ok y) → x ≡ y
unfolding ok-or
ok-one x y is = ap (ok-or x) is
