-- A piece that is written behind the bytes of a short text.
use Rattle.std.proofs.Common.{◌≡◌, ◌+◌, ◌-◌, ◌++◌, ◌∙◌, ℕ, List, sym, ap, take, drop, length, replicate, append_assoc, length-append, arith}
use Rattle.std.proofs.Math.Seq.{take-append_seam, drop-append_seam}
use Rattle.std.proofs.lemmas.List.{drop-replicate}
use borrow.Rule.Slice.PartMut.{put_mid}
use Rattle.taxi_text.specs.Texts.{with_zeros}

module _ (n : ℕ) (stored written piece : List ℕ) (long : length (take n stored) ≡ n) (zeros : with_zeros (take n stored) ≡ stored) (same : written ≡ piece) where
  -- behind the piece are zeros
  behind : drop (n + length piece - n) (drop n stored) ≡ replicate (64 - length (take n stored ++ piece)) 0
  behind =
      let rest : drop n stored ≡ replicate (64 - length (take n stored)) 0 =
      ap (λ (s : List ℕ). drop n s) (sym zeros) ∙ ap (λ (m : ℕ). drop m (with_zeros (take n stored))) (sym long) ∙ drop-append_seam (take n stored) (replicate (64 - length (take n stored)) 0) in
      let left : 64 - length (take n stored) - (n + length piece - n) ≡ 64 - length (take n stored ++ piece) = let l = length-append (take n stored) piece in omega (arith, l, long) in
      ap (λ (s : List ℕ). drop (n + length piece - n) s) rest ∙ drop-replicate {X = ℕ} (n + length piece - n) (64 - length (take n stored)) 0 ∙ ap (λ (m : ℕ). replicate m 0) left

  whole : put_mid n (n + length piece - n) stored written ≡ with_zeros (take n stored ++ piece)
  whole = ap (λ (s : List ℕ). take n stored ++ (s ++ drop (n + length piece - n) (drop n stored))) same ∙ ap (λ (s : List ℕ). take n stored ++ (piece ++ s)) behind
      ∙ sym (append_assoc (take n stored) piece (replicate (64 - length (take n stored ++ piece)) 0))

  pub bytes_after : take (n + length piece) (put_mid n (n + length piece - n) stored written) ≡ take n stored ++ piece
  bytes_after =
      let l : n + length piece ≡ length (take n stored ++ piece) = let a = length-append (take n stored) piece in omega (arith, a, long) in
      ap (λ (s : List ℕ). take (n + length piece) s) whole ∙ ap (λ (m : ℕ). take m (with_zeros (take n stored ++ piece))) l
      ∙ take-append_seam (take n stored ++ piece) (replicate (64 - length (take n stored ++ piece)) 0)

  pub zeros_after : with_zeros (take (n + length piece) (put_mid n (n + length piece - n) stored written)) ≡ put_mid n (n + length piece - n) stored written
  zeros_after = ap with_zeros bytes_after ∙ sym whole

  pub length_after : length (take (n + length piece) (put_mid n (n + length piece - n) stored written)) ≡ n + length piece
  length_after = let e = ap (λ (s : List ℕ). length s) bytes_after in let a = length-append (take n stored) piece in omega (arith, e, a, long)
