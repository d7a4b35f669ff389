-- For `simple_count` and `put_simple`, which go over a text by pairs of bytes: the escapes of one letter at its front, by its pairs. By induction on
-- the text and on the pairs. Assumes nothing.
use Rattle.std.proofs.Common.{◌≡◌, ℕ, suc, ◌+◌, ◌/◌, ◌<◌, ◌≤◌, List, [], ◌∷◌, Option, Some, None, is_some, cond, length, drop, get_or, set, refl, ◌∙◌, arith}
use lib.ListN.{drop_of_length-le}
use lib.Seq.{sets, drop-cons}
use native.Mathlib.Numerals.{add-one}
use Rattle.std.specs.List.{prefix_len}
use Rattle.std.specs.Simd.{first_chunks}
use Rattle.base.specs.Bytes.{byte}
use Rattle.base.proofs.Storings.{Storing, storing_end, storing_reached, storing_room, storing_more}
use Rattle.strings.specs.Plain.{simple_at, before, simple_bytes}

-- the byte of a pair
abbrev pub pair_at : List ℕ → Option ℕ
pair_at p = simple_at (byte p 0) (byte p 1)

-- the bytes that the escapes at the front of the pairs stand for
abbrev pub pair_bytes : List (List ℕ) → List ℕ
pair_bytes [] = []
pair_bytes (p ∷ ps) = before (pair_at p) (pair_bytes ps)

pub pairs_are : (t : List ℕ) → simple_bytes t ≡ pair_bytes (first_chunks 2 (length t / 2) t)
unfolding simple_bytes
pairs_are [] = refl
pairs_are (x ∷ []) = refl
pairs_are (x ∷ y ∷ l) = let h : suc (suc (length l)) / 2 ≡ suc (length l / 2) = omega arith in rw (h, ← pairs_are l) refl

pub pairs_count : (ps : List (List ℕ)) → prefix_len (λ p. is_some (pair_at p)) ps ≡ length (pair_bytes ps)
pairs_count [] = refl
pairs_count (p ∷ ps) = go (pair_at p) (pairs_count ps)
  where
    go : (v : Option ℕ) → prefix_len (λ p. is_some (pair_at p)) ps ≡ length (pair_bytes ps)
        → cond (is_some v) (1 + prefix_len (λ p. is_some (pair_at p)) ps) 0 ≡ length (before v (pair_bytes ps))
    go None e = refl
    go (Some b) e = omega arith

-- `put_simple` at the pair k: what is left goes to out from k on
module _ (ps : List (List ℕ)) (out₀ out : List ℕ) (k : ℕ) (u : Storing (pair_bytes ps) out₀ 0 (pair_bytes (drop k ps)) out k) where
  module _ (v : Option ℕ) (is : v ≡ pair_at (get_or ps k [])) (h : k < length ps) where
    left : pair_bytes (drop k ps) ≡ before v (pair_bytes (drop (k + 1) ps))
    left = rw (drop-cons ps k [] h, ← is, add-one k) refl

    module _ (z : v ≡ None) where
      none_left : pair_bytes (drop k ps) ≡ []
      none_left = left ∙ rw z

      pub putting_stop : out ≡ sets out₀ 0 (pair_bytes ps)
      putting_stop = storing_end u none_left

      pub counting_stop : k ≡ length (pair_bytes ps)
      counting_stop = omega (arith, storing_reached u none_left)

    module _ (b : ℕ) (z : v ≡ Some b) where
      one_left : pair_bytes (drop k ps) ≡ b ∷ pair_bytes (drop (k + 1) ps)
      one_left = left ∙ rw z

      pub putting_room : k < length out
      putting_room = let r = storing_room u (b ∷ []) (pair_bytes (drop (k + 1) ps)) one_left {n = 1} refl in omega arith

      pub putting_more : Storing (pair_bytes ps) out₀ 0 (pair_bytes (drop (k + 1) ps)) (set out k b) (k + 1)
      putting_more = storing_more u (b ∷ []) (pair_bytes (drop (k + 1) ps)) one_left refl (set out k b) refl

  module _ (h : length ps ≤ k) where
    all_put : pair_bytes (drop k ps) ≡ []
    all_put = rw (drop_of_length-le ps h)

    pub putting_end : out ≡ sets out₀ 0 (pair_bytes ps)
    putting_end = storing_end u all_put

    pub counting_end : k ≤ length ps → length ps ≡ length (pair_bytes ps)
    counting_end g = omega (arith, storing_reached u all_put)
