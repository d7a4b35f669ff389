-- For the loop of `is_blank`: from each White_Space to the next, what is left is as blank as the whole. By the law of one step. Assumes nothing.
use mathlib.Core.Path.{◌≡◌, refl, sym, ◌∙◌}
use mathlib.Core.Bool.{true, false}
use mathlib.Core.List.{List, [], ◌∷◌}
use Prim.Native.Nat.{ℕ, zero, suc, ◌+◌, ◌-◌, ◌≤◌, ◌<◌, ◌^◌}
use native.Mathlib.Omega.{arith}
use lib.ListN.{length, take, drop, length-drop, drop_of_length-le}
use lib.Seq.{drop-drop}
use mir.Syntax.{w64}
use mir.Val.{Fits}
use Rattle.std.specs.Prelude.{Option, Some, None}
use Rattle.base.specs.Helpers.{nonzero}
use Rattle.base.proofs.Reaches.{rest_is}
use Rattle.utf8.specs.Character.{white_size}
use Rattle.base.proofs.Nonzero.{none_zero, some_same, some_more}
use Rattle.utf8.proofs.Codes.{white_le}
use Rattle.triple_strings.specs.Dedent.{next, blank}

blank_skip : (k : ℕ) (t : List ℕ) → blank k t ≡ blank 0 (drop k t)
unfolding blank
blank_skip zero t = refl
blank_skip (suc k) [] = refl
blank_skip (suc k) (x ∷ t) = blank_skip k t

blank_nil : blank 0 [] ≡ true
unfolding blank
blank_nil = refl

blank_cons : (x : ℕ) (t : List ℕ) → blank 0 (x ∷ t) ≡ next (λ m. blank m t) (white_size (x ∷ t))
unfolding blank
blank_cons x t = refl

-- a White_Space of n + 1 bytes at the front, or none
blank_step : (t : List ℕ) (n : ℕ) → 1 ≤ length t → white_size t ≡ suc n → blank 0 t ≡ blank 0 (drop (suc n) t)
blank_step [] n h e = absurd (omega arith)
blank_step (x ∷ t) n h e = blank_cons x t ∙ rw e (blank_skip n t)

blank_stop : (t : List ℕ) → 1 ≤ length t → white_size t ≡ 0 → blank 0 t ≡ false
blank_stop [] h e = absurd (omega arith)
blank_stop (x ∷ t) h e = blank_cons x t ∙ rw e refl

-- at i: the text is blank where the rest from i is
pub record Blanking (t : List ℕ) (i : ℕ) : Type 0 where
  pub inside : i ≤ length t
  pub is : blank 0 t ≡ blank 0 (drop i t)

module _ (t : List ℕ) (i : ℕ) (u : Blanking t i) where
  pub blanking_end : length t ≤ i → true ≡ blank 0 t
  blanking_end h = sym (u.is ∙ rw (drop_of_length-le t h) blank_nil)

  module _ (h : i < length t) (r : Option ℕ) (e : r ≡ nonzero (white_size (take (length t - i) (drop i t)))) where
    here : r ≡ nonzero (white_size (drop i t))
    here = rw rest_is at e

    left : 1 ≤ length (drop i t)
    left = omega (arith, length-drop i t)

    pub blanking_stop : r ≡ None → false ≡ blank 0 t
    blanking_stop z = sym (u.is ∙ blank_stop (drop i t) left (none_zero (white_size (drop i t)) (sym z ∙ here)))

    module _ (n : ℕ) (w : r ≡ Some n) where
      size : white_size (drop i t) ≡ n
      size = some_same (white_size (drop i t)) n (sym w ∙ here)

      more : 0 < n
      more = some_more (white_size (drop i t)) n (sym w ∙ here)

      taken : n ≤ length t - i
      taken = omega (arith, size, white_le (drop i t), length-drop i t)

      pub blanking_fits : length t < 2 ^ 64 → Fits w64 (i + n)
      blanking_fits l = omega (arith, taken)

      pub blanking_on : Blanking t (i + n)
      blanking_on =
          let s : n ≡ suc (n - 1) = omega (arith, more) in
          record {
            inside = omega (arith, taken);
            is = u.is ∙ blank_step (drop i t) (n - 1) left (size ∙ s) ∙ rw (← s, drop-drop n i t) refl;
          }

-- what `is_blank` needs at each return
pub ruleset blanking = (blanking_stop, blanking_fits, blanking_end)
