-- For the loops of strings, triple_strings and listing_lines that write to a lent buffer: a list is stored piece by piece, and what is left, stored from
-- here on, makes the whole. By the law of two runs of stores. Assumes nothing.
use mathlib.Core.Path.{◌≡◌, refl, sym, ap, ◌∙◌}
use mathlib.Core.List.{List, [], ◌++◌}
use Prim.Native.Nat.{ℕ, ◌+◌, ◌≤◌}
use native.Mathlib.Omega.{arith}
use lib.ListN.{length, length-append}
use lib.Seq.{sets, length-sets}
use Rattle.base.proofs.Stores.{sets_append}

-- `all` goes to out₀ from `at` on; `left` of it is left, and goes to out from p on
pub record Storing {A : Type 0} (all out₀ : List A) (at : ℕ) (left out : List A) (p : ℕ) : Type 0 where
  pub same : length out ≡ length out₀
  pub room : p + length left ≤ length out₀
  pub reached : p + length left ≡ at + length all
  pub is : sets out₀ at all ≡ sets out p left

module _ {A : Type 0} {all out₀ : List A} {at : ℕ} where
  pub storing_first : at + length all ≤ length out₀ → Storing all out₀ at all out₀ at
  storing_first h = record { same = refl; room = h; reached = refl; is = refl }

  module _ {left out : List A} {p : ℕ} (u : Storing all out₀ at left out p) where
    pub storing_end : left ≡ [] → out ≡ sets out₀ at all
    storing_end e = sym (u.is ∙ rw e)

    pub storing_reached : left ≡ [] → p ≡ at + length all
    storing_reached e = omega (arith, u.reached, ap length e)

    -- the next of what is left, stored up to p'
    pub storing_to : (vs rest : List A) → left ≡ vs ++ rest → {o : List A} {p' : ℕ} → o ≡ sets out p vs → p' ≡ p + length vs
        → Storing all out₀ at rest o p'
    storing_to vs rest e q l =
        record {
          same = ap length q ∙ length-sets out p vs ∙ u.same;
          room = omega (arith, ap length e, length-append vs rest, u.room);
          reached = omega (arith, ap length e, length-append vs rest, u.reached);
          is = u.is ∙ ap (sets out p) e ∙ sets_append out p vs rest ∙ rw (q, l);
        }

    -- the next n of what is left
    module _ (vs rest : List A) (e : left ≡ vs ++ rest) {n : ℕ} (l : length vs ≡ n) where
      pub storing_room : p + n ≤ length out
      storing_room = omega (arith, ap length e, length-append vs rest, u.room, u.same)

      pub storing_more : (o : List A) → o ≡ sets out p vs → Storing all out₀ at rest o (p + n)
      storing_more o q = storing_to vs rest e q (ap (p +◌) (sym l))
