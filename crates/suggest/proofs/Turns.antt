-- For `try_offset` and `try_offsets`: the turns of their loops, over the bytes at one offset and over the offsets. By the laws of the list while it is filled.
-- Assumes nothing.
use mathlib.Core.Path.{◌≡◌, refl, ◌∙◌}
use mathlib.Core.List.{List, [], ◌++◌}
use Prim.Native.Nat.{ℕ, suc, ◌+◌, ◌-◌, ◌*◌, ◌≤◌, ◌<◌, zero-le}
use native.Mathlib.Numerals.{add-one}
use native.Mathlib.Omega.{arith}
use lib.IntN.{ℤ}
use lib.ListN.{length, set, length-set}
use lib.Seq.{set-set}
use Rattle.limits.specs.Limits.{max_bytes_literal_length}
use Rattle.suggest.specs.Suggestions.{seen_in, first_byte, byte_count, entry_by, candidate, at_offset, up_to, suggestions_of}
use Rattle.suggestion_list.specs.Order.{put_all}
use Rattle.suggestion_list.proofs.Orders.{put_all_append}
use Rattle.suggest.specs.Calls.{longest_run}
use Rattle.suggest.specs.Helpers.{Filled, Adds, ByteTried, OffsetTried, AllTried}
use Rattle.suggest.proofs.Fills.{filled_none, adds_nothing, adds_none, adds_then}

-- the bytes before b were tried at the offset i of the run, whose byte there is any of them now
pub record Trying (run₀ : List ℕ) (i : ℕ) (list₀ : List ℤ) (count : ℕ) (run : List ℕ) (list : List ℤ) (n b : ℕ) : Type 0 where
  pub low : first_byte ≤ b
  pub high : b ≤ first_byte + byte_count
  pub few : n ≤ count + (b - first_byte)
  pub long : length run ≡ length run₀
  pub same : (x : ℕ) → set run i x ≡ set run₀ i x
  pub adds : Adds (at_offset run₀ i (b - first_byte)) i first_byte i b list₀ count list n

module _ {run₀ : List ℕ} {i : ℕ} {list₀ : List ℤ} {count : ℕ} where
  pub trying_first : Trying run₀ i list₀ count run₀ list₀ count first_byte
  unfolding at_offset
  trying_first =
      record {
        low = omega arith;
        high = omega arith;
        few = omega arith;
        long = refl;
        same = λ x. refl;
        adds = adds_nothing;
      }

  module _ {run : List ℕ} {list : List ℤ} {n b : ℕ} (t : Trying run₀ i list₀ count run list n b) (l : b < first_byte + byte_count) where
    -- the bytes up to b, as those before it and b
    next_bytes : at_offset run₀ i (b + 1 - first_byte) ≡ at_offset run₀ i (b - first_byte) ++ candidate run₀ i b
    unfolding at_offset
    next_bytes =
        let h = t.low in
        let e : b + 1 - first_byte ≡ suc (b - first_byte) = omega arith in
        let f : first_byte + (b - first_byte) ≡ b = omega arith in
        rw (e, f)

    -- a byte that gives nothing
    pub trying_none : candidate run₀ i b ≡ [] → Trying run₀ i list₀ count run list n (b + 1)
    trying_none e =
        let h = t.low in
        let k = t.few in
        record {
          low = omega arith;
          high = omega arith;
          few = omega arith;
          long = t.long;
          same = t.same;
          adds = rw (next_bytes, e) (adds_then t.adds adds_none);
        }

    -- one that was tried
    pub trying_byte : {list' : List ℤ} {n' : ℕ} → ByteTried (set run i b) i b list n list' n' → length run ≤ longest_run
        → candidate run₀ i b ≡ entry_by (seen_in max_bytes_literal_length (set run₀ i b)) i b → Trying run₀ i list₀ count (set run i b) list' n' (b + 1)
    trying_byte w g e =
        let h = t.low in
        let k = t.few in
        let o = w.one in
        record {
          low = omega arith;
          high = omega arith;
          few = omega arith;
          long = length-set run i b ∙ t.long;
          same = λ x. set-set run i b x ∙ t.same x;
          adds = rw (next_bytes, e) (adds_then t.adds (rw (t.same b) at (w.adds (rw length-set g))));
        }

-- the offsets before i were tried
pub record Walking (run₀ : List ℕ) (list₀ : List ℤ) (run : List ℕ) (list : List ℤ) (count i : ℕ) : Type 0 where
  pub inside : i ≤ length run₀
  pub few : count ≤ i * byte_count
  pub same : run ≡ run₀
  pub filled : Filled list₀ i first_byte (put_all [] (up_to run₀ i)) list count

pub walking_first : {run₀ : List ℕ} {list₀ : List ℤ} → Walking run₀ list₀ run₀ list₀ 0 0
unfolding up_to put_all
walking_first {list₀ = list₀} = record { inside = zero-le; few = zero-le; same = refl; filled = filled_none list₀ }

module _ {run₀ : List ℕ} {list₀ : List ℤ} {run : List ℕ} {list : List ℤ} {count i : ℕ} (w : Walking run₀ list₀ run list count i) where
  -- one offset more
  pub walking_next : {run' : List ℕ} {list' : List ℤ} {count' : ℕ} → i < length run₀ → OffsetTried run i list count list' count' → run' ≡ run
      → Walking run₀ list₀ run' list' count' (i + 1)
  unfolding up_to
  walking_next h t e =
      let f = rw w.same at (t.adds.fills list₀ (put_all [] (up_to run₀ i)) w.filled) in
      record {
        inside = omega arith;
        few = omega (arith, t.few, w.few);
        same = e ∙ w.same;
        filled = rw (add-one i, put_all_append [] (up_to run₀ i) (at_offset run₀ i byte_count)) (rw (add-one i) at f);
      }

  -- all of them
  pub walking_last : length run₀ ≤ i → AllTried run₀ list₀ list count
  unfolding suggestions_of
  walking_last h =
      let e : i ≡ length run₀ = omega (arith, w.inside) in
      let f = rw e at w.filled in
      record { counted = f.counted; stored = f.stored }
