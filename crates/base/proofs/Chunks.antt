-- For `copy` and the crates that read arrays out of a slice: the i-th chunk of a list stands i chunks behind its front. By induction on the chunks.
-- Assumes nothing.
use Rattle.std.specs.Simd.{first_chunks}
use mathlib.Core.Path.{◌≡◌, ◌∙◌}
use mathlib.Core.List.{List, []}
use Prim.Native.Nat.{ℕ, zero, suc, ◌+◌, ◌*◌, ◌<◌}
use native.Mathlib.Nat.{zero-mul}
use native.Mathlib.Omega.{arith}
use lib.ListN.{get_or, take, drop}
use lib.Seq.{drop-drop}

pub chunk_at : {A : Type 0} (n k i : ℕ) (l : List A) → i < k → get_or (first_chunks n k l) i [] ≡ take n (drop (i * n) l)
chunk_at n zero i l h = absurd (omega arith)
chunk_at n (suc k) zero l h = rw (zero-mul n)
chunk_at n (suc k) (suc i) l h =
    let d : n + i * n ≡ suc i * n = omega arith in
    chunk_at n k i (drop n l) (omega arith) ∙ rw (drop-drop (i * n) n l, d)
