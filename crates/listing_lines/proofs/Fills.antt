-- For `put_refusal` and `list`: an out buffer that is short, and one that holds the lines. By the test of its length. Assumes nothing.
use mathlib.Core.Path.{◌≡◌, ◌∙◌}
use mathlib.Core.Bool.{Bool, true, false}
use mathlib.Core.List.{List}
use Prim.Native.Nat.{ℕ, ◌≤◌, ◌<◌}
use lib.Dec.{ltb}
use lib.ListN.{length}
use Rattle.std.specs.Prelude.{Result, Ok, Err}
use lib.Seq.{sets}
use borrow.Author.Tests.{lt-ltb, le-ltb}
use Rattle.base.specs.Buffers.{overlay}
use Rattle.base.specs.Choice.{pick}
use Rattle.base.proofs.Stores.{overlaid}
use Rattle.listing_lines.specs.Listing.{Fills}
use Rattle.listing_lines.specs.declared.OutShort.{OutShort}

pub short_fills : (lines O : List ℕ) → length O < length lines → Fills lines O (Err (record {})) O
short_fills lines O h = let e = lt-ltb (length O) (length lines) h in record { answer = rw e; out = rw e }

pub whole_fills : (lines O : List ℕ) {n : ℕ} {O' : List ℕ} → n ≡ length lines → length lines ≤ length O → O' ≡ sets O 0 lines → Fills lines O (Ok n) O'
whole_fills lines O q h s =
    let e = le-ltb (length O) (length lines) h in
    record { answer = rw (e, q); out = rw e (s ∙ overlaid lines O h) }

pub short_out : {lines O : List ℕ} {r : Result ℕ OutShort} {O' : List ℕ} → Fills lines O r O' → r ≡ Err (record {}) → O' ≡ O
short_out {lines} {O} {r} {O'} f e = go (ltb (length O) (length lines)) f.answer f.out
  where
    go : (b : Bool) → r ≡ pick b (Err (record {})) (Ok (length lines)) → O' ≡ pick b O (overlay lines O) → O' ≡ O
    go true a o = o
    go false a o = absurd cc
