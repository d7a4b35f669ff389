-- Helper definitions, for proofs and inner contracts alone: where an entry goes, the room that is made for it, and the list after it.
use Rattle.std.specs.Prelude.{◌≡◌, true, false, ◌⊎◌, ℕ, ◌+◌, ◌-◌, ◌*◌, ◌≤◌, ◌<◌, ℤ, pos, length, take, drop, get_or}
use mathlib.Core.List.{List, Memᴰ}
use Rattle.std.proofs.lemmas.List.Edits.{sets}
use Rattle.std.specs.Int.Signed.{lt_z}
use Rattle.base.specs.Buffers.{overlay}
use Rattle.suggestion_list.specs.Order.{Rising, put}
use Rattle.suggestion_list.specs.Rows.{entry_width, entry_rows}
use Rattle.suggestion_list.specs.declared.Suggestion.{Suggestion}
use Rattle.suggestion_list.specs.declared.Suggestions.{Suggestions}

-- Types of the code (src/lib.rt). `Suggestions`: the lent slice of numbers, `list`, and the `count` of its entries.
-- Types that other files explain: `Suggestion` in Order.antt.

-- the nanoseconds of the k-th entry of a list of numbers
abbrev pub nanos_at : List ℤ → ℕ → ℤ
nanos_at l k = get_or l (k * entry_width) (pos 0)

-- the nanoseconds of the first `count` entries never fall
abbrev pub Climbs : List ℤ → ℕ → Type 0
Climbs l count = (j k : ℕ) → j ≤ k → k < count → lt_z (nanos_at l k) (nanos_at l j) ≡ false

-- r parts them: those before it have at most z nanoseconds, the others more
pub record Parts (l : List ℤ) (count : ℕ) (z : ℤ) (r : ℕ) : Type 0 where
  pub before : (k : ℕ) → k < r → lt_z z (nanos_at l k) ≡ false
  pub after : (k : ℕ) → r ≤ k → k < count → lt_z z (nanos_at l k) ≡ true

-- where the search ends: at one of the entries or behind them, and where they are in order it parts them
pub record Place (l : List ℤ) (count : ℕ) (z : ℤ) (r : ℕ) : Type 0 where
  pub inside : r ≤ count
  pub parts : Climbs l count → Parts l count z r

-- the numbers from `at` to `end` stand an entry further on
abbrev pub Moved : List ℤ → ℕ → ℕ → List ℤ → Type 0
Moved l at end l' = l' ≡ sets l (at + entry_width) (take (end - at) (drop at l))

-- an entry comes after another by its offset, or at the same offset by its byte
abbrev pub Behind : Suggestion → Suggestion → Type 0
Behind y x = (y.offset < x.offset) ⊎ ((y.offset ≡ x.offset) × (y.byte < x.byte))

-- entries in order, all of them behind x
pub record Ready (x : Suggestion) (es : List Suggestion) : Type 0 where
  pub rising : Rising es
  pub behind : (y : Suggestion) → Memᴰ y es → Behind y x

-- where the list holds `count` such entries and has room for one more, x is put among them, and the rest is as it was
abbrev pub Added : Suggestion → ℕ → List ℤ → List ℤ → Type 0
Added x count l l' =
    (es : List Suggestion) (l₀ : List ℤ) → Ready x es → count ≡ length es → (count + 1) * entry_width ≤ length l₀ → l ≡ overlay (entry_rows es) l₀
    → l' ≡ overlay (entry_rows (put x es)) l₀

-- the list of x' is that of x, with other numbers
pub record SameList (x x' : Suggestions) : Type 0 where
  pub lent : x'.list.ghost_name ≡ x.list.ghost_name
  pub size : length x'.list.now ≡ length x.list.now
