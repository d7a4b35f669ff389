-- What the check of a text answers, and whether an offset is inside a character.
use Rattle.std.specs.Prelude.{◌≡◌, Bool, List, ◌++◌, ℕ, ◌≤◌, ◌<◌, eqb, length, take, drop, Result, Ok, Err}
use Rattle.base.specs.Choice.{pick}
use Rattle.base.specs.Bytes.{byte, within}
use Rattle.base.specs.Runs.{reach}
use Rattle.utf8.specs.Grammar.{Char, Octets, valid_to}
use Rattle.utf8.specs.declared.check.Utf8Error.{Utf8Error}

-- Types of the code (src/check.rt). `Utf8Error`: where the first ill-formed sequence begins, `valid_up_to`.

-- well formed where the valid prefix is the whole
unfoldable pub check_of : List ℕ → Result (Unit {0}) Utf8Error
check_of s = pick (eqb (valid_to s) (length s)) (Ok tt) (Err (record { valid_up_to = valid_to s }))

-- document 01, refusal 2: "the offset is the first byte of the first ill-formed sequence"
pub record FirstIll (s : List ℕ) (n : ℕ) : Type 0 where
  pub inside : n < length s
  pub good : Octets (take n s)
  pub longest : (m : ℕ) → n < m → m ≤ length s → Octets (take m s) → ⊥
  pub ill : (c t : List ℕ) → drop n s ≡ c ++ t → Char c → ⊥

-- the answer, both ways: well formed exactly where the grammar accepts the whole, else the first ill-formed sequence
pub record Checked (s : List ℕ) (r : Result (Unit {0}) Utf8Error) : Type 0 where
  pub same : r ≡ check_of s
  pub whole : r ≡ Ok tt → Octets s
  pub only : Octets s → r ≡ Ok tt
  pub first : (e : Utf8Error) → r ≡ Err e → FirstIll s e.valid_up_to

-- UTF8-tail: no character begins with it
unfoldable pub is_tail : ℕ → Bool
is_tail b = within 0x80 0xBF b

-- the offset i of a well-formed text is inside a character: a UTF8-tail stands there
unfoldable pub inside_char : List ℕ → ℕ → Bool
inside_char s i = is_tail (byte s i)

-- a UTF8-tail; what follows it does not count
abbrev pub in_tails : ℕ → ℕ → Bool
in_tails a b = is_tail a

-- document 01: "If the Rust stops inside a character .. ours ends after that character": the first offset from i on at which no UTF8-tail stands
unfoldable pub char_end : List ℕ → ℕ → ℕ
char_end s i = reach in_tails s i
