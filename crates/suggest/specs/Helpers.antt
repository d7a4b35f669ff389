-- Helper definitions, for proofs and inner contracts alone: what is seen in a text by its first number, which bytes can stand there, and the list while it is
-- filled.
use Rattle.std.specs.Prelude.{◌≡◌, Bool, true, false, ◌&&◌, ◌||◌, ◌⊎◌, ℕ, ◌+◌, ◌-◌, ◌*◌, ◌≤◌, ◌<◌, ltb, eqb, ℤ, pos, ◌+ℤ◌, ◌-ℤ◌, length, take, drop, Option, Some, None}
use mathlib.Core.List.{List, Memᴰ}
use Prim.Native.Char.{code}
use Rattle.std.specs.Int.Signed.{mag}
use Rattle.base.specs.Choice.{pick}
use Rattle.base.specs.Bytes.{byte}
use Rattle.base.specs.Buffers.{overlay}
use Rattle.base.specs.Classes.{is_digit, is_lower_alpha, is_duration_unit}
use Rattle.limits.specs.Limits.{max_bytes_literal_length}
use Rattle.token.specs.Helpers.{is_duration}
use Rattle.lexeme.specs.declared.Lexeme.{Lexeme}
use Rattle.scan.specs.Number.{lex_number}
use Rattle.lexer.specs.Token.{start_at}
use Rattle.suggestion_list.specs.Order.{Rising, put_all}
use Rattle.suggestion_list.specs.Rows.{entry_width, entry_rows}
use Rattle.suggestion_list.specs.declared.Suggestion.{Suggestion}
use Rattle.suggest.specs.Calls.{longest_run, good_run}
use Rattle.suggest.specs.Suggestions.{seen_in, first_byte, byte_count, entry_by, at_offset, suggestions_of}
use Rattle.suggest.specs.declared.pieces.Around.{Around}
use Rattle.suggest.specs.declared.pieces.Side.{Side}

-- Types of the code (src/pieces.rt). `Side`, what is `seen` on one side of a `cut`; `Around`, what is so `before` and `behind` the piece that changes.
-- Types that other files explain: `Lexeme` in lexeme/specs/Lexeme.antt; `Suggestion` in suggestion_list/specs/Order.antt.

-- a run that is taken is kept as it is
pub record RunTaken (run run' : List ℕ) : Type 0 where
  pub good : good_run run ≡ true
  pub same : run' ≡ run

-- ---- what is seen, without a reading

-- a byte that can begin a duration
unfoldable pub starts_number : ℕ → Bool
starts_number b = is_digit b || eqb b (code "-")

-- what is seen where this token is the first, and nothing but blanks is left or something else is
unfoldable pub seen_by : Lexeme → Bool → Option ℤ
seen_by x blank = pick (blank && is_duration x.kind) (Some x.nanos) None

-- what is seen: blanks, a number that is a Duration, blanks to the end
unfoldable pub seen_of : List ℕ → Option ℤ
seen_of text =
    let start = start_at text 0 in
    let x = lex_number (drop start text) in
    pick (starts_number (byte text start)) (seen_by x (eqb (start_at text (start + x.len)) (length text))) None

-- ---- a text cut in two, behind a letter and before a digit

-- the first byte that is no blank is `-`
unfoldable pub is_minus : List ℕ → Bool
is_minus text = eqb (byte text (start_at text 0)) (code "-")

-- a sum that a signed 64-bit number holds
abbrev pub seen_sum : ℤ → Option ℤ
seen_sum z = pick (ltb (mag z) 0x8000000000000000) (Some z) None

-- what is seen in both parts as one: the second has no sign of its own and is added under that of the first
unfoldable pub join_seen : Bool → Option ℤ → Option ℤ → Option ℤ
join_seen neg (Some a) (Some b) = seen_sum (pick neg (a -ℤ b) (a +ℤ b))
join_seen neg (Some a) None = None
join_seen neg None b = None

-- a printable byte that can stand where one Duration is all that is seen
unfoldable pub can_stand : ℕ → Bool
can_stand b = (((is_digit b || is_duration_unit b) || eqb b (code " ")) || eqb b (code "-")) || eqb b (code ".")

-- ---- the pieces of a text, of which one changes

-- a text can be cut at p: behind a letter and before a digit
pub record Seam (text : List ℕ) (p : ℕ) : Type 0 where
  pub some : 0 < p
  pub letter : is_lower_alpha (byte text (p - 1)) ≡ true
  pub digit : is_digit (byte text p) ≡ true

-- an answer that is false only where no zero is seen under `-`
abbrev pub MinusZero : Bool → Option ℤ → Bool → Type 0
MinusZero neg seen r = r ≡ false → neg ≡ true → seen ≡ Some (pos 0) → ⊥

-- what is seen before a cut
pub record HeadSeen (text : List ℕ) (s : Side) : Type 0 where
  pub seam : Seam text s.cut
  pub known : s.seen ≡ seen_of (take s.cut text)

-- what is seen behind a cut
pub record TailSeen (text : List ℕ) (s : Side) : Type 0 where
  pub seam : Seam text s.cut
  pub known : s.seen ≡ seen_of (drop s.cut text)

-- a text with what is seen before a cut, if there is one
abbrev pub Front : List ℕ → Option Side → Type 0
Front text None = Unit {0}
Front text (Some s) = HeadSeen text s

-- what is seen before a cut that is not next to the byte at i, if there is one, and behind such a cut
abbrev pub Before : List ℕ → ℕ → Option Side → Type 0
Before text i None = Unit {0}
Before text i (Some s) = (s.cut < i) × HeadSeen text s

abbrev pub Behind : List ℕ → ℕ → Option Side → Type 0
Behind text i None = Unit {0}
Behind text i (Some s) = (i + 1 < s.cut) × TailSeen text s

-- both, as they surround the byte at i
pub record Surrounds (text : List ℕ) (i : ℕ) (a : Around) : Type 0 where
  pub before : Before text i a.before
  pub behind : Behind text i a.behind

-- a text of which the surroundings of some byte are known
pub record Cut (text : List ℕ) (a : Around) : Type 0 where
  pub at : ℕ
  pub surrounds : Surrounds text at a

-- ---- the list while it is filled

-- entries in order, all of which come before the byte b at the offset i
pub record Ordered (i b : ℕ) (es : List Suggestion) : Type 0 where
  pub rising : Rising es
  pub tried : (y : Suggestion) → Memᴰ y es → (y.offset < i) ⊎ ((y.offset ≡ i) × (y.byte < b))

-- such entries are counted and, where a list that was `old` has room for them, stored from its start
pub record Filled (old : List ℤ) (i b : ℕ) (es : List Suggestion) (list : List ℤ) (count : ℕ) : Type 0 where
  pub ordered : Ordered i b es
  pub counted : count ≡ length es
  pub stored : length es * entry_width ≤ length old → list ≡ overlay (entry_rows es) old

-- the entries xs were added, by which the list goes from the byte b at the offset i to the byte c at the offset j
pub record Adds (xs : List Suggestion) (i b j c : ℕ) (list : List ℤ) (count : ℕ) (list' : List ℤ) (count' : ℕ) : Type 0 where
  pub fills : (old : List ℤ) (es : List Suggestion) → Filled old i b es list count → Filled old j c (put_all es xs) list' count'

-- one candidate was tried, whose text this is
pub record ByteTried (text : List ℕ) (i b : ℕ) (list : List ℤ) (count : ℕ) (list' : List ℤ) (count' : ℕ) : Type 0 where
  pub one : count' ≤ count + 1
  pub adds : length text ≤ longest_run → Adds (entry_by (seen_in max_bytes_literal_length text) i b) i b i (b + 1) list count list' count'

-- all candidates of an offset were tried
pub record OffsetTried (run : List ℕ) (i : ℕ) (list : List ℤ) (count : ℕ) (list' : List ℤ) (count' : ℕ) : Type 0 where
  pub few : count' ≤ count + byte_count
  pub adds : Adds (at_offset run i byte_count) i first_byte (i + 1) first_byte list count list' count'

-- all candidates of a run were tried: the suggestions are counted and, where the list has room for them, stored
pub record AllTried (run : List ℕ) (list list' : List ℤ) (count : ℕ) : Type 0 where
  pub counted : count ≡ length (suggestions_of run)
  pub stored : length (suggestions_of run) * entry_width ≤ length list → list' ≡ overlay (entry_rows (suggestions_of run)) list
