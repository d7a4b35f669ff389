-- The refusals of the calls on a text, by document 01's numbers and values.
use Rattle.std.specs.Prelude.{Bool, not, ◌&&◌, List, [], ◌∷◌, ℕ, ◌*◌, leb, ltb, length, Result, Ok, Err}
use Rattle.base.specs.Choice.{pick}
use Rattle.limits.specs.Limits.{max_message_size}
use Rattle.utf8.specs.Check.{check_of, inside_char}
use Rattle.utf8.specs.declared.check.Utf8Error.{Utf8Error}
use Rattle.token.specs.Layout.{record_width, report_width}
use Rattle.reading.specs.Buffers.{Laid, counts_of}
use Rattle.reading.specs.declared.counts.Counts.{Counts}
use Rattle.reading.specs.declared.refusal.Refusal.{Refusal}
use Rattle.reading.specs.declared.refusal.Refusal.TheVariants.{TooLong, NotUtf8, NoPlace, TokensShort, StringsShort, ReportsShort}

-- Types of the code (src/refusal.rt). `Refusal`: `TooLong`, `NotUtf8 offset`, `NoPlace`, `TokensShort`, `StringsShort`, `ReportsShort`, numbered below.
-- Types that other files explain: `Utf8Error` in utf8/specs/Check.antt; `Counts` in Buffers.antt.

-- document 01's number of each
abbrev pub refusal_number : Refusal → ℕ
refusal_number TooLong = 1
refusal_number (NotUtf8 n) = 2
refusal_number NoPlace = 3
refusal_number TokensShort = 4
refusal_number StringsShort = 5
refusal_number ReportsShort = 6

-- its values: "gives only the number (number 2 also gives an offset)"
abbrev pub refusal_values : Refusal → List ℕ
refusal_values TooLong = []
refusal_values (NotUtf8 n) = n ∷ []
refusal_values NoPlace = []
refusal_values TokensShort = []
refusal_values StringsShort = []
refusal_values ReportsShort = []

-- ---- the checks, in their order: "Text calls check 1, 2, 3, 4, 5, 6"

-- after the check of its bytes an ill-formed text gives its offset, a well-formed one goes on
abbrev pub after_check {ℓ} : {A : Type ℓ} → Result (Unit {0}) Utf8Error → (ℕ → A) → A → A
after_check (Ok u) f a = a
after_check (Err e) f a = f e.valid_up_to

-- checks 1 and 2: "the text exceeds 67,108,864 bytes", "the text isn't UTF-8 by RFC 3629"
unfoldable pub judge_of : List ℕ → Result (Unit {0}) Refusal
judge_of text = pick (ltb max_message_size (length text)) (Err TooLong) (after_check (check_of text) (λ n. Err (NotUtf8 n)) (Ok tt))

-- every call on a text begins with these: it refuses, or goes on
abbrev pub after_judge {ℓ} : {A : Type ℓ} → Result (Unit {0}) Refusal → (Refusal → A) → A → A
after_judge (Ok x) refuse a = a
after_judge (Err r) refuse a = refuse r

-- check 3, of an offset: none "beyond the text or inside a character" is good
unfoldable pub good_offset : List ℕ → ℕ → Bool
good_offset text offset = leb offset (length text) && not (inside_char text offset)

-- checks 4, 5 and 6, where buffers of nt numbers, ns bytes and nr numbers are lent for so many: "the token slice, string buffer or report slice is
-- shorter than the complete result needs"
unfoldable pub room_of : Counts → ℕ → ℕ → ℕ → Result (Unit {0}) Refusal
room_of c nt ns nr =
    pick (ltb nt (c.tokens * record_width)) (Err TokensShort)
    (pick (ltb ns c.strings) (Err StringsShort)
    (pick (ltb nr (c.reports * report_width)) (Err ReportsShort) (Ok tt)))

-- a call that lays this goes on after these, or refuses
abbrev pub after_room {ℓ} : {A : Type ℓ} → Laid → ℕ → ℕ → ℕ → (Refusal → A) → A → A
after_room l nt ns nr refuse a = after_judge (room_of (counts_of l) nt ns nr) refuse a
