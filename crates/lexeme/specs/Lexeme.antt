-- A token at the front of a text, by its numbers: document 01, "Places and records", relative to the token's start.
use Rattle.std.specs.Prelude.{Some, None, ℕ, ◌+◌, ◌-◌, ℤ, pos}
use Rattle.token.specs.declared.kind.TokenKind.{TokenKind}
use Rattle.token.specs.declared.kind.TokenKind.TheVariants as K
use Rattle.token.specs.declared.reason.Reason.{Reason}
use Rattle.lexeme.specs.declared.Lexeme.{Lexeme}

-- Types of the code (src/lib.rt). `Lexeme`, a token of `len` bytes with its `kind`, `reason` and `detail`: its value is `size` bytes from `value` on,
-- or a String's `size` decoded bytes; its precision is `digits` bytes from `precision` on; a Duration has `nanos`; it makes so many `reports`.
-- `Mode`: `Strict` refuses what is open or badly escaped, `Tolerant` recovers and reports it.
-- Types that other files explain: `TokenKind` in token/specs/Kind.antt; `Reason` in token/specs/Reason.antt.

-- a token of n bytes with its value at v..v + size, and so many reports; "Unused numbers are 0"
abbrev pub extent : TokenKind → ℕ → ℕ → ℕ → ℕ → Lexeme
extent k n v size reports =
    record { kind = k; reason = None; detail = 0; len = n; value = v; size = size; precision = 0; digits = 0; nanos = pos 0; reports = reports }

-- the token is its own value
abbrev pub whole : TokenKind → ℕ → Lexeme
whole k n = extent k n 0 n 0

-- a token without a value: "an empty value other than a String's has its place at the token's end"
abbrev pub bare : TokenKind → ℕ → Lexeme
bare k n = extent k n n 0 0

-- an Illegal token with so many reports: "Newline, Eof and Illegal values have length 0"
abbrev pub illegal_reported : Reason → ℕ → ℕ → ℕ → Lexeme
illegal_reported r d n reports =
    record { kind = K.Illegal; reason = Some r; detail = d; len = n; value = n; size = 0; precision = 0; digits = 0; nanos = pos 0; reports = reports }

-- an Illegal token without one
abbrev pub illegal : Reason → ℕ → ℕ → Lexeme
illegal r d n = illegal_reported r d n 0

-- a number of n bytes whose value ends at e, with its precision: the digits after `p`
abbrev pub precise : TokenKind → ℕ → ℕ → Lexeme
precise k e n =
    record { kind = k; reason = None; detail = 0; len = n; value = 0; size = e; precision = e + 1; digits = n - (e + 1); nanos = pos 0; reports = 0 }

-- a Duration of n bytes and z nanoseconds
abbrev pub duration : ℕ → ℤ → Lexeme
duration n z =
    record { kind = K.Duration; reason = None; detail = 0; len = n; value = 0; size = n; precision = 0; digits = 0; nanos = z; reports = 0 }

-- a report of a token: its reason, its detail, and how far behind the token's start it stands
pub record Note : Type 0 where
  pub reason : Reason
  pub detail : ℕ
  pub offset : ℕ

-- a report at the token's start
abbrev pub note_at_start : Reason → Note
note_at_start r = record { reason = r; detail = 0; offset = 0 }
