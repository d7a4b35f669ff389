-- What the crate above, `lexer`, is told of each token where a byte is left: it is within the text, no Eof and no String, it ends between characters
-- where it starts so, a Duration's run is one that `parse` accepts, a timestamp's is a date, and a bad timestamp's is none. By the makers of lexemes. Assumes
-- nothing.
use mathlib.Core.Path.{◌≡◌, refl, ap, sym, ◌∙◌}
use mathlib.Core.Bool.{Bool, true, false, ◌||◌}
use mathlib.Core.List.{List, [], ◌∷◌}
use Prim.Native.Nat.{ℕ, ◌+◌, ◌≤◌, ◌<◌}
use native.Mathlib.Omega.{arith}
use lib.Dec.{eqb}
use lib.ListN.{length, take}
use Rattle.std.proofs.Common.{Option, Some}
use Rattle.base.specs.Bytes.{byte, same_bytes}
use Rattle.base.specs.Classes.{is_digit}
use Rattle.base.proofs.Tests.{true_false}
use Rattle.token.specs.Kind.{kind_number, timestamp_number, is_eof, is_string}
use Rattle.token.specs.Helpers.{is_timestamp, is_duration, Flat}
use Rattle.token.specs.declared.kind.TokenKind.TheVariants as K
use Rattle.token.specs.declared.kind.TokenKind.{TokenKind}
use Rattle.token.specs.declared.reason.Reason.{Reason}
use Rattle.token.specs.declared.reason.Reason.TheVariants as R
use Rattle.token.proofs.KindNumbers.{number_kind_lem}
use Rattle.lexeme.specs.Lexeme.{extent, whole, illegal}
use Rattle.lexeme.specs.declared.Lexeme.{Lexeme}
use Rattle.lexeme.proofs.Within.{Within, extent_within, illegal_within}
use Rattle.utf8.specs.Onward.{Boundary}
use Rattle.go_duration.specs.Parse.{unsigned, parse_of}
use Rattle.rfc3339.specs.Instant.{date_of, is_date}

-- a kind that is none of these
pub record Plain (k : TokenKind) : Type 0 where
  pub not_eof : k ≡ K.Eof → ⊥
  pub not_string : k ≡ K.String → ⊥
  pub not_timestamp : k ≡ K.Timestamp → ⊥
  pub not_duration : k ≡ K.Duration → ⊥

pub plain : (k : TokenKind) → ((is_eof k || is_string k) || is_timestamp k) || is_duration k ≡ false → Plain k
unfolding kind_number
plain k e =
    record {
      not_eof = other K.Eof refl;
      not_string = other K.String refl;
      not_timestamp = other K.Timestamp refl;
      not_duration = other K.Duration refl;
    }
  where
    test : TokenKind → Bool
    test x = ((is_eof x || is_string x) || is_timestamp x) || is_duration x

    other : (x : TokenKind) → test x ≡ true → k ≡ x → ⊥
    other x t q = true_false (test x) t (ap test (sym q) ∙ e)

-- a Duration: its nanoseconds are those of its run, which begins with a digit or `-` and after that is not `0` alone
pub record DurationRun (s : List ℕ) (r : Lexeme) : Type 0 where
  pub value : parse_of (take r.len s) ≡ Some r.nanos
  pub first : is_digit (byte s 0) || eqb (byte s 0) 45 ≡ true
  pub no_plus : byte (take r.len s) 0 ≡ 43 → ⊥
  pub not_zero : same_bytes (unsigned (take r.len s)) (48 ∷ []) ≡ false

-- the run of a token of the kind and reason: a Timestamp's is a date, a bad timestamp's is none
pub record StampRun (k : TokenKind) (reason : Option Reason) (run : List ℕ) : Type 0 where
  pub date : kind_number k ≡ timestamp_number → is_date (date_of run) ≡ true
  pub none : reason ≡ Some R.BadTimestamp → is_date (date_of run) ≡ false

-- of another kind and another reason nothing is said
pub no_stamp : {k : TokenKind} {reason : Option Reason} {run : List ℕ} → (k ≡ K.Timestamp → ⊥) → (reason ≡ Some R.BadTimestamp → ⊥)
    → StampRun k reason run
no_stamp {k} f h = record { date = λ q. absurd (f (number_kind_lem k timestamp_number q)); none = λ q. absurd (h q) }

pub record Scanned (s : List ℕ) (r : Lexeme) : Type 0 where
  pub within : Within s r
  pub not_eof : r.kind ≡ K.Eof → ⊥
  pub not_string : r.kind ≡ K.String → ⊥
  pub boundary : Boundary s 0 → Boundary s r.len
  pub duration : r.kind ≡ K.Duration → DurationRun s r
  pub timestamp : StampRun r.kind r.reason (take r.len s)

-- a token that stays on its line too
pub record OnLine (s : List ℕ) (r : Lexeme) : Type 0 where
  pub scanned : Scanned s r
  pub flat : Flat s r.len

-- an end of a token
pub record Ends (s : List ℕ) (n : ℕ) : Type 0 where
  pub some : 0 < n
  pub inside : n ≤ length s
  pub between : Boundary s 0 → Boundary s n

-- a token of a plain kind
pub plain_scanned : {s : List ℕ} {r : Lexeme} → Plain r.kind → Within s r → (Boundary s 0 → Boundary s r.len)
    → StampRun r.kind r.reason (take r.len s) → Scanned s r
plain_scanned p w b t =
    record {
      within = w;
      not_eof = p.not_eof;
      not_string = p.not_string;
      boundary = b;
      duration = λ q. absurd (p.not_duration q);
      timestamp = t;
    }

-- the makers' answers
module _ (s : List ℕ) (n : ℕ) (e : Ends s n) where
  pub extent_scanned : (k : TokenKind) (v size reports : ℕ) → Plain k → v + size ≤ n → reports ≤ n → Scanned s (extent k n v size reports)
  extent_scanned k v size reports p i j =
      plain_scanned p (extent_within s k n e.some e.inside v size reports i j) e.between (no_stamp p.not_timestamp (λ q. cc))

  pub whole_scanned : (k : TokenKind) → Plain k → Scanned s (whole k n)
  whole_scanned k p = extent_scanned k 0 n 0 p (omega arith) (omega arith)

  pub illegal_scanned : (reason : Reason) (detail : ℕ) → (reason ≡ R.BadTimestamp → ⊥) → detail < 0x200000 → Scanned s (illegal reason detail n)
  unfolding kind_number
  illegal_scanned reason detail i j =
      let p = plain K.Illegal refl in
      plain_scanned p (illegal_within s reason detail n 0 e.some e.inside (omega arith) (λ _. j)) e.between
      (no_stamp p.not_timestamp (λ q. i (cc)))
