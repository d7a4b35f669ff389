-- Request #101 over a whole reading: what the call on a timestamp's run says of each token.
use Rattle.std.specs.Prelude.{◌≡◌, true, false, List, ℕ}
use Rattle.rfc3339.specs.Instant.{date_of, is_date}
use Rattle.token.specs.Kind.{timestamp_number}
use Rattle.token.specs.Reason.{bad_timestamp}
use Rattle.token.specs.declared.layout.Record.{Record}
use Rattle.lexer.specs.declared.reading.Reading.{Reading}
use Rattle.reading.specs.Buffers.{whole_laid}
use Rattle.reading.specs.Claim.{bytes_of, Each}

-- Types that other files explain: `Record` in token/specs/Layout.antt; `Reading` in lexer/specs/Reading.antt.

-- the bytes of a Timestamp are a date, those of a token with reason 21 are none
pub record DateJudged (text : List ℕ) (r : Record) : Type 0 where
  pub date : r.kind ≡ timestamp_number → is_date (date_of (bytes_of text r.start r.end)) ≡ true
  pub none : r.reason ≡ bad_timestamp → is_date (date_of (bytes_of text r.start r.end)) ≡ false

-- of every token of a whole reading
abbrev pub TimestampsJudged : Reading → ℕ → List ℕ → Type 0
TimestampsJudged m limit text = Each (DateJudged text) (whole_laid m limit text).records
