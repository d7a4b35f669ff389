-- The reports of a token, with their places: document 01, "A report is five signed 64-bit numbers: reason, detail, offset, line, column".
use Rattle.std.specs.Prelude.{List, ℕ, ◌+◌}
use Rattle.token.specs.Place.{place_at}
use Rattle.token.specs.Reason.{reason_number}
use Rattle.token.specs.declared.place.Place.{Place}
use Rattle.token.specs.declared.layout.Report.{Report}
use Rattle.token.specs.declared.reason.Reason.{Reason}
use Rattle.lexeme.specs.Lexeme.{Note}

-- Types that other files explain: `Place` in token/specs/Place.antt; `Report` in token/specs/Layout.antt; `Reason` in token/specs/Reason.antt.

-- a report that stands at a place
abbrev pub report_at : Place → ℕ → ℕ → Report
report_at p reason detail = record { reason = reason; detail = detail; offset = p.offset; line = p.line; column = p.column }

-- the report of a token that starts at the offset a of the text: "a report [stands] at its offset"
unfoldable pub report_of : List ℕ → ℕ → Note → Report
report_of text a n = report_at (place_at text (a + n.offset)) (reason_number n.reason) n.detail
