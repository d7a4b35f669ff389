-- Helper definitions, for proofs and inner contracts alone: the letters of a duration, and the reason of a bytes literal's report.
use Rattle.std.specs.Prelude.{Option, Some, None, Bool, ◌||◌, ℕ}
use Rattle.base.specs.Classes.{is_digit, is_lower_alpha}
use Rattle.token.specs.declared.reason.Reason.{Reason}
use Rattle.token.specs.declared.reason.Reason.TheVariants as R
use Rattle.scan.specs.declared.bytes.Stop.{Stop}
use Rattle.scan.specs.declared.bytes.Stop.TheVariants as stop

-- Types that other files explain: `Stop` in Bytes.antt.

-- the run of digits and lower-case letters
abbrev pub in_letters : ℕ → ℕ → Bool
in_letters a b = is_digit a || is_lower_alpha a

-- the reason that the tolerant reader reports of a literal that stops so
unfoldable pub stop_reason : Stop → Option Reason
stop_reason (stop.Over n) = None
stop_reason (stop.Closed n) = None
stop_reason (stop.Newline n) = Some R.BytesEndedAtNewline
stop_reason (stop.Open n) = Some R.OpenBytes
