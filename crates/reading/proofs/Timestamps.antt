-- For readers: in a whole reading every Timestamp's bytes are a date, and those of every token with reason 21 are none, in both modes and with any limit. By
-- induction on the tokens from what is known of one. Assumes nothing.
use mathlib.Core.List.{List}
use Prim.Native.Nat.{ℕ}
use native.Mathlib.Omega.{arith}
use mathlib.Core.Path.{◌≡◌}
use Rattle.std.specs.Prelude.{Option, Some, None}
use Rattle.token.specs.Reason.{bad_timestamp, reason_number, number_of}
use Rattle.token.specs.declared.reason.Reason.{Reason}
use Rattle.token.specs.declared.reason.Reason.TheVariants as R
use Rattle.lexer.specs.declared.reading.Reading.{Reading}
use Rattle.reading.specs.Tokens.{tokens}
use Rattle.reading.specs.Buffers.{records_of}
use Rattle.reading.specs.Claim as claim
use Rattle.reading.specs.Claim.{Each}
use Rattle.reading.specs.Timestamps.{DateJudged, TimestampsJudged}
use Rattle.reading.proofs.From.{by_each}

-- the reason 21 is the one of a timestamp
stamp_reason : (o : Option Reason) → number_of o ≡ bad_timestamp → o ≡ Some R.BadTimestamp
unfolding reason_number
stamp_reason None e = absurd (omega arith)
stamp_reason (Some r) e = grind arith

pub timestamps_judged : (m : Reading) (limit : ℕ) (text : List ℕ) → TimestampsJudged m limit text
unfolding tokens records_of
timestamps_judged m limit text =
    by_each m limit text (λ at ts. (p : ℕ) → Each (DateJudged text) (records_of p ts)) (λ p. claim.none)
    (λ at t ts r w p. claim.more (record { date = r.timestamp.date; none = λ e. r.timestamp.none (stamp_reason t.reason e) }) (w _)) 0 (omega arith) 0
