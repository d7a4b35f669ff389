-- For whoever stores a date that `parse` gives: its seconds lie between those of 0000-01-01T00:00:00+24:60 and 9999-12-31T23:59:59-24:60, and its
-- nanoseconds below a second. By the bounds of each rule's numbers. Assumes nothing.
use mathlib.Core.Path.{◌≡◌}
use mathlib.Core.Bool.{true, ◌&&◌}
use mathlib.Core.List.{List}
use Prim.Native.Nat.{ℕ, ◌<◌}
use native.Mathlib.Omega.{arith}
use Rattle.std.proofs.lemmas.Int.{ints}
use Rattle.base.proofs.Tests.{and_left, and_right}
use Rattle.rfc3339.specs.Grammar.{parse_grammar, is_full_date, is_t, is_partial_time, is_offset, is_date_time}
use Rattle.rfc3339.specs.Instant.{local_seconds, seconds_of, secfrac_digits, secfrac_nanos, InRange}
use Rattle.rfc3339.proofs.Days.{epoch_is}
use Rattle.rfc3339.proofs.Nanos.{nanos_lt}
use Rattle.rfc3339.proofs.Fields.{local_lt, offset_le}

module _ (s : List ℕ) (e : is_date_time parse_grammar s ≡ true) where
  date : is_full_date s ≡ true
  unfolding is_date_time
  date = and_left (is_full_date s) (is_t parse_grammar s) (and_left (is_full_date s && is_t parse_grammar s) _ e)

  time : is_partial_time parse_grammar s && is_offset parse_grammar s ≡ true
  unfolding is_date_time
  time = and_right (is_full_date s && is_t parse_grammar s) _ e

  local : local_seconds s < 315569520000
  local = local_lt s date (and_left (is_partial_time parse_grammar s) _ time)

  offset : is_offset parse_grammar s ≡ true
  offset = and_right (is_partial_time parse_grammar s) _ time

  pub date_range : InRange (seconds_of s) (secfrac_nanos (secfrac_digits s))
  unfolding seconds_of
  date_range =
      let l = local in
      let p = offset_le s offset 43 (omega arith) in
      let m = offset_le s offset 45 (omega arith) in
      let f = epoch_is in
      record { seconds_first = omega (arith, ints); seconds_last = omega (arith, ints); nanos_last = nanos_lt s }
