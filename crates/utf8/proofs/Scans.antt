-- For `past_chars`, `past_short` and `check`: from each character to the next the valid prefix stays the same. By one step of the run. Assumes nothing.
use mathlib.Core.Path.{◌≡◌, refl, sym, ◌∙◌}
use mathlib.Core.List.{List}
use Prim.Native.Nat.{ℕ, suc, ◌+◌, ◌-◌, ◌≤◌, ◌<◌, ◌^◌}
use native.Mathlib.Omega.{arith}
use borrow.Author.Tests.{eq-eqb, ne_eqb, lt-ltb}
use lib.ListN.{length, take, drop, length-drop}
use mir.Syntax.{w64}
use mir.Val.{Fits}
use Rattle.std.specs.Prelude.{Option, Some, None, Result, Ok, Err}
use Rattle.std.specs.Option.{ok_or}
use Rattle.base.specs.Helpers.{nonzero}
use Rattle.base.specs.Bytes.{byte}
use Rattle.base.specs.Runs.{reach}
use Rattle.base.proofs.Reaches.{rest_is, reach_one, reach_ge, reach_le}
use Rattle.base.proofs.Walks.{past_step, past_stop, past_end}
use Rattle.utf8.specs.Grammar.{char_size, valid_to}
use Rattle.utf8.specs.Helpers.{in_ascii}
use Rattle.utf8.specs.Onward.{Onward, Stops}
use Rattle.utf8.specs.Check.{check_of, Checked}
use Rattle.utf8.specs.declared.check.Utf8Error.{Utf8Error}
use Rattle.utf8.proofs.Chars.{size_le}
use Rattle.base.proofs.Nonzero.{none_zero, some_same, some_more}
use Rattle.utf8.proofs.Runs.{reach_past}
use Rattle.utf8.proofs.Valid.{checked}

pub onward_first : (s : List ℕ) (i : ℕ) → i ≤ length s → Onward s i i
onward_first s i h = record { later = omega arith; inside = h; same = refl }

onward_then : (s : List ℕ) (i e r : ℕ) → Onward s i e → Onward s e r → Onward s i r
onward_then s i e r u v = record { later = omega (arith, u.later, v.later); inside = v.inside; same = v.same ∙ u.same }

-- ---- the loop of `past_chars`

module _ (s : List ℕ) (at i : ℕ) (u : Onward s at i) where
  step : (k : ℕ) → char_size (drop i s) ≡ suc k → Onward s at (i + suc k)
  step k e =
      let h : i + suc k ≤ length s = omega (arith, size_le (drop i s), length-drop i s) in
      record { later = omega (arith, u.later); inside = h; same = past_step char_size s i k h e ∙ u.same }

  pub run_onward : (r : ℕ) → r ≡ reach in_ascii s i → Onward s at r
  run_onward r e =
      let w : Onward s i (reach in_ascii s i) =
      record { later = reach_ge in_ascii s i; inside = reach_le in_ascii s i u.inside; same = reach_past in_ascii (λ a b t. t) s i } in
      rw e (onward_then s at i (reach in_ascii s i) u w)

  module _ (e : ℕ) (h : e ≤ length s) (l : i < e) where
    pub run_less : (r : ℕ) → r ≡ reach in_ascii s i → byte s i < 0x80 → length s - r < length s - i
    run_less r q a = omega (arith, reach_one in_ascii s i (omega arith) (lt-ltb (byte s i) 0x80 a))

    module _ (r : Option ℕ) (c : r ≡ nonzero (char_size (take (length s - i) (drop i s)))) where
      here : r ≡ nonzero (char_size (drop i s))
      here = rw rest_is at c

      pub passed_ill : (x : Utf8Error) → Err x ≡ ok_or r (record { valid_up_to = i }) → r ≡ None → Stops s at x.valid_up_to
      passed_ill x v z =
          let q : ◌≡◌ {A = Result ℕ Utf8Error} (Err x) (Err (record { valid_up_to = i })) = rw z at v in
          let y : x ≡ record { valid_up_to = i } = cc in
          rw y (record { onward = u; before = omega arith; none = none_zero (char_size (drop i s)) (sym z ∙ here) })

      module _ (n : ℕ) (w : r ≡ Some n) where
        size : char_size (drop i s) ≡ n
        size = some_same (char_size (drop i s)) n (sym w ∙ here)

        more : 0 < n
        more = some_more (char_size (drop i s)) n (sym w ∙ here)

        pub char_fits : length s < 2 ^ 64 → Fits w64 (i + n)
        char_fits g = record { fits = omega (arith, size_le (drop i s), length-drop i s, size) }

        pub char_less : length s - (i + n) < length s - i
        char_less = omega (arith, more)

        pub char_onward : Onward s at (i + n)
        char_onward =
            let z : n ≡ suc (n - 1) = omega (arith, more) in
            rw (← z) at (step (n - 1) (size ∙ z))

-- ---- the loop of `check`

module _ (s : List ℕ) (i : ℕ) (u : Onward s 0 i) where
  pub scan_end : length s ≤ i → Checked s (Ok tt)
  unfolding check_of valid_to
  scan_end h =
      let e : valid_to s ≡ length s = omega (arith, u.same, u.inside, past_end char_size s i h) in
      checked s (Ok tt) (rw (eq-eqb (valid_to s) (length s) e))

  module _ (f : ℕ) (v : Onward s i f) where
    pub scan_on : (r : ℕ) → Onward s f r → Onward s 0 r
    scan_on r w = onward_then s 0 i r u (onward_then s i f r v w)

    pub scan_ill : (x : Utf8Error) → Stops s f x.valid_up_to → (r : Result (Unit {0}) Utf8Error) → r ≡ Err x → Checked s r
    unfolding check_of valid_to
    scan_ill x w r e =
        let n = x.valid_up_to in
        let q : valid_to s ≡ n = sym (scan_on n w.onward).same ∙ past_stop char_size s n w.before w.none in
        checked s r (e ∙ rw (q, ne_eqb n (length s) (λ z. omega (arith, w.before))))

-- what `past_chars` and `check` need at each turn and each return
pub ruleset passing = (onward_first, run_less, passed_ill, char_fits, char_less)

pub ruleset scanning = (onward_first, scan_on)
