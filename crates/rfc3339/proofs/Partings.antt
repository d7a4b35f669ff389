-- For specs/Partings, a result that no code needs: by any grammar a run is what the widest one makes of it, where the grammar takes all partings that the
-- run uses, else no date. Rule by rule, by cases on the tests, and by the algebra of `&&`. Assumes nothing.
use mathlib.Core.Path.{◌≡◌, refl, ap, sym, ◌∙◌}
use mathlib.Core.Bool.{Bool, true, false, not, ◌&&◌, ◌||◌, and_comm, or-true, or-false}
use mathlib.Core.List.{List, [], ◌∷◌, foldr}
use Prim.Native.Nat.{ℕ, ◌+◌}
use Prim.Native.Char.{code}
use native.Mathlib.Omega.{arith}
use borrow.Author.Tests.{eqb-true}
use lib.Dec.{eqb}
use lib.ListN.{length}
use Rattle.std.specs.Prelude.{Some, None}
use Rattle.base.specs.Choice.{pick}
use Rattle.base.specs.Bytes.{byte, within}
use Rattle.base.specs.Classes.{is_digit}
use Rattle.base.proofs.Tests.{and-true, and-false, and_assoc, by_cases, true_false, or_case, and_left, and_right, over, within_one, zero_one, pick_first}
use Rattle.rfc3339.specs.Grammar.{Parting, hour_of_one_digit, comma_before_fraction, offset_hour24, offset_minute60, lower_case_t, lower_case_z, second60}
use Rattle.rfc3339.specs.Grammar.{Grammar, rfc_grammar, parse_grammar, is_at, pair_of, is_pair, is_full_date, is_t, has_two, hour_end, is_hour, is_minute, is_second}
use Rattle.rfc3339.specs.Grammar.{has_secfrac, has_comma, secfrac_end, is_secfrac, is_partial_time, is_offset_hour, is_offset_minute, has_sign}
use Rattle.rfc3339.specs.Grammar.{is_numoffset, is_z, is_offset, is_date_time}
use Rattle.rfc3339.specs.Instant.{date_by}
use Rattle.rfc3339.specs.Partings.{uses, partings, used_of, used, takes, widest, PartingsTell}
use Rattle.rfc3339.specs.declared.parse.Instant.{Instant}

-- ---- algebra of tests

-- the second test of a conjunction goes last
last : (a x b : Bool) → (a && x) && b ≡ (a && b) && x
last a x b = rw (and_assoc a x b, and_comm x b, and_assoc a b x)

-- in two conjunctions the first tests come together, and the second ones
pairs : (a x b y : Bool) → (a && x) && (b && y) ≡ (a && b) && (x && y)
pairs a x b y = rw (← and_assoc (a && x) b y, last a x b, and_assoc (a && b) x y)

-- a rule with a switch x, which b needs and a does not: u tells the runs of b from those of a
switch : (a b u x : Bool) → (u ≡ true → a ≡ false) → (b ≡ true → u ≡ true) → a || (b && x) ≡ (a || (b && true)) && (not u || x)
switch a b true x f g = rw (f refl, and-true b)
switch a true false x f g = true_false false (g refl) refl
switch a false false x f g = rw (and-true (a || false))

-- ---- a switch at one place

module _ (s : List ℕ) (i : ℕ) where
  -- two signs do not stand at one place
  other_sign : (j k : ℕ) → eqb j k ≡ false → is_at j s i ≡ true → is_at k s i ≡ false
  other_sign j k n e = rw (eqb-true (byte s i) j e) n

  -- the sign k for j
  sign_switch : (j k : ℕ) (x : Bool) → eqb k j ≡ false
      → is_at j s i || (is_at k s i && x) ≡ (is_at j s i || (is_at k s i && true)) && (not (is_at k s i) || x)
  sign_switch j k x n = switch (is_at j s i) (is_at k s i) (is_at k s i) x (other_sign k j n) (λ e. e)

  -- a number of two digits, one above the range
  pair_switch : (hi : ℕ) (x : Bool) → is_pair 0 hi s i || (is_pair (hi + 1) (hi + 1) s i && x)
      ≡ (is_pair 0 hi s i || (is_pair (hi + 1) (hi + 1) s i && true)) && (not (eqb (pair_of s i) (hi + 1)) || x)
  unfolding is_pair
  pair_switch hi x =
      let two = is_digit (byte s i) && is_digit (byte s (i + 1)) in
      let n = pair_of s i in
      switch (is_pair 0 hi s i) (is_pair (hi + 1) (hi + 1) s i) (eqb n (hi + 1)) x
      (λ e. let q = eqb-true n (hi + 1) e in rw (over 0 hi n (omega (arith, q))) (and-false two))
      (λ e. sym (within_one (hi + 1) n) ∙ and_right two (within (hi + 1) (hi + 1) n) e)

-- ---- each rule: what the widest grammar takes, where the partings of the rule are allowed

module _ (g : Grammar) (s : List ℕ) where
  -- the run does without a parting, or the grammar takes it
  abbrev allows : Parting → Bool
  allows p = not (uses p s) || g p

  t_rule : is_t g s ≡ is_t widest s && allows lower_case_t
  unfolding is_t uses
  t_rule = sign_switch s 10 (code "T") (code "t") (g lower_case_t) refl

  hour_rule : is_hour g s ≡ is_hour widest s && allows hour_of_one_digit
  unfolding is_hour uses
  hour_rule = go (has_two s) (is_pair 0 23 s 11) (is_digit (byte s 11)) (g hour_of_one_digit)
    where
      go : (two a b x : Bool) → pick two a (b && x) ≡ pick two a (b && true) && (not (not two) || x)
      go true a b x = rw (and-true a)
      go false a b x = rw (and-true b)

  second_rule : is_second g s ≡ is_second widest s && allows second60
  unfolding is_second uses
  second_rule = pair_switch s (hour_end s + 4) 59 (g second60)

  fraction_rule : is_secfrac g s ≡ is_secfrac widest s && allows comma_before_fraction
  unfolding is_secfrac uses
  fraction_rule = rw (or-true (not (has_secfrac s && has_comma s)))

  partial_time_rule : is_partial_time g s ≡ is_partial_time widest s && (allows hour_of_one_digit && (allows second60 && allows comma_before_fraction))
  unfolding is_partial_time
  partial_time_rule = rw (hour_rule, second_rule, fraction_rule)
      (go (is_hour widest s) (allows hour_of_one_digit) (is_at (code ":") s (hour_end s)) (is_minute s && is_at (code ":") s (hour_end s + 3))
      (is_second widest s)
      (allows second60) (is_secfrac widest s) (allows comma_before_fraction))
    where
      go : (h x c m n y f z : Bool) → (((h && x) && c) && m) && ((n && y) && (f && z)) ≡ (((h && c) && m) && (n && f)) && (x && (y && z))
      go h x c m n y f z = rw (last h x c, last (h && c) x m, pairs n y f z) (pairs ((h && c) && m) x (n && f) (y && z))

  z_rule : is_z g s ≡ is_z widest s && allows lower_case_z
  unfolding is_z uses
  z_rule =
      let z = is_at (code "z") s (secfrac_end s) in
      rw (sign_switch s (secfrac_end s) (code "Z") (code "z") (g lower_case_z) refl)
      (last (is_at (code "Z") s (secfrac_end s) || (z && true)) (not z || g lower_case_z) (eqb (length s) (secfrac_end s + 1)))

  numoffset_rule : is_numoffset g s ≡ is_numoffset widest s && (allows offset_hour24 && allows offset_minute60)
  unfolding is_numoffset is_offset_hour is_offset_minute uses
  numoffset_rule =
      let i = secfrac_end s + 1 in
      let j = secfrac_end s + 4 in
      rw (pair_switch s i 23 (g offset_hour24), pair_switch s j 59 (g offset_minute60))
      (go (has_sign s) (is_pair 0 23 s i || (is_pair 24 24 s i && true)) (eqb (pair_of s i) 24) (g offset_hour24) (is_at (code ":") s (secfrac_end s + 3))
      (is_pair 0 59 s j || (is_pair 60 60 s j && true)) (eqb (pair_of s j) 60) (g offset_minute60) (eqb (length s) (secfrac_end s + 6)))
    where
      go : (w h u x c m v y l : Bool) → ((w && (h && (not u || x))) && (c && (m && (not v || y)))) && l
          ≡ (((w && h) && (c && m)) && l) && ((not (w && u) || x) && (not (w && v) || y))
      go false h u x c m v y l = refl
      go true h u x c m v y l =
          rw (← and_assoc c m (not v || y), pairs h (not u || x) (c && m) (not v || y)) (last (h && (c && m)) ((not u || x) && (not v || y)) l)

  -- where the sign of time-numoffset stands, no other sign k does
  sign_excludes : (k : ℕ) → eqb (code "+") k ≡ false → eqb (code "-") k ≡ false → has_sign s ≡ true → is_at k s (secfrac_end s) ≡ false
  unfolding has_sign
  sign_excludes k p m e =
      let i = secfrac_end s in
      or_case (is_at (code "+") s i) (is_at (code "-") s i) e (other_sign s i (code "+") k p) (other_sign s i (code "-") k m)

  -- where one form of time-offset may stand, the run uses no parting of the other
  offset_rule : is_offset g s ≡ is_offset widest s && (allows lower_case_z && (allows offset_hour24 && allows offset_minute60))
  unfolding is_z is_numoffset uses
  offset_rule =
      by_cases (has_sign s)
      (λ e. rw (sign_excludes (code "Z") refl refl e, sign_excludes (code "z") refl refl e) numoffset_rule)
      (λ e. rw (e, or-false (is_z g s), or-false (is_z widest s), and-true (allows lower_case_z)) z_rule)

  -- ---- the whole

  -- the grammar takes those of a list that the run uses: each of the list is allowed
  takes_used : (ps : List Parting) → takes g (used_of ps s) ≡ foldr (λ p b. allows p && b) true ps
  takes_used [] = refl
  takes_used (p ∷ ps) = go (uses p s) ∙ ap (λ b. allows p && b) (takes_used ps)
    where
      go : (u : Bool) → takes g (pick u (p ∷ used_of ps s) (used_of ps s)) ≡ (not u || g p) && takes g (used_of ps s)
      go true = refl
      go false = refl

  date_time_rule : is_date_time g s ≡ is_date_time widest s && takes g (used s)
  unfolding is_date_time
  date_time_rule =
      rw (t_rule, partial_time_rule, offset_rule, takes_used partings)
      (go (is_full_date s) (is_t widest s) (is_partial_time widest s) (is_offset widest s) (allows lower_case_t) (allows hour_of_one_digit) (allows second60)
      (allows comma_before_fraction) (allows lower_case_z) (allows offset_hour24) (allows offset_minute60))
    where
      go : (d t p o a b c e x y z : Bool) → (d && (t && a)) && ((p && (b && (c && e))) && (o && (x && (y && z))))
          ≡ ((d && t) && (p && o)) && (a && (b && (c && (e && (x && (y && (z && true)))))))
      go d t p o a b c e x y z =
          rw (
            ← and_assoc d t a,
            pairs p (b && (c && e)) o (x && (y && z)),
            pairs (d && t) a (p && o) ((b && (c && e)) && (x && (y && z))),
            and_assoc b (c && e) (x && (y && z)),
            and_assoc c e (x && (y && z)),
            and-true z,
          )

  by_used : date_by g s ≡ pick (takes g (used s)) (date_by widest s) None
  unfolding date_by
  by_used =
      by_cases (takes g (used s)) (λ e. rw (date_time_rule, e, and-true (is_date_time widest s)))
      (λ e. rw (date_time_rule, e, and-false (is_date_time widest s)))

  -- of a date by the grammar: it takes what the run uses, and the date is that of the widest
  date_is : (i : Instant) → date_by g s ≡ Some i → (takes g (used s) ≡ true) × (date_by widest s ≡ Some i)
  date_is i e = pick_first (takes g (used s)) (λ q. zero_one cc) (sym by_used ∙ e)

opposite : (p : Parting) → rfc_grammar p ≡ not (parse_grammar p)
opposite hour_of_one_digit = refl
opposite comma_before_fraction = refl
opposite offset_hour24 = refl
opposite offset_minute60 = refl
opposite lower_case_t = refl
opposite lower_case_z = refl
opposite second60 = refl

-- a list that both take is empty
none_common : (ps : List Parting) → takes rfc_grammar ps ≡ true → takes parse_grammar ps ≡ true → ps ≡ []
none_common [] r w = refl
none_common (p ∷ ps) r w =
    let a = and_left (rfc_grammar p) (takes rfc_grammar ps) r in
    let b = and_left (parse_grammar p) (takes parse_grammar ps) w in
    true_false (rfc_grammar p) a (rw (opposite p, b))

pub partings_tell : PartingsTell
partings_tell =
    record {
      by_used = by_used;
      complete = λ s e. rw (by_used rfc_grammar s, by_used parse_grammar s, e);
      opposite = opposite;
      exact = λ s i j r w. none_common (used s) (date_is rfc_grammar s i r).0 (date_is parse_grammar s j w).0;
      same = λ s i j r w. some_same (sym (date_is rfc_grammar s i r).1 ∙ (date_is parse_grammar s j w).1);
    }
  where
    some_same : {i j : Instant} → Some i ≡ Some j → i ≡ j
    some_same e = cc
