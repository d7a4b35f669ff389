-- For `judge`: what was seen of a whole run tells whether it decodes and to how many bytes. By induction on the run, from the first pad character on, and
-- then for the characters before it. Assumes nothing.
use Rattle.std.specs.Prelude.{Option, Some, None}
use mathlib.Core.Path.{◌≡◌, refl, sym, ap, ◌∙◌}
use mathlib.Core.Bool.{Bool, true, false, ◌&&◌, ◌||◌}
use mathlib.Core.List.{List, [], ◌∷◌, map}
use Prim.Native.Nat.{ℕ, suc, ◌+◌, ◌*◌, ◌/◌, ◌%◌, ◌≤◌}
use native.Mathlib.Nat.{add-zero}
use native.Mathlib.Omega.{arith}
use borrow.Author.Tests.{ne_eqb}
use lib.Dec.{eqb}
use lib.ListN.{length, drop, drop_of_length-le, length-map}
use Rattle.base.specs.Choice.{pick}
use Rattle.base.specs.Bytes.{each}
use Rattle.base.proofs.Tests.{by_cases, and-true, and-false, and_assoc, and_right}
use Rattle.base64_lenient.specs.Rfc4648.{standard, url_safe}
use Rattle.base64_lenient.specs.Lenient.{is_line_break, without_breaks, before_pads, from_pads, is_in, six_bits, in_one_alphabet, right_pads, is_pad, decodes}
use Rattle.base64_lenient.specs.Lenient.{regroup, decoded}
use Rattle.base64_lenient.specs.Helpers.{judge_of, alphabets_by, some_alphabet, characters_seen, nothing_seen, seen_one, seen_all, judged_seen, SeenTo}
use Rattle.base64_lenient.specs.declared.judge.Seen.{Seen}
use Rattle.base64_lenient.proofs.Rfc4648.{no_single}
use Rattle.base64_lenient.proofs.Sights.{seen_break, seen_pad, seen_character, seen_late, none_fails}

-- how many bytes n values make
abbrev size : ℕ → ℕ
size n = n / 4 * 3 + n % 4 * 3 / 4

-- the verdict on n characters, and on what stands from the first pad character on
abbrev verdict : Bool → ℕ → Bool → ℕ → Option ℕ
verdict characters n pads k = pick (characters && (pads && right_pads n k)) (Some (size n)) None

-- where nothing is left of the run
judged_bits : (s u : Bool) (n k : ℕ) → judged_seen (record { alphabets = alphabets_by s u; characters = n; pads = k }) ≡ verdict (s || u) n true k
unfolding judged_seen
judged_bits s u n k = refl

-- where a byte is left
judged_one : (w : Seen) (b : ℕ) (l : List ℕ) (x : Seen) → seen_one w b ≡ x → judged_seen (seen_all w (b ∷ l)) ≡ judged_seen (seen_all x l)
unfolding seen_all
judged_one w b l x e = ap (λ (y : Seen). judged_seen (seen_all y l)) e

judged_none : (w : Seen) → judged_seen (seen_all w []) ≡ judged_seen w
unfolding seen_all
judged_none w = refl

-- ---- from the first pad character on: k of them were seen

module _ (s u : Bool) (n : ℕ) where
  abbrev padded_by : ℕ → List ℕ → Option ℕ
  padded_by k t = verdict (s || u) n (each is_pad t) (k + length t)

  from_pads_lem : (k : ℕ) → eqb k 0 ≡ false → (l : List ℕ)
      → judged_seen (seen_all (record { alphabets = alphabets_by s u; characters = n; pads = k }) l) ≡ padded_by k (without_breaks l)
  unfolding without_breaks
  from_pads_lem k z [] = judged_none (record { alphabets = alphabets_by s u; characters = n; pads = k }) ∙ judged_bits s u n k ∙ rw (add-zero k)
  from_pads_lem k z (b ∷ l) =
      let w : Seen = record { alphabets = alphabets_by s u; characters = n; pads = k } in
      by_cases (is_line_break b)
      (λ p. judged_one w b l w (seen_break w b p) ∙ from_pads_lem k z l ∙ rw p)
      (λ p. by_cases (is_pad b)
      (λ q. let o : k + 1 + length (without_breaks l) ≡ k + suc (length (without_breaks l)) = omega arith in
      judged_one w b l _ (seen_pad w b p q) ∙ from_pads_lem (k + 1) (ne_eqb (k + 1) 0 (λ e. omega arith)) l ∙ rw (p, q, o))
      (λ q. judged_one w b l _ (seen_late w b p q z) ∙ none_fails _ l refl ∙ rw (p, q, and-false (s || u))))

-- ---- before it

abbrev spelled : Bool → Bool → ℕ → List ℕ → List ℕ → Option ℕ
spelled s u n cs ps =
    verdict ((s && each (is_in standard) cs) || (u && each (is_in url_safe) cs)) (n + length cs) (each is_pad ps) (length ps)

-- the first pad character in front
none_before : (b : ℕ) (t : List ℕ) → is_pad b ≡ true → before_pads (b ∷ t) ≡ []
unfolding before_pads
none_before b t q = rw q

pad_first : (s u : Bool) (n b : ℕ) (t : List ℕ) → is_pad b ≡ true → padded_by s u n 1 t ≡ spelled s u n (before_pads (b ∷ t)) (from_pads (b ∷ t))
pad_first s u n b t q =
    let e = none_before b t q in
    let o : 1 + length t ≡ suc (length t) = omega arith in
    rw (e, q, and-true s, and-true u, add-zero n, o)

before_pads_lem : (s u : Bool) (n : ℕ) (l : List ℕ)
    → judged_seen (seen_all (characters_seen (alphabets_by s u) n) l) ≡ spelled s u n (before_pads (without_breaks l)) (from_pads (without_breaks l))
unfolding without_breaks before_pads
before_pads_lem s u n [] =
    judged_none (characters_seen (alphabets_by s u) n) ∙ judged_bits s u n 0 ∙ rw (and-true s, and-true u, add-zero n)
before_pads_lem s u n (b ∷ l) =
    let w : Seen = characters_seen (alphabets_by s u) n in
    by_cases (is_line_break b)
    (λ p. judged_one w b l w (seen_break w b p) ∙ before_pads_lem s u n l ∙ rw p)
    (λ p. by_cases (is_pad b)
    (λ q. judged_one w b l _ (seen_pad w b p q) ∙ from_pads_lem s u n 1 refl l ∙ rw p (pad_first s u n b (without_breaks l) q))
    (λ q. let x = is_in standard b in let y = is_in url_safe b in
    let o : n + 1 + length (before_pads (without_breaks l)) ≡ n + suc (length (before_pads (without_breaks l))) = omega arith in
    judged_one w b l (characters_seen (alphabets_by (s && x) (u && y)) (n + 1)) (seen_character w b p q refl)
    ∙ before_pads_lem (s && x) (u && y) (n + 1) l
    ∙ rw (
      p,
      q,
      o,
      and_assoc s x (each (is_in standard) (before_pads (without_breaks l))),
      and_assoc u y
          (each (is_in url_safe) (before_pads (without_breaks l))),
    )))

-- ---- how many bytes

regroup_size : (l : List ℕ) → (length l % 4 ≡ 1 → ⊥) → length (regroup l) ≡ size (length l)
unfolding regroup
regroup_size [] h = refl
regroup_size (a ∷ []) h = absurd (h refl)
regroup_size (a ∷ b ∷ []) h = refl
regroup_size (a ∷ b ∷ c ∷ []) h = refl
regroup_size (a ∷ b ∷ c ∷ d ∷ l) h = omega (arith, regroup_size l (λ e. h (omega arith)))

judged_is : (run : List ℕ) → judged_seen (seen_all nothing_seen run) ≡ judge_of run
unfolding judge_of decodes decoded
judged_is run =
    let cs = before_pads (without_breaks run) in
    let ps = from_pads (without_breaks run) in
    let o : 0 + length cs ≡ length cs = omega arith in
    before_pads_lem true true 0 run
    ∙ rw o
    (by_cases (in_one_alphabet cs && (each is_pad ps && right_pads (length cs) (length ps)))
    (λ h. let r = and_right (each is_pad ps) _ (and_right (in_one_alphabet cs) _ h) in
    rw h (ap Some (sym (regroup_size (map six_bits cs) (λ e. no_single (length cs) (length ps) r (rw (length-map cs six_bits) at e)) ∙ rw
    (length-map cs six_bits)))))
    (λ h. rw h))

-- what was seen of a run to its end, and what was seen of it before no alphabet was left
module _ (run : List ℕ) (w : Seen) (i : ℕ) (u : SeenTo run w i) where
  pub judged_whole : length run ≤ i → judged_seen w ≡ judge_of run
  judged_whole h =
      let e : judged_seen (seen_all w []) ≡ judged_seen (seen_all nothing_seen run) = ap judged_seen (rw (drop_of_length-le run h) at u.same) in
      sym (judged_none w) ∙ e ∙ judged_is run

  pub dead_is : some_alphabet w.alphabets ≡ false → None ≡ judge_of run
  dead_is z = sym (none_fails w (drop i run) z) ∙ ap judged_seen u.same ∙ judged_is run
