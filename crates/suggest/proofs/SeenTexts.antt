-- For all laws of candidates: what is seen by the first number of a text is what the strict reader sees, whatever the limit, as a test and as the claim has it;
-- and each printable byte of a text in which one Duration is seen can stand there. By the tiles of the text: blanks, the Duration, blanks. Assumes nothing.
use Rattle.std.specs.Prelude.{Option, Some, None}
use mathlib.Core.Path.{◌≡◌, refl, sym, ◌∙◌}
use mathlib.Core.Bool.{true, not, ◌&&◌, ◌||◌}
use mathlib.Core.List.{List, [], ◌∷◌, ◌++◌}
use Prim.Native.Nat.{ℕ, suc, ◌+◌, ◌-◌, ◌≤◌, ◌<◌, zero-le}
use native.Mathlib.Omega.{arith}
use lib.Dec.{eqb}
use lib.IntN.{ℤ}
use lib.ListN.{length, take, drop, length-drop, take-append-drop}
use lib.Seq.{get_or-take, get_or-drop, drop-drop, length-take-le}
use borrow.Author.Tests.{eq-eqb, le-ltb, eqb-true, eqb-false, not-true}
use Rattle.std.specs.Prelude.{Result, Ok, Err}
use Rattle.base.specs.Bytes.{byte, within, each}
use Rattle.base.specs.Classes.{is_digit, is_duration_unit, is_space}
use Rattle.std.proofs.lemmas.List.Recursion.{and_at}
use Rattle.base.proofs.Tests.{by_cases, and_left, and_right, or_case, pick_first, true_false, zero_one, inside as in_range}
use Rattle.base.proofs.Reaches.{reach_all}
use Rattle.limits.specs.Limits.{max_message_size}
use Rattle.utf8.specs.Check.{check_of}
use Rattle.utf8.proofs.Concatenations.{ascii_octets}
use Rattle.utf8.proofs.Valid.{octets_valid}
use Rattle.token.specs.Kind.{kind_number, eof_number, duration_number}
use Rattle.token.specs.declared.layout.Record.{Record}
use Rattle.scan.specs.Run.{in_blank}
use Rattle.lexer.specs.Token.{start_at, next_token}
use Rattle.lexer.specs.declared.reading.Reading.TheVariants.{Strict}
use Rattle.reading.specs.Buffers.{whole_laid}
use Rattle.reading.specs.Refusals.{judge_of, after_judge}
use Rattle.reading.specs.declared.refusal.Refusal.{Refusal}
use Rattle.reading.proofs.NextToken.{reads}
use Rattle.suggest.specs.Counts.{Sees}
use Rattle.suggest.specs.Suggestions.{only_duration, seen_in}
use Rattle.suggest.specs.Helpers.{can_stand, seen_of}
use Rattle.suggest.proofs.WrittenBytes.{Clean, stands, clean_none, clean_append, clean_duration}
use Rattle.suggest.proofs.FirstTokens.{handed, not_duration, end, followed, seen_handed}

-- ---- the bytes of a text in which one Duration is seen

space_clean : (b : ℕ) → is_space b ≡ true → Clean (b ∷ [])
unfolding is_space can_stand is_digit is_duration_unit
space_clean b e =
    or_case (eqb b 32 || eqb b 9) (eqb b 13) e
    (λ f. or_case (eqb b 32) (eqb b 9) f (λ g. rw (eqb-true b 32 g) (one 32 (omega arith) refl)) (λ g. rw (eqb-true b 9 g) (one 9 (omega arith) refl)))
    (λ g. rw (eqb-true b 13 g) (one 13 (omega arith) refl))
  where
    one : (a : ℕ) → a < 0x80 → stands a ≡ true → Clean (a ∷ [])
    one a h s = record { bytes = rw s; octets = ascii_octets a h }

blanks_clean : (l : List ℕ) → ((k : ℕ) → k < length l → is_space (byte l k) ≡ true) → Clean l
blanks_clean [] f = clean_none
blanks_clean (b ∷ l) f = clean_append (space_clean b (f 0 (omega arith))) (blanks_clean l (λ k h. f (suc k) (omega arith)))

module _ (limit : ℕ) (text : List ℕ) where
  module _ (k : kind_number (next_token Strict limit text 0).kind ≡ duration_number) (e : start_at text (end limit text) ≡ length text) where
    tiles_clean : Clean text
    unfolding start_at
    tiles_clean =
        let r = reads Strict limit text 0 zero-le in
        let t = next_token Strict limit text 0 in
        let a = t.start.offset in
        let b = t.end.offset in
        let g = r.ordered in
        let i = r.inside in
        let d : a + (b - a) ≡ b = omega arith in
        let m : drop (b - a) (drop a text) ≡ drop b text = drop-drop (b - a) a text ∙ rw d in
        let front : Clean (take a text) =
        blanks_clean (take a text)
        (λ j h. let l = length-take-le a text (omega arith) in rw (get_or-take a text j 0 (omega arith)) (r.gap j zero-le (omega arith))) in
        let back : Clean (drop b text) =
        blanks_clean (drop b text)
        (λ j h. let l = length-drop b text in rw (get_or-drop b text j 0) (reach_all in_blank text b (b + j) (omega arith) (omega arith))) in
        let whole : Clean (take a text ++ (take (b - a) (drop a text) ++ drop (b - a) (drop a text))) =
        clean_append front (clean_append (clean_duration (r.duration k).form) (rw m back)) in
        rw (take-append-drop (b - a) (drop a text), take-append-drop a text) at whole

  handed_clean : (z : ℤ) → handed limit text ≡ Some z → Clean text
  handed_clean z q =
      by_cases (eqb (kind_number (next_token Strict limit text 0).kind) duration_number)
      (λ k.
      by_cases (eqb (start_at text (end limit text)) (length text)) (λ e. tiles_clean (eqb-true _ _ k) (eqb-true _ _ e))
      (λ e. let f = followed limit text (eqb-true _ _ k) (eqb-false _ _ e) in zero_one (cc)))
      (λ k. let f = not_duration limit text (eqb-false _ _ k) in zero_one (cc))

  -- ---- the strict reader

  module _ (short : length text ≤ max_message_size) where
    fit : Clean text → judge_of text ≡ Ok tt
    unfolding judge_of check_of
    fit c = rw (le-ltb max_message_size (length text) short, eq-eqb _ _ (octets_valid c.octets))

    seen_in_lem : seen_in limit text ≡ handed limit text
    unfolding seen_in
    seen_in_lem = go (handed limit text) refl
      where
        other : (j : Result (Unit {0}) Refusal) → after_judge {A = Option ℤ} j (λ r. None) None ≡ None
        other (Ok x) = refl
        other (Err r) = refl

        go : (s : Option ℤ) → handed limit text ≡ s → after_judge (judge_of text) (λ r. None) (handed limit text) ≡ handed limit text
        go None q = rw q (other (judge_of text))
        go (Some z) q = rw (fit (handed_clean z q))

    pub seen_same : seen_of text ≡ seen_in limit text
    seen_same = seen_handed limit text ∙ sym seen_in_lem

    -- a printable byte of such a text can stand there
    pub seen_stand : (z : ℤ) → seen_in limit text ≡ Some z → (k : ℕ) → k < length text → 0x20 ≤ byte text k → byte text k ≤ 0x7E
        → can_stand (byte text k) ≡ true
    seen_stand z q k h l u =
        let w = and_at (each stands) stands refl (λ _ _. refl) text k 0 h (handed_clean z (sym seen_in_lem ∙ q)).bytes in
        or_case (can_stand (byte text k)) (not (within 0x20 0x7E (byte text k))) w (λ c. c)
        (λ n. true_false _ (in_range 0x20 0x7E (byte text k) l u) (not-true _ n))

  -- the test is the claim
  pub sees_seen : {z : ℤ} → Sees limit text z → seen_in limit text ≡ Some z
  unfolding seen_in
  sees_seen s = let t = s.tokens in rw (s.accepted, t.all, eq-eqb _ _ t.duration, eq-eqb _ _ t.eof, t.nanos)

  pub seen_sees : (z : ℤ) → seen_in limit text ≡ Some z → Sees limit text z
  unfolding seen_in
  seen_sees z = go (judge_of text) refl (whole_laid Strict limit text).records refl
    where
      go : (j : Result (Unit {0}) Refusal) → judge_of text ≡ j → (rs : List Record) → (whole_laid Strict limit text).records ≡ rs
          → after_judge j (λ r. None) (only_duration rs) ≡ Some z → Sees limit text z
      go (Err r) p rs q e = zero_one (cc)
      go (Ok x) p [] q e = zero_one (cc)
      go (Ok x) p (d ∷ []) q e = zero_one (cc)
      go (Ok x) p (d ∷ f ∷ []) q e =
          let w = pick_first (eqb d.kind duration_number && eqb f.kind eof_number) (λ x. zero_one (cc)) e in
          record {
            accepted = p;
            tokens = record {
              first = d;
              second = f;
              all = q;
              duration = eqb-true _ _ (and_left _ _ w.0);
              nanos = let v = w.1 in cc;
              eof = eqb-true _ _ (and_right (eqb d.kind duration_number) _ w.0);
            };
          }
      go (Ok x) p (d ∷ f ∷ g ∷ rs) q e = zero_one (cc)
