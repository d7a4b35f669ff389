-- For `length_of`, `lead`, Sizes and States: what the first octet of a character wants after it. The count of its leading one bits agrees with the
-- grammar at each of the 256 bytes, by one test that antt computes; and the reader's `char_size` goes by it. Assumes nothing.
use mathlib.Core.Path.{◌≡◌, refl, sym}
use mathlib.Core.Bool.{Bool, true, false, ◌&&◌, ◌||◌}
use mathlib.Core.List.{List, [], ◌∷◌}
use Prim.Native.Nat.{ℕ, suc, ◌-◌, ◌≤◌, ◌<◌}
use native.Mathlib.Omega.{arith}
use borrow.Author.Tests.{le-ltb, lt-ltb, ltb-true, ltb-false, eqb-true, ne_eqb, leb-true}
use lib.Dec.{T, leb, ltb, eqb, eqb→eq, lit≤}
use lib.Count.{count_leading_zeros}
use lib.ListN.{length}
use Rattle.base.specs.Choice.{pick}
use Rattle.base.specs.Bytes.{within}
use Rattle.base.proofs.Tests.{and_left, and_right, by_cases, both_left, both_right, true_false, pick_case, inside, within_high}
use Rattle.base.proofs.Tables.{all_below}
use Rattle.utf8.specs.Grammar.{Range, utf8_char, begins, first_of, char_size}
use Rattle.utf8.specs.Check.{is_tail}
use Rattle.utf8.specs.State.{after_first, after_lead, lead_of, length_of, tails, size_after}
use Rattle.utf8.specs.declared.state.State.{State}
use Rattle.utf8.specs.declared.state.State.TheVariants.{Between, Wants, IllFormed}
use Rattle.utf8.proofs.Alternatives.{rising, first_under, rises_on, every}

-- ---- by the count of leading one bits

-- the count of leading one bits is the length
pub count_length : (a : ℕ) → 0xC2 ≤ a → a ≤ 0xF4 → count_leading_zeros 8 (255 - a) ≡ length_of a
unfolding length_of count_leading_zeros
count_length a l h =
    let t : T (ltb a 0xC2 || eqb (count_leading_zeros 8 (255 - a)) (length_of a)) =
    all_below (λ (k : ℕ). ltb k 0xC2 || eqb (count_leading_zeros 8 (255 - k)) (length_of k)) 0xF5 tt a (omega arith) in
    eqb→eq _ _ (rw (le-ltb a 0xC2 l) at t)

-- a claim about the length of a character of several bytes, from the claim in each case
pub length_case : (P : ℕ → Type 0) (a : ℕ) → (a < 0xE0 → P 2) → (a < 0xF0 → P 3) → (0xF0 ≤ a → P 4) → P (length_of a)
unfolding length_of
length_case P a f g h =
    pick_case P (ltb a 0xE0) (λ e. f (ltb-true a 0xE0 e))
    (λ e. pick_case P (ltb a 0xF0) (λ u. g (ltb-true a 0xF0 u)) (λ u. h (ltb-false a 0xF0 u)))

pub length_high : (a : ℕ) → length_of a ≤ 4
length_high a = length_case (λ n. n ≤ 4) a (λ h. lit≤ tt) (λ h. lit≤ tt) (λ h. lit≤ tt)

-- what `lead` computes
abbrev lead_by : ℕ → State
lead_by a =
    pick (ltb a 0x80) Between
    (pick (within 0xC2 0xF4 a)
    (pick (eqb (length_of a) 2) (Wants 0x80 0xBF 0)
    (pick (eqb (length_of a) 3)
    (pick (eqb a 0xE0) (Wants 0xA0 0xBF 1) (pick (eqb a 0xED) (Wants 0x80 0x9F 1) (Wants 0x80 0xBF 1)))
    (pick (eqb a 0xF0) (Wants 0x90 0xBF 2) (pick (eqb a 0xF4) (Wants 0x80 0x8F 2) (Wants 0x80 0xBF 2)))))
    IllFormed)

abbrev same : State → State → Bool
same Between Between = true
same Between (Wants l h n) = false
same Between IllFormed = false
same (Wants l h n) Between = false
same (Wants l h n) (Wants m i k) = eqb l m && (eqb h i && eqb n k)
same (Wants l h n) IllFormed = false
same IllFormed Between = false
same IllFormed (Wants l h n) = false
same IllFormed IllFormed = true

same_state : (s t : State) → T (same s t) → s ≡ t
same_state Between Between e = refl
same_state Between (Wants l h n) e = absurd e
same_state Between IllFormed e = absurd e
same_state (Wants l h n) Between e = absurd e
same_state (Wants l h n) (Wants m i k) e =
    let e₁ : l ≡ m = search (both_left, eqb→eq) in
    let e₂ : h ≡ i = search (both_left, both_right, eqb→eq) in
    let e₃ : n ≡ k = search (both_left, both_right, eqb→eq) in
    rw (e₁, e₂, e₃)
same_state (Wants l h n) IllFormed e = absurd e
same_state IllFormed Between e = absurd e
same_state IllFormed (Wants l h n) e = absurd e
same_state IllFormed IllFormed e = refl

lead_law : (a : ℕ) → a < 256 → lead_by a ≡ lead_of a
unfolding lead_of length_of
lead_law a h = same_state (lead_by a) (lead_of a) (all_below (λ (k : ℕ). same (lead_by k) (lead_of k)) 256 tt a h)

-- each return of `lead`
module _ (a : ℕ) where
  pub lead_ascii : a < 0x80 → Between ≡ lead_of a
  lead_ascii h = rw (← lead_law a (omega arith)) (simp (lt-ltb a 0x80 h))

  pub lead_ill : a < 256 → 0x80 ≤ a → within 0xC2 0xF4 a ≡ false → IllFormed ≡ lead_of a
  lead_ill h l e = rw (← lead_law a h) (simp (le-ltb a 0x80 l, e))

  module _ (l : 0xC2 ≤ a) (h : a ≤ 0xF4) (n : ℕ) (e : n ≡ length_of a) where
    some : lead_of a
        ≡ pick (eqb n 2) (Wants 0x80 0xBF 0)
        (pick (eqb n 3) (pick (eqb a 0xE0) (Wants 0xA0 0xBF 1) (pick (eqb a 0xED) (Wants 0x80 0x9F 1) (Wants 0x80 0xBF 1)))
        (pick (eqb a 0xF0) (Wants 0x90 0xBF 2) (pick (eqb a 0xF4) (Wants 0x80 0x8F 2) (Wants 0x80 0xBF 2))))
    some = rw (← lead_law a (omega arith), e) (simp (le-ltb a 0x80 (omega arith), inside 0xC2 0xF4 a l h))

    pub lead_two : n ≡ 2 → Wants 0x80 0xBF 0 ≡ lead_of a
    lead_two z = rw (some, z)

    pub lead_three : n ≡ 3 → (a ≡ 0xE0 → ⊥) → (a ≡ 0xED → ⊥) → Wants 0x80 0xBF 1 ≡ lead_of a
    lead_three z f g = rw (some, z, ne_eqb a 0xE0 f, ne_eqb a 0xED g)

    pub lead_four : (n ≡ 2 → ⊥) → (n ≡ 3 → ⊥) → (a ≡ 0xF0 → ⊥) → (a ≡ 0xF4 → ⊥) → Wants 0x80 0xBF 2 ≡ lead_of a
    lead_four y z f g = rw (some, ne_eqb n 2 y, ne_eqb n 3 z, ne_eqb a 0xF0 f, ne_eqb a 0xF4 g)

-- ---- the size of a character by its first octet

-- each range is that of UTF8-tail
abbrev tails_only : List Range → Bool
tails_only [] = true
tails_only (r ∷ rs) = (eqb r.lo 0x80 && eqb r.hi 0xBF) && tails_only rs

begins_tails : (rs : List Range) (s : List ℕ) → tails_only rs ≡ true → begins rs s ≡ tails (length rs) s
unfolding is_tail
begins_tails [] s e = refl
begins_tails (r ∷ rs) [] e = refl
begins_tails (r ∷ rs) (b ∷ s) e =
    let l : Bool = eqb r.lo 0x80 in
    let h : Bool = eqb r.hi 0xBF in
    let w = and_left (l && h) (tails_only rs) e in
    rw (eqb-true r.lo 0x80 (and_left l h w), eqb-true r.hi 0xBF (and_right l h w), begins_tails rs s (and_right (l && h) (tails_only rs) e))

-- an alternative with its first octet: those after the second are UTF8-tails
abbrev shaped : List Range → Bool
shaped [] = false
shaped (r ∷ []) = true
shaped (r ∷ q ∷ rs) = tails_only rs

shaped_size : (r : Range) (rs : List Range) (s : List ℕ) → shaped (r ∷ rs) ≡ true → pick (begins rs s) (suc (length rs)) 0 ≡ size_after (after_first rs) s
shaped_size r [] s e = refl
shaped_size r (q ∷ rs) [] e = refl
shaped_size r (q ∷ rs) (b ∷ s) e = rw (begins_tails rs s e)

first_size : (n : ℕ) (rss : List (List Range)) (a : ℕ) (s : List ℕ) → rising n rss ≡ true → every shaped rss ≡ true
    → first_of rss (a ∷ s) ≡ size_after (after_lead rss a) s
first_size n [] a s e f = refl
first_size n ([] ∷ rss) a s e f = true_false false e refl
first_size n ((r ∷ rs) ∷ rss) a s e f =
    let on = rises_on n r rs rss e in
    by_cases (within r.lo r.hi a)
    (λ w. rw (w, first_under (suc r.hi) rss a s on (omega (arith, within_high r.lo r.hi a w)))
    (shaped_size r rs s (and_left (shaped (r ∷ rs)) (every shaped rss) f)))
    (λ w. rw w (first_size (suc r.hi) rss a s on (and_right (shaped (r ∷ rs)) (every shaped rss) f)))

pub lead_size : (a : ℕ) (s : List ℕ) → char_size (a ∷ s) ≡ size_after (lead_of a) s
unfolding char_size lead_of
lead_size a s = first_size 0 utf8_char a s refl refl

-- no more than two UTF8-tails are wanted after the second octet
abbrev short_row : List Range → Bool
short_row rs = leb (length rs) 4

after_tails : (rss : List (List Range)) (a lo hi n : ℕ) → every short_row rss ≡ true → after_lead rss a ≡ Wants lo hi n → n ≤ 2
after_tails [] a lo hi n e f = let z : ◌≡◌ {A = ℕ} 0 1 = cc in absurd (omega arith)
after_tails ([] ∷ rss) a lo hi n e f = after_tails rss a lo hi n (and_right (short_row []) (every short_row rss) e) f
after_tails ((r ∷ rs) ∷ rss) a lo hi n e f =
    by_cases (within r.lo r.hi a) (λ w. go rs (leb-true (length (r ∷ rs)) 4 (and_left (short_row (r ∷ rs)) (every short_row rss) e)) (rw w at f))
    (λ w. after_tails rss a lo hi n (and_right (short_row (r ∷ rs)) (every short_row rss) e) (rw w at f))
  where
    go : (rs : List Range) → suc (length rs) ≤ 4 → after_first rs ≡ Wants lo hi n → n ≤ 2
    go [] h g = let z : ◌≡◌ {A = ℕ} 0 1 = cc in absurd (omega arith)
    go (q ∷ rs) h g = let z : length rs ≡ n = cc in omega arith

pub lead_tails : (a lo hi n : ℕ) → Wants lo hi n ≡ lead_of a → n ≤ 2
unfolding lead_of
lead_tails a lo hi n e = after_tails utf8_char a lo hi n refl (sym e)
