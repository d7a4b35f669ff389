-- For `add` and the crate suggest: the numbers of entries. The nanoseconds of entries in order never fall, and an entry's numbers go where it parts them.
-- By induction on the entries. Assumes nothing.
use mathlib.Core.Path.{◌≡◌, refl, ap, ◌∙◌}
use mathlib.Core.Bool.{false}
use mathlib.Core.List.{List, [], ◌∷◌, ◌++◌, Memᴰ, append_assoc}
use Prim.Native.Nat.{ℕ, zero, suc, ◌+◌, ◌-◌, ◌*◌, ◌≤◌, ◌<◌}
use native.Mathlib.Omega.{arith}
use lib.IntN.{ℤ}
use lib.ListN.{length, take, drop, length-append, length-drop, take-append-drop}
use lib.Seq.{sets, take_at, drop_at, drop-drop, length-take-le}
use lib.Signed.{lt_z}
use Rattle.suggestion_list.specs.Order.{Rising, put}
use Rattle.suggestion_list.specs.Rows.{entry_width, entry_numbers, entry_rows}
use Rattle.suggestion_list.specs.Helpers.{nanos_at, Climbs, Parts, Place, Moved, Behind, Added}
use Rattle.suggestion_list.specs.declared.Suggestion.{Suggestion}
use Rattle.suggestion_list.proofs.Signs.{not_itself}
use Rattle.suggestion_list.proofs.Orders.{put_length, by_nanos, no_more, rising_first, rising_rest}
use Rattle.suggestion_list.proofs.Rooms.{inserted}

pub rows_length : (es : List Suggestion) → length (entry_rows es) ≡ length es * entry_width
unfolding entry_rows
rows_length [] = refl
rows_length (x ∷ es) = omega (arith, rows_length es)

-- the nanoseconds of the entries behind the first
next : (y : Suggestion) (es : List Suggestion) (k : ℕ) → nanos_at (entry_rows (y ∷ es)) (suc k) ≡ nanos_at (entry_rows es) k
unfolding entry_rows
next y es k = let e : suc k * entry_width ≡ suc (suc (suc (k * entry_width))) = omega arith in rw e

-- what holds of the nanoseconds of every entry holds of the k-th nanoseconds
all_rows : (P : ℤ → Type 0) (es : List Suggestion) → ((y : Suggestion) → Memᴰ y es → P y.nanos) → (k : ℕ) → k < length es
    → P (nanos_at (entry_rows es) k)
unfolding entry_rows
all_rows P [] f k h = absurd (omega arith)
all_rows P (y ∷ es) f zero h = f y (Memᴰ.head refl)
all_rows P (y ∷ es) f (suc k) h = rw (next y es k) (all_rows P es (λ z i. f z (Memᴰ.tail i)) k (omega arith))

climbs : {es : List Suggestion} → Rising es → Climbs (entry_rows es) (length es)
unfolding entry_rows
climbs {es = []} h j k g m = absurd (omega arith)
climbs {es = y ∷ es} h zero zero g m = not_itself y.nanos
climbs {es = y ∷ es} h zero (suc k) g m =
    rw (next y es k) (all_rows (λ z. lt_z z y.nanos ≡ false) es (λ z i. no_more (rising_first h z i)) k (omega arith))
climbs {es = y ∷ es} h (suc j) zero g m = absurd (omega arith)
climbs {es = y ∷ es} h (suc j) (suc k) g m = rw (next y es j, next y es k) (climbs (rising_rest h) j k (omega arith) (omega arith))

-- the numbers of x stand where it parts the others
put_rows : (x : Suggestion) (es : List Suggestion) (p : ℕ) → ((y : Suggestion) → Memᴰ y es → Behind y x) → p ≤ length es
    → Parts (entry_rows es) (length es) x.nanos p
    → entry_rows (put x es) ≡ take (p * entry_width) (entry_rows es) ++ entry_numbers x ++ drop (p * entry_width) (entry_rows es)
unfolding entry_rows put
put_rows x [] p f h s = let e : p ≡ 0 = omega arith in rw e
put_rows x (y ∷ es) zero f h s = rw (by_nanos x y (f y (Memᴰ.head refl)), s.after 0 (omega arith) (omega arith))
put_rows x (y ∷ es) (suc p) f h s =
    let e : suc p * entry_width ≡ suc (suc (suc (p * entry_width))) = omega arith in
    let t : Parts (entry_rows es) (length es) x.nanos p =
    record {
      before = λ k g. rw (next y es k) at (s.before (suc k) (omega arith));
      after = λ k g m. rw (next y es k) at (s.after (suc k) (omega arith) (omega arith));
    } in
    rw (by_nanos x y (f y (Memᴰ.head refl)), s.before 0 (omega arith), e)
    (ap (λ (l : List ℤ). entry_numbers y ++ l) (put_rows x es p (λ z i. f z (Memᴰ.tail i)) (omega arith) t))

-- x put where it is to go, as `add` does it
pub placed : (x : Suggestion) (count p : ℕ) {l l₁ l₂ : List ℤ} → Place (take (count * entry_width) l) count x.nanos p
    → Moved l (p * entry_width) (count * entry_width) l₁
    → l₂ ≡ sets l₁ (p * entry_width) (entry_numbers x) → Added x count l l₂
placed x count p {l} {l₁} s m d es l₀ h n g e =
    let A : List ℤ = entry_rows es in
    let a : ℕ = p * entry_width in
    let B : List ℤ = take a A in
    let C : List ℤ = drop a A in
    let R : List ℤ = drop (length A) l₀ in
    let k = rows_length es in
    let i = s.inside in
    let b : length B ≡ a = length-take-le a A (omega arith) in
    let f : l ≡ B ++ C ++ R = e ∙ rw (take-append-drop a A) in
    let q : take (count * entry_width - a) (drop a l) ≡ C =
    rw (f, append_assoc, drop_at B (C ++ R) a b) (take_at C R (count * entry_width - a) (omega (arith, length-drop a A))) in
    let v : l₁ ≡ sets (B ++ C ++ R) (a + entry_width) C = m ∙ rw (q, f) in
    let own : take (count * entry_width) l ≡ A = rw e (take_at A R (count * entry_width) (omega (arith, k, n))) in
    let t : Parts A (length es) x.nanos p = rw (← n, ← own) (s.parts (rw (own, n) (climbs h.rising))) in
    let j : length (entry_rows (put x es)) ≡ length A + entry_width = omega (arith, rows_length (put x es), put_length x es) in
    d
    ∙ ap (λ (z : List ℤ). sets z a (entry_numbers x)) v
    ∙ rw b at (inserted B C R (entry_numbers x) (omega (arith, length-drop (length A) l₀)))
    ∙ rw (j, put_rows x es p h.behind (omega arith) t, drop-drop)

-- a list that has no room for x
pub no_room : (x : Suggestion) (count : ℕ) (l : List ℤ) → length l < count * entry_width + entry_width → Added x count l l
no_room x count l h es l₀ r n g e =
    let A : List ℤ = entry_rows es in
    absurd (omega (arith, ap length e, length-append A (drop (length A) l₀), length-drop (length A) l₀, rows_length es))
