-- For `add` and the crate suggest: the test `before` decides the order, and entries put in keep it, are all there and no others. An entry that comes after
-- all of the others by its offset and byte goes by its nanoseconds alone. By induction on the entries. Assumes nothing.
use mathlib.Core.Path.{◌≡◌, refl, sym, ap, ◌∙◌}
use mathlib.Core.Bool.{true, false, and-false, or-false}
use mathlib.Core.Logic.{◌⊎◌, inl, inr, ⊎_elim}
use mathlib.Core.List.Memᴰ
use mathlib.Core.List.{List, [], ◌∷◌, ◌++◌, Memᴰ}
use Prim.Native.Nat.{suc, ◌+◌}
use native.Mathlib.Omega.{arith}
use lib.ListN.{length}
use lib.Signed.{lt_z}
use borrow.Author.Tests.{not-true, ltb-true, eqb-true, le-ltb, ne_eqb}
use Rattle.base.proofs.Tests.{and_left, or_case, by_cases, pick_case}
use Rattle.suggestion_list.specs.Order.{Before, fewer, earlier, lower, Rising, none, more, before, put, put_all}
use Rattle.suggestion_list.specs.Helpers.{Behind, Ready}
use Rattle.suggestion_list.specs.declared.Suggestion.{Suggestion}
use Rattle.suggestion_list.proofs.Signs.{less, less_test, not_itself, not_both, same, less_on}

before_is : (x y : Suggestion) → before x y ≡ true → Before x y
before_is x y e =
    by_cases (lt_z x.nanos y.nanos) (λ l. fewer (less l))
    (λ l.
    let r = rw l at e in
    let g = and_left _ _ r in
    let n = same x.nanos y.nanos l (not-true _ g) in
    or_case _ _ (rw g at r) (λ o. earlier n (ltb-true _ _ o))
    (λ b. let q = and_left _ _ b in lower n (eqb-true _ _ q) (ltb-true _ _ (rw q at b))))

-- an entry has no more nanoseconds than one that it comes before
pub no_more : {x y : Suggestion} → Before x y → lt_z y.nanos x.nanos ≡ false
no_more {x} {y} (fewer l) = not_both x.nanos y.nanos (less_test l)
no_more {y = y} (earlier e o) = rw e (not_itself y.nanos)
no_more {y = y} (lower e o b) = rw e (not_itself y.nanos)

module _ (x y : Suggestion) where
  -- where x comes after y by offset and byte, their nanoseconds decide
  pub by_nanos : Behind y x → before x y ≡ lt_z x.nanos y.nanos
  by_nanos (inl o) =
      simp (le-ltb x.offset y.offset (omega arith), ne_eqb x.offset y.offset (λ e. omega arith), and-false, or-false)
  by_nanos (inr b) = simp (le-ltb x.offset y.offset (omega arith), le-ltb x.byte y.byte (omega arith), and-false, or-false)

  -- and y comes before x where the test fails
  stays : Behind y x → before x y ≡ false → Before y x
  stays h e =
      by_cases (lt_z y.nanos x.nanos) (λ l. fewer (less l)) (λ l. go h (same y.nanos x.nanos l (sym (by_nanos h) ∙ e)))
    where
      go : Behind y x → y.nanos ≡ x.nanos → Before y x
      go (inl o) n = earlier n o
      go (inr b) n = lower n b.0 b.1

module _ {y : Suggestion} {es : List Suggestion} where
  pub rising_first : Rising (y ∷ es) → (z : Suggestion) → Memᴰ z es → Before y z
  rising_first (more f r) = f

  pub rising_rest : Rising (y ∷ es) → Rising es
  rising_rest (more f r) = r

-- what an entry put in changes

pub put_member : (x y : Suggestion) (es : List Suggestion) → Memᴰ y (put x es) → (y ≡ x) ⊎ Memᴰ y es
unfolding put
put_member x y [] = Memᴰ.cases_cons
put_member x y (e ∷ es) =
    pick_case (λ l. Memᴰ y l → (y ≡ x) ⊎ Memᴰ y (e ∷ es)) (before x e) (λ _. Memᴰ.cases_cons)
    (λ _ i.
    ⊎_elim (λ q. inr (Memᴰ.head q)) (λ j. ⊎_elim inl (λ k. inr (Memᴰ.tail k)) (put_member x y es j)) (Memᴰ.cases_cons i))

put_has : (x : Suggestion) (es : List Suggestion) → Memᴰ x (put x es)
unfolding put
put_has x [] = Memᴰ.head refl
put_has x (e ∷ es) = pick_case (Memᴰ x) (before x e) (λ _. Memᴰ.head refl) (λ _. Memᴰ.tail (put_has x es))

put_keeps : (x y : Suggestion) (es : List Suggestion) → Memᴰ y es → Memᴰ y (put x es)
unfolding put
put_keeps x y [] i = absurd (Memᴰ.not-nil i)
put_keeps x y (e ∷ es) i =
    pick_case (Memᴰ y) (before x e) (λ _. Memᴰ.tail i)
    (λ _. ⊎_elim Memᴰ.head (λ j. Memᴰ.tail (put_keeps x y es j)) (Memᴰ.cases_cons i))

pub put_length : (x : Suggestion) (es : List Suggestion) → length (put x es) ≡ suc (length es)
unfolding put
put_length x [] = refl
put_length x (e ∷ es) = pick_case (λ (l : List Suggestion). length l ≡ suc (suc (length es))) (before x e) (λ _. refl) (λ _. ap suc (put_length x es))

pub put_rising : {x : Suggestion} {es : List Suggestion} → Ready x es → Rising (put x es)
unfolding put
put_rising {x} {es = []} h = more (λ y i. absurd (Memᴰ.not-nil i)) none
put_rising {x} {es = e ∷ es} h =
    pick_case Rising (before x e) (λ q. more (first q) h.rising)
    (λ q. more (next q) (put_rising (record { rising = rising_rest h.rising; behind = λ z i. h.behind z (Memᴰ.tail i) })))
  where
    b : Behind e x
    b = h.behind e (Memᴰ.head refl)

    first : before x e ≡ true → (z : Suggestion) → Memᴰ z (e ∷ es) → Before x z
    first q z i =
        ⊎_elim (λ s. rw s (before_is x e q))
        (λ j. fewer (less (less_on x.nanos e.nanos z.nanos (sym (by_nanos x e b) ∙ q) (no_more (rising_first h.rising z j)))))
        (Memᴰ.cases_cons i)

    next : before x e ≡ false → (z : Suggestion) → Memᴰ z (put x es) → Before e z
    next q z i = ⊎_elim (λ s. rw s (stays x e b q)) (rising_first h.rising z) (put_member x z es i)

-- what entries put in one after the other change

pub put_all_append : (ys xs zs : List Suggestion) → put_all ys (xs ++ zs) ≡ put_all (put_all ys xs) zs
unfolding put_all
put_all_append ys [] zs = refl
put_all_append ys (x ∷ xs) zs = put_all_append (put x ys) xs zs

pub put_all_length : (ys xs : List Suggestion) → length (put_all ys xs) ≡ length ys + length xs
unfolding put_all
put_all_length ys [] = omega arith
put_all_length ys (x ∷ xs) = omega (arith, put_all_length (put x ys) xs, put_length x ys)

pub put_all_member : (y : Suggestion) (ys xs : List Suggestion) → Memᴰ y (put_all ys xs) → Memᴰ y ys ⊎ Memᴰ y xs
unfolding put_all
put_all_member y ys [] i = inl i
put_all_member y ys (x ∷ xs) i =
    ⊎_elim (λ j. ⊎_elim (λ e. inr (Memᴰ.head e)) inl (put_member x y ys j)) (λ j. inr (Memᴰ.tail j)) (put_all_member y (put x ys) xs i)

put_all_keeps : (y : Suggestion) (ys xs : List Suggestion) → Memᴰ y ys → Memᴰ y (put_all ys xs)
unfolding put_all
put_all_keeps y ys [] i = i
put_all_keeps y ys (x ∷ xs) i = put_all_keeps y (put x ys) xs (put_keeps x y ys i)

pub put_all_has : (y : Suggestion) (ys xs : List Suggestion) → Memᴰ y xs → Memᴰ y (put_all ys xs)
unfolding put_all
put_all_has y ys [] i = absurd (Memᴰ.not-nil i)
put_all_has y ys (x ∷ xs) i =
    ⊎_elim (λ e. put_all_keeps y (put x ys) xs (rw e (put_has x ys))) (put_all_has y (put x ys) xs) (Memᴰ.cases_cons i)
