-- For demand 3 (`Claims`): each String's value stands in the string buffer at the place that its record gives. By induction on the tokens, with the
-- strings before and after them. Assumes nothing.
use mathlib.Core.Path.{◌≡◌, ap, ◌∙◌}
use mathlib.Core.Bool.{Bool, true}
use mathlib.Core.List.{List, [], ◌∷◌, ◌++◌, append_assoc, append-nil}
use Prim.Native.Nat.{ℕ, ◌+◌, ◌≤◌}
use native.Mathlib.Omega.{arith}
use lib.ListN.{length, length-append}
use lib.Seq.{take_at, drop-append_seam}
use borrow.Author.Tests.{eq-eqb}
use Rattle.base.specs.Choice.{pick}
use Rattle.token.specs.Kind.{is_string}
use Rattle.lexer.specs.Token.{string_size}
use Rattle.lexer.specs.declared.next.Token.{Token}
use Rattle.lexer.specs.declared.reading.Reading.{Reading}
use Rattle.reading.specs.Tokens.{tokens}
use Rattle.reading.specs.Buffers.{record_of, records_of, strings_of}
use Rattle.reading.specs.Claim.{Each, none, more, ValueIn}
use Rattle.reading.proofs.NextToken.{Read, string_at}
use Rattle.reading.proofs.From.{by_each}

module _ (m : Reading) (limit : ℕ) (text : List ℕ) where
  -- one String after the strings A and before the strings B
  laid : (at : ℕ) (t : Token) → Read m limit text at t → (A B : List ℕ)
      → ValueIn m text (A ++ (string_at m text t ++ B)) (record_of (length A) t)
  unfolding string_size
  laid at t r A B k =
      let str = string_at m text t in
      let e : is_string t.kind ≡ true = eq-eqb _ _ k in
      let l : length str ≡ t.size = r.string ∙ ap (λ (b : Bool). pick b t.size 0) e in
      let i : length A + t.size ≤ length (A ++ (str ++ B)) = omega (arith, length-append A (str ++ B), length-append str B) in
      (rw e i, rw (e, drop-append_seam A (str ++ B)) (take_at str B t.size l))

  Laid : ℕ → List Token → Type 0
  Laid at ts = (A B : List ℕ) → Each (ValueIn m text (A ++ (strings_of m text ts ++ B))) (records_of (length A) ts)

  laid_more : (at : ℕ) (t : Token) (ts : List Token) → Read m limit text at t → Laid t.end.offset ts → Laid at (t ∷ ts)
  unfolding Laid strings_of records_of
  laid_more at t ts r w A B =
      let str = string_at m text t in
      let rest = strings_of m text ts in
      let q : length (A ++ str) ≡ length A + string_size t.kind t.size = omega (arith, length-append A str, r.string) in
      rw (append_assoc str rest B)
      (more (laid at t r A (rest ++ B)) (rw (q, append_assoc A str (rest ++ B)) at (w (A ++ str) B)))

  pub string_values : Each (ValueIn m text (strings_of m text (tokens m limit text))) (records_of 0 (tokens m limit text))
  unfolding tokens Laid strings_of records_of
  string_values =
      rw (append-nil (strings_of m text (tokens m limit text))) at
      (by_each m limit text Laid (λ A B. none) (λ at t ts r w. laid_more at t ts r w) 0 (omega arith) [] [])
