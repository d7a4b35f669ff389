-- For the loops over candidates: the list while it is filled, one candidate after the other. By the laws of entries in order. Assumes nothing.
use mathlib.Core.Path.{refl, ◌∙◌}
use mathlib.Core.List.{List, [], ◌∷◌, ◌++◌}
use Prim.Native.Nat.{ℕ, ◌+◌}
use native.Mathlib.Omega.{arith}
use lib.IntN.{ℤ}
use Rattle.suggestion_list.specs.Order.{put_all}
use Rattle.suggestion_list.specs.Rows.{entry_rows}
use Rattle.suggestion_list.specs.Helpers.{Added, SameList}
use Rattle.suggestion_list.specs.declared.Suggestion.{Suggestion}
use Rattle.suggestion_list.specs.declared.Suggestions.{Suggestions}
use Rattle.suggestion_list.proofs.Orders.{put_length, put_all_append}
use Rattle.suggest.specs.Suggestions.{first_byte}
use Rattle.suggest.specs.Helpers.{Filled, Adds}
use Rattle.suggest.proofs.TriedBytes.{ordered_none, ordered_byte, ordered_put}

-- the list is lent to one call after the other
pub same_self : (x : Suggestions) → SameList x x
same_self x = record { lent = refl; size = refl }

pub same_then : {x y z : Suggestions} → SameList x y → SameList y z → SameList x z
same_then a b = record { lent = b.lent ∙ a.lent; size = b.size ∙ a.size }

-- nothing is stored yet
pub filled_none : (list : List ℤ) → Filled list 0 first_byte [] list 0
unfolding entry_rows
filled_none list = record { ordered = ordered_none; counted = refl; stored = λ h. refl }

-- no candidate
pub adds_nothing : {i b : ℕ} {list : List ℤ} {count : ℕ} → Adds [] i b i b list count list count
unfolding put_all
adds_nothing = record { fills = λ old es f. f }

-- a candidate that gives nothing
pub adds_none : {i b : ℕ} {list : List ℤ} {count : ℕ} → Adds [] i b i (b + 1) list count list count
unfolding put_all
adds_none = record { fills = λ old es f. record { ordered = ordered_byte f.ordered; counted = f.counted; stored = f.stored } }

-- one that gives an entry
pub adds_one : (z : ℤ) (i b : ℕ) {list list' : List ℤ} {count : ℕ} → Added (record { nanos = z; offset = i; byte = b }) count list list'
    → Adds (record { nanos = z; offset = i; byte = b } ∷ []) i b i (b + 1) list count list' (count + 1)
unfolding put_all
adds_one z i b a =
    record {
      fills = λ old es f.
          let x : Suggestion = record { nanos = z; offset = i; byte = b } in
          let o = f.ordered in
          let n = put_length x es in
          let c = f.counted in
          record {
            ordered = ordered_put o z;
            counted = omega arith;
            stored = λ h. a es old (record { rising = o.rising; behind = o.tried }) c (omega arith) (f.stored (omega arith));
          };
    }

-- candidates after others
pub adds_then : {xs ys : List Suggestion} {i b j c k d : ℕ} {list list' list'' : List ℤ} {count count' count'' : ℕ}
    → Adds xs i b j c list count list' count' → Adds ys j c k d list' count' list'' count'' → Adds (xs ++ ys) i b k d list count list'' count''
adds_then {xs} {ys} p q = record { fills = λ old es f. rw (put_all_append es xs ys) (q.fills old (put_all es xs) (p.fills old es f)) }
