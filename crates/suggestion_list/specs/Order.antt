-- The order of suggestions: document 02, #102, "least nanoseconds come first, then earliest offset, then lowest byte".
use Rattle.std.specs.Prelude.{◌≡◌, Bool, not, ◌&&◌, ◌||◌, ◌<◌, ltb, eqb, ◌<ℤ◌}
use mathlib.Core.List.{List, [], ◌∷◌, Memᴰ}
use Rattle.std.specs.Int.Signed.{lt_z}
use Rattle.base.specs.Choice.{pick}
use Rattle.suggestion_list.specs.declared.Suggestion.{Suggestion}

-- Types of the code (src/lib.rt). `Suggestion`, an entry of the list: `nanos`, the nanoseconds; `offset`, where a byte is replaced; `byte`, by which.

-- x comes before y
pub data Before (x y : Suggestion) : Type 0 where
  fewer : x.nanos <ℤ y.nanos → Before x y
  earlier : x.nanos ≡ y.nanos → x.offset < y.offset → Before x y
  lower : x.nanos ≡ y.nanos → x.offset ≡ y.offset → x.byte < y.byte → Before x y

-- strictly rising: each entry comes before all that follow it, so that none stands twice
pub data Rising : List Suggestion → Type 0 where
  none : Rising []
  more : {x : Suggestion} {xs : List Suggestion} → ((y : Suggestion) → Memᴰ y xs → Before x y) → Rising xs → Rising (x ∷ xs)

-- `Before` as a test
abbrev pub before : Suggestion → Suggestion → Bool
before x y =
    lt_z x.nanos y.nanos
    || (not (lt_z y.nanos x.nanos) && (ltb x.offset y.offset || (eqb x.offset y.offset && ltb x.byte y.byte)))

-- an entry put before the first that comes after it
unfoldable pub put : Suggestion → List Suggestion → List Suggestion
put x [] = x ∷ []
put x (y ∷ ys) = pick (before x y) (x ∷ y ∷ ys) (y ∷ put x ys)

-- entries put one after the other into those that are in order already
unfoldable pub put_all : List Suggestion → List Suggestion → List Suggestion
put_all ys [] = ys
put_all ys (x ∷ xs) = put_all (put x ys) xs
