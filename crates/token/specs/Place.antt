-- Places: document 01, "Places and records", first paragraph.
use Rattle.std.specs.Prelude.{List, [], ◌∷◌, ℕ, suc, ◌+◌, take, eqb}
use Prim.Native.Char.{code}
use Rattle.base.specs.Choice.{pick}
use Rattle.token.specs.declared.place.Place.{Place}

-- Types of the code (src/place.rt). `Place`: an `offset`, and its `line` and `column`.

-- "The first place is line 1, column 1, offset 0"
abbrev pub first_place : Place
first_place = record { offset = 0; line = 1; column = 1 }

-- "a newline (0x0A)"
abbrev pub newline : ℕ
newline = code "\n"

-- "A place stepped over one byte gives the next place: after a newline (0x0A) line + 1 and column 1, else column + 1"
abbrev pub step_place : Place → ℕ → Place
step_place p b =
    pick (eqb b newline) (record { offset = p.offset + 1; line = p.line + 1; column = 1 })
    (record { offset = p.offset + 1; line = p.line; column = p.column + 1 })

-- the place after the bytes of a list
abbrev pub place_after : Place → List ℕ → Place
place_after p [] = p
place_after p (b ∷ t) = place_after (step_place p b) t

-- the place of the offset i of the text s
unfoldable pub place_at : List ℕ → ℕ → Place
place_at s i = place_after first_place (take i s)

-- the newlines of a list
abbrev pub newlines : List ℕ → ℕ
newlines [] = 0
newlines (b ∷ t) = pick (eqb b newline) 1 0 + newlines t

-- the bytes of a list since its last newline, n of them being counted already
abbrev pub since_newline : ℕ → List ℕ → ℕ
since_newline n [] = n
since_newline n (b ∷ t) = since_newline (pick (eqb b newline) 0 (suc n)) t
