-- The dedent of a triple-quoted string: document 01, "Dedent: drop one leading newline; if the last line is empty or only Unicode White_Space,
-- it is the indent: remove it and the newline before it, and remove that prefix from lines that have it. Else nothing more changes."
use Rattle.std.specs.Prelude.{Bool, true, false, ◌&&◌, List, [], ◌∷◌, ◌++◌, map, ℕ, zero, suc, eqb, length, drop}
use Prim.Native.Char.{code}
use Rattle.base.specs.Choice.{pick}
use Rattle.utf8.specs.Character.{white_size}

-- ---- lines

-- the bytes before the first newline
unfoldable pub first : List ℕ → List ℕ
first [] = []
first (x ∷ xs) = pick (eqb x (code "\n")) [] (x ∷ first xs)

-- the lines after the first newline
unfoldable pub others : List ℕ → List (List ℕ)
others [] = []
others (x ∷ xs) = pick (eqb x (code "\n")) (first xs ∷ []) [] ++ others xs

-- a newline before each line
abbrev pub join_rest : List (List ℕ) → List ℕ
join_rest [] = []
join_rest (l ∷ ls) = code "\n" ∷ (l ++ join_rest ls)

-- the lines with a newline between each two
abbrev pub join : List (List ℕ) → List ℕ
join [] = []
join (l ∷ ls) = l ++ join_rest ls

-- the last of some lines
abbrev pub last_of : List ℕ → List (List ℕ) → List ℕ
last_of l [] = l
last_of l (m ∷ ms) = last_of m ms

-- all but the last
abbrev pub init_of : List ℕ → List (List ℕ) → List (List ℕ)
init_of l [] = []
init_of l (m ∷ ms) = l ∷ init_of m ms

-- ---- blank lines

-- goes on behind a White_Space character; 0 is none
abbrev pub next : (ℕ → Bool) → ℕ → Bool
next f zero = false
next f (suc m) = f m

-- nothing but White_Space; the first k bytes are judged already
unfoldable pub blank : ℕ → List ℕ → Bool
blank k [] = true
blank (suc k) (x ∷ xs) = blank k xs
blank zero (x ∷ xs) = next (λ m. blank m xs) (white_size (x ∷ xs))

-- ---- dedent

-- the second list begins with the first
unfoldable pub prefix : List ℕ → List ℕ → Bool
prefix [] l = true
prefix (a ∷ p) [] = false
prefix (a ∷ p) (x ∷ l) = eqb a x && prefix p l

-- the line without the indent, where it has it
unfoldable pub strip : List ℕ → List ℕ → List ℕ
strip indent line = pick (prefix indent line) (drop (length indent) line) line

-- one leading newline dropped
unfoldable pub unlead : List ℕ → List ℕ
unlead [] = []
unlead (x ∷ xs) = pick (eqb x (code "\n")) xs (x ∷ xs)

-- the lines without the indent, their last one, where that is blank; else the text as it is
abbrev pub by_lines : List ℕ → List (List ℕ) → List ℕ → List ℕ
by_lines l ls s = pick (blank 0 (last_of l ls)) (join (map (strip (last_of l ls)) (init_of l ls))) s

-- a last line of nothing but White_Space is the indent
unfoldable pub unindent : List ℕ → List ℕ
unindent s = by_lines (first s) (others s) s

-- the value of a triple-quoted string whose raw bytes are these
unfoldable pub dedent : List ℕ → List ℕ
dedent raw = unindent (unlead raw)
