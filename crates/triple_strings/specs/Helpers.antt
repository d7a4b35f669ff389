-- Helper definitions, for proofs and inner contracts alone: the lines of a text, and the text that they make without an indent.
use Rattle.std.specs.Prelude.{◌≡◌, false, List, [], ◌∷◌, ◌++◌, map, ℕ, eqb, ◌⊎◌}
use Rattle.std.specs.List.{All}
use Prim.Native.Char.{code}
use Rattle.base.specs.Choice.{pick}
use Rattle.triple_strings.specs.Dedent.{first, others, join, strip}

-- split at each newline
unfoldable pub lines : List ℕ → List (List ℕ)
lines s = first s ∷ others s

-- the text with the indent removed from each line
unfoldable pub stripped : List ℕ → List ℕ → List ℕ
stripped indent body = join (map (strip indent) (lines body))

-- what is left of a text after a byte: after a newline the indent goes
unfoldable pub after : List ℕ → ℕ → List ℕ → List ℕ
after indent byte tail = pick (eqb byte (code "\n")) (strip indent tail) tail

-- no newline
abbrev pub OneLine : List ℕ → Type 0
OneLine s = All (λ b. eqb b (code "\n") ≡ false) s

-- the last line of a text, and what stands before it without the newline between them
pub record LastLine (text body last : List ℕ) : Type 0 where
  pub one : OneLine last
  pub parts : (text ≡ body ++ (code "\n" ∷ last)) ⊎ ((body ≡ []) × (text ≡ last))
