-- The list of partings as a theorem: which of them a run uses, and what they make of it by one grammar and another.
use Rattle.std.specs.Prelude.{◌≡◌, Bool, true, not, ◌&&◌, List, [], ◌∷◌, ℕ, eqb, Some, None}
use Prim.Native.Char.{code}
use Rattle.base.specs.Choice.{pick}
use Rattle.rfc3339.specs.Grammar.{Parting, hour_of_one_digit, comma_before_fraction, offset_hour24, offset_minute60, lower_case_t, lower_case_z, second60}
use Rattle.rfc3339.specs.Grammar.{Grammar, rfc_grammar, parse_grammar, is_at, has_two, second_of, has_secfrac, has_comma, secfrac_end, has_sign}
use Rattle.rfc3339.specs.Grammar.{offset_hour_of, offset_minute_of}
use Rattle.rfc3339.specs.Instant.{date_by}
use Rattle.rfc3339.specs.declared.parse.Instant.{Instant}

-- what a run has at the place of a parting; it counts where the run is a date by the widest grammar
unfoldable pub uses : Parting → List ℕ → Bool
uses hour_of_one_digit s = not (has_two s)
uses comma_before_fraction s = has_secfrac s && has_comma s
uses offset_hour24 s = has_sign s && eqb (offset_hour_of s) 24
uses offset_minute60 s = has_sign s && eqb (offset_minute_of s) 60
uses lower_case_t s = is_at (code "t") s 10
uses lower_case_z s = is_at (code "z") s (secfrac_end s)
uses second60 s = eqb (second_of s) 60

-- all of them, by their places in a run
abbrev pub partings : List Parting
partings = lower_case_t ∷ hour_of_one_digit ∷ second60 ∷ comma_before_fraction ∷ lower_case_z ∷ offset_hour24 ∷ offset_minute60 ∷ []

-- those of a list that a run uses, and of all
abbrev pub used_of : List Parting → List ℕ → List Parting
used_of [] s = []
used_of (p ∷ ps) s = pick (uses p s) (p ∷ used_of ps s) (used_of ps s)

abbrev pub used : List ℕ → List Parting
used s = used_of partings s

-- whether a grammar takes all of a list
abbrev pub takes : Grammar → List Parting → Bool
takes g [] = true
takes g (p ∷ ps) = g p && takes g ps

-- the grammar that takes all partings
abbrev pub widest : Grammar
widest p = true

-- the list says all that tells the RFC and `parse` apart, and no more
pub record PartingsTell : Type 0 where
  -- a grammar decides by the partings that a run uses, and the instant is that of the widest grammar
  pub by_used : (g : Grammar) (s : List ℕ) → date_by g s ≡ pick (takes g (used s)) (date_by widest s) None
  -- the RFC and `parse` say the same of a run that uses none
  pub complete : (s : List ℕ) → used s ≡ [] → date_by rfc_grammar s ≡ date_by parse_grammar s
  -- they take the opposite of each other at each parting
  pub opposite : (p : Parting) → rfc_grammar p ≡ not (parse_grammar p)
  -- so that a run which is a date by both uses none
  pub exact : (s : List ℕ) (i j : Instant) → date_by rfc_grammar s ≡ Some i → date_by parse_grammar s ≡ Some j → used s ≡ []
  -- and is one instant
  pub same : (s : List ℕ) (i j : Instant) → date_by rfc_grammar s ≡ Some i → date_by parse_grammar s ≡ Some j → i ≡ j
