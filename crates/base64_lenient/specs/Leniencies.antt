-- What RFC 4648 and the decoder have to do with each other: the leniencies, listed as named conditions, and the claim about all runs.
use Rattle.std.specs.Prelude.{◌≡◌, Bool, true, not, List, [], ◌∷◌, map, ℕ, ◌%◌, ◌<◌, eqb, length}
use Rattle.base.specs.Choice.{pick}
use Rattle.base.specs.Bytes.{each, AreBytes}
use Rattle.utf8.specs.Grammar.{Octets}
use Rattle.base64_lenient.specs.Rfc4648.{Alphabet, standard, Padding, padded, encode_with, encode, pad_bits_range}
use Rattle.base64_lenient.specs.Lenient.{is_line_break, without_breaks, before_pads, is_in, six_bits, decodes, decoded}

-- ---- the list

-- where the decoder takes what RFC 4648 has refused or does not write
pub data Leniency : Type 0 where
  -- section 3.3, characters outside the alphabet: CR and LF are skipped
  line_breaks : Leniency
  -- section 3.2, padding: all of it may be missing
  missing_pads : Leniency
  -- section 5: the alphabet that is safe in URLs is taken without a word that it is meant, though not mixed with the other
  other_alphabet : Leniency
  -- section 3.5, pad bits: they need not be zero
  pad_bits : Leniency

-- the pad bits of a list of values: what is left of the last one
unfoldable pub pad_bits_of : List ℕ → ℕ
pad_bits_of [] = 0
pad_bits_of (a ∷ []) = 0
pad_bits_of (a ∷ b ∷ []) = b % 16
pad_bits_of (a ∷ b ∷ c ∷ []) = c % 4
pad_bits_of (a ∷ b ∷ c ∷ d ∷ l) = pad_bits_of l

-- whether a run uses a leniency
unfoldable pub uses : Leniency → List ℕ → Bool
uses line_breaks run = not (each (λ b. not (is_line_break b)) run)
uses missing_pads run = not (eqb (length (without_breaks run) % 4) 0)
uses other_alphabet run = not (each (is_in standard) (before_pads (without_breaks run)))
uses pad_bits run = not (eqb (pad_bits_of (map six_bits (before_pads (without_breaks run)))) 0)

-- those of a list that a run uses, and of all
abbrev pub used_of : List Leniency → List ℕ → List Leniency
used_of [] run = []
used_of (x ∷ xs) run = pick (uses x run) (x ∷ used_of xs run) (used_of xs run)

abbrev pub used : List ℕ → List Leniency
used run = used_of (line_breaks ∷ missing_pads ∷ other_alphabet ∷ pad_bits ∷ []) run

-- ---- the claim

-- the run decodes, to these bytes
abbrev pub DecodesTo : List ℕ → List ℕ → Type 0
DecodesTo run bytes = (decodes run ≡ true) × (decoded run ≡ bytes)

-- the run is a text of the bytes, but for CR, LF and the pad bits
pub record TextOf (run bytes : List ℕ) : Type 0 where
  pub alphabet : Alphabet
  pub padding : Padding
  pub bits : ℕ
  pub are_bytes : AreBytes bytes
  pub in_range : bits < pad_bits_range (length bytes)
  pub is : without_breaks run ≡ encode_with alphabet padding bits bytes

-- the decoder takes exactly the texts of RFC 4648 and what the list adds to them
pub record DecodesRfc4648 : Type 0 where
  -- the text of every list of bytes, in either alphabet, padded or not, decodes to it
  pub canonical : (a : Alphabet) (p : Padding) (bytes : List ℕ) → AreBytes bytes → DecodesTo (encode a p bytes) bytes
  -- what decodes is such a text, but for CR, LF and the pad bits
  pub only : (run : List ℕ) → decodes run ≡ true → TextOf run (decoded run)
  -- and all that is one decodes
  pub every : (run bytes : List ℕ) → TextOf run bytes → DecodesTo run bytes
  -- a run that uses no leniency is the text that RFC 4648 has for its bytes
  pub strict : (run : List ℕ) → decodes run ≡ true → used run ≡ [] → run ≡ encode standard padded (decoded run)
  -- and no such text uses one
  pub unused : (bytes : List ℕ) → AreBytes bytes → used (encode standard padded bytes) ≡ []
  -- document 02, #104, "the run isn't UTF-8": such a run does not decode
  pub utf8 : (run : List ℕ) → decodes run ≡ true → Octets run
