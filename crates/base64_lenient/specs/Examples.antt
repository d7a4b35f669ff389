-- Runs worked out by the definitions alone: section 10 of RFC 4648 as texts and read back, for each rule of the decoder runs at its edges, and for each
-- leniency a run that uses it alone.
use Rattle.std.specs.Prelude.{◌≡◌, refl, true, List, [], ◌∷◌, ◌++◌, map, ℕ}
use Rattle.base.specs.Choice.{pick}
use Rattle.base.specs.Characters.{ascii}
use Rattle.base64_lenient.specs.Rfc4648.{standard, padded, encode_with, encode}
use Rattle.base64_lenient.specs.Lenient.{without_breaks, before_pads, value_in, decodes, regroup, decoded}
use Rattle.base64_lenient.specs.Leniencies.{Leniency, line_breaks, missing_pads, other_alphabet, pad_bits, pad_bits_of, uses, used}

-- a list of bytes and its text
pub record Vector : Type 0 where
  pub bytes : List ℕ
  pub text : List ℕ

abbrev vector : List ℕ → List ℕ → Vector
vector b t = record { bytes = b; text = t }

-- RFC 4648, section 10
abbrev pub vectors : List Vector
vectors =
    vector [] []
    ∷ vector (ascii "f") (ascii "Zg==")
    ∷ vector (ascii "fo") (ascii "Zm8=")
    ∷ vector (ascii "foo") (ascii "Zm9v")
    ∷ vector (ascii "foob") (ascii "Zm9vYg==")
    ∷ vector (ascii "fooba") (ascii "Zm9vYmE=")
    ∷ vector (ascii "foobar") (ascii "Zm9vYmFy")
    ∷ []

pub vectors_encode : map (λ (v : Vector). encode standard padded v.bytes) vectors ≡ map (λ (v : Vector). v.text) vectors
unfolding encode_with
vectors_encode = refl

pub vectors_decode : map (λ (v : Vector). decoded v.text) vectors ≡ map (λ (v : Vector). v.bytes) vectors
unfolding without_breaks before_pads value_in regroup decoded
vectors_decode = refl

-- a run and what it decodes to, or that it does not
pub data Want : Type 0 where
  gives : List ℕ → Want
  none : Want

pub record Case : Type 0 where
  pub run : List ℕ
  pub want : Want

abbrev row : List ℕ → Want → Case
row r w = record { run = r; want = w }

-- what the definitions make of a run
abbrev answer : List ℕ → Want
answer r = pick (decodes r) (gives (decoded r)) none

abbrev pub cases : List Case
cases =
    -- no character
    row [] (gives [])
    ∷ row (ascii "\r") (gives [])
    -- a single character left over
    ∷ row (ascii "A") none
    ∷ row (ascii "AAAAA") none
    -- one byte, with the right padding, without it, and with pad bits
    ∷ row (ascii "AA") (gives (0 ∷ []))
    ∷ row (ascii "AA==") (gives (0 ∷ []))
    ∷ row (ascii "AB==") (gives (0 ∷ []))
    ∷ row (ascii "Zh==") (gives (ascii "f"))
    -- two bytes
    ∷ row (ascii "AAA") (gives (0 ∷ 0 ∷ []))
    ∷ row (ascii "AAA=") (gives (0 ∷ 0 ∷ []))
    ∷ row (ascii "A//=") (gives (3 ∷ 255 ∷ []))
    -- either alphabet, but no mixture
    ∷ row (ascii "A/+/") (gives (3 ∷ 255 ∷ 191 ∷ []))
    ∷ row (ascii "A-_-") (gives (3 ∷ 239 ∷ 254 ∷ []))
    ∷ row (ascii "A-+_") none
    -- other counts of pad characters, and pad characters elsewhere
    ∷ row (ascii "AA=") none
    ∷ row (ascii "AA===") none
    ∷ row (ascii "AAA==") none
    ∷ row (ascii "AAAA=") none
    ∷ row (ascii "=") none
    ∷ row (ascii "====") none
    ∷ row (ascii "A===") none
    ∷ row (ascii "A=AA") none
    ∷ row (ascii "AA==AA==") none
    -- line breaks anywhere, blanks nowhere
    ∷ row (ascii "AA=\r=\n") (gives (0 ∷ []))
    ∷ row (ascii "A\nA\r\n==") (gives (0 ∷ []))
    ∷ row (ascii "AA ==") none
    ∷ row (ascii "A A=") none
    ∷ row (ascii "AA\t==") none
    -- bytes beyond ASCII, and 0
    ∷ row (0xC3 ∷ 0xA9 ∷ []) none
    ∷ row (ascii "AAA" ++ (0xFF ∷ [])) none
    ∷ row (ascii "AAA" ++ (0 ∷ [])) none
    ∷ []

pub cases_hold : map (λ (c : Case). answer c.run) cases ≡ map (λ (c : Case). c.want) cases
unfolding without_breaks before_pads value_in decodes regroup decoded
cases_hold = refl

-- a run, and the leniencies that it uses
pub record Lenient : Type 0 where
  pub run : List ℕ
  pub leniencies : List Leniency

abbrev lenient_by : List ℕ → List Leniency → Lenient
lenient_by r ls = record { run = r; leniencies = ls }

abbrev pub lenient : List Lenient
lenient =
    lenient_by (ascii "Zg==") []
    ∷ lenient_by (ascii "Zg==\n") (line_breaks ∷ [])
    ∷ lenient_by (ascii "Zg") (missing_pads ∷ [])
    ∷ lenient_by (ascii "_w==") (other_alphabet ∷ [])
    ∷ lenient_by (ascii "Zh==") (pad_bits ∷ [])
    ∷ lenient_by (ascii "\r_x") (line_breaks ∷ missing_pads ∷ other_alphabet ∷ pad_bits ∷ [])
    ∷ []

pub lenient_decode : map (λ (l : Lenient). decodes l.run) lenient ≡ true ∷ true ∷ true ∷ true ∷ true ∷ true ∷ []
unfolding without_breaks before_pads value_in decodes
lenient_decode = refl

pub lenient_use : map (λ (l : Lenient). used l.run) lenient ≡ map (λ (l : Lenient). l.leniencies) lenient
unfolding without_breaks before_pads value_in pad_bits_of uses
lenient_use = refl
