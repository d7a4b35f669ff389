-- Helper definitions, for proofs and inner contracts alone: what is seen of a run byte by byte, and its characters' values group by group.
use Rattle.std.specs.Prelude.{◌≡◌, Bool, true, false, ◌&&◌, ◌||◌, List, [], ◌∷◌, ◌++◌, ℕ, ◌+◌, ◌*◌, ◌/◌, ◌%◌, ◌≤◌, ◌<◌, eqb, ltb, length, take, drop, get_or, Option, Some, None}
use Rattle.std.proofs.lemmas.List.Edits.{sets}
use Rattle.base.specs.Choice.{pick}
use Rattle.base64_lenient.specs.Rfc4648.{standard, url_safe}
use Rattle.base64_lenient.specs.Lenient.{is_line_break, is_pad, is_in, six_bits, right_pads, decodes, regroup, decoded}
use Rattle.base64_lenient.specs.declared.alphabet.Alphabets.{Alphabets}
use Rattle.base64_lenient.specs.declared.judge.Seen.{Seen}
use Rattle.base64_lenient.specs.declared.decode.Group.{Group}

-- Types of the code (src/alphabet.rt, src/judge.rt, src/decode.rt). `Alphabets`: which of the two. `Seen`: which of them have all characters of what was
-- seen, and how many characters and pad characters it has. `Passed`: what was seen, and where it ends. `Group`: the values of at most four characters, how
-- many they are, and where they end.

-- ---- judging

-- how many bytes a run decodes to, if it does
unfoldable pub judge_of : List ℕ → Option ℕ
judge_of run = pick (decodes run) (Some (length (decoded run))) None

-- both alphabets have the byte
unfoldable pub in_both : ℕ → Bool
in_both b = is_in standard b && is_in url_safe b

-- those alphabets
abbrev pub alphabets_by : Bool → Bool → Alphabets
alphabets_by s u = record { standard = s; url_safe = u }

-- the alphabets that have a byte
abbrev pub alphabets_of : ℕ → Alphabets
alphabets_of b = alphabets_by (is_in standard b) (is_in url_safe b)

-- those of both
abbrev pub shared : Alphabets → Alphabets → Alphabets
shared a c = alphabets_by (a.standard && c.standard) (a.url_safe && c.url_safe)

-- there is one
abbrev pub some_alphabet : Alphabets → Bool
some_alphabet a = a.standard || a.url_safe

-- so many characters of these alphabets were seen, and no pad character
abbrev pub characters_seen : Alphabets → ℕ → Seen
characters_seen alphabets n = record { alphabets = alphabets; characters = n; pads = 0 }

-- nothing was seen yet
abbrev pub nothing_seen : Seen
nothing_seen = characters_seen (alphabets_by true true) 0

-- one byte more; a character after a pad character is of no alphabet
unfoldable pub seen_one : Seen → ℕ → Seen
seen_one w b =
    pick (is_line_break b) w
    (pick (is_pad b) (record { alphabets = w.alphabets; characters = w.characters; pads = w.pads + 1 })
    (record { alphabets = shared w.alphabets (pick (eqb w.pads 0) (alphabets_of b) (alphabets_by false false)); characters = w.characters + 1; pads = w.pads }))

-- more bytes, one after the other
unfoldable pub seen_all : Seen → List ℕ → Seen
seen_all w [] = w
seen_all w (b ∷ s) = seen_all (seen_one w b) s

-- what a run is of which this was seen
unfoldable pub judged_seen : Seen → Option ℕ
judged_seen w =
    pick (some_alphabet w.alphabets && right_pads w.characters w.pads) (Some (w.characters / 4 * 3 + w.characters % 4 * 3 / 4)) None

-- n bytes more can be seen
pub record CanSee (w : Seen) (n : ℕ) : Type 0 where
  pub characters : w.characters + n < 0x10000000000000000
  pub pads : w.pads + n < 0x10000000000000000

-- what was seen to i of a run: with what is left of the run it makes the whole, and no more is counted than there is
pub record SeenTo (run : List ℕ) (w : Seen) (i : ℕ) : Type 0 where
  pub inside : i ≤ length run
  pub same : seen_all w (drop i run) ≡ seen_all nothing_seen run
  pub characters : w.characters ≤ i
  pub pads : w.pads ≤ i

-- ---- decoding

-- the table of the code (src/alphabet.rt): for each byte its value, or 64
abbrev pub values : List ℕ
values =
    64 ∷ 64 ∷ 64 ∷ 64 ∷ 64 ∷ 64 ∷ 64 ∷ 64 ∷ 64 ∷ 64 ∷ 64 ∷ 64 ∷ 64 ∷ 64 ∷ 64 ∷ 64 ∷
    64 ∷ 64 ∷ 64 ∷ 64 ∷ 64 ∷ 64 ∷ 64 ∷ 64 ∷ 64 ∷ 64 ∷ 64 ∷ 64 ∷ 64 ∷ 64 ∷ 64 ∷ 64 ∷
    64 ∷ 64 ∷ 64 ∷ 64 ∷ 64 ∷ 64 ∷ 64 ∷ 64 ∷ 64 ∷ 64 ∷ 64 ∷ 62 ∷ 64 ∷ 62 ∷ 64 ∷ 63 ∷
    52 ∷ 53 ∷ 54 ∷ 55 ∷ 56 ∷ 57 ∷ 58 ∷ 59 ∷ 60 ∷ 61 ∷ 64 ∷ 64 ∷ 64 ∷ 64 ∷ 64 ∷ 64 ∷
    64 ∷ 0 ∷ 1 ∷ 2 ∷ 3 ∷ 4 ∷ 5 ∷ 6 ∷ 7 ∷ 8 ∷ 9 ∷ 10 ∷ 11 ∷ 12 ∷ 13 ∷ 14 ∷
    15 ∷ 16 ∷ 17 ∷ 18 ∷ 19 ∷ 20 ∷ 21 ∷ 22 ∷ 23 ∷ 24 ∷ 25 ∷ 64 ∷ 64 ∷ 64 ∷ 64 ∷ 63 ∷
    64 ∷ 26 ∷ 27 ∷ 28 ∷ 29 ∷ 30 ∷ 31 ∷ 32 ∷ 33 ∷ 34 ∷ 35 ∷ 36 ∷ 37 ∷ 38 ∷ 39 ∷ 40 ∷
    41 ∷ 42 ∷ 43 ∷ 44 ∷ 45 ∷ 46 ∷ 47 ∷ 48 ∷ 49 ∷ 50 ∷ 51 ∷ 64 ∷ 64 ∷ 64 ∷ 64 ∷ 64 ∷
    64 ∷ 64 ∷ 64 ∷ 64 ∷ 64 ∷ 64 ∷ 64 ∷ 64 ∷ 64 ∷ 64 ∷ 64 ∷ 64 ∷ 64 ∷ 64 ∷ 64 ∷ 64 ∷
    64 ∷ 64 ∷ 64 ∷ 64 ∷ 64 ∷ 64 ∷ 64 ∷ 64 ∷ 64 ∷ 64 ∷ 64 ∷ 64 ∷ 64 ∷ 64 ∷ 64 ∷ 64 ∷
    64 ∷ 64 ∷ 64 ∷ 64 ∷ 64 ∷ 64 ∷ 64 ∷ 64 ∷ 64 ∷ 64 ∷ 64 ∷ 64 ∷ 64 ∷ 64 ∷ 64 ∷ 64 ∷
    64 ∷ 64 ∷ 64 ∷ 64 ∷ 64 ∷ 64 ∷ 64 ∷ 64 ∷ 64 ∷ 64 ∷ 64 ∷ 64 ∷ 64 ∷ 64 ∷ 64 ∷ 64 ∷
    64 ∷ 64 ∷ 64 ∷ 64 ∷ 64 ∷ 64 ∷ 64 ∷ 64 ∷ 64 ∷ 64 ∷ 64 ∷ 64 ∷ 64 ∷ 64 ∷ 64 ∷ 64 ∷
    64 ∷ 64 ∷ 64 ∷ 64 ∷ 64 ∷ 64 ∷ 64 ∷ 64 ∷ 64 ∷ 64 ∷ 64 ∷ 64 ∷ 64 ∷ 64 ∷ 64 ∷ 64 ∷
    64 ∷ 64 ∷ 64 ∷ 64 ∷ 64 ∷ 64 ∷ 64 ∷ 64 ∷ 64 ∷ 64 ∷ 64 ∷ 64 ∷ 64 ∷ 64 ∷ 64 ∷ 64 ∷
    64 ∷ 64 ∷ 64 ∷ 64 ∷ 64 ∷ 64 ∷ 64 ∷ 64 ∷ 64 ∷ 64 ∷ 64 ∷ 64 ∷ 64 ∷ 64 ∷ 64 ∷ 64 ∷
    []

-- the values of the characters before the first pad character; what has no value is skipped
unfoldable pub values_of : List ℕ → List ℕ
values_of [] = []
values_of (b ∷ s) = pick (is_pad b) [] (pick (ltb (six_bits b) 64) (six_bits b ∷ values_of s) (values_of s))

-- the bytes of those from i on
abbrev pub bytes_from : List ℕ → ℕ → List ℕ
bytes_from run i = regroup (values_of (drop i run))

-- the values from i to j are the first `count` that were found
pub record Gathered (run : List ℕ) (i : ℕ) (found : List ℕ) (count j : ℕ) : Type 0 where
  pub few : count ≤ 4
  pub size : length found ≡ 4
  pub onward : i + count ≤ j
  pub inside : j ≤ length run
  pub are : values_of (drop i run) ≡ take count found ++ values_of (drop j run)
  pub small : (k : ℕ) → get_or found k 0 < 64

-- the next values from i on: four, or all that are left
pub record NextGroup (run : List ℕ) (i : ℕ) (g : Group) : Type 0 where
  pub gathered : Gathered run i g.values g.count g.end
  pub last : g.count < 4 → values_of (drop g.end run) ≡ []

-- n groups of four characters from i on, with nothing between them, are stored from `to` on: with what is left they make the whole
pub record WholeGroups (run : List ℕ) (i : ℕ) (out : List ℕ) (to n : ℕ) (out' : List ℕ) : Type 0 where
  pub inside : i + n * 4 ≤ length run
  pub reached : n * 3 + length (bytes_from run (i + n * 4)) ≡ length (bytes_from run i)
  pub stored : sets out to (bytes_from run i) ≡ sets out' (to + n * 3) (bytes_from run (i + n * 4))
