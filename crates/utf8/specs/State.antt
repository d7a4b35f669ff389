-- Helper definitions, for proofs and inner contracts alone: the check one byte at a time, by what the character that has begun still wants.
use Rattle.std.specs.Prelude.{Bool, true, false, ◌&&◌, List, [], ◌∷◌, ℕ, zero, suc, ltb, length}
use Rattle.base.specs.Choice.{pick}
use Rattle.base.specs.Bytes.{within}
use Rattle.utf8.specs.Grammar.{Range, utf8_char}
use Rattle.utf8.specs.Check.{is_tail}
use Rattle.utf8.specs.declared.state.State.{State}
use Rattle.utf8.specs.declared.state.State.TheVariants.{Between, Wants, IllFormed}

-- Types of the code (src/state.rt). `State`: `Between`, where no character has begun; `Wants lo hi tails`, where one still wants an octet from `lo` to
-- `hi` and then so many UTF8-tails; `IllFormed`, where no character begins or goes on so, and it stays so.

-- so many UTF8-tails are wanted
abbrev pub tails_left : ℕ → State
tails_left zero = Between
tails_left (suc n) = Wants 0x80 0xBF n

-- what an alternative wants after its first octet: those after its second are UTF8-tails
abbrev pub after_first : List Range → State
after_first [] = Between
after_first (r ∷ rs) = Wants r.lo r.hi (length rs)

-- what the alternative whose first octet is a wants after it
abbrev pub after_lead : List (List Range) → ℕ → State
after_lead [] a = IllFormed
after_lead ([] ∷ more) a = after_lead more a
after_lead ((r ∷ rs) ∷ more) a = pick (within r.lo r.hi a) (after_first rs) (after_lead more a)

-- what the first byte of a character wants after it
unfoldable pub lead_of : ℕ → State
unfolding utf8_char
lead_of a = after_lead utf8_char a

-- document 01: "for a multi-byte character the count of leading one bits in its first byte gives its length"; a is from 0xC2 to 0xF4
unfoldable pub length_of : ℕ → ℕ
length_of a = pick (ltb a 0xE0) 2 (pick (ltb a 0xF0) 3 4)

-- the list begins with n UTF8-tails
abbrev pub tails : ℕ → List ℕ → Bool
tails zero s = true
tails (suc n) [] = false
tails (suc n) (b ∷ s) = is_tail b && tails n s

-- the length of a character after whose first octet t is wanted and s stands, or 0 where s does not begin so
abbrev pub size_after : State → List ℕ → ℕ
size_after Between s = 1
size_after (Wants lo hi n) [] = 0
size_after (Wants lo hi n) (b ∷ s) = pick (within lo hi b && tails n s) (suc (suc n)) 0
size_after IllFormed s = 0

-- what is wanted after one byte more
unfoldable pub push : State → ℕ → State
push Between b = lead_of b
push (Wants lo hi n) b = pick (within lo hi b) (tails_left n) IllFormed
push IllFormed b = IllFormed

-- no character has begun
abbrev pub is_between : State → Bool
is_between Between = true
is_between (Wants lo hi n) = false
is_between IllFormed = false

-- what is wanted after all the bytes of a list
unfoldable pub push_all : State → List ℕ → State
push_all t [] = t
push_all t (b ∷ bs) = push_all (push t b) bs
