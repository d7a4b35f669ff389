-- Document 01's example of a listing: "For `a = 1.5s` and a newline".
use Rattle.std.specs.Prelude.{◌≡◌, List, ◌++◌, ℕ}
use Rattle.base.specs.Characters.{ascii}
use Rattle.listing_lines.specs.Listing.{printed}

-- the text
abbrev pub example_text : List ℕ
example_text = ascii "a = 1.5s\n"

-- its lines
abbrev pub example_lines : List ℕ
example_lines =
    ascii "0 1 1 1 4 0 0\n"
    ++ ascii "2 3 1 3 19 0 0\n"
    ++ ascii "4 8 1 5 12 0 1500000000\n"
    ++ ascii "8 9 1 9 2 0 0\n"
    ++ ascii "9 9 2 1 0 0 0\n"

-- the example is listed as the paper says
abbrev pub ExampleListed : Type 0
ExampleListed = printed example_text ≡ example_lines
