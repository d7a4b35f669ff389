-- Document 01's "Boats in miniature", one case as document 02 changes it: each text with its mode and limit, the numbers of its tokens, its strings
-- and its reports.
use Rattle.std.specs.Prelude.{◌≡◌, List, [], ◌∷◌, ◌++◌, map, ℕ, ℤ, pos, negsuc}
use Rattle.base.specs.Characters.{ascii}
use Rattle.limits.specs.Limits.{max_bytes_literal_length}
use Rattle.lexer.specs.declared.reading.Reading.{Reading}
use Rattle.lexer.specs.declared.reading.Reading.TheVariants.{Strict, Tolerant}
use Rattle.reading.specs.Buffers.{record_rows, report_rows, Laid, whole_laid}

-- Types that other files explain: `Reading` in lexer/specs/Reading.antt.

-- the numbers of a token: "kind, reason, detail, start, end, line, column, value place, value length, precision place, precision length,
-- nanoseconds"
abbrev row : ℕ → ℕ → ℕ → ℕ → ℕ → ℕ → ℕ → ℕ → ℕ → ℕ → ℕ → ℤ → List ℤ
row kind reason detail start end line column value size precision digits nanos =
    pos kind ∷ pos reason ∷ pos detail ∷ pos start ∷ pos end ∷ pos line ∷ pos column ∷ pos value ∷ pos size ∷ pos precision ∷ pos digits
    ∷ nanos ∷ []

-- the numbers of a report: "reason, detail, offset, line, column"
abbrev report : ℕ → ℕ → ℕ → ℕ → ℕ → List ℤ
report reason detail offset line column = pos reason ∷ pos detail ∷ pos offset ∷ pos line ∷ pos column ∷ []

-- a text, how it is read, and what its tokens, strings and reports are
pub record Case : Type 0 where
  pub text : List ℕ
  pub mode : Reading
  pub limit : ℕ
  pub tokens : List (List ℤ)
  pub strings : List ℕ
  pub reports : List (List ℤ)

-- what the three buffers hold
pub record Held : Type 0 where
  pub records : List ℤ
  pub strings : List ℕ
  pub reports : List ℤ

-- rows of numbers, one after the other
abbrev flat : List (List ℤ) → List ℤ
flat [] = []
flat (r ∷ rs) = r ++ flat rs

-- what a case wants in them
abbrev pub wanted : Case → Held
wanted c = record { records = flat c.tokens; strings = c.strings; reports = flat c.reports }

-- what is laid, as it is stored
abbrev stored : Laid → Held
stored l = record { records = record_rows l.records; strings = l.strings; reports = report_rows l.reports }

-- what the whole reading lays into them
abbrev pub held : Case → Held
held c = stored (whole_laid c.mode c.limit c.text)

-- the table
unfoldable pub cases : List Case
cases =
    record {
      text = [];
      mode = Strict;
      limit = max_bytes_literal_length;
      tokens = row 0 0 0 0 0 1 1 0 0 0 0 (pos 0) ∷ [];
      strings = [];
      reports = [];
    }
    ∷ record {
      text = ascii "1.ms";
      mode = Strict;
      limit = max_bytes_literal_length;
      tokens = row 7 0 0 0 2 1 1 0 2 0 0 (pos 0) ∷ row 4 0 0 2 4 1 3 2 2 0 0 (pos 0) ∷ row 0 0 0 4 4 1 5 4 0 0 0 (pos 0) ∷ [];
      strings = [];
      reports = [];
    }
    ∷ record {
      text = ascii "1.5ms";
      mode = Strict;
      limit = max_bytes_literal_length;
      tokens = row 12 0 0 0 5 1 1 0 5 0 0 (pos 1500000) ∷ row 0 0 0 5 5 1 6 5 0 0 0 (pos 0) ∷ [];
      strings = [];
      reports = [];
    }
    ∷ record {
      text = ascii "/* a";
      mode = Strict;
      limit = max_bytes_literal_length;
      tokens = row 1 2 0 0 3 1 1 3 0 0 0 (pos 0) ∷ row 4 0 0 3 4 1 4 3 1 0 0 (pos 0) ∷ row 0 0 0 4 4 1 5 4 0 0 0 (pos 0) ∷ [];
      strings = [];
      reports = [];
    }
    ∷ record {
      text = ascii "/* a";
      mode = Tolerant;
      limit = max_bytes_literal_length;
      tokens = row 3 0 0 0 4 1 1 0 4 0 0 (pos 0) ∷ row 0 0 0 4 4 1 5 4 0 0 0 (pos 0) ∷ [];
      strings = [];
      reports = report 2 0 0 1 1 ∷ [];
    }
    ∷
    -- `"\é"`, strict
    record {
      text = ascii "\"\\" ++ (0xC3 ∷ 0xA9 ∷ ascii "\"");
      mode = Strict;
      limit = max_bytes_literal_length;
      tokens = row 1 9 195 0 4 1 1 4 0 0 0 (pos 0) ∷ row 1 10 0 4 5 1 5 5 0 0 0 (pos 0) ∷ row 0 0 0 5 5 1 6 5 0 0 0 (pos 0) ∷ [];
      strings = [];
      reports = [];
    }
    ∷ record {
      text = ascii "\"\\u12zz\"";
      mode = Tolerant;
      limit = max_bytes_literal_length;
      tokens = row 5 0 0 0 8 1 1 0 4 0 0 (pos 0) ∷ row 0 0 0 8 8 1 9 8 0 0 0 (pos 0) ∷ [];
      strings = ascii "\\uzz";
      reports = report 7 0 2 1 3 ∷ [];
    }
    ∷ record {
      text = ascii "-9223372036854775808ns";
      mode = Strict;
      limit = max_bytes_literal_length;
      tokens = row 12 0 0 0 22 1 1 0 22 0 0 (negsuc 9223372036854775807) ∷ row 0 0 0 22 22 1 23 22 0 0 0 (pos 0) ∷ [];
      strings = [];
      reports = [];
    }
    ∷ record {
      text = ascii "9223372036854775808ns";
      mode = Strict;
      limit = max_bytes_literal_length;
      tokens = row 1 18 0 0 21 1 1 21 0 0 0 (pos 0) ∷ row 0 0 0 21 21 1 22 21 0 0 0 (pos 0) ∷ [];
      strings = [];
      reports = [];
    }
    ∷ record {
      text = ascii "9223372036854775808ns9223372036854775808ns";
      mode = Strict;
      limit = max_bytes_literal_length;
      tokens = row 1 18 0 0 42 1 1 42 0 0 0 (pos 0) ∷ row 0 0 0 42 42 1 43 42 0 0 0 (pos 0) ∷ [];
      strings = [];
      reports = [];
    }
    ∷ record {
      text = ascii "b\"AAAA\"";
      mode = Strict;
      limit = 3;
      tokens = row 10 0 0 0 7 1 1 2 4 0 0 (pos 0) ∷ row 0 0 0 7 7 1 8 7 0 0 0 (pos 0) ∷ [];
      strings = [];
      reports = [];
    }
    ∷ record {
      text = ascii "b\"AAAA\"";
      mode = Strict;
      limit = 2;
      tokens = row 1 13 0 0 6 1 1 6 0 0 0 (pos 0) ∷ row 1 10 0 6 7 1 7 7 0 0 0 (pos 0) ∷ row 0 0 0 7 7 1 8 7 0 0 0 (pos 0) ∷ [];
      strings = [];
      reports = [];
    }
    ∷
    -- document 02, #101: "The `2024-` case becomes reason 21."
    record {
      text = ascii "2024-";
      mode = Strict;
      limit = max_bytes_literal_length;
      tokens = row 1 21 0 0 5 1 1 5 0 0 0 (pos 0) ∷ row 0 0 0 5 5 1 6 5 0 0 0 (pos 0) ∷ [];
      strings = [];
      reports = [];
    }
    ∷ record {
      text = ascii "-2024-";
      mode = Strict;
      limit = max_bytes_literal_length;
      tokens = row 6 0 0 0 5 1 1 0 5 0 0 (pos 0) ∷ row 1 17 0 5 6 1 6 6 0 0 0 (pos 0) ∷ row 0 0 0 6 6 1 7 6 0 0 0 (pos 0) ∷ [];
      strings = [];
      reports = [];
    }
    ∷ record {
      text = ascii "12p3";
      mode = Strict;
      limit = max_bytes_literal_length;
      tokens = row 6 0 0 0 4 1 1 0 2 3 1 (pos 0) ∷ row 0 0 0 4 4 1 5 4 0 0 0 (pos 0) ∷ [];
      strings = [];
      reports = [];
    }
    ∷ record {
      text = ascii "12p";
      mode = Strict;
      limit = max_bytes_literal_length;
      tokens = row 6 0 0 0 2 1 1 0 2 0 0 (pos 0) ∷ row 4 0 0 2 3 1 3 2 1 0 0 (pos 0) ∷ row 0 0 0 3 3 1 4 3 0 0 0 (pos 0) ∷ [];
      strings = [];
      reports = [];
    }
    ∷
    -- `5μs`, strict
    record {
      text = ascii "5" ++ (0xCE ∷ 0xBC ∷ ascii "s");
      mode = Strict;
      limit = max_bytes_literal_length;
      tokens = row 6 0 0 0 1 1 1 0 1 0 0 (pos 0) ∷ row 1 1 956 1 3 1 2 3 0 0 0 (pos 0)
          ∷ row 4 0 0 3 4 1 4 3 1 0 0 (pos 0) ∷ row 0 0 0 4 4 1 5 4 0 0 0 (pos 0) ∷ [];
      strings = [];
      reports = [];
    }
    ∷ []

-- the lone theorem: every case is laid as the papers say
abbrev pub AsThePaperSays : Type 0
AsThePaperSays = map held cases ≡ map wanted cases
