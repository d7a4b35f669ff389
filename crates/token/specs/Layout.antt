-- Token records and reports as rows of signed 64-bit numbers: document 01, "Places and records".
use Rattle.std.specs.Prelude.{List, [], ◌∷◌, ℕ, ℤ, pos}
use Rattle.token.specs.declared.layout.Record.{Record}
use Rattle.token.specs.declared.layout.Report.{Report}

-- Types of the code (src/layout.rt). `Record` and `Report`: the numbers that the two sentences below name, each under the name of its field; a value
-- and a precision have a place (`value`, `precision`) and a length (`size`, `digits`).

-- "A token record is twelve signed 64-bit numbers"
abbrev pub record_width : ℕ
record_width = 12

-- "A report is five signed 64-bit numbers"
abbrev pub report_width : ℕ
report_width = 5

-- "kind, reason, detail, start, end, line, column, value place, value length, precision place, precision length, nanoseconds"
abbrev pub record_numbers : Record → List ℤ
record_numbers r =
    pos r.kind ∷ pos r.reason ∷ pos r.detail ∷ pos r.start ∷ pos r.end ∷ pos r.line ∷ pos r.column
    ∷ pos r.value ∷ pos r.size ∷ pos r.precision ∷ pos r.digits ∷ r.nanos ∷ []

-- "reason, detail, offset, line, column"
abbrev pub report_numbers : Report → List ℤ
report_numbers r = pos r.reason ∷ pos r.detail ∷ pos r.offset ∷ pos r.line ∷ pos r.column ∷ []
