-- For `measure` and `write`, which pass over the tokens of a text: what has been counted, with what is left to count, makes the whole, and what is
-- left to store, stored from here on, makes the whole; a turn keeps it so. Assumes nothing.
use mathlib.Core.Path.{◌≡◌, refl, sym, ap, ◌∙◌}
use mathlib.Core.List.{List, [], ◌∷◌}
use Prim.Native.Nat.{ℕ, ◌+◌, ◌*◌, ◌-◌, ◌≤◌, ◌<◌}
use native.Mathlib.Omega.{arith}
use lib.ListN.{length}
use lib.Seq.{sets, length-sets}
use Rattle.base.specs.Bytes.{AreBytes}
use Rattle.base.proofs.Stores.{sets_append, empty}
use Rattle.base.proofs.Tests.{pick_case}
use Rattle.limits.specs.Limits.{max_message_size}
use Rattle.token.specs.Kind.{is_string}
use Rattle.token.specs.Layout.{record_width, report_width, record_numbers}
use Rattle.token.specs.Helpers.{Fits63, RecordFits, Walkable}
use Rattle.token.specs.Place.{first_place, place_at}
use Rattle.token.specs.declared.place.Place.{Place}
use Rattle.token.specs.declared.kind.TokenKind.{TokenKind}
use Rattle.token.proofs.KindNumbers.{IsEof, number_le}
use Rattle.token.proofs.Places.{first_walkable, to_place}
use Rattle.lexeme.specs.Helpers.{notes_numbers}
use Rattle.lexeme.proofs.Notes.{notes_length}
use Rattle.lexer.specs.Token.{found_at, found_end, token_of, next_token, string_size}
use Rattle.lexer.specs.declared.next.Found.{Found}
use Rattle.lexer.specs.declared.next.Token.{Token}
use Rattle.lexer.specs.declared.reading.Reading.{Reading}
use Rattle.reading.specs.Tokens.{tokens_from, tokens}
use Rattle.reading.specs.Buffers.{record_of, records_of, strings_of, reports_of, record_rows, report_rows, whole_laid, counts_of}
use Rattle.reading.specs.Passes.{RoomIn, StoredIn, TokenRoom, TokenPut, SameBuffers}
use Rattle.reading.specs.declared.counts.Counts.{Counts}
use Rattle.reading.specs.declared.put.Buffers.{Buffers}
use Rattle.reading.proofs.NextToken.{string_at, notes_at, numbers_at, reason_in, Read, start_bounded, string_few, reads, end_offset}
use Rattle.reading.proofs.From.{from_eof, from_more, from_head}
use Rattle.reading.proofs.Rows.{records_length, records_more, strings_more, strings_length, reports_length, reports_more}

-- ---- a token that a call gave

module _ (m : Reading) (limit : ℕ) (text : List ℕ) (at : ℕ) (h : at ≤ length text) (t : Token) (e : t ≡ next_token m limit text at) where
  pub read_of : Read m limit text at t
  read_of = rw e (reads m limit text at h)

  pub eof_of : IsEof t.kind → tokens_from m limit text at ≡ t ∷ []
  eof_of = rw e (from_eof m limit text at h)

  pub more_of : (IsEof t.kind → ⊥) → tokens_from m limit text at ≡ t ∷ tokens_from m limit text t.end.offset
  more_of = rw e (from_more m limit text at h)

  head_of : (ts : List Token) × (tokens_from m limit text at ≡ t ∷ ts)
  head_of = rw e (from_head m limit text at h)

  -- an Eof has neither string nor notes
  eof_string : IsEof t.kind → string_at m text t ≡ []
  eof_string k = let r = read_of in empty _ (omega (arith, string_few r, r.eof_start k, r.eof_end k))

  eof_notes : IsEof t.kind → notes_at m limit text t ≡ []
  eof_notes k = let r = read_of in empty _ (omega (arith, r.eof_start k, r.eof_end k))

  -- its numbers fit a record, where the text is read and the strings before it lie in the text's length
  pub record_fits : AreBytes text → length text ≤ max_message_size → (p : ℕ) → p ≤ length text → RecordFits (record_of p t)
  record_fits bytes short p l =
      let r = read_of in
      let b = start_bounded r in
      let k = number_le t.kind in
      let d = r.detail_in bytes in
      let n = reason_in t.reason in
      let v : Fits63 (record_of p t).value = pick_case Fits63 (is_string t.kind) (λ b. omega arith) (λ b. omega arith) in
      search arith

  pub numbers_length : length (numbers_at m limit text t) ≡ t.reports * report_width
  numbers_length = let r = read_of in omega (arith, notes_length text t.start.offset (notes_at m limit text t))

  -- buffers that hold what it counts have room for it
  pub token_room : AreBytes text → length text ≤ max_message_size → {n : Counts} {b : Buffers} → n.strings ≤ length text
      → n.tokens * record_width + record_width ≤ length b.tokens.now → n.strings + string_size t.kind t.size ≤ length b.strings.now
      → n.reports * report_width + t.reports * report_width ≤ length b.reports.now → TokenRoom m limit text t n b
  token_room bytes short {n = n} l a b c =
      let r = read_of in
      record {
        of_record = record { fits = record_fits bytes short n.strings l; inside = a };
        of_string = record { inside = omega arith; counted = r.string; fits = omega arith; limit = limit; ends = r.ends };
        of_notes = record {
          counted = r.notes;
          walkable = to_place t.start short r.start_true (omega arith);
          fits = omega (arith, numbers_length);
        };
      }

-- ---- the first pass

-- what has been counted is no more than the text so far; with what is counted from `at` on it is the whole
pub record Measuring (m : Reading) (limit : ℕ) (text : List ℕ) (at : ℕ) (n : Counts) : Type 0 where
  pub inside : at ≤ length text
  pub tokens_le : n.tokens ≤ at
  pub strings_le : n.strings ≤ at
  pub reports_le : n.reports ≤ at
  pub tokens_left : n.tokens + length (tokens_from m limit text at) ≡ length (tokens m limit text)
  pub strings_left : n.strings + length (strings_of m text (tokens_from m limit text at)) ≡ length (strings_of m text (tokens m limit text))
  pub reports_left : n.reports + length (reports_of m limit text (tokens_from m limit text at)) ≡ length (reports_of m limit text (tokens m limit text))

-- nothing has been counted yet
abbrev pub none_yet : Counts
none_yet = record { tokens = 0; strings = 0; reports = 0 }

-- which are the default
pub none_is : {c : Counts} → (c.tokens ≡ 0) × ((c.strings ≡ 0) × (c.reports ≡ 0)) → c ≡ none_yet
none_is {c} e =
    let whole : ◌≡◌ {A = Counts} (record { tokens = c.tokens; strings = c.strings; reports = c.reports }) none_yet =
    rw (e.0, e.1.0, e.1.1) refl in
    whole

-- the counts after a token of the kind, with a value of so many bytes and so many reports
abbrev pub counted_on : Counts → TokenKind → ℕ → ℕ → Counts
counted_on n k size reports = record { tokens = n.tokens + 1; strings = n.strings + string_size k size; reports = n.reports + reports }

pub measuring_start : (m : Reading) (limit : ℕ) (text : List ℕ) → Measuring m limit text 0 none_yet
unfolding tokens
measuring_start m limit text = search arith

nothing_left : (m : Reading) (limit : ℕ) (text : List ℕ) → (length (strings_of m text []) ≡ 0) × (length (reports_of m limit text []) ≡ 0)
unfolding strings_of reports_of
nothing_left m limit text = (refl, refl)

module _ {m : Reading} {limit : ℕ} {text : List ℕ} {at : ℕ} {n : Counts} (w : Measuring m limit text at n) where
  module _ {t : Token} (e : t ≡ next_token m limit text at) where
    next_read : Read m limit text at t
    next_read = read_of m limit text at w.inside t e

    -- no count is past the text
    pub counts_few : (n.tokens + 1 ≤ length text + 1) × (n.strings + string_size t.kind t.size ≤ length text) × (n.reports + t.reports ≤ length text)
    counts_few = let r = next_read in let z = string_few r in (omega arith, omega arith, omega arith)

    -- nor past the whole
    counts_in : (n.tokens + 1 ≤ length (tokens m limit text)) × (n.strings + string_size t.kind t.size ≤ length (strings_of m text (tokens m limit text)))
        × (n.reports + t.reports ≤ length (reports_of m limit text (tokens m limit text)))
    counts_in =
        let r = next_read in
        let q = head_of m limit text at w.inside t e in (
          omega (arith, rw q.1 at w.tokens_left),
          omega (arith, rw q.1 at w.strings_left, strings_length m limit text t q.0),
          omega (arith, rw q.1 at w.reports_left, reports_length m limit text t q.0),
        )

    turn_less : (IsEof t.kind → ⊥) → length text - t.end.offset < length text - at
    turn_less c = let r = next_read in omega (arith, r.forward c)

    turn : (IsEof t.kind → ⊥) → Measuring m limit text t.end.offset (counted_on n t.kind t.size t.reports)
    turn c =
        let r = next_read in
        let g = r.forward c in
        let q = more_of m limit text at w.inside t e c in
        let rest = tokens_from m limit text t.end.offset in
        record {
          inside = r.inside;
          tokens_le = omega arith;
          strings_le = omega (arith, string_few r);
          reports_le = omega arith;
          tokens_left = omega (arith, rw q at w.tokens_left);
          strings_left = omega (arith, rw q at w.strings_left, strings_length m limit text t rest);
          reports_left = omega (arith, rw q at w.reports_left, reports_length m limit text t rest);
        }

    counted : IsEof t.kind → record n { tokens = n.tokens + 1 } ≡ counts_of (whole_laid m limit text)
    counted c =
        let q = eof_of m limit text at w.inside t e c in
        let a = ap length (eof_string m limit text at w.inside t e c) in
        let b = ap length (eof_notes m limit text at w.inside t e c) in
        let z = nothing_left m limit text in
        let whole = whole_laid m limit text in
        let of_tokens : n.tokens + 1 ≡ length whole.records = omega (arith, rw q at w.tokens_left, records_length 0 (tokens m limit text)) in
        let of_strings : n.strings ≡ length whole.strings = omega (arith, rw q at w.strings_left, strings_length m limit text t []) in
        let of_reports : n.reports ≡ length whole.reports = omega (arith, rw q at w.reports_left, reports_length m limit text t []) in
        cc

  -- the same of what `next_lexeme` finds, which has offsets for places
  module _ {f : Found} (e : f ≡ found_at m limit text at) where
    found_next : token_of text f ≡ next_token m limit text at
    unfolding next_token
    found_next = ap (token_of text) e

    found_end_lem : (place_at text (found_end f)).offset ≡ found_end f
    found_end_lem = end_offset m limit text at w.inside f e

    pub measuring_few : (n.tokens + 1 ≤ length text + 1) × (n.strings + string_size f.lexeme.kind f.lexeme.size ≤ length text)
        × (n.reports + f.lexeme.reports ≤ length text) × (found_end f ≤ length text)
    measuring_few = let c = counts_few found_next in (c.0, c.1, c.2, rw found_end_lem at (next_read found_next).inside)

    pub measuring_less : (IsEof f.lexeme.kind → ⊥) → length text - found_end f < length text - at
    measuring_less c = rw found_end_lem at (turn_less found_next c)

    pub measuring_turn : (IsEof f.lexeme.kind → ⊥)
        → Measuring m limit text (found_end f) (counted_on n f.lexeme.kind f.lexeme.size f.lexeme.reports)
    measuring_turn c = rw found_end_lem at (turn found_next c)

    pub measuring_end : IsEof f.lexeme.kind → record n { tokens = n.tokens + 1 } ≡ counts_of (whole_laid m limit text)
    measuring_end = counted found_next

-- ---- the second pass

-- so much has been stored and counted; what is left from the place p on, stored from here on, makes the whole
pub record Passing (m : Reading) (limit : ℕ) (text : List ℕ) (b b' : Buffers) (p : Place) (n : Counts) : Type 0 where
  pub same : SameBuffers b b'
  pub counting : Measuring m limit text p.offset n
  pub walkable : Walkable text p p.offset
  pub room : RoomIn (whole_laid m limit text) b
  pub records : sets b'.tokens.now (n.tokens * record_width) (record_rows (records_of n.strings (tokens_from m limit text p.offset)))
      ≡ sets b.tokens.now 0 (record_rows (whole_laid m limit text).records)
  pub strings : sets b'.strings.now n.strings (strings_of m text (tokens_from m limit text p.offset)) ≡ sets b.strings.now 0 (whole_laid m limit text).strings
  pub reports : sets b'.reports.now (n.reports * report_width) (report_rows (reports_of m limit text (tokens_from m limit text p.offset)))
      ≡ sets b.reports.now 0 (report_rows (whole_laid m limit text).reports)
  pub tokens_kept : length b'.tokens.now ≡ length b.tokens.now
  pub strings_kept : length b'.strings.now ≡ length b.strings.now
  pub reports_kept : length b'.reports.now ≡ length b.reports.now

same_then : {a b d : Buffers} → SameBuffers a b → SameBuffers b d → SameBuffers a d
same_then h k = record { tokens = k.tokens ∙ h.tokens; strings = k.strings ∙ h.strings; reports = k.reports ∙ h.reports }

pub passing_start : (m : Reading) (limit : ℕ) (text : List ℕ) (b : Buffers) (p : Place) → p ≡ first_place → length text ≤ max_message_size
    → RoomIn (whole_laid m limit text) b → Passing m limit text b b p none_yet
unfolding tokens
passing_start m limit text b p e short h =
    rw e
    (record {
      same = record { tokens = refl; strings = refl; reports = refl };
      counting = measuring_start m limit text;
      walkable = first_walkable text first_place refl short 0 (omega arith);
      room = h;
      records = refl;
      strings = refl;
      reports = refl;
      tokens_kept = refl;
      strings_kept = refl;
      reports_kept = refl;
    })

module _ {m : Reading} {limit : ℕ} {text : List ℕ} {b b' : Buffers} {p : Place} {n : Counts} (w : Passing m limit text b b' p n) {t : Token} where
  module _ (e : t ≡ next_token m limit text p.offset) where
    pub passing_less : (IsEof t.kind → ⊥) → length text - t.end.offset < length text - p.offset
    passing_less = turn_less w.counting e

    pub passing_few : (n.tokens + 1 ≤ length text + 1) × (n.strings + string_size t.kind t.size ≤ length text) × (n.reports + t.reports ≤ length text)
    passing_few = counts_few w.counting e

    pub passing_room : AreBytes text → TokenRoom m limit text t n b'
    passing_room bytes =
        let v = w.room in
        let c = counts_in w.counting e in
        token_room m limit text p.offset w.walkable.inside t e bytes w.walkable.short (omega (arith, w.counting.strings_le))
        (omega (arith, records_length 0 (tokens m limit text))) (omega arith) (omega arith)

    module _ {b'' : Buffers} (q : SameBuffers b' b'') (d : TokenPut m limit text t n b' b'') where
      pub passing_turn : (IsEof t.kind → ⊥) → Passing m limit text b b'' t.end (counted_on n t.kind t.size t.reports)
      passing_turn c =
          let r = next_read w.counting e in
          let more = more_of m limit text p.offset w.walkable.inside t e c in
          let rest = tokens_from m limit text t.end.offset in
          let i : (n.tokens + 1) * record_width ≡ n.tokens * record_width + record_width = omega arith in
          let bytes = r.string in
          let next : ℕ = n.strings + string_size t.kind t.size in
          let j : (n.reports + t.reports) * report_width ≡ n.reports * report_width + length (numbers_at m limit text t) =
          omega (arith, numbers_length m limit text p.offset w.walkable.inside t e) in
          record {
            same = same_then w.same q;
            counting = turn w.counting e c;
            walkable = to_place t.end w.walkable.short r.end_true r.inside;
            room = w.room;
            records =
                rw (d.of_record, i)
                (sym (sets_append b'.tokens.now (n.tokens * record_width) (record_numbers (record_of n.strings t)) (record_rows (records_of next rest)))
                ∙ (rw (more, records_more m limit text t rest n.strings) at w.records));
            strings =
                rw (d.of_string, ← bytes)
                (sym (sets_append b'.strings.now n.strings (string_at m text t) _) ∙ (rw (more, strings_more m limit text t rest) at w.strings));
            reports =
                rw (d.of_notes, j)
                (sym (sets_append b'.reports.now _ (numbers_at m limit text t) _) ∙ (rw (more, reports_more m limit text t rest) at w.reports));
            tokens_kept = ap length d.of_record ∙ simp length-sets w.tokens_kept;
            strings_kept = ap length d.of_string ∙ simp length-sets w.strings_kept;
            reports_kept = ap length d.of_notes ∙ simp length-sets w.reports_kept;
          }

      pub passing_end : IsEof t.kind → SameBuffers b b'' × (record n { tokens = n.tokens + 1 } ≡ counts_of (whole_laid m limit text))
          × StoredIn (whole_laid m limit text) b b''
      unfolding records_of record_rows strings_of reports_of report_rows notes_numbers
      passing_end c =
          let last = eof_of m limit text p.offset w.walkable.inside t e c in
          let a = eof_string m limit text p.offset w.walkable.inside t e c in
          let z = eof_notes m limit text p.offset w.walkable.inside t e c in (
            same_then w.same q,
            counted w.counting e c,
            record {
              records = d.of_record ∙ (rw last at w.records);
              strings = (rw a at d.of_string) ∙ (rw (last, a) at w.strings);
              reports = (rw z at d.of_notes) ∙ (rw (last, z) at w.reports);
            },
          )
