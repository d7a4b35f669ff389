-- For `read_token` and the chain of its calls: its answers, each from the tests that led to it. Assumes nothing.
use mathlib.Core.Path.{◌≡◌, sym, ap}
use mathlib.Core.Bool.{true, false}
use mathlib.Core.List.{List, [], ◌∷◌}
use Prim.Native.Nat.{ℕ, ◌<◌}
use native.Mathlib.Omega.{arith}
use lib.IntN.{ℤ}
use lib.ListN.{length}
use borrow.Author.Tests.{lt-ltb}
use Rattle.std.specs.Prelude.{Ok, Err}
use Rattle.base.specs.Bytes.{AreBytes}
use Rattle.token.specs.Helpers.{Walkable}
use Rattle.token.specs.Layout.{record_width}
use Rattle.token.specs.declared.place.Place.{Place}
use Rattle.token.proofs.Places.{to_place}
use Rattle.lexer.specs.Token.{next_token, string_size}
use Rattle.lexer.specs.declared.next.Token.{Token}
use Rattle.lexer.specs.declared.reading.Reading.{Reading}
use Rattle.reading.specs.Buffers.{records_of, record_rows, counts_of, one_laid}
use Rattle.reading.specs.Refusals.{judge_of, room_of}
use Rattle.reading.specs.Answers.{is_place, read_token_answer}
use Rattle.reading.specs.Calls.{ReadsToken}
use Rattle.reading.specs.Passes.{Few, Room, AllStored, StoredIn, TokenRoom, TokenPut}
use Rattle.reading.specs.declared.counts.Counts.{Counts}
use Rattle.reading.specs.declared.put.Buffers.{Buffers}
use Rattle.reading.specs.declared.refusal.Refusal.{Refusal}
use Rattle.reading.specs.declared.refusal.Refusal.TheVariants.{NoPlace, TokensShort}
use Rattle.reading.specs.declared.one.OneToken.{OneToken}
use Rattle.reading.proofs.NextToken.{Read}
use Rattle.reading.proofs.Places.{place_is}
use Rattle.reading.proofs.Refusals.{untouched, fitting, enough}
use Rattle.reading.proofs.Rows.{records_length, one_strings, one_count, one_rows, written_lays}
use Rattle.reading.proofs.Turns.{none_yet, read_of, token_room}

-- what an accepted call gives
abbrev pub one_of : Reading → ℕ → List ℕ → Place → OneToken
one_of m limit text p =
    let l = one_laid m limit text p.offset in
    record { strings = length l.strings; reports = length l.reports; end = (next_token m limit text p.offset).end }

-- ---- the token after a place of a text that fits

module _ (m : Reading) (limit : ℕ) (text : List ℕ) (p : Place) (j : judge_of text ≡ Ok tt) (f : is_place text p ≡ true) where
  pub walkable : Walkable text p p.offset
  walkable = let w = place_is text p f in to_place p (fitting text j).0 w.true_place w.inside

  module _ {t : Token} (e : t ≡ next_token m limit text p.offset) where
    token_read : Read m limit text p.offset t
    token_read = read_of m limit text p.offset walkable.inside t e

    -- what it counts is what it lays
    pub counted : {s : ℕ} → s ≡ string_size t.kind t.size
        → ◌≡◌ {A = Counts} (record { tokens = 1; strings = s; reports = t.reports }) (counts_of (one_laid m limit text p.offset))
    counted {s} z =
        let r = token_read in
        let l = one_laid m limit text p.offset in
        let of_tokens : 1 ≡ length l.records = sym (records_length 0 (next_token m limit text p.offset ∷ [])) in
        let of_strings : s ≡ length l.strings = rw (← e) (omega (arith, ap length (one_strings m limit text t))) in
        let of_reports : t.reports ≡ length l.reports = rw (← e) (omega (arith, one_count m limit text t)) in
        cc

    -- the product of the count and the width does not wrap
    pub few : {s : ℕ} → Few (record { tokens = 1; strings = s; reports = t.reports })
    few = let r = token_read in let h = (fitting text j).0 in record { tokens = omega arith; reports = omega arith }

-- ---- the refusals

module _ {m : Reading} {limit : ℕ} {text : List ℕ} {p : Place} {T : List ℤ} {S : List ℕ} {R : List ℤ} where
  -- a refusal leaves the buffers as they are
  refused : (x : Refusal) → Err x ≡ read_token_answer m limit text p (length T) (length S) (length R) → ReadsToken m limit text p T S R (Err x) T S R
  refused x e = record { answer = e; lays = untouched x (one_laid m limit text p.offset) T S R }

  pub unfit : {x : Refusal} → judge_of text ≡ Err x → ReadsToken m limit text p T S R (Err x) T S R
  unfolding read_token_answer
  unfit {x} j = refused x (rw j)

  pub no_place : judge_of text ≡ Ok tt → is_place text p ≡ false → ReadsToken m limit text p T S R (Err NoPlace) T S R
  unfolding read_token_answer
  no_place j f = refused NoPlace (rw (j, f))

  pub short : judge_of text ≡ Ok tt → is_place text p ≡ true → {x : Refusal}
      → room_of (counts_of (one_laid m limit text p.offset)) (length T) (length S) (length R) ≡ Err x → ReadsToken m limit text p T S R (Err x) T S R
  unfolding read_token_answer
  short j f {x} s = refused x (rw (j, f, s))

  -- one record has no room, before it is known which
  pub no_record : judge_of text ≡ Ok tt → is_place text p ≡ true → length T < record_width → ReadsToken m limit text p T S R (Err TokensShort) T S R
  unfolding room_of
  no_record j f h = short j f (rw (records_length 0 (next_token m limit text p.offset ∷ []), lt-ltb _ _ h))

-- ---- the accepted answer

-- what has passed all checks: the token t after the place p, whose string has s bytes, and buffers that hold it
pub record Passed (m : Reading) (limit : ℕ) (text : List ℕ) (p : Place) (T : List ℤ) (S : List ℕ) (R : List ℤ) (t : Token) (s : ℕ) : Type 0 where
  pub fit : judge_of text ≡ Ok tt
  pub place : is_place text p ≡ true
  pub token : t ≡ next_token m limit text p.offset
  pub size : s ≡ string_size t.kind t.size
  pub room : room_of (counts_of (one_laid m limit text p.offset)) (length T) (length S) (length R) ≡ Ok tt

module _ {m : Reading} {limit : ℕ} {text : List ℕ} {p : Place} {T : List ℤ} {S : List ℕ} {R : List ℤ} {t : Token} {s : ℕ}
    (w : Passed m limit text p T S R t s) where
  fits : Room (one_laid m limit text p.offset) (length T) (length S) (length R)
  fits = enough w.room

  counts_are : ◌≡◌ {A = Counts} (record { tokens = 1; strings = s; reports = t.reports }) (counts_of (one_laid m limit text p.offset))
  counts_are = counted m limit text p w.fit w.place w.token w.size

  one_is : ◌≡◌ {A = OneToken} (record { strings = s; reports = t.reports; end = t.end }) (one_of m limit text p)
  one_is =
      let of_strings = ap (λ (c : Counts). c.strings) counts_are in
      let of_reports = ap (λ (c : Counts). c.reports) counts_are in
      let of_end = ap (λ (u : Token). u.end) w.token in
      cc

  -- what has passed has room for the token, and storing it lays it
  module _ {b : Buffers} where
    pub room : AreBytes text → b.tokens.now ≡ T → b.strings.now ≡ S → b.reports.now ≡ R → TokenRoom m limit text t none_yet b
    room bytes et es er =
        let h = walkable m limit text p w.fit w.place in
        let f : Room (one_laid m limit text p.offset) (length T) (length S) (length R) = fits in
        let of_tokens = ap (λ (c : Counts). c.tokens) counts_are in
        let of_strings = ap (λ (c : Counts). c.strings) counts_are in
        let of_reports = ap (λ (c : Counts). c.reports) counts_are in
        let z = w.size in
        token_room m limit text p.offset h.inside t w.token bytes h.short (omega arith) (omega (arith, ap length et)) (omega (arith, ap length es))
        (omega (arith, ap length er))

    pub stored : {b' : Buffers} → TokenPut m limit text t none_yet b b' → StoredIn (one_laid m limit text p.offset) b b'
    unfolding records_of record_rows
    stored d =
        rw (← w.token)
        (record {
          records = d.of_record;
          strings = rw (one_strings m limit text t) d.of_string;
          reports = rw (one_rows m limit text t) d.of_notes;
        })

  pub done : {T' : List ℤ} {S' : List ℕ} {R' : List ℤ} → AllStored (one_laid m limit text p.offset) T S R T' S' R'
      → ReadsToken m limit text p T S R (Ok (record { strings = s; reports = t.reports; end = t.end })) T' S' R'
  unfolding read_token_answer
  done d = record { answer = rw (w.fit, w.place, w.room, one_is); lays = written_lays fits d }
