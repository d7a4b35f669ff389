-- For `decode_bytes` and its callers: the answer and the buffer by the verdict on the run. A run that decodes is UTF-8, so that the verdict alone decides.
-- Assumes nothing.
use Rattle.std.specs.Prelude.{Some, None, Result, Ok, Err}
use mathlib.Core.Path.{◌≡◌, refl, sym, ap, ◌∙◌}
use mathlib.Core.Bool.{true, and-false}
use mathlib.Core.List.{List}
use Prim.Native.Nat.{ℕ, ◌≤◌, ◌<◌}
use native.Mathlib.Omega.{arith}
use borrow.Author.Tests.{eq-eqb, lt-ltb, le-ltb, ltb-false}
use lib.Dec.{eqb, ltb}
use lib.ListN.{length, drop, length-append}
use lib.Seq.{sets}
use Rattle.base.proofs.Tests.{by_cases, pick_case, pick_first, pick_second, zero_one}
use Rattle.base.proofs.Stores.{overlaid}
use Rattle.utf8.specs.Grammar.{valid_to}
use Rattle.utf8.proofs.Valid.{octets_valid}
use Rattle.base64_lenient.specs.Lenient.{decodes, decoded}
use Rattle.base64_lenient.specs.Calls.{decoded_value, is_decodable, decode_answer, DecodesBytes}
use Rattle.base64_lenient.specs.Helpers.{judge_of, bytes_from}
use Rattle.base64_lenient.specs.declared.decode.Refusal.{Refusal}
use Rattle.base64_lenient.specs.declared.decode.Refusal.TheVariants.{BadRun, BufferShort}
use Rattle.base64_lenient.proofs.Rfc4648.{decodes_rfc4648}
use Rattle.base64_lenient.proofs.Values.{decoded_is}

decodable_is : (run : List ℕ) → is_decodable run ≡ decodes run
unfolding is_decodable
decodable_is run =
    by_cases (decodes run) (λ e. rw (e, eq-eqb _ _ (octets_valid (decodes_rfc4648.utf8 run e)))) (λ e. rw (e, and-false (eqb (valid_to run) (length run))))

-- the run fails
pub refused : (run out : List ℕ) → judge_of run ≡ None → DecodesBytes run out (Err BadRun) out
unfolding judge_of decode_answer
refused run out j =
    let e = (pick_second (decodes run) (λ z. zero_one (cc)) j).0 in
    record { answer = rw (decodable_is run, e); buffer = refl }

-- the run decodes to n bytes
module _ (run : List ℕ) (n : ℕ) (j : judge_of run ≡ Some n) where
  by_verdict : (decodes run ≡ true) × (length (decoded run) ≡ n)
  unfolding judge_of
  by_verdict = let e = pick_first (decodes run) (λ z. zero_one (cc)) j in (e.0, let z = e.1 in cc)

  pub bytes_written : length (bytes_from run 0) ≡ n
  bytes_written = ap length (decoded_is run by_verdict.0) ∙ by_verdict.1

  module _ (out : List ℕ) where
    pub short : length out < n → DecodesBytes run out (Err BufferShort) out
    unfolding decode_answer
    short h = record { answer = rw (decodable_is run, by_verdict.0, by_verdict.1, lt-ltb (length out) n h); buffer = refl }

    pub filled : n ≤ length out → (o : List ℕ) → o ≡ sets out 0 (bytes_from run 0) → DecodesBytes run out (Ok n) o
    unfolding decode_answer
    filled h o q =
        record {
          answer = rw (decodable_is run, by_verdict.0, by_verdict.1, le-ltb (length out) n h);
          buffer = q ∙ rw (decoded_is run by_verdict.0) (overlaid (decoded run) out (omega (arith, by_verdict.1)));
        }

-- no more bytes are written than the buffer has, before the call and after it
pub decoded_inside : (run : List ℕ) (n : ℕ) (r : Result ℕ Refusal) → r ≡ decode_answer run n → decoded_value r ≤ n
unfolding decode_answer
decoded_inside run n r e =
    rw e
    (pick_case (λ (x : Result ℕ Refusal). decoded_value x ≤ n) (is_decodable run)
    (λ p. pick_case (λ (x : Result ℕ Refusal). decoded_value x ≤ n) (ltb n (length (decoded run))) (λ q. omega arith) (λ q. ltb-false n (length (decoded run)) q))
    (λ p. omega arith))

bytes_are : (run : List ℕ) (m n : ℕ) → decode_answer run m ≡ Ok n → n ≡ length (decoded run)
unfolding decode_answer
bytes_are run m n e =
    let f = (pick_first (is_decodable run) (λ z. zero_one (cc)) e).1 in
    let g = (pick_second (ltb m (length (decoded run))) (λ z. zero_one (cc)) f).1 in
    cc

pub value_inside : {run out out' : List ℕ} (r : Result ℕ Refusal) → DecodesBytes run out r out' → decoded_value r ≤ length out'
value_inside {run} {out} (Ok n) w =
    let e = bytes_are run (length out) n (sym w.answer) in
    omega (arith, ap length w.buffer, length-append (decoded run) (drop (length (decoded run)) out))
value_inside (Err e) w = omega arith

-- what `decode_bytes` needs at its call and where a run is refused
pub ruleset outcomes = (refused, bytes_written)
