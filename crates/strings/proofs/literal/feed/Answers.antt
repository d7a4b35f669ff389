-- `feed` meets its contract: the bytes pushed and the bytes left make the whole. Assumes nothing.
use mathlib.Core.Path.{◌≡◌, sym, ◌∙◌}
use Prim.Native.Nat.{ℕ, ◌+◌, ◌≤◌, ◌<◌}
use native.Mathlib.Omega.{arith}
use borrow.Author.Rules.{rules}
use lib.ListN.{length, length-take}
use lib.Seq.{get_or-take}
use Rattle.base.specs.Bytes.{byte}
use Rattle.utf8.specs.Character.{octets_of}
use Rattle.utf8.specs.declared.character.Encoded.{Encoded}
use Rattle.utf8.proofs.States.{push_turn, push_end}
use Rattle.strings.proofs.literal.feed.Goals.{Joined-k-encoded, then-k-encoded, else-k-encoded}
use Rattle.strings.proofs.literal.feed.Goals as goal

pub loop-k-preserved : goal.loop-k-preserved
loop-k-preserved c =
    let e = c.args.encoded in
    let k = c.loop-k.k in
    elim c.if-k-encoded.branch [
      | then-k-encoded w ↦
          let four : length e.bytes ≡ 4 = search rules in
          let h : k < length (octets_of e) = omega (arith, w.if-k-encoded.true, length-take e.len e.bytes, c.requires) in
          let b : byte (octets_of e) k ≡ byte e.bytes k = get_or-take e.len e.bytes k 0 w.if-k-encoded.true in
          rw w.state-is (push_turn (octets_of e) k c.loop-k.state _ h (rw b w.push-state.ensures) ∙ c.loop-k.invariant)
      | else-k-encoded w ↦
          let h : length (octets_of e) ≤ k = omega (arith, w.if-k-encoded.false, length-take e.len e.bytes) in
          let same = push_end (octets_of e) (k + 1) c.loop-k.state (omega (arith, h)) ∙ sym (push_end (octets_of e) k c.loop-k.state h) in
          rw w.state-is (same ∙ c.loop-k.invariant)
    ]

pub returns : goal.returns
returns c =
    let e = c.args.encoded in
    let h : length (octets_of e) ≤ c.loop-k.k = omega (arith, c.loop-k-test.false, length-take e.len e.bytes, c.requires) in
    sym (push_end (octets_of e) c.loop-k.k c.loop-k.state h) ∙ c.loop-k.invariant
