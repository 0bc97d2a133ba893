-- What the pending bytes are after a read.
use Rattle.std.proofs.Common.{◌≡◌, ℕ, ◌+◌, ◌≤◌, cond, eqb, List, ◌++◌, length, take, Option, None, Some, refl, ap, ◌∙◌, arith, length-append}
use Rattle.std.proofs.lemmas.List.{append_assoc, take-append-le, take_at, drop_at, length-take-le}
use Rattle.std.proofs.Math.Seq.{take-add}
use Rattle.std.proofs.lemmas.Bool.Decides.{nat_tests}
use Rattle.std.specs.Io.KnownBytes.{Consumes, IsAtEnd, Keeps}
use Rattle.byte_streams.specs.Cutting.{Pending, to_come, FitsSource, IsFilled}

-- the front of bytes whose first ones were kept and into whose others a read wrote
pub read_behind : (kept n : ℕ) (bytes buffer rest : List ℕ) → kept ≤ length bytes → n ≤ length buffer → take (kept + n) (take kept bytes ++ (buffer ++ rest)) ≡ take kept bytes ++ take n buffer
read_behind kept n bytes buffer rest within read =
    let long : length (take kept bytes) ≡ kept = length-take-le kept bytes within in
    take-add kept n (take kept bytes ++ (buffer ++ rest))
    ∙ rw (take_at (take kept bytes) (buffer ++ rest) kept long, drop_at (take kept bytes) (buffer ++ rest) kept long, take-append-le n buffer rest read) refl

-- the bytes to come are the same after a read
pub filled : (old now : Pending) (before left : Option (List ℕ)) (read : List ℕ) → now.taken ≡ old.taken → now.bytes ≡ old.bytes ++ read → now.ended ≡ eqb (length read) 0
    → Consumes before left read → (length read ≡ 0 → IsAtEnd left) → IsFilled old before now left
filled old now before left read taken bytes ended consumed end = ((taken, kept before left consumed), fits, more)
  where
    kept : (before left : Option (List ℕ)) → Consumes before left read → Keeps (to_come old before) (to_come now left)
    kept None left h = tt
    kept (Some xs) None h = h
    kept (Some xs) (Some ys) h = rw (bytes, h) (append_assoc old.bytes read ys)

    fits : FitsSource now left
    fits e = end (grind (arith, nat_tests))

    more : length old.bytes + cond now.ended 0 1 ≤ length now.bytes
    more = grind (arith, nat_tests, ap length bytes, length-append old.bytes read)
