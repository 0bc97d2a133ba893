-- What a read takes from the bytes that are left.
use Rattle.std.proofs.Common.{◌≡◌, ℕ, ◌+◌, ◌<◌, ◌≤◌, List, [], ◌++◌, length, take, drop, min, refl, sym, ap, ◌∙◌, arith}
use Rattle.std.proofs.lemmas.List.{take-append-le, length-take, length-drop, drop-drop, take-append-drop, nil_from_length, take_all}

-- a prefix that was copied over the beginning of a buffer is what stands there
pub same_prefix : (n : ℕ) (prefix rest bytes : List ℕ) → prefix ≡ take n bytes → n ≤ length bytes → take n (prefix ++ rest) ≡ take n bytes
same_prefix n prefix rest bytes same within =
    let long : n ≤ length prefix = omega (arith, ap length same, length-take n bytes) in
    let short : length (take n bytes) ≤ n = omega (arith, length-take n bytes) in
    take-append-le n prefix rest long ∙ ap (take n) same ∙ take_all n (take n bytes) short

-- the bytes from a place on are the prefix that was read and the bytes behind it; an empty read with room says that none is left
pub reads_prefix : (place n : ℕ) (bytes buffer : List ℕ) → n ≡ min (length (drop place bytes)) (length buffer) → take n buffer ≡ take n (drop place bytes)
    → (drop place bytes ≡ take n buffer ++ drop (place + n) bytes) × (n ≡ 0 → 0 < length buffer → drop (place + n) bytes ≡ [])
reads_prefix place n bytes buffer count prefix = (whole, ended)
  where
    whole : drop place bytes ≡ take n buffer ++ drop (place + n) bytes
    whole = rw (prefix, ← drop-drop n place bytes) (sym (take-append-drop n (drop place bytes)))

    ended : n ≡ 0 → 0 < length buffer → drop (place + n) bytes ≡ []
    ended zero room = nil_from_length (drop (place + n) bytes) (omega (arith, length-drop place bytes, length-drop (place + n) bytes))
