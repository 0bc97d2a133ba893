-- Lists and tests of several parts.
use Rattle.std.proofs.Common.{◌≡◌, Bool, true, ◌&&◌, List, [], ◌∷◌, ◌++◌, refl}
use Rattle.std.proofs.lemmas.Bool.{and_parts}

pub nil_parts : {A : Type 0} (xs ys : List A) → xs ++ ys ≡ [] → (xs ≡ []) × (ys ≡ [])
nil_parts [] ys h = (refl, h)
nil_parts (x ∷ xs) ys h = (absurd cc, absurd cc)

pub nil_three : {A : Type 0} (a b c : List A) → a ++ b ++ c ≡ [] → (a ≡ []) × (b ≡ []) × (c ≡ [])
nil_three a b c h =
    let last = nil_parts (a ++ b) c h in
    let two = nil_parts a b last.0 in
    (two.0, two.1, last.1)

pub nil_six : {A : Type 0} (a b c d e f : List A) → a ++ b ++ c ++ d ++ e ++ f ≡ [] → (a ≡ []) × (b ≡ []) × (c ≡ []) × (d ≡ []) × (e ≡ []) × (f ≡ [])
nil_six a b c d e f h =
    let last = nil_three (a ++ b ++ c ++ d) e f h in
    let two = nil_parts (a ++ b ++ c) d last.0 in
    let first = nil_three a b c two.0 in
    (first.0, first.1, first.2, two.1, last.1, last.2)

pub nil_seven : {A : Type 0} (a b c d e f g : List A) → a ++ b ++ c ++ d ++ e ++ f ++ g ≡ [] → (a ≡ []) × (b ≡ []) × (c ≡ []) × (d ≡ []) × (e ≡ []) × (f ≡ []) × (g ≡ [])
nil_seven a b c d e f g h =
    let last = nil_parts (a ++ b ++ c ++ d ++ e ++ f) g h in
    let first = nil_six a b c d e f last.0 in
    (first.0, first.1, first.2, first.3, first.4, first.5, last.1)

pub three_hold : (a b c : Bool) → (a && b && c) ≡ true → (a ≡ true) × (b ≡ true) × (c ≡ true)
three_hold a b c h =
    let last = and_parts (a && b) c h in
    let two = and_parts a b last.0 in
    (two.0, two.1, last.1)

pub five_hold : (a b c d e : Bool) → (a && b && c && d && e) ≡ true → (a ≡ true) × (b ≡ true) × (c ≡ true) × (d ≡ true) × (e ≡ true)
five_hold a b c d e h =
    let last = three_hold (a && b && c) d e h in
    let first = three_hold a b c last.0 in
    (first.0, first.1, first.2, last.1, last.2)

pub eight_hold : (a b c d e f g k : Bool) → (a && b && c && d && e && f && g && k) ≡ true
    → (a ≡ true) × (b ≡ true) × (c ≡ true) × (d ≡ true) × (e ≡ true) × (f ≡ true) × (g ≡ true) × (k ≡ true)
eight_hold a b c d e f g k h =
    let last = three_hold (a && b && c && d && e && f) g k h in
    let more = and_parts (a && b && c && d && e) f last.0 in
    let first = five_hold a b c d e more.0 in
    (first.0, first.1, first.2, first.3, first.4, more.1, last.1, last.2)
