-- Ends of a text, one after another.
use Rattle.std.proofs.Common.{◌≡◌, ℕ, ◌+◌, ◌-◌, ◌<◌, ◌≤◌, Bool, true, false, ◌&&◌, ◌||◌, cond, eqb, List, [], ◌∷◌, ◌++◌, length, get_or, drop, refl, sym, ◌∙◌, ap, arith, length-append}
use Rattle.std.proofs.lemmas.List.{drop_more, drop_all}
use Rattle.std.proofs.lemmas.Grind.{common_steps}
use Rattle.sql_semantics.specs.Texts.{fits, stands_for}
use Rattle.query_steps.specs.Ends.{AreEndsTo, AreEnds, next_end}

ends_push_at : (i : ℕ) (p t : List ℕ) (ends : List Bool) (b : Bool) (len : length ends ≡ i + 1) (each : (k : ℕ) → k ≤ i → get_or ends k false ≡ fits p (drop (length t - k) t)) → b ≡ fits p (drop (length t - (i + 1)) t) → (k : ℕ) → k ≤ i + 1 → get_or (ends ++ b ∷ []) k false ≡ fits p (drop (length t - k) t)
ends_push_at i p t ends b len each e k le = grind (arith, common_steps, each k)

pub ends_push : (i : ℕ) (p t : List ℕ) (ends : List Bool) (b : Bool) → AreEndsTo i p t ends → b ≡ fits p (drop (length t - (i + 1)) t) → AreEndsTo (i + 1) p t (ends ++ b ∷ [])
ends_push i p t ends b h e = record { len = omega (arith, h.len, length-append ends (b ∷ [])); each = ends_push_at i p t ends b h.len h.each e }

none_at : (t : List ℕ) (k : ℕ) → k < length t → fits [] (drop k t) ≡ false
none_at t k l = rw (drop_more t k 0 l) refl

pub ends_none : (t : List ℕ) → AreEndsTo 0 [] t (true ∷ [])
ends_none t = record { len = refl; each = λ k le. grind (arith, common_steps) }

pub ends_none_more : (i : ℕ) (t : List ℕ) (ends : List Bool) → AreEndsTo i [] t ends → i < length t → AreEndsTo (i + 1) [] t (ends ++ false ∷ [])
ends_none_more i t ends h l = ends_push i [] t ends false h (sym (none_at t (length t - (i + 1)) (omega arith)))

first_by : (w : ℕ) (later : List ℕ) (b : Bool) → eqb w 37 ≡ b → (b && fits later []) ≡ fits (w ∷ later) []
first_by w later true e = rw e refl
first_by w later false e = rw e refl

only : (w : ℕ) (later t : List ℕ) (b : Bool) → b ≡ fits (w ∷ later) [] → AreEndsTo 0 (w ∷ later) t (b ∷ [])
only w later t b e = record { len = refl; each = λ k le. grind (arith, common_steps, e) }

from_start : (later t : List ℕ) (ends : List Bool) → AreEnds later t ends → get_or ends 0 false ≡ fits later []
from_start later t ends h = h.each 0 (omega arith) ∙ ap (fits later) (drop_all (length t - 0) t (omega arith))

pub ends_first : (w : ℕ) (later t : List ℕ) (ends : List Bool) → AreEnds later t ends → AreEndsTo 0 (w ∷ later) t ((eqb w 37 && get_or ends 0 false) ∷ [])
ends_first w later t ends h = only w later t (eqb w 37 && get_or ends 0 false) (ap (λ x. eqb w 37 && x) (from_start later t ends h) ∙ first_by w later (eqb w 37) refl)

pub next_by : (w : ℕ) (later : List ℕ) (t : List ℕ) (k : ℕ) (b : Bool) → eqb w 37 ≡ b → k < length t → cond b (fits later (drop k t) || fits (w ∷ later) (drop (k + 1) t)) (stands_for w (get_or t k 0) && fits later (drop (k + 1) t)) ≡ fits (w ∷ later) (drop k t)
next_by w later t k true e l = rw (drop_more t k 0 l, e) refl
next_by w later t k false e l = rw (drop_more t k 0 l, e) refl

more_by : (w : ℕ) (later t : List ℕ) (k j x : ℕ) (a b c : Bool) → a ≡ fits later (drop k t) → b ≡ fits (w ∷ later) (drop j t) → c ≡ fits later (drop j t) → j ≡ k + 1 → x ≡ k → k < length t → cond (eqb w 37) (a || b) (stands_for w (get_or t x 0) && c) ≡ fits (w ∷ later) (drop k t)
more_by w later t k j x a b c ea eb ec ej ex l = rw (ea, eb, ec, ej, ex) (next_by w later t k (eqb w 37) refl l)

pub ends_more : (w : ℕ) (later t : List ℕ) (ends more : List Bool) (i : ℕ) → AreEnds later t ends → AreEndsTo i (w ∷ later) t more → i < length t → AreEndsTo (i + 1) (w ∷ later) t (more ++ next_end w t ends more i ∷ [])
ends_more w later t ends more i h m l = ends_push i (w ∷ later) t more (next_end w t ends more i) m (more_by w later t (length t - (i + 1)) (length t - i) (length t - 1 - i) (get_or ends (i + 1) false) (get_or more i false) (get_or ends i false) (h.each (i + 1) (omega arith)) (m.each i (omega arith)) (h.each i (omega arith)) (omega arith) (omega arith) (omega arith))
