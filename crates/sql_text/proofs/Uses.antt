-- How often a base name was used.
use Rattle.std.proofs.Common.{◌≡◌, ℕ, ◌+◌, ◌≤◌, Bool, true, false, cond, List, [], ◌∷◌, ◌++◌, length, Some, String, BTreeMap, refl, sym, ap, ◌∙◌, arith, unwrap_or}
use Rattle.std.specs.BTreeMap.{get_by_text}
use Rattle.std.specs.Map.{update}
use Rattle.std.specs.Str.{bytes_eq}
use Rattle.std.specs.Cmp.Lexicographic.{bytes_decides}
use Rattle.std.proofs.lemmas.List.Sums.{sum_by_push, count_by-le-length}
use Rattle.sql_text.specs.Written.{uses_of}

-- no more often than there are marks
pub uses_fit : (bases : List (List ℕ)) (base : List ℕ) → uses_of bases base ≤ length bases
uses_fit bases base = count_by-le-length (λ other. bytes_eq other base) bases

uses_push : (bases : List (List ℕ)) (w q : List ℕ) → uses_of (bases ++ w ∷ []) q ≡ uses_of bases q + cond (bytes_eq w q) 1 0
uses_push bases w q = sum_by_push _ bases w

module _ {Y : Type 0} where
  -- one more use of a base name
  pub used_once_more : (old new : BTreeMap (String Y) ℕ) (bases : List (List ℕ)) (w : List ℕ) (n : ℕ) → n ≡ uses_of bases w + 1 → ((q : List ℕ) → unwrap_or (get_by_text old q) 0 ≡ uses_of bases q) → ((q : List ℕ) → get_by_text new q ≡ update bytes_eq (get_by_text old) w (Some n) q) → (q : List ℕ) → unwrap_or (get_by_text new q) 0 ≡ uses_of (bases ++ w ∷ []) q
  used_once_more old new bases w n is before sets q = ap (λ o. unwrap_or o 0) (sets q) ∙ (cases (bytes_eq w q) refl ∙ sym (uses_push bases w q))
    where
      cases : (b : Bool) → bytes_eq w q ≡ b → unwrap_or (cond (bytes_eq w q) (Some n) (get_by_text old q)) 0 ≡ uses_of bases q + cond (bytes_eq w q) 1 0
      cases true same = rw same (is ∙ ap (λ u. uses_of bases u + 1) ((bytes_decides w q).0 same))
      cases false differs = rw differs (omega (arith, before q))
