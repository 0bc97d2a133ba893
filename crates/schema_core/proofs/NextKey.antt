-- The next key is one above the key of the last row.
use Rattle.std.proofs.Common.{◌≡◌, pos, ◌-◌, ◌<◌, List, [], ◌∷◌, length, slice_get, Some, refl, ap, sym, ◌∙◌, arith, suc}
use Rattle.base_core.specs.declared.value.Value.{Value}
use Rattle.schema_core.specs.Apply.{key_after, next_key}
use Rattle.schema_core.specs.Tables.{Rows}

pub next_key_last : (rows : Rows) (key row : List Value) → slice_get rows (length rows - 1) ≡ Some (key, row) → next_key rows ≡ key_after key
next_key_last [] key row is = cc
next_key_last (e ∷ []) key row is =
    let place : length (e ∷ []) - 1 ≡ 0 = omega arith in
    let here : Some e ≡ Some (key, row) = sym (ap (slice_get (e ∷ [])) place) ∙ is in
    let same : e ≡ (key, row) = cc in
    ap (λ p. key_after p.0) same
next_key_last (e ∷ f ∷ rows) key row is =
    let place : length (e ∷ f ∷ rows) - 1 ≡ suc (length (f ∷ rows) - 1) = omega arith in
    next_key_last (f ∷ rows) key row (sym (ap (slice_get (e ∷ f ∷ rows)) place) ∙ is)

pub next_key_first : (rows : Rows) → (0 < length rows → ⊥) → next_key rows ≡ Some (pos 1)
next_key_first [] none = refl
next_key_first (e ∷ rows) none = absurd (none (omega arith))

pub next_key_entry : (rows : Rows) (row : List Value × List Value) → slice_get rows (length rows - 1) ≡ Some row → next_key rows ≡ key_after row.0
next_key_entry rows row is = next_key_last rows row.0 row.1 is

pub ruleset next_keys = (next_key_last, next_key_entry, next_key_first)
