-- A map more changes no entry.
use Rattle.std.proofs.Common.{◌≡◌, ℕ, List, [], ◌∷◌, ◌++◌, zero, suc, refl, ap, ◌∙◌}
use Rattle.std.specs.Prelude.{slice_get, Option, None}
use Rattle.std.specs.BTreeMap.{is_at}
use Rattle.std.specs.Map.{lookup}
use Rattle.base_core.specs.declared.ids.ObjId.{ObjId}
use Rattle.base_core.specs.declared.value.Value.{Value}
use Rattle.base_core.specs.Order.{values_cmp}
use Rattle.object_arena.specs.Entries.{IsSame, Keyed, entry_in}

at_place : (maps : List Keyed) (map : Keyed) (place : ℕ) (key : List Value) → map.entries ≡ [] → entry_in (slice_get (maps ++ map ∷ []) place) key ≡ entry_in (slice_get maps place) key
at_place [] map zero key empty = ap (λ (entries : List (List Value × ObjId)). lookup (is_at (values_cmp key)) entries) empty
at_place [] map (suc place) key empty = refl
at_place (first ∷ maps) map zero key empty = refl
at_place (first ∷ maps) map (suc place) key empty = at_place maps map place key empty

pub one_more : (old now : List Keyed) (map : Keyed) → map.entries ≡ [] → IsSame old now → IsSame old (now ++ map ∷ [])
one_more old now map empty so_far root key = at_place now map root.0 key empty ∙ so_far root key

pub same_none : (maps : List Keyed) → IsSame maps maps
same_none maps root key = refl
