-- The keys of new objects.
use Rattle.std.proofs.Common.{◌≡◌, ℕ, List, [], length, map, get_or, Option, None, Some, sym, ap, ◌∙◌}
use Rattle.std.specs.Prelude.{slice_get, unwrap_or}
use Rattle.std.specs.Option.{option_map}
use Rattle.std.proofs.lemmas.List.{length-map}
use Rattle.std.proofs.lemmas.List.FromFn.{length-map-range_with_len}
use Rattle.std.proofs.lemmas.Option.{slice_get-map, unwrap_or-slice_get}
use Rattle.base_core.specs.declared.value.Value.{Value}
use Rattle.schema_core.specs.declared.changes.ChangedRow.{ChangedRow}
use Rattle.schema_core.specs.declared.changes.RowChanges.{RowChanges}
use Rattle.class_mapping.specs.Mapped.{Mapped}
use Rattle.object_arena.specs.Graph.{Graph}
use Rattle.object_arena.specs.Identity.{id_of_place}
use Rattle.object_rows.specs.declared.prepared.Prepared.{Prepared}
use Rattle.object_rows.specs.Seen.{object_ids}
use Rattle.graph_flushed.specs.Keys.{Keys, key_if_new, new_keys}

-- the key of the changed row at a place, or an empty one
changed_found : (rows : List ChangedRow) (place : ℕ) (found : Option ChangedRow) → found ≡ slice_get rows place → unwrap_or (option_map (λ (row : ChangedRow). row.key) found) [] ≡ get_or (map (λ (row : ChangedRow). row.key) rows) place []
changed_found rows place found is =
    ap (λ (o : Option ChangedRow). unwrap_or (option_map (λ (row : ChangedRow). row.key) o) []) is
    ∙ ap (λ (o : Option (List Value)). unwrap_or o []) (sym (slice_get-map (λ (row : ChangedRow). row.key) rows place))
    ∙ unwrap_or-slice_get (map (λ (row : ChangedRow). row.key) rows) place []

pub changed_some : (rows : List ChangedRow) (place : ℕ) (row : ChangedRow) → Some row ≡ slice_get rows place → row.key ≡ get_or (map (λ (row : ChangedRow). row.key) rows) place []
changed_some rows place row is = changed_found rows place (Some row) is

pub changed_none : (rows : List ChangedRow) (place : ℕ) → None ≡ slice_get rows place → [] ≡ get_or (map (λ (row : ChangedRow). row.key) rows) place []
changed_none rows place is = changed_found rows place None is

-- the key at a place, or an empty one
pub key_found : (keys : List (List Value)) (place : ℕ) (found : Option (List Value)) → found ≡ slice_get keys place → unwrap_or found [] ≡ get_or keys place []
key_found keys place found is = ap (λ (o : Option (List Value)). unwrap_or o []) is ∙ unwrap_or-slice_get keys place []

pub ruleset key_steps = (changed_some, changed_none, key_found)

-- there is a key, or none, for each object
pub keys_long : (mapped : Mapped) (graph : Graph) (prepared : Prepared) (changes : RowChanges) (keys : List (List Value)) (all : Keys) → all ≡ new_keys mapped graph prepared changes keys → length all ≡ length graph.objects
unfolding new_keys object_ids
keys_long mapped graph prepared changes keys all is =
    ap (λ (ks : Keys). length ks) is
    ∙ length-map (object_ids graph) (key_if_new mapped graph prepared changes keys)
    ∙ length-map-range_with_len id_of_place 0 (length graph.objects)

pub ruleset keys_counted = (keys_long)
