-- The objects by number, the new ones in their order, and their rows: all of these objects have been made.
use Rattle.std.proofs.Common.{◌≡◌, ℕ, suc, ◌+◌, ◌<◌, ◌≤◌, Bool, true, false, cond, List, [], ◌∷◌, ◌++◌, length, fold, get_or, take, sym, ap, ◌∙◌, subst, arith}
use Rattle.std.proofs.Math.Seq.{take-suc}
use Rattle.std.proofs.lemmas.List.{take_all}
use Rattle.std.proofs.lemmas.List.Elements.{All-append, All-filter, All-map, All-nil}
use Rattle.std.proofs.lemmas.List.FromFn.{get_or-map-range_with_len, length-map-range_with_len}
use Rattle.std.proofs.lemmas.Map.Views.{All-values-insert_entry}
use Rattle.std.specs.List.{All, filter, flat_map}
use Rattle.std.specs.Map.{values_of}
use Rattle.std.specs.BTreeMap.{insert_entry}
use Rattle.base_core.specs.declared.ids.ObjId.{ObjId}
use Rattle.base_core.specs.declared.refusal.RowName.{RowName}
use Rattle.class_mapping.specs.Mapped.{Mapped, tables_of}
use Rattle.object_arena.specs.Graph.{Graph, IsObject, object_at, Queue, rank_cmp}
use Rattle.object_arena.specs.Identity.{id_of_place}
use Rattle.object_rows.specs.declared.prepared.Prepared.{Prepared}
use Rattle.object_rows.specs.Rows.{new_names, row_name, rows_of}
use Rattle.object_rows.specs.Seen.{is_new, new_objects, object_ids, with_queued}

ids_length : (graph : Graph) → length (object_ids graph) ≡ length graph.objects
unfolding object_ids
ids_length graph = length-map-range_with_len id_of_place 0 (length graph.objects)

id_at : (graph : Graph) (n : ℕ) (d : ObjId) → n < length graph.objects → get_or (object_ids graph) n d ≡ id_of_place n
unfolding object_ids
id_at graph n d h = get_or-map-range_with_len id_of_place 0 (length graph.objects) n n d h (omega arith)

-- one more
pub ids_more : (graph : Graph) (n : ℕ) → n < length graph.objects → take (n + 1) (object_ids graph) ≡ take n (object_ids graph) ++ id_of_place n ∷ []
ids_more graph n h =
    let inside : n < length (object_ids graph) = rw (ids_length graph) h in
    let next : n + 1 ≡ suc n = omega arith in
    ap (λ m. take m (object_ids graph)) next ∙ take-suc (object_ids graph) n (id_of_place n) inside
    ∙ ap (λ object. take n (object_ids graph) ++ object ∷ []) (id_at graph n (id_of_place n) h)

-- no more
pub ids_end : (graph : Graph) (n : ℕ) → length graph.objects ≤ n → take n (object_ids graph) ≡ object_ids graph
ids_end graph n h =
    let ended : length (object_ids graph) ≤ n = rw (ids_length graph) h in
    take_all n (object_ids graph) ended

ids_made : (graph : Graph) → All (IsObject graph) (object_ids graph)
ids_made graph k d less =
    let inside : k < length graph.objects = omega (arith, less, ids_length graph) in
    subst (IsObject graph) (sym (id_at graph k d inside)) (omega arith, omega (arith, inside))

pub all_made : (graph : Graph) (objects : List ObjId) → objects ≡ object_ids graph → All (IsObject graph) objects
all_made graph objects e = subst (All (IsObject graph)) (sym e) (ids_made graph)

pub ruleset id_steps = (ids_more, ids_end, all_made)

-- ---- new objects

one_queued : (P : ObjId → Type 0) (queue : Queue) (rank : ℕ × ℕ) (object : ObjId) (is : Bool) → All P (values_of queue) → P object → All P (values_of (cond is (insert_entry rank_cmp queue rank object) queue))
one_queued P queue rank object true all one = All-values-insert_entry rank_cmp rank object P queue all one
one_queued P queue rank object false all one = all

queued : (graph : Graph) (prepared : Prepared) (queue : Queue) (objects : List ObjId) → All (IsObject graph) (values_of queue) → All (IsObject graph) objects → All (IsObject graph) (values_of (fold (with_queued graph prepared) queue objects))
queued graph prepared queue [] all each = all
queued graph prepared queue (object ∷ objects) all each =
    queued graph prepared (with_queued graph prepared queue object) objects
    (one_queued (IsObject graph) queue ((object_at graph object).added, object.0) object (is_new graph prepared object) all (each 0 object (omega arith)))
    (λ k d less. each (suc k) d (omega (arith, less)))

new_are_made : (graph : Graph) (prepared : Prepared) → All (IsObject graph) (new_objects graph prepared)
unfolding new_objects
new_are_made graph prepared = queued graph prepared [] (object_ids graph) (All-nil (IsObject graph)) (ids_made graph)

pub new_made : (graph : Graph) (prepared : Prepared) (objects : List ObjId) → objects ≡ new_objects graph prepared → All (IsObject graph) objects
new_made graph prepared objects e = subst (All (IsObject graph)) (sym e) (new_are_made graph prepared)

pub kept_made : (graph : Graph) (test : ObjId → Bool) (objects : List ObjId) → objects ≡ filter test (object_ids graph) → All (IsObject graph) objects
kept_made graph test objects e = subst (All (IsObject graph)) (sym e) (All-filter test (IsObject graph) (object_ids graph) (ids_made graph))

-- ---- their rows

rows_made : (mapped : Mapped) (graph : Graph) (objects : List ObjId) → All (IsObject graph) objects → All (λ (row : RowName). IsObject graph row.object) (flat_map (rows_of mapped graph) objects)
rows_made mapped graph [] each = All-nil (λ (row : RowName). IsObject graph row.object)
rows_made mapped graph (object ∷ objects) each =
    All-append (λ (row : RowName). IsObject graph row.object) (rows_of mapped graph object) (flat_map (rows_of mapped graph) objects)
    (All-map (λ (row : RowName). IsObject graph row.object) (row_name object) (tables_of mapped (object_at graph object).class) (λ k d less. each 0 object (omega arith)))
    (rows_made mapped graph objects (λ k d less. each (suc k) d (omega (arith, less))))

pub names_made : (mapped : Mapped) (graph : Graph) (prepared : Prepared) (names : List RowName) → names ≡ new_names mapped graph prepared → All (λ (row : RowName). IsObject graph row.object) names
unfolding new_names
names_made mapped graph prepared names e = subst (All (λ (row : RowName). IsObject graph row.object)) (sym e) (rows_made mapped graph (new_objects graph prepared) (new_are_made graph prepared))
