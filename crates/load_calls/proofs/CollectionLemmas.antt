-- The reading of a collection, put together of its parts.
use Rattle.std.proofs.Common.{refl, ◌≡◌, ℕ, ◌+◌, ◌-◌, ◌<◌, ◌≤◌, true, List, arith, get_or, length-append, map, length, [], ◌∷◌, Option, None, Some, Result, Ok, Err, IfErr, IfOk, OnOk, sym, ap, subst, ◌∙◌}
use Rattle.std.proofs.lemmas.Option.{slice_get-get_or}
use Rattle.std.specs.List.{AllByRecursion}
use Rattle.std.proofs.lemmas.List.{get_or_append_left, get_or-map, length-map}
use Rattle.base_core.specs.declared.ids.ClassId.{ClassId}
use Rattle.base_core.specs.declared.ids.ObjId.{ObjId}
use Rattle.base_core.specs.declared.ids.RelNo.{RelNo}
use Rattle.base_core.specs.declared.value.Value.{Value}
use Rattle.base_core.specs.declared.refusal.Refusal.{Refusal}
use Rattle.base_core.specs.declared.refusal.Refusal.TheVariants.{Memory}
use Rattle.schema_core.specs.Catalog.{spec_of}
use Rattle.schema_core.specs.WellFormed.{is_key}
use Rattle.expr_types.specs.declared.select.Select.{Select}
use Rattle.sql_semantics.specs.Plain.{IsPlainSelect}
use Rattle.sql_semantics.specs.Shapes.{AreGiven, AreOfItems}
use Rattle.class_types.specs.declared.mapped.Relation.{Relation}
use Rattle.class_layouts.specs.Columns.{own_table}
use Rattle.class_sides.specs.Keys.{TableKey}
use Rattle.class_mapping.specs.Mapped.{IsClass, Mapped, relations_of, root_of, root_spec, table_or_none, tables_of}
use Rattle.class_mapping.specs.Paired.{IsAt, IsBack, is_at_or_under}
use Rattle.class_mapping.specs.Related.{AreRelated, IsRelated}
use Rattle.object_arena.specs.declared.object.Object.{Object}
use Rattle.object_arena.specs.declared.object.State.TheVariants.{Persistent}
use Rattle.object_arena.specs.Identity.{is_identified}
use Rattle.load_calls.proofs.RefreshLemmas.{own_key_fits}
use Rattle.object_arena.specs.Fit.{ObjectFits, key_fits, no_relation, relation_of}
use Rattle.object_arena.specs.Every.{classes_of}
use Rattle.object_arena.specs.Graph.{Graph, IsObject, no_class_id, no_object, object_at, place_of}
use Rattle.load_filling.specs.Growing.{Grows}
use Rattle.keeper_core.specs.Alone.{alone}
use Rattle.keeper_core.specs.Beside.{changes, moment_beside}
use Rattle.keeper_core.specs.Moment.{Moment, Runs}
use Rattle.keeper_core.specs.Store.{Store}
use Rattle.keeper_core.proofs.AloneLemmas.{beside_alone}
use Rattle.keeper_core.proofs.Lifting.{chosen, then_ends}
use Rattle.keeper_core.proofs.Sequence.{then_err, then_ok}
use Rattle.keeper_core.specs.declared.notes.Note.{Note}
use Rattle.mapping_laws.specs.Hierarchies.{HasHierarchies}
use Rattle.mapping_laws.proofs.Ties.{class_tables}
use Rattle.collection_selects.specs.Collections.{members_by, members_select, owner_columns, pair_columns}
use Rattle.load_columns.specs.Conditions.{has_values}
use Rattle.collection_selects.proofs.PairLemmas.{members_are_plain, pairs_sources, second}
use Rattle.mapping_laws.proofs.KeyKinds.{keys_alike}
use Rattle.collection_selects.proofs.Rows.{ReadsClass, are_read, reads_rows}
use Rattle.load_rows.specs.Loading.{Loading, loading}
use Rattle.load_rows.specs.Reading.{IsRowOf, identity_key}
use Rattle.load_calls.specs.Reading.{read}
use Rattle.load_rows.specs.Links.{collection_filled}
use Rattle.load_calls.specs.Collections.{load_collection, read_members, take_members, take_rows}

abbrev Rows : Type 0
Rows = List (List Value)

-- ---- the relationship

-- the relationship at a place of a class is related
pub related_at : (mapped : Mapped) (class : ClassId) (place : RelNo) → AreRelated mapped → IsClass mapped class → place.0 < length (relations_of mapped class) → IsRelated mapped (relation_of mapped class place)
related_at mapped class place related less within = related.each class less place.0 no_relation within

-- a class is at or under the one that declares a relationship of it
declared_above : (mapped : Mapped) (class : ClassId) (place : RelNo) → HasHierarchies mapped → place.0 < length (relations_of mapped class) → IsRelated mapped (relation_of mapped class place)
    → is_at_or_under mapped class (relation_of mapped class place).class ≡ true
declared_above mapped class place has within related =
    let relation : Relation = relation_of mapped class place in
    let at : IsAt mapped class place.0 relation = slice_get-get_or (relations_of mapped class) place.0 no_relation within in
    let partner = related.partner in
    let back : IsBack mapped class relation (Some partner.0) = subst (IsBack mapped class relation) partner.1.there (has.paired.back class place.0 relation at) in
    ap (is_at_or_under mapped class) (sym partner.1.target) ∙ back.1

-- a key of the class is one of the table of that one's root
pub owner_key : (mapped : Mapped) (class : ClassId) (place : RelNo) (key : List Value) → HasHierarchies mapped → IsClass mapped class → place.0 < length (relations_of mapped class) → IsRelated mapped (relation_of mapped class place)
    → key_fits mapped class key ≡ true → is_key (root_spec mapped (relation_of mapped class place).class) key ≡ true
owner_key mapped class place key has less within related fits =
    let relation : Relation = relation_of mapped class place in
    let same : root_of mapped class ≡ root_of mapped relation.class =
    ap (λ (n : ℕ). let root : ClassId = record { 0 = n } in root) (has.paired.rooted class relation.class (declared_above mapped class place has within related)) in
    ap (λ (root : ClassId). is_key (spec_of mapped.schema (table_or_none (own_table mapped.schema.tables mapped.classes root.0))) key) (sym same)
    ∙ sym (keys_alike mapped class key has (class_tables mapped class has less)) ∙ fits

-- ---- the select of its members

pub select_is : {E : Type 0} (mapped : Mapped) (graph : Graph) (owner : ObjId) (relation : Relation) (key : List Value) (r : Result Select E) → key ≡ identity_key graph owner
    → IfOk r (λ s. s ≡ members_select mapped relation key) → IfOk r (λ s. s ≡ members_select mapped relation (identity_key graph owner))
select_is mapped graph owner relation key (Ok s) named made = made ∙ ap (members_select mapped relation) named
select_is mapped graph owner relation key (Err e) named made = tt

-- it is plain
pub members_plain : {E : Type 0} (mapped : Mapped) (graph : Graph) (owner : ObjId) (place : RelNo) (relation : Relation) (key : List Value) (own : Object) (r : Result Select E) → HasHierarchies mapped → IsRelated mapped relation → ObjectFits mapped own
    → own ≡ object_at graph owner → (object_at graph owner).state ≡ Persistent → is_identified own ≡ true → key ≡ identity_key graph owner → place.0 < length (relations_of mapped (object_at graph owner).class)
    → relation ≡ relation_of mapped (object_at graph owner).class place → relation.many ≡ true → IfOk r (λ s. s ≡ members_select mapped relation key) → IfOk r (IsPlainSelect mapped.schema)
members_plain mapped graph owner place relation key own (Ok s) has related fits is persistent identity named within which many made =
    let class : ClassId = (object_at graph owner).class in
    let less : IsClass mapped class = subst (λ (o : Object). IsClass mapped o.class) is fits.class in
    let own_fits : key_fits mapped class key ≡ true =
    ap (λ (o : Object). key_fits mapped o.class key) (sym is) ∙ ap (key_fits mapped own.class) named ∙ own_key_fits mapped graph owner own fits is persistent identity in
    let there : IsRelated mapped (relation_of mapped class place) = subst (IsRelated mapped) which related in
    let keyed : is_key (root_spec mapped relation.class) key ≡ true =
    ap (λ (one : Relation). is_key (root_spec mapped one.class) key) which ∙ owner_key mapped class place key has less within there own_fits in
    subst (IsPlainSelect mapped.schema) (sym made) (members_are_plain mapped relation key has related many keyed)
members_plain mapped graph owner place relation key own (Err e) has related fits is persistent identity named within which many made = tt

-- it is related
pub owned_related : (mapped : Mapped) (graph : Graph) (owner : ObjId) (place : RelNo) (relation : Relation) (own : Object) → AreRelated mapped → ObjectFits mapped own → own ≡ object_at graph owner
    → place.0 < length (relations_of mapped (object_at graph owner).class) → relation ≡ relation_of mapped (object_at graph owner).class place → IsRelated mapped relation
owned_related mapped graph owner place relation own related fits is within which =
    let class : ClassId = (object_at graph owner).class in
    let less : IsClass mapped class = subst (λ (o : Object). IsClass mapped o.class) is fits.class in
    subst (IsRelated mapped) (sym which) (related_at mapped class place related less within)

-- what is answered to it are rows of the target
reads_members : (mapped : Mapped) (relation : Relation) (key : List Value) (end : Option TableKey) → HasHierarchies mapped → IsRelated mapped relation → relation.far ≡ end → ReadsClass mapped relation.target (members_by mapped relation key end)
reads_members mapped relation key None has related is = reads_rows mapped relation.target (has_values (owner_columns mapped relation) key) has related.target
reads_members mapped relation key (Some far) has related is = record {
  more = second mapped relation far has related is ∷ [];
  items = refl;
  sources = pairs_sources mapped relation far has related is (has_values (pair_columns mapped relation (length (tables_of mapped relation.target))) key);
}

pub members_rows : (mapped : Mapped) (relation : Relation) (key : List Value) (select : Select) (r : Result Rows Refusal) → HasHierarchies mapped → IsRelated mapped relation → select ≡ members_select mapped relation key
    → IfOk r (λ rows. AreOfItems mapped.schema select rows) → IfOk r (λ rows. AreGiven mapped.schema select rows) → IfOk r (AllByRecursion (IsRowOf mapped relation.target))
unfolding members_select
members_rows mapped relation key select (Ok rows) has related is kinds given =
    let made : Select = members_by mapped relation key relation.far in
    are_read mapped relation.target made rows has related.target (reads_members mapped relation key relation.far has related refl)
    (subst (λ (s : Select). AreOfItems mapped.schema s rows) is kinds) (subst (λ (s : Select). AreGiven mapped.schema s rows) is given)
members_rows mapped relation key select (Err e) has related is kinds given = tt

-- ---- the programs

-- the select of the members was sent
pub members_read : {K : Type 0} (moment : K → Moment Store) (mapped : Mapped) (relation : Relation) (owner : ObjId) (graph : Graph) (select : Select) {before after : List Note} {old new : K} {r : Result Rows Refusal}
    → select ≡ members_select mapped relation (identity_key graph owner)
    → Runs (moment_beside moment) (λ (rows : Rows). rows) (read mapped.schema select) (loading graph before, old) r (loading graph after, new)
    → Runs (moment_beside moment) (λ (rows : Rows). rows) (read_members mapped relation owner) (loading graph before, old) r (loading graph after, new)
unfolding read_members
members_read moment mapped relation owner graph select {before = before} {after = after} {old = old} {new = new} {r = r} is p =
    chosen moment (λ own. read mapped.schema (members_select mapped relation (identity_key own.graph owner)))
    (subst (λ (s : Select). Runs (moment_beside moment) (λ (rows : Rows). rows) (read mapped.schema s) (loading graph before, old) r (loading graph after, new)) is p)

loaded_by : {K : Type 0} (moment : K → Moment Store) (mapped : Mapped) (relation : Relation) (owner : ObjId) (place : RelNo) {own mid taken now : Loading} {old new : K} {rows : Rows} {objects : List ObjId} {r : Result (Unit {0}) Refusal}
    → Runs (moment_beside moment) (λ (rows : Rows). rows) (read_members mapped relation owner) (own, old) (Ok rows) (mid, new)
    → Runs alone (λ (objects : List ObjId). objects) (take_rows mapped relation.target rows) mid (Ok objects) taken
    → OnOk r (now ≡ collection_filled owner place objects taken) → IfErr r (λ e. e ≡ Memory)
    → Runs (moment_beside moment) (λ (u : Unit {0}). u) (load_collection mapped relation owner place) (own, old) r (now, new)
unfolding load_collection
loaded_by moment mapped relation owner place p q is cause =
    then_ok (λ rows. take_members mapped relation owner place rows) p (then_ends moment (collection_filled owner place) (beside_alone moment q) is cause)

-- the objects of the rows were taken, and the collection holds them
pub collection_loaded : {K : Type 0} (moment : K → Moment Store) (mapped : Mapped) (relation which : Relation) (owner : ObjId) (place : RelNo) {own mid taken now : Loading} {old new : K} (rows slice : Rows) (objects shown : List ObjId) {r : Result (Unit {0}) Refusal}
    → relation ≡ which → slice ≡ rows → shown ≡ objects
    → Runs (moment_beside moment) (λ (rows : Rows). rows) (read_members mapped relation owner) (own, old) (Ok rows) (mid, new)
    → Runs alone (λ (objects : List ObjId). objects) (take_rows mapped relation.target slice) mid (Ok objects) taken
    → OnOk r (now ≡ collection_filled owner place shown taken) → IfErr r (λ e. e ≡ Memory)
    → Runs (moment_beside moment) (λ (u : Unit {0}). u) (load_collection mapped which owner place) (own, old) r (now, new)
collection_loaded moment mapped relation which owner place {own = own} {mid = mid} {taken = taken} {now = now} {old = old} {new = new} rows slice objects shown {r = r} same sliced seen p q is cause =
    subst (λ (one : Relation). Runs (moment_beside moment) (λ (u : Unit {0}). u) (load_collection mapped one owner place) (own, old) r (now, new)) same
    (loaded_by moment mapped relation owner place p (subst (λ (xs : Rows). Runs alone (λ (objects : List ObjId). objects) (take_rows mapped relation.target xs) mid (Ok objects) taken) sliced q)
    (subst (λ (xs : List ObjId). OnOk r (now ≡ collection_filled owner place xs taken)) seen is) cause)

row_refused : {K : Type 0} (moment : K → Moment Store) (mapped : Mapped) (relation : Relation) (owner : ObjId) (place : RelNo) {own mid taken : Loading} {old new : K} {rows : Rows} {e : Refusal}
    → Runs (moment_beside moment) (λ (rows : Rows). rows) (read_members mapped relation owner) (own, old) (Ok rows) (mid, new)
    → Runs alone (λ (objects : List ObjId). objects) (take_rows mapped relation.target rows) mid (Err e) taken
    → Runs (moment_beside moment) (λ (u : Unit {0}). u) (load_collection mapped relation owner place) (own, old) (Err e) (taken, new)
unfolding load_collection
row_refused moment mapped relation owner place p q =
    then_ok (λ rows. take_members mapped relation owner place rows) p (then_err (λ members. changes (collection_filled owner place members)) (beside_alone moment q))

-- a row was refused
pub rows_refused : {K : Type 0} (moment : K → Moment Store) (mapped : Mapped) (relation which : Relation) (owner : ObjId) (place : RelNo) {own mid taken : Loading} {old new : K} (rows slice : Rows) (e : Refusal) → relation ≡ which → slice ≡ rows
    → Runs (moment_beside moment) (λ (rows : Rows). rows) (read_members mapped relation owner) (own, old) (Ok rows) (mid, new)
    → Runs alone (λ (objects : List ObjId). objects) (take_rows mapped relation.target slice) mid (Err e) taken
    → Runs (moment_beside moment) (λ (u : Unit {0}). u) (load_collection mapped which owner place) (own, old) (Err e) (taken, new)
rows_refused moment mapped relation which owner place {own = own} {mid = mid} {taken = taken} {old = old} {new = new} rows slice e same sliced p q =
    subst (λ (one : Relation). Runs (moment_beside moment) (λ (u : Unit {0}). u) (load_collection mapped one owner place) (own, old) (Err e) (taken, new)) same
    (row_refused moment mapped relation owner place p (subst (λ (xs : Rows). Runs alone (λ (objects : List ObjId). objects) (take_rows mapped relation.target xs) mid (Err e) taken) sliced q))

select_refused : {K : Type 0} (moment : K → Moment Store) (mapped : Mapped) (relation : Relation) (owner : ObjId) (place : RelNo) {own now : Loading} {old new : K} {e : Refusal}
    → Runs (moment_beside moment) (λ (rows : Rows). rows) (read_members mapped relation owner) (own, old) (Err e) (now, new)
    → Runs (moment_beside moment) (λ (u : Unit {0}). u) (load_collection mapped relation owner place) (own, old) (Err e) (now, new)
unfolding load_collection
select_refused moment mapped relation owner place p = then_err (λ rows. take_members mapped relation owner place rows) p

-- the select was refused
pub members_refused : {K : Type 0} (moment : K → Moment Store) (mapped : Mapped) (relation which : Relation) (owner : ObjId) (place : RelNo) {own now : Loading} {old new : K} (e : Refusal) → relation ≡ which
    → Runs (moment_beside moment) (λ (rows : Rows). rows) (read_members mapped relation owner) (own, old) (Err e) (now, new)
    → Runs (moment_beside moment) (λ (u : Unit {0}). u) (load_collection mapped which owner place) (own, old) (Err e) (now, new)
members_refused moment mapped relation which owner place {own = own} {now = now} {old = old} {new = new} e same p =
    subst (λ (one : Relation). Runs (moment_beside moment) (λ (u : Unit {0}). u) (load_collection mapped one owner place) (own, old) (Err e) (now, new)) same (select_refused moment mapped relation owner place p)

-- ---- the objects that there were

classes_grow : (old new : Graph) (owner : ObjId) → Grows old new → IsObject old owner → ((object_at new owner).class ≡ (object_at old owner).class) × IsObject new owner
unfolding classes_of
classes_grow old new owner grows made =
    let class_of : Object → ClassId = λ o. o.class in
    let first : 0 < owner.0 = made.0 in
    let last : owner.0 ≤ length old.objects = made.1 in
    let within : owner.0 - 1 < length old.objects = omega (arith, first, last) in
    let mapped_within : owner.0 - 1 < length (map class_of old.objects) = omega (arith, within, length-map old.objects class_of) in
    let long : length new.objects ≡ length old.objects + length grows.classes =
    sym (length-map new.objects class_of) ∙ ap (λ (xs : List ClassId). length xs) grows.longer ∙ length-append (map class_of old.objects) grows.classes ∙ ap (λ (n : ℕ). n + length grows.classes) (length-map old.objects class_of) in
    let there : owner.0 ≤ length new.objects = omega (arith, last, long) in
    let inside : owner.0 - 1 < length new.objects = omega (arith, within, long) in
    let same : get_or (map class_of new.objects) (place_of owner) no_class_id ≡ get_or (map class_of old.objects) (place_of owner) no_class_id =
    ap (λ (xs : List ClassId). get_or xs (place_of owner) no_class_id) grows.longer ∙ get_or_append_left (map class_of old.objects) grows.classes no_class_id (place_of owner) mapped_within in (
      sym (get_or-map class_of new.objects (place_of owner) no_object no_class_id inside) ∙ same ∙ get_or-map class_of old.objects (place_of owner) no_object no_class_id within,
      (first, there),
    )

-- an owner is there still, of its class
pub owner_there : (old new : Graph) (owner : ObjId) → Grows old new → IsObject old owner → IsObject new owner
owner_there old new owner grows made = (classes_grow old new owner grows made).1

pub class_there : (old new : Graph) (owner : ObjId) → Grows old new → IsObject old owner → (object_at new owner).class ≡ (object_at old owner).class
class_there old new owner grows made = (classes_grow old new owner grows made).0

abbrev relation_there : Mapped → Graph → ObjId → RelNo → Relation
relation_there mapped graph owner place = relation_of mapped (object_at graph owner).class place

-- a relationship of an owner that is there still
pub same_relation : (mapped : Mapped) (old new : Graph) (owner : ObjId) (place : RelNo) → Grows old new → IsObject old owner → relation_there mapped new owner place ≡ relation_there mapped old owner place
same_relation mapped old new owner place grows made = ap (λ (class : ClassId). relation_of mapped class place) (class_there old new owner grows made)
