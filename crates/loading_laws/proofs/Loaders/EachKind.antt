-- What an owner of a link has by the conditions of the loads, for relationships of each kind.
use Rattle.std.proofs.Common.{◌≡◌, ℕ, zero, suc, ◌<◌, Bool, true, false, ◌&&◌, ◌||◌, List, [], ◌∷◌, length, Option, Some, None, if◌then◌else◌, is_some, refl, sym, ap, subst, ◌∙◌, arith}
use Rattle.std.specs.Prelude.{slice_index_or}
use Rattle.std.specs.List.{list_all}
use Rattle.std.proofs.lemmas.Bool.{and_parts}
use Rattle.std.proofs.lemmas.Option.{slice_get-get_or}
use Rattle.base_core.specs.declared.ids.ClassId.{ClassId}
use Rattle.base_core.specs.declared.ids.ObjId.{ObjId}
use Rattle.base_core.specs.declared.ids.RelNo.{RelNo}
use Rattle.base_core.specs.declared.value.Kind.{Kind}
use Rattle.base_core.specs.declared.value.Value.{Value}
use Rattle.base_core.specs.declared.value.Value.TheVariants as value
use Rattle.schema_core.specs.declared.table.TableSpec.{TableSpec}
use Rattle.schema_core.specs.Catalog.{key_columns, same_kind, spec_of}
use Rattle.schema_core.specs.Tables.{has_null, is_null}
use Rattle.schema_core.specs.WellFormed.{is_key}
use Rattle.sql_semantics.specs.Created.{bare}
use Rattle.sql_semantics.specs.Eval.{Row}
use Rattle.sql_semantics.specs.Kinds.{value_kind}
use Rattle.sql_semantics.specs.Shapes.{AreRows}
use Rattle.sql_semantics.specs.Plain.{is_given}
use Rattle.class_types.specs.declared.mapped.Relation.{Relation}
use Rattle.class_sides.specs.Keys.{TableKey, foreign_at, names_of}
use Rattle.class_sides.specs.Pairs.{differ}
use Rattle.class_sides.specs.Sides.{has_attribute}
use Rattle.class_mapping.specs.Mapped.{Mapped, layout_of, relations_of, root_spec, root_table, tables_of}
use Rattle.class_mapping.specs.Paired.{IsAt, IsBack}
use Rattle.class_mapping.specs.Related.{IsRelated, has_keys}
use Rattle.class_mapping.specs.Valid.{is_among, joins, refers_by}
use Rattle.mapping_laws.specs.Hierarchies.{HasHierarchies, kinds_of}
use Rattle.mapping_laws.proofs.Ties.{class_tables}
use Rattle.object_arena.specs.declared.object.Link.{Link}
use Rattle.object_arena.specs.declared.object.Link.TheVariants.{Unset}
use Rattle.object_arena.specs.declared.object.Object.{Object}
use Rattle.object_arena.specs.Fit.{ObjectFits, no_relation}
use Rattle.object_arena.specs.Graph.{Graph, IsLink, IsObject, no_object, object_at, place_of}
use Rattle.load_calls.proofs.CollectionLemmas.{related_at}
use Rattle.load_columns.specs.Placing.{column_at, columns_at, foreign_numbers, from_root, place_of_table}
use Rattle.collection_selects.proofs.Keys.{key_fits}
use Rattle.collection_selects.proofs.MemberLemmas.{foreign_typed, owned_kinds, referred}
use Rattle.collection_selects.proofs.Standing.{is_of}
use Rattle.collection_selects.proofs.Typed.{fit_kinds, typed_long}
use Rattle.load_selects.specs.Selects.{origin_of}
use Rattle.collection_selects.specs.Collections.{owner_columns}
use Rattle.load_rows.specs.Reading.{identity_key}
use Rattle.load_rows.specs.Links.{link_at}
use Rattle.load_calls.specs.Reading.{World}
use Rattle.load_targets.specs.ForeignKeys.{is_key_expired}
use Rattle.load_batches.specs.Batches.{IsOwner, is_unloaded}
use Rattle.load_batches.proofs.OwnerSteps.{owner_keyed}
use Rattle.loading_laws.specs.Answers.Answers.{AreRowsOf, IsKeyOf}
use Rattle.std.proofs.lemmas.List.{length-map}
use Rattle.loading_laws.proofs.Members.Choices.{pointwise_long}
use Rattle.loading_laws.specs.Strategies.Ends.{IsManyToOne, IsPointing}
use Rattle.loading_laws.specs.Strategies.Filled.{IsOneToMany, IsWaiting, Stage}
use Rattle.loading_laws.specs.Strategies.Paired.{IsHolding, PairedStage}
use Rattle.loading_laws.specs.Loaders.Linked.{IsReady, IsStage}

-- ---- an owner

-- the relationship stands at the place of an object's class, the link there is unloaded, and the object's key is one of the class that
-- declares the relationship
pub record IsOpen (mapped : Mapped) (relation : Relation) (place : RelNo) (graph : Graph) (object : ObjId) : Type 0 where
  pub made : IsObject graph object
  pub at : IsAt mapped (object_at graph object).class place.0 relation
  pub unloaded : is_unloaded (link_at graph object place) ≡ true
  pub keyed : is_key (root_spec mapped relation.class) (identity_key graph object) ≡ true
  pub held : relation.many ≡ false → is_key_expired mapped relation (object_at graph object) ≡ false

-- what is unloaded is there
unloaded_there : (links : List Link) (n : ℕ) → is_unloaded (slice_index_or links n Unset) ≡ true → n < length links
unloaded_there [] n h = absurd cc
unloaded_there (link ∷ links) zero h = omega arith
unloaded_there (link ∷ links) (suc n) h = let rest = unloaded_there links n h in omega (arith, rest)

pub open_has : (mapped : Mapped) (relation : Relation) (place : RelNo) (graph : Graph) (object : ObjId) → IsOpen mapped relation place graph object → IsLink graph object place
open_has mapped relation place graph object free = unloaded_there (object_at graph object).links place.0 free.unloaded

module _ (mapped : Mapped) (relation : Relation) (place : RelNo) (w : World) (owner : ObjId) (stage : IsStage mapped w) (owned : IsOwner mapped w.own.graph relation place owner) where
  abbrev own : Object
  own = object_at w.own.graph owner

  own_less : place_of owner < length w.own.graph.objects
  own_less = let made = owned.made in omega (arith, made.0, made.1)

  own_fits : ObjectFits mapped own
  own_fits = stage.fit.objects (place_of owner) no_object own_less

  -- the relationship is one of the mapping's, and stands at the place; and the owner's key
  pub owned_related : IsRelated mapped relation
  owned_related = subst (IsRelated mapped) owned.is (related_at mapped own.class place stage.related own_fits.class owned.within)

  pub owned_at : IsAt mapped own.class place.0 relation
  owned_at = subst (IsAt mapped own.class place.0) owned.is (slice_get-get_or (relations_of mapped own.class) place.0 no_relation owned.within)

  pub owned_keyed : is_key (root_spec mapped relation.class) (identity_key w.own.graph owner) ≡ true
  owned_keyed = (owner_keyed mapped w.own.graph relation place owner own owned own_fits refl (stage.graph.identified (place_of owner) no_object own_less)).keyed stage.has stage.related

pub opened : (mapped : Mapped) (relation : Relation) (place : RelNo) (w : World) (owner : ObjId) → IsStage mapped w → IsReady mapped relation place w.own.graph owner → is_unloaded (link_at w.own.graph owner place) ≡ true → IsOpen mapped relation place w.own.graph owner
opened mapped relation place w owner stage ready unloaded = record {
  made = ready.owner.made;
  at = owned_at mapped relation place w owner stage ready.owner;
  unloaded = unloaded;
  keyed = owned_keyed mapped relation place w owner stage ready.owner;
  held = ready.held;
}

-- ---- relationships over a secondary table are many

-- at a place of a class
pub far_at : (mapped : Mapped) (class : ClassId) (place : ℕ) (relation : Relation) (far : TableKey) → HasHierarchies mapped → IsRelated mapped relation → IsAt mapped class place relation → relation.far ≡ Some far → relation.many ≡ true
far_at mapped class place relation far has related at is =
    let partner = related.partner in
    let back : IsBack mapped class relation (Some partner.0) = subst (IsBack mapped class relation) partner.1.there (has.paired.back class place relation at) in
    let both : (if is_some (Some far) then relation.many && partner.0.many else differ relation.many partner.0.many) ≡ true =
    ap (λ (end : Option TableKey). if is_some end then relation.many && partner.0.many else differ relation.many partner.0.many) (sym is) ∙ back.0 in
    (and_parts relation.many partner.0.many both).0

pub far_many : (mapped : Mapped) (relation : Relation) (place : RelNo) (graph : Graph) (owner : ObjId) (far : TableKey) → HasHierarchies mapped → IsRelated mapped relation → IsOpen mapped relation place graph owner → relation.far ≡ Some far → relation.many ≡ true
far_many mapped relation place graph owner far has related one is = far_at mapped (object_at graph owner).class place.0 relation far has related one.at is

-- ---- keys have no NULL, and are as wide as the columns that refer to them

given_known : (v : Value) → is_given v ≡ true → is_null v ≡ false
given_known value.Null h = absurd cc
given_known (value.Bool b) h = refl
given_known (value.Int n) h = refl
given_known (value.Text s) h = refl
given_known (value.Bytes s) h = refl

pub kinds_known : (kinds : List Kind) (key : List Value) → fit_kinds kinds key ≡ true → has_null key ≡ false
kinds_known [] [] h = refl
kinds_known [] (v ∷ key) h = absurd cc
kinds_known (kind ∷ kinds) [] h = absurd cc
kinds_known (kind ∷ kinds) (v ∷ key) h =
    let parts = and_parts (is_of kind v) (fit_kinds kinds key) h in
    ap (λ (b : Bool). b || has_null key) (given_known v (and_parts (is_given v) (same_kind (value_kind v) kind) parts.0).0) ∙ kinds_known kinds key parts.1

pub owner_known : (mapped : Mapped) (relation : Relation) (key : List Value) → IsOneToMany mapped relation → is_key (root_spec mapped relation.class) key ≡ true → IsKeyOf (owner_columns mapped relation) key
owner_known mapped relation key many keyed =
    let tables : List TableSpec = mapped.schema.tables in
    let foreign : TableKey = relation.foreign in
    let own = tables_of mapped relation.target in
    let keys : has_keys mapped relation None ≡ true = ap (has_keys mapped relation) (sym many.near) ∙ many.related.keys in
    let joined : joins tables (Some (layout_of mapped relation.target)) (Some (layout_of mapped relation.class)) foreign ≡ true =
    ap (λ (b : Bool). joins tables (Some (layout_of mapped (if b then relation.target else relation.class))) (Some (layout_of mapped (if b then relation.class else relation.target))) foreign) (sym many.many) ∙ keys in
    let refers = (and_parts (is_among own foreign.0 && list_all (has_attribute (layout_of mapped relation.target).attributes foreign.0) (names_of tables foreign)) (refers_by tables (tables_of mapped relation.class) (foreign_at tables foreign)) joined).1 in
    let to = referred mapped foreign relation.class (foreign_at tables foreign) refl refers in
    let kinds : List Kind = kinds_of (key_columns (spec_of mapped.schema to.table)) in
    let fits : fit_kinds (kinds_of (key_columns (root_spec mapped relation.class))) key ≡ true = key_fits mapped (root_table mapped relation.class) key keyed in
    let place = place_of_table mapped relation.target (from_root 0) foreign.0 in
    record {
      long =
          length-map (foreign_numbers mapped foreign) (column_at place)
          ∙ sym (length-map (foreign_numbers mapped foreign) (column_at 0))
          ∙ typed_long mapped.schema (origin_of foreign.0 ∷ []) (columns_at 0 (foreign_numbers mapped foreign)) kinds (foreign_typed mapped (origin_of foreign.0 ∷ []) 0 foreign relation.class many.has to refl)
          ∙ ap (λ (ks : List Kind). length ks) (sym (owned_kinds mapped foreign relation.class (class_tables mapped relation.class many.has many.related.class) to))
          ∙ sym (pointwise_long is_of (kinds_of (key_columns (root_spec mapped relation.class))) key fits);
      known = kinds_known (kinds_of (key_columns (root_spec mapped relation.class))) key fits;
    }

-- ---- what the laws of each kind ask

-- a world in which the laws of each kind hold: all rows of the target, and tables with rows of theirs
pub record IsSet (mapped : Mapped) (relation : Relation) (all : List Row) (w : World) : Type 0 where
  pub has : HasHierarchies mapped
  pub related : IsRelated mapped relation
  pub rooted : length w.own.graph.roots ≡ length w.own.graph.objects
  pub held : AreRows mapped.schema (bare w.store.tables)
  pub rows : AreRowsOf mapped relation.target (bare w.store.tables) all

module _ (mapped : Mapped) (relation : Relation) (all : List Row) (w : World) (set : IsSet mapped relation all w) where
  pub plain_stage : Stage mapped relation all w
  plain_stage = record { rooted = set.rooted; rows = set.rows }

  pub paired_stage : (far : TableKey) → relation.far ≡ Some far → relation.many ≡ true → PairedStage mapped relation far all w
  paired_stage far is many = record { rooted = set.rooted; paired = record { has = set.has; related = set.related; many = many; far_is = is; held = set.held; rows = set.rows } }

  pub one_to_many : relation.far ≡ None → relation.many ≡ true → IsOneToMany mapped relation
  one_to_many near many = record { has = set.has; related = set.related; many = many; near = near }

  pub many_to_one : relation.far ≡ None → relation.many ≡ false → IsManyToOne mapped relation
  many_to_one near one = record { has = set.has; related = set.related; one = one; near = near }

  module _ (place : RelNo) (owner : ObjId) (free : IsOpen mapped relation place w.own.graph owner) where
    pub waits : IsOneToMany mapped relation → IsWaiting mapped relation place w.own.graph owner
    waits many = record { made = free.made; has = open_has mapped relation place w.own.graph owner free; unloaded = free.unloaded; keyed = owner_known mapped relation (identity_key w.own.graph owner) many free.keyed }

    pub holds : IsHolding mapped relation place w.own.graph owner
    holds = record { made = free.made; has = open_has mapped relation place w.own.graph owner free; unloaded = free.unloaded; keyed = free.keyed }

    pub points : relation.many ≡ false → IsPointing mapped relation place w.own.graph owner
    points single = record { made = free.made; has = open_has mapped relation place w.own.graph owner free; unloaded = free.unloaded; held = free.held single }
