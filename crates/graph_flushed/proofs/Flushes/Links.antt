-- What comes through changed links into cells.
use Rattle.std.proofs.Common.{◌≡◌, ℕ, ◌-◌, ◌<◌, ◌≤◌, Bool, true, false, not, ◌&&◌, ◌==◌, List, [], ◌∷◌, length, map, get_or, Option, None, Some, if◌then◌else◌, refl, sym, ap, ◌∙◌, subst, inl, inr, arith}
use Rattle.std.specs.Prelude.{is_some, nat_lt, slice_get}
use Rattle.std.specs.List.{enumerate_from, list_all, list_any, position, range_with_len}
use Rattle.std.specs.Option.{option_map}
use Rattle.std.proofs.lemmas.Bool.{and_parts, eqb-true, ltb-true}
use Rattle.std.proofs.lemmas.List.{get_or-map, length-map}
use Rattle.std.proofs.lemmas.List.FromFn.{get_or-map-range_with_len, length-map-range_with_len}
use Rattle.std.proofs.lemmas.List.Quantifiers.{position-Some}
use Rattle.std.proofs.lemmas.Option.{get_or_from_slice_get, same_Some, slice_get-get_or, slice_get_within}
use Rattle.base_core.specs.declared.ids.ClassId.{ClassId}
use Rattle.base_core.specs.declared.ids.ObjId.{ObjId}
use Rattle.base_core.specs.declared.ids.RelNo.{RelNo}
use Rattle.base_core.specs.declared.ids.TableId.{TableId}
use Rattle.base_core.specs.declared.refusal.RowName.{RowName}
use Rattle.base_core.specs.declared.value.Kind.{Kind}
use Rattle.base_core.specs.declared.value.Value.{Value}
use Rattle.schema_core.specs.declared.changes.RowCell.{RowCell}
use Rattle.schema_core.specs.declared.changes.RowChanges.{RowChanges}
use Rattle.schema_core.specs.declared.table.ForeignSpec.{ForeignSpec}
use Rattle.schema_core.specs.declared.table.TableSpec.{TableSpec}
use Rattle.schema_core.specs.Catalog.{Catalog, key_columns, no_table, same_name, spec_of, target_of}
use Rattle.schema_core.specs.Tables.{kind_of_value}
use Rattle.schema_core.proofs.Names.{same_names}
use Rattle.class_types.specs.declared.mapped.Attribute.{Attribute}
use Rattle.class_types.specs.declared.mapped.Relation.{Relation}
use Rattle.class_layouts.specs.Columns.{own_table}
use Rattle.class_layouts.specs.Faults.{foreigns_in, foreigns_of}
use Rattle.class_sides.specs.Keys.{TableKey, foreign_at, names_of, refers_into}
use Rattle.class_sides.specs.Sides.{has_attribute}
use Rattle.class_sides.specs.Pairs.{differ}
use Rattle.class_mapping.specs.Mapped.{Mapped, attributes_of, layout_of, partner_of, relations_of, root_of, root_spec, table_or_none, tables_of}
use Rattle.class_mapping.specs.Paired.{IsBack}
use Rattle.class_mapping.specs.Related.{AreRelated, IsRelated, has_keys}
use Rattle.class_mapping.specs.Valid.{is_among, joins, refers_by}
use Rattle.class_mapping.proofs.Having.{Has, from_map, from_numbered, has_at}
use Rattle.class_mapping.proofs.Lists.{three_parts}
use Rattle.class_mapping.proofs.RelatedKeys.{same_table}
use Rattle.class_mapping.proofs.RelatedLemmas.{same_class}
use Rattle.object_arena.specs.declared.object.Link.{Link}
use Rattle.object_arena.specs.declared.object.Link.TheVariants.{Unset, Unloaded, One, Many}
use Rattle.object_arena.specs.declared.object.Object.{Object}
use Rattle.object_arena.specs.Fit.{IsFit, held_fit, identity_fits, is_of_kind, is_of_root, is_root, key_fits, link_fits, no_relation, value_fits}
use Rattle.object_arena.specs.Graph.{Graph, IsObject, no_class_id, object_at, place_of}
use Rattle.object_arena.specs.Identity.{id_of_place}
use Rattle.object_arena.proofs.FitLemmas.{fit_at, fit_class, fit_links, fit_root}
use Rattle.object_arena.proofs.PartLemmas.{pointwise_at}
use Rattle.object_rows.specs.declared.prepared.Prepared.{Prepared}
use Rattle.object_rows.specs.Cells.{end_cell, first_cell, foreign_cell, is_by, key_cell, key_value, linked_cell, part_cell, place_among, put_cell, relation_cell}
use Rattle.object_rows.specs.Places.{is_row_of}
use Rattle.object_rows.specs.Rows.{new_names}
use Rattle.object_rows.specs.Seen.{changed_end, end_if, end_put, is_cleared, is_kept_end, is_new, object_ids}
use Rattle.graph_flushed.specs.Flushed.{Written, key_of, no_row, value_come, value_put, written_with}
use Rattle.graph_flushed.specs.Keys.{key_if_fit, key_if_new, new_key, new_keys}
use Rattle.mapping_laws.specs.Hierarchies.{HasHierarchies, kinds_of}
use Rattle.mapping_laws.proofs.Ties.{class_tables}
use Rattle.graph_flushed.proofs.Flushes.Columns.{column_of}
use Rattle.graph_flushed.proofs.Flushes.PartKinds.{part_kind, referred_kind}

not_many : (many : Bool) → not many ≡ true → many ≡ false
not_many true h = absurd cc
not_many false h = refl

-- ---- which link gives a cell

first_has : (cells : List (Option RowCell)) (cell : RowCell) → first_cell cells ≡ Some cell → Has cells (Some cell)
first_has [] cell h = absurd cc
first_has (None ∷ cells) cell h = inr (first_has cells cell h)
first_has (Some first ∷ cells) cell h = inl h

if_given : {A : Type 0} (b : Bool) (x : Option A) (y : A) → (if b then x else None) ≡ Some y → (b ≡ true) × (x ≡ Some y)
if_given true x y h = (refl, h)
if_given false x y h = absurd cc

-- a column of the foreign key that links to this end
record IsPart (schema : Catalog) (graph : Graph) (rows : List RowName) (name : List ℕ) (end : Option ObjId) (found : Option ForeignSpec) (cell : RowCell) : Type 0 where
  foreign : ForeignSpec
  is : found ≡ Some foreign
  part : ℕ
  at : position (λ own. same_name own name) foreign.columns ≡ Some part
  gives : end_cell graph rows (target_of schema foreign) part end ≡ cell

part_by : (schema : Catalog) (graph : Graph) (rows : List RowName) (name : List ℕ) (end : Option ObjId) (foreign : ForeignSpec) (cell : RowCell) (place : Option ℕ) → position (λ own. same_name own name) foreign.columns ≡ place
    → part_cell schema graph rows foreign end place ≡ Some cell → IsPart schema graph rows name end (Some foreign) cell
part_by schema graph rows name end foreign cell None e h = absurd cc
part_by schema graph rows name end foreign cell (Some part) e h =
    record { foreign = foreign; is = refl; part = part; at = e; gives = same_Some (end_cell graph rows (target_of schema foreign) part end) cell h }

foreign_gives : (schema : Catalog) (graph : Graph) (rows : List RowName) (name : List ℕ) (end : Option ObjId) (found : Option ForeignSpec) (cell : RowCell) → foreign_cell schema graph rows name end found ≡ Some cell
    → IsPart schema graph rows name end found cell
foreign_gives schema graph rows name end None cell h = absurd cc
foreign_gives schema graph rows name end (Some foreign) cell h = part_by schema graph rows name end foreign cell (position (λ own. same_name own name) foreign.columns) refl h

put_gives : (schema : Catalog) (graph : Graph) (prepared : Prepared) (rows : List RowName) (name : List ℕ) (found : Option ForeignSpec) (cell : RowCell) (put : Option (Option ObjId))
    → put_cell schema graph prepared rows name found put ≡ Some cell → (end : Option ObjId) × (put ≡ Some end) × IsPart schema graph rows name end found cell
put_gives schema graph prepared rows name found cell None h = absurd cc
put_gives schema graph prepared rows name found cell (Some end) h =
    (end, refl, foreign_gives schema graph rows name end found cell (if_given (is_kept_end graph prepared end) (foreign_cell schema graph rows name end found) cell h).1)

-- ---- the end of a link

one_end : (link : Link) (end : Option ObjId) → changed_end link ≡ Some end → (roots : List ClassId) (root : ClassId) (many : Bool) → held_fit roots root many link ≡ true → (object : ObjId) → end ≡ Some object → is_of_root roots root object ≡ true
one_end Unset end h roots root many fits object is = absurd cc
one_end (Unloaded added removed) end h roots root many fits object is = absurd cc
one_end (Many members base) end h roots root many fits object is = absurd cc
one_end (One None changed) end h roots root many fits object is = absurd (none_put changed end h object is)
  where
    none_put : (b : Bool) (end : Option ObjId) → end_if b None ≡ Some end → (object : ObjId) → end ≡ Some object → ⊥
    none_put true end h object is = let e : None ≡ Some object = same_Some None end h ∙ is in cc
    none_put false end h object is = cc
one_end (One (Some own) changed) end h roots root many fits object is = ap (is_of_root roots root) (sym same) ∙ (and_parts (not many) (is_of_root roots root own) fits).1
  where
    put : (b : Bool) → end_if b (Some own) ≡ Some end → Some own ≡ end
    put true g = same_Some (Some own) end g
    put false g = absurd cc

    same : own ≡ object
    same = same_Some own object (put changed h ∙ is)

-- the object has been made, and is of the hierarchy
record IsEnd (mapped : Mapped) (graph : Graph) (target : ClassId) (object : ObjId) : Type 0 where
  made : IsObject graph object
  root : root_of mapped (object_at graph object).class ≡ root_of mapped target

end_by : (mapped : Mapped) (graph : Graph) (target : ClassId) (object : ObjId) (found : Option ClassId) → IsFit mapped graph → slice_get graph.roots (place_of object) ≡ found → nat_lt 0 object.0 ≡ true → is_root (root_of mapped target) found ≡ true
    → IsEnd mapped graph target object
end_by mapped graph target object None fit e some h = absurd cc
end_by mapped graph target object (Some own) fit e some h =
    let less : place_of object < length graph.roots = slice_get_within graph.roots (place_of object) own e in
    let long : length graph.roots ≡ length graph.objects = ap length fit.roots ∙ length-map graph.objects (λ (o : Object). root_of mapped o.class) in
    let positive : 0 < object.0 = ltb-true 0 object.0 some in
    let made : IsObject graph object = (positive, omega (arith, less, long, positive)) in
    record {
      made = made;
      root = sym (fit_root mapped graph object fit made) ∙ get_or_from_slice_get graph.roots (place_of object) own no_class_id e ∙ same_class own (root_of mapped target) h;
    }

end_is : (mapped : Mapped) (graph : Graph) (target : ClassId) (object : ObjId) → IsFit mapped graph → is_of_root graph.roots (root_of mapped target) object ≡ true → IsEnd mapped graph target object
end_is mapped graph target object fit h =
    let parts = and_parts (nat_lt 0 object.0) (is_root (root_of mapped target) (slice_get graph.roots (place_of object))) h in
    end_by mapped graph target object (slice_get graph.roots (place_of object)) fit refl parts.0 parts.1

-- ---- a many-to-one relationship

-- it has no secondary table
no_far : (mapped : Mapped) (class : ClassId) (relation : Relation) (found : Option Relation) (far : Bool) → is_some relation.far ≡ far → relation.many ≡ false → IsBack mapped class relation found → far ≡ false
no_far mapped class relation None far e single back = absurd back
no_far mapped class relation (Some partner) false e single back = refl
no_far mapped class relation (Some partner) true e single back =
    let both : (relation.many && partner.many) ≡ true = ap (λ (b : Bool). if b then relation.many && partner.many else differ relation.many partner.many) (sym e) ∙ back.0 in
    let many : relation.many ≡ true = (and_parts relation.many partner.many both).0 in
    absurd (let e : true ≡ false = sym many ∙ single in cc)

joined_by : (mapped : Mapped) (relation : Relation) (far : Option TableKey) → is_some far ≡ false → relation.many ≡ false → has_keys mapped relation far ≡ true
    → refers_by mapped.schema.tables (tables_of mapped relation.target) (foreign_at mapped.schema.tables relation.foreign) ≡ true
joined_by mapped relation (Some far) none single h = absurd cc
joined_by mapped relation None none single h =
    let plain : joins mapped.schema.tables (Some (layout_of mapped relation.class)) (Some (layout_of mapped relation.target)) relation.foreign ≡ true =
    subst
    (λ (b : Bool). joins mapped.schema.tables (Some (layout_of mapped (if b then relation.target else relation.class))) (Some (layout_of mapped (if b then relation.class else relation.target))) relation.foreign ≡ true)
    single h in
    let own = layout_of mapped relation.class in
    three_parts (is_among own.tables relation.foreign.0) (list_all (has_attribute own.attributes relation.foreign.0) (names_of mapped.schema.tables relation.foreign))
    (refers_by mapped.schema.tables (tables_of mapped relation.target) (foreign_at mapped.schema.tables relation.foreign)) plain (λ p q r. r)

-- ---- the keys of new objects

given_or_none : (mapped : Mapped) (class : ClassId) (new fit : Bool) (key : List Value) → key_fits mapped class key ≡ fit → identity_fits mapped class (if new then key_if_fit fit key else None) ≡ true
given_or_none mapped class true true key h = h
given_or_none mapped class true false key h = refl
given_or_none mapped class false fit key h = refl

-- each fits its object's class
new_key_fits : (mapped : Mapped) (graph : Graph) (prepared : Prepared) (changes : RowChanges) (keys : List (List Value)) (object : ObjId) → IsObject graph object
    → identity_fits mapped (object_at graph object).class (get_or (new_keys mapped graph prepared changes keys) (place_of object) None) ≡ true
unfolding new_keys object_ids
new_key_fits mapped graph prepared changes keys object made =
    let given : ObjId → Option (List Value) = key_if_new mapped graph prepared changes keys in
    let ids : List ObjId = map id_of_place (range_with_len 0 (length graph.objects)) in
    let above : 0 < object.0 = made.0 in
    let inside : object.0 ≤ length graph.objects = made.1 in
    let less : place_of object < length graph.objects = omega (arith, above, inside) in
    let within : place_of object < length ids = rw (length-map-range_with_len id_of_place 0 (length graph.objects)) less in
    let id : id_of_place (place_of object) ≡ object = ap (λ (n : ℕ). let it : ObjId = record { 0 = n } in it) (omega (arith, above)) in
    let own : List Value = new_key mapped graph changes keys object in
    ap (identity_fits mapped (object_at graph object).class)
    (get_or-map given ids (place_of object) object None within
    ∙ ap given (get_or-map-range_with_len id_of_place 0 (length graph.objects) (place_of object) (place_of object) object less (omega arith) ∙ id))
    ∙ given_or_none mapped (object_at graph object).class (is_new graph prepared object) (key_fits mapped (object_at graph object).class own) own refl

-- ---- what comes

module _ (mapped : Mapped) (graph : Graph) (prepared : Prepared) (changes : RowChanges) (keys : List (List Value)) (has : HasHierarchies mapped) (related : AreRelated mapped) (fit : IsFit mapped graph) where
  abbrev written : Written
  written = written_with mapped prepared changes keys graph

  abbrev rows : List RowName
  rows = new_names mapped graph prepared

  abbrev class_at : ObjId → ClassId
  class_at object = (object_at graph object).class

  abbrev relations_at : ObjId → List Relation
  relations_at object = relations_of mapped (class_at object)

  -- the object at the end of a changed link
  link_end : (object : ObjId) (i : ℕ) (relation : Relation) (end : Option ObjId) (other : ObjId) → IsObject graph object → slice_get (relations_at object) i ≡ Some relation
      → end_put graph prepared object (record { 0 = i }) ≡ Some end → end ≡ Some other → IsEnd mapped graph relation.target other
  link_end object i relation end other made at put is = by (is_cleared prepared object number) (put ∙ ap (λ (e : Option ObjId). Some e) is)
    where
      number : RelNo
      number = record { 0 = i }

      links : List Link
      links = (object_at graph object).links

      link : Link
      link = get_or links i Unset

      -- a link that becomes none has no end
      by : (b : Bool) → (if b then Some None else changed_end link) ≡ Some (Some other) → IsEnd mapped graph relation.target other
      by true e = absurd cc
      by false e =
          let less : i < length (relations_at object) = slice_get_within (relations_at object) i relation at in
          let fits : link_fits mapped graph.roots (get_or (relations_at object) i no_relation) link ≡ true = pointwise_at (link_fits mapped graph.roots) (relations_at object) links i no_relation Unset (fit_links mapped graph object fit made) less in
          let held : held_fit graph.roots (root_of mapped relation.target) relation.many link ≡ true =
          subst (λ (r : Relation). link_fits mapped graph.roots r link ≡ true) (get_or_from_slice_get (relations_at object) i relation no_relation at) fits in
          end_is mapped graph relation.target other fit (one_end link (Some other) e graph.roots (root_of mapped relation.target) relation.many held other refl)

  row_object : (target : Option TableId) (object : ObjId) (place : ℕ) → place_among rows target object ≡ Some place → (get_or rows place no_row).object ≡ object
  row_object None object place h = absurd cc
  row_object (Some table) object place h =
      let at = position-Some (is_row_of table object) rows place no_row h in
      let row : RowName = get_or rows place no_row in
      let same : row.object.0 ≡ object.0 = eqb-true row.object.0 object.0 (and_parts (row.table.0 == table.0) (row.object.0 == object.0) at.1).1 in
      ap (λ (n : ℕ). let it : ObjId = record { 0 = n } in it) same

  -- a part of the key of the object at the end
  end_part : (other : ObjId) (part : ℕ) (kind : Kind) (target : Option TableId) (found : Option ℕ) → IsObject graph other → slice_get (kinds_of (key_columns (root_spec mapped (class_at other)))) part ≡ Some kind → place_among rows target other ≡ found
      → is_of_kind kind (kind_of_value (value_put written (key_cell found (object_at graph other).identity part))) ≡ true
  end_part other part kind target None made expected h =
      part_kind mapped (class_at other) part kind (object_at graph other).identity has (class_tables mapped (class_at other) has (fit_class mapped graph other fit made)) expected (fit_at mapped graph other fit made).identity
  end_part other part kind target (Some place) made expected h =
      subst (λ (o : ObjId). is_of_kind kind (kind_of_value (key_value (key_of written o) part)) ≡ true) (sym (row_object target other place h))
      (part_kind mapped (class_at other) part kind (key_of written other) has (class_tables mapped (class_at other) has (fit_class mapped graph other fit made)) expected (new_key_fits mapped graph prepared changes keys other made))

  end_kind : (object : ObjId) (i : ℕ) (relation : Relation) (attribute : Attribute) (foreign : ForeignSpec) (part : ℕ) (put end : Option ObjId) → IsObject graph object → slice_get (relations_at object) i ≡ Some relation
      → end_put graph prepared object (record { 0 = i }) ≡ Some put → put ≡ end → slice_get (kinds_of (key_columns (root_spec mapped relation.target))) part ≡ Some attribute.kind
      → is_of_kind attribute.kind (kind_of_value (value_put written (end_cell graph rows (target_of mapped.schema foreign) part end))) ≡ true
  end_kind object i relation attribute foreign part put None made at given is expected = refl
  end_kind object i relation attribute foreign part put (Some other) made at given is expected =
      let end = link_end object i relation put other made at given is in
      end_part other part attribute.kind (target_of mapped.schema foreign) (place_among rows (target_of mapped.schema foreign) other) end.made
      (ap (λ (root : ClassId). slice_get (kinds_of (key_columns (spec_of mapped.schema (table_or_none (own_table mapped.schema.tables mapped.classes root.0))))) part) end.root ∙ expected) refl

  -- what is written for a cell that comes through a link
  cell_kind : (object : ObjId) (attribute : Attribute) (cell : RowCell) → IsObject graph object → Has (attributes_of mapped (class_at object)) attribute
      → linked_cell mapped graph prepared rows object attribute.table attribute.name ≡ Some cell → is_of_kind attribute.kind (kind_of_value (value_put written cell)) ≡ true
  cell_kind object attribute cell made there h =
      let tables : List TableSpec = mapped.schema.tables in
      let gives : ℕ × Relation → Option RowCell = relation_cell mapped graph prepared rows object attribute.table attribute.name in
      let from = from_map gives (enumerate_from 0 (relations_at object)) (Some cell) (first_has (map gives (enumerate_from 0 (relations_at object))) cell h) in
      let i : ℕ = from.0.0 in
      let relation : Relation = from.0.1 in
      let numbered = from_numbered 0 (relations_at object) from.0 from.1 in
      let at : slice_get (relations_at object) i ≡ Some relation = ap (slice_get (relations_at object)) (let e : i ≡ numbered.0 = omega (arith, numbered.1) in e) ∙ numbered.2 in
      let number : RelNo = record { 0 = i } in
      let by = if_given (is_by attribute.table relation)
      (put_cell mapped.schema graph prepared rows attribute.name (slice_get (foreigns_in tables attribute.table) relation.foreign.1) (end_put graph prepared object number)) cell from.2 in
      let parts = and_parts (not relation.many) (relation.foreign.0.0 == attribute.table.0) by.0 in
      let single : relation.many ≡ false = not_many relation.many parts.0 in
      let of = column_of mapped (class_at object) attribute there in
      let given = put_gives mapped.schema graph prepared rows attribute.name (slice_get (foreigns_in tables attribute.table) relation.foreign.1) cell (end_put graph prepared object number) by.1 in
      let piece : IsPart mapped.schema graph rows attribute.name given.0 (slice_get (foreigns_in tables attribute.table) relation.foreign.1) cell = given.2 in
      let less : i < length (relations_at object) = slice_get_within (relations_at object) i relation at in
      let owned : IsRelated mapped relation = subst (IsRelated mapped) (get_or_from_slice_get (relations_at object) i relation no_relation at) (related.each (class_at object) (fit_class mapped graph object fit made) i no_relation less) in
      let near : is_some relation.far ≡ false = no_far mapped (class_at object) relation (partner_of mapped relation) (is_some relation.far) refl single (has.paired.back (class_at object) i relation at) in
      let joined = joined_by mapped relation relation.far near single owned.keys in
      let stands : foreign_at tables relation.foreign ≡ Some piece.foreign = ap (λ (t : TableId). slice_get (foreigns_in tables t) relation.foreign.1) (same_table relation.foreign.0 attribute.table parts.1) ∙ piece.is in
      let into : refers_into tables piece.foreign (tables_of mapped relation.target) ≡ true = ap (refers_by tables (tables_of mapped relation.target)) (sym stands) ∙ joined in
      let inside : Has (spec_of mapped.schema attribute.table).foreigns piece.foreign =
      subst (λ (o : Option TableSpec). Has (foreigns_of o) piece.foreign) (slice_get-get_or tables attribute.table.0 no_table of.less) (has_at (foreigns_in tables attribute.table) relation.foreign.1 piece.foreign piece.is) in
      let found = position-Some (λ (own : List ℕ). same_name own attribute.name) piece.foreign.columns piece.part [] piece.at in
      let named : slice_get piece.foreign.columns piece.part ≡ Some attribute.name =
      slice_get-get_or piece.foreign.columns piece.part [] found.0 ∙ ap (λ (n : List ℕ). Some n) (same_names (get_or piece.foreign.columns piece.part []) attribute.name found.1) in
      subst (λ (c : RowCell). is_of_kind attribute.kind (kind_of_value (value_put written c)) ≡ true) piece.gives
      (end_kind object i relation attribute piece.foreign piece.part given.0 given.0 made at given.1 refl
      (referred_kind mapped relation.target attribute piece.foreign piece.part has (class_tables mapped relation.target has owned.target) of inside into named))

  come_by : (object : ObjId) (attribute : Attribute) (found : Option RowCell) → IsObject graph object → Has (attributes_of mapped (class_at object)) attribute → linked_cell mapped graph prepared rows object attribute.table attribute.name ≡ found
      → value_fits attribute (option_map (value_put written) found) ≡ true
  come_by object attribute None made there h = refl
  come_by object attribute (Some cell) made there h = cell_kind object attribute cell made there h

  pub come_fits : (object : ObjId) (attribute : Attribute) → IsObject graph object → Has (attributes_of mapped (class_at object)) attribute → value_fits attribute (value_come written object attribute) ≡ true
  come_fits object attribute made there = come_by object attribute (linked_cell mapped graph prepared rows object attribute.table attribute.name) made there refl
