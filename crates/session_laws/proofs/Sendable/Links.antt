-- What changed links give the columns of foreign keys fits them.
use Rattle.std.proofs.Common.{◌≡◌, inl, inr, ℕ, ◌<◌, Bool, true, false, not, ◌&&◌, ◌==◌, List, [], ◌∷◌, length, map, get_or, Option, None, Some, refl, sym, ap, ◌∙◌, subst, arith}
use Rattle.std.specs.Prelude.{if◌then◌else◌, is_some, nat_lt, slice_get}
use Rattle.std.specs.List.{enumerate_from, list_all, position}
use Rattle.std.proofs.lemmas.Bool.{and_parts}
use Rattle.std.proofs.lemmas.Bool.Decides.{nat_tests}
use Rattle.std.proofs.lemmas.List.{length-map}
use Rattle.std.proofs.lemmas.List.Elements.{recursion_from_All}
use Rattle.std.proofs.lemmas.List.Quantifiers.{position-Some}
use Rattle.std.proofs.lemmas.Option.{get_or_from_slice_get, same_Some, slice_get-get_or, slice_get_within}
use Rattle.base_core.specs.declared.ids.ClassId.{ClassId}
use Rattle.base_core.specs.declared.ids.ObjId.{ObjId}
use Rattle.base_core.specs.declared.ids.TableId.{TableId}
use Rattle.base_core.specs.declared.refusal.RowName.{RowName}
use Rattle.schema_core.specs.declared.changes.RowCell.{RowCell}
use Rattle.schema_core.specs.declared.changes.RowChanges.{RowChanges}
use Rattle.schema_core.specs.declared.table.ColumnSpec.{ColumnSpec}
use Rattle.schema_core.specs.declared.table.ForeignSpec.{ForeignSpec}
use Rattle.schema_core.specs.declared.table.TableSpec.{TableSpec}
use Rattle.schema_core.specs.Catalog.{Catalog, IsTable, find_table, same_name, spec_of, target_of}
use Rattle.schema_core.proofs.Names.{same_names}
use Rattle.class_types.specs.declared.mapped.Relation.{Relation}
use Rattle.class_layouts.specs.Columns.{is_table}
use Rattle.class_layouts.specs.Faults.{foreigns_in}
use Rattle.class_sides.specs.Keys.{TableKey, foreign_at, names_of, refers_into, refers_to}
use Rattle.class_sides.specs.Pairs.{differ}
use Rattle.class_sides.specs.Sides.{has_attribute}
use Rattle.class_mapping.specs.Mapped.{IsClass, Mapped, layout_of, partner_of, relations_of, root_of, tables_of}
use Rattle.class_mapping.specs.Paired.{IsBack}
use Rattle.class_mapping.specs.Related.{AreRelated, IsRelated, has_keys}
use Rattle.class_mapping.specs.Valid.{joins, refers_by}
use Rattle.class_mapping.specs.Valid as valid
use Rattle.class_mapping.proofs.Having.{Has, from_map, from_numbered, has_at, some_of}
use Rattle.class_mapping.proofs.RelatedKeys.{same_table}
use Rattle.mapping_laws.specs.Hierarchies.{HasHierarchies}
use Rattle.object_arena.specs.declared.object.Link.{Link}
use Rattle.object_arena.specs.declared.object.Link.TheVariants.{Many, One, Unloaded, Unset}
use Rattle.object_arena.specs.declared.object.Object.{Object}
use Rattle.object_arena.specs.Fit.{IsFit, held_fit, is_of_root, is_root, link_fits}
use Rattle.object_arena.specs.Graph.{Graph, IsObject, object_at, place_of}
use Rattle.object_arena.proofs.FitLemmas.{fit_links, fit_root}
use Rattle.flush_order.specs.Cells.{table_at}
use Rattle.object_rows.specs.declared.prepared.Prepared.{Prepared}
use Rattle.object_rows.specs.Cells.{end_cell, first_cell, foreign_cell, is_by, linked_cell, part_cell, put_cell, relation_cell}
use Rattle.object_rows.specs.Seen.{changed_end, end_if, end_put, is_cleared, is_kept_end, link_of}
use Rattle.session_laws.proofs.Plans.Facts.{not_true}
use Rattle.session_laws.proofs.Graphs.Named.{opposite}
use Rattle.session_laws.proofs.Projects.LateKeys.{each_has}
use Rattle.session_laws.proofs.Projects.Loose.{foreigns_same}
use Rattle.session_laws.specs.Sendable.{cell_fits}
use Rattle.session_laws.proofs.Sendable.EndKeys.{end_fits}

-- ---- which link gives a cell

given_by : {A : Type 0} (test : Bool) (found : Option A) (x : A) → (if test then found else None) ≡ Some x → (test ≡ true) × (found ≡ Some x)
given_by true found x is = (refl, is)
given_by false found x is = absurd cc

given_first : (cells : List (Option RowCell)) (cell : RowCell) → first_cell cells ≡ Some cell → Has cells (Some cell)
given_first [] cell is = absurd cc
given_first (None ∷ cells) cell is = inr (given_first cells cell is)
given_first (Some own ∷ cells) cell is = inl is

-- the cell is what a foreign key gives its column of this name
pub record IsGiven (schema : Catalog) (graph : Graph) (names : List RowName) (name : List ℕ) (end : Option ObjId) (found : Option ForeignSpec) (cell : RowCell) : Type 0 where
  pub foreign : ForeignSpec
  pub is : found ≡ Some foreign
  pub part : ℕ
  pub at : slice_get foreign.columns part ≡ Some name
  pub gives : end_cell graph names (target_of schema foreign) part end ≡ cell

pub foreign_gives : (schema : Catalog) (graph : Graph) (names : List RowName) (name : List ℕ) (end : Option ObjId) (found : Option ForeignSpec) (cell : RowCell) → foreign_cell schema graph names name end found ≡ Some cell → IsGiven schema graph names name end found cell
foreign_gives schema graph names name end None cell is = absurd cc
foreign_gives schema graph names name end (Some foreign) cell is = by (position (λ own. same_name own name) foreign.columns) refl is
  where
    by : (place : Option ℕ) → position (λ own. same_name own name) foreign.columns ≡ place → part_cell schema graph names foreign end place ≡ Some cell → IsGiven schema graph names name end (Some foreign) cell
    by None at given = absurd cc
    by (Some part) at given =
        let none : List ℕ = [] in
        let found = position-Some (λ (own : List ℕ). same_name own name) foreign.columns part none at in
        record {
          foreign = foreign;
          is = refl;
          part = part;
          at = slice_get-get_or foreign.columns part none found.0 ∙ ap (λ (own : List ℕ). Some own) (same_names (get_or foreign.columns part none) name found.1);
          gives = same_Some (end_cell graph names (target_of schema foreign) part end) cell given;
        }

-- ---- ends

is_target : (found : Option TableId) (table : TableId) → is_table found table ≡ true → found ≡ Some table
is_target None table h = absurd cc
is_target (Some other) table h = ap (λ (t : TableId). Some t) (same_table other table h)

-- a foreign key that refers to one of the tables of a class has that one for its target
pub into_class : (mapped : Mapped) (class : ClassId) (foreign : ForeignSpec) → refers_into mapped.schema.tables foreign (tables_of mapped class) ≡ true → (target : TableId) × Has (tables_of mapped class) target × (target_of mapped.schema foreign ≡ Some target)
into_class mapped class foreign into =
    let found = some_of (refers_to mapped.schema.tables foreign) (tables_of mapped class) into in
    (found.0, found.1, is_target (find_table mapped.schema.tables foreign.target) found.0 found.2)

-- an object of a root's hierarchy has been made, and its class is of it
pub record IsUnder (mapped : Mapped) (graph : Graph) (root : ClassId) (object : ObjId) : Type 0 where
  pub made : IsObject graph object
  pub under : root_of mapped (object_at graph object).class ≡ root

pub same_class : (one other : ClassId) → (one.0 == other.0) ≡ true → one ≡ other
same_class one other h = let same : one.0 ≡ other.0 = grind (arith, nat_tests) in ap (λ (n : ℕ). let class : ClassId = record { 0 = n } in class) same

pub under_root : (mapped : Mapped) (graph : Graph) (root : ClassId) (object : ObjId) → IsFit mapped graph → is_of_root graph.roots root object ≡ true → IsUnder mapped graph root object
under_root mapped graph root object fit h =
    let parts = and_parts (nat_lt 0 object.0) (is_root root (slice_get graph.roots (place_of object))) h in
    by (slice_get graph.roots (place_of object)) refl parts.0 parts.1
  where
    by : (found : Option ClassId) → slice_get graph.roots (place_of object) ≡ found → nat_lt 0 object.0 ≡ true → is_root root found ≡ true → IsUnder mapped graph root object
    by None at some is = absurd cc
    by (Some own) at some is =
        let less : place_of object < length graph.roots = slice_get_within graph.roots (place_of object) own at in
        let long : length graph.roots ≡ length graph.objects = ap length fit.roots ∙ length-map graph.objects (λ (o : Object). root_of mapped o.class) in
        let above : 0 < object.0 = grind (arith, nat_tests) in
        let made : IsObject graph object = (above, omega (arith, less, long, above)) in
        record { made = made; under = sym (fit_root mapped graph object fit made) ∙ get_or_from_slice_get graph.roots (place_of object) own _ at ∙ same_class own root is }

-- the end that is put is one of the target's hierarchy
put_end : (link : Link) (end : ObjId) (roots : List ClassId) (root : ClassId) (many : Bool) → changed_end link ≡ Some (Some end) → held_fit roots root many link ≡ true → is_of_root roots root end ≡ true
put_end Unset end roots root many is fits = absurd cc
put_end (Unloaded added removed) end roots root many is fits = absurd cc
put_end (Many members base) end roots root many is fits = absurd cc
put_end (One own changed) end roots root many is fits = by changed own is fits
  where
    by : (changed : Bool) (own : Option ObjId) → end_if changed own ≡ Some (Some end) → held_fit roots root many (One own changed) ≡ true → is_of_root roots root end ≡ true
    by false own is fits = absurd cc
    by true None is fits = absurd cc
    by true (Some other) is fits = let same : other ≡ end = cc in ap (is_of_root roots root) (sym same) ∙ (and_parts (not many) (is_of_root roots root other) fits).1

-- ---- many-to-one relationships

-- they have no secondary table
pub no_secondary : (mapped : Mapped) (class : ClassId) (relation : Relation) → relation.many ≡ false → (found : Option Relation) → IsBack mapped class relation found → is_some relation.far ≡ false
no_secondary mapped class relation one None back = absurd back
no_secondary mapped class relation one (Some partner) back = by (is_some relation.far) back.0
  where
    by : (far : Bool) → (if far then relation.many && partner.many else differ relation.many partner.many) ≡ true → far ≡ false
    by true h = absurd (let e : true ≡ false = sym (and_parts relation.many partner.many h).0 ∙ one in cc)
    by false h = refl

-- their foreign key refers to a table of the class to which they lead
pub leads_to : (mapped : Mapped) (relation : Relation) → relation.many ≡ false → (far : Option TableKey) → is_some far ≡ false → has_keys mapped relation far ≡ true → refers_by mapped.schema.tables (tables_of mapped relation.target) (foreign_at mapped.schema.tables relation.foreign) ≡ true
leads_to mapped relation one (Some far) none keys = absurd cc
leads_to mapped relation one None none keys =
    let own = layout_of mapped relation.class in
    let other = layout_of mapped relation.target in
    let near : Bool = valid.is_among own.tables relation.foreign.0 && list_all (has_attribute own.attributes relation.foreign.0) (names_of mapped.schema.tables relation.foreign) in
    (and_parts near (refers_by mapped.schema.tables other.tables (foreign_at mapped.schema.tables relation.foreign))
    (subst (λ (b : Bool). joins mapped.schema.tables (Some (layout_of mapped (if b then relation.target else relation.class))) (Some (layout_of mapped (if b then relation.class else relation.target))) relation.foreign ≡ true) one keys)).1

module _ (mapped : Mapped) (has : HasHierarchies mapped) (related : AreRelated mapped) (graph : Graph) (prepared : Prepared) (fit : IsFit mapped graph) (changes : RowChanges) (names : List RowName)
    (stands : (q : ℕ) (row : RowName) → slice_get names q ≡ Some row → (q < length changes.fresh) × (table_at changes q ≡ row.table)) (table : TableId) (inside : IsTable mapped.schema table) where
  abbrev columns : List ColumnSpec
  columns = (spec_of mapped.schema table).columns

  abbrev relations : ObjId → List Relation
  relations object = relations_of mapped (object_at graph object).class

  -- what a foreign key gives a column that refers to a class of the end's hierarchy
  pub given_fits : (class : ClassId) (column : ColumnSpec) (end : Option ObjId) (number : ℕ) (cell : RowCell) → IsClass mapped class → Has columns column
      → (given : IsGiven mapped.schema graph names column.name end (slice_get (foreigns_in mapped.schema.tables table) number) cell) → refers_into mapped.schema.tables given.foreign (tables_of mapped class) ≡ true
      → ((object : ObjId) → end ≡ Some object → IsUnder mapped graph (root_of mapped class) object) → cell_fits mapped.schema changes column cell ≡ true
  given_fits class column end number cell is of given into under =
      subst (λ (c : RowCell). cell_fits mapped.schema changes column c ≡ true) given.gives (by end under)
    where
      by : (end : Option ObjId) → ((object : ObjId) → end ≡ Some object → IsUnder mapped graph (root_of mapped class) object) → cell_fits mapped.schema changes column (end_cell graph names (target_of mapped.schema given.foreign) given.part end) ≡ true
      by None under = refl
      by (Some object) under =
          let own = under object refl in
          let target = into_class mapped class given.foreign into in
          let there : Has (spec_of mapped.schema table).foreigns given.foreign = subst (λ (all : List ForeignSpec). Has all given.foreign) (foreigns_same mapped.schema.tables table.0) (has_at (foreigns_in mapped.schema.tables table) number given.foreign given.is) in
          end_fits mapped has table inside graph fit changes names stands given.foreign there target.0 target.2 object
          (record { class = class; is = is; there = target.1; made = own.made; root = own.under }) column of given.part given.at

  put_gives : (name : List ℕ) (found : Option ForeignSpec) (cell : RowCell) (put : Option (Option ObjId)) → put_cell mapped.schema graph prepared names name found put ≡ Some cell → (end : Option ObjId) × (put ≡ Some end) × IsGiven mapped.schema graph names name end found cell
  put_gives name found cell None is = absurd cc
  put_gives name found cell (Some end) is = (end, refl, foreign_gives mapped.schema graph names name end found cell (given_by (is_kept_end graph prepared end) (foreign_cell mapped.schema graph names name end found) cell is).1)

  end_under : (object : ObjId) (i : ℕ) (relation : Relation) → IsObject graph object → slice_get (relations object) i ≡ Some relation → (end : Option ObjId) → end_put graph prepared object (record { 0 = i }) ≡ Some end
      → (other : ObjId) → end ≡ Some other → IsUnder mapped graph (root_of mapped relation.target) other
  end_under object i relation made at end put other is = by (is_cleared prepared object (record { 0 = i })) (put ∙ ap (λ (e : Option ObjId). Some e) is)
    where
      link : Link
      link = link_of (object_at graph object) (record { 0 = i })

      by : (b : Bool) → (if b then Some None else changed_end link) ≡ Some (Some other) → IsUnder mapped graph (root_of mapped relation.target) other
      by true e = absurd cc
      by false e =
          let own = opposite (link_fits mapped graph.roots) (relations object) (object_at graph object).links i relation (fit_links mapped graph object fit made) at in
          let same : link ≡ own.0 = get_or_from_slice_get (object_at graph object).links i own.0 Unset own.1 in
          under_root mapped graph (root_of mapped relation.target) other fit (put_end own.0 other graph.roots (root_of mapped relation.target) relation.many (ap changed_end (sym same) ∙ e) own.2)

  -- what an object's changed links give a column fits it
  pub linked_fits : (object : ObjId) → IsObject graph object → IsClass mapped (object_at graph object).class → (column : ColumnSpec) → Has columns column → (cell : RowCell)
      → linked_cell mapped graph prepared names object table column.name ≡ Some cell → cell_fits mapped.schema changes column cell ≡ true
  linked_fits object made is column of cell linked =
      let tables : List TableSpec = mapped.schema.tables in
      let gives : ℕ × Relation → Option RowCell = relation_cell mapped graph prepared names object table column.name in
      let from = from_map gives (enumerate_from 0 (relations object)) (Some cell) (given_first (map gives (enumerate_from 0 (relations object))) cell linked) in
      let i : ℕ = from.0.0 in
      let relation : Relation = from.0.1 in
      let numbered = from_numbered 0 (relations object) from.0 from.1 in
      let at : slice_get (relations object) i ≡ Some relation = ap (slice_get (relations object)) (let e : i ≡ numbered.0 = omega (arith, numbered.1) in e) ∙ numbered.2 in
      let own : IsRelated mapped relation = each_has (IsRelated mapped) (relations object) relation (recursion_from_All (IsRelated mapped) (relations object) (related.each (object_at graph object).class is)) (has_at (relations object) i relation at) in
      let found : Option ForeignSpec = slice_get (foreigns_in tables table) relation.foreign.1 in
      let by = given_by (is_by table relation) (put_cell mapped.schema graph prepared names column.name found (end_put graph prepared object (record { 0 = i }))) cell from.2 in
      let parts = and_parts (not relation.many) (relation.foreign.0.0 == table.0) by.0 in
      let one : relation.many ≡ false = not_true relation.many parts.0 in
      let given = put_gives column.name found cell (end_put graph prepared object (record { 0 = i })) by.1 in
      let near : is_some relation.far ≡ false = no_secondary mapped (object_at graph object).class relation one (partner_of mapped relation) (has.paired.back (object_at graph object).class i relation at) in
      let here : foreign_at tables relation.foreign ≡ Some given.2.foreign = ap (λ (t : TableId). slice_get (foreigns_in tables t) relation.foreign.1) (same_table relation.foreign.0 table parts.1) ∙ given.2.is in
      let into : refers_into tables given.2.foreign (tables_of mapped relation.target) ≡ true = ap (refers_by tables (tables_of mapped relation.target)) (sym here) ∙ leads_to mapped relation one relation.far near own.keys in
      given_fits relation.target column given.0 relation.foreign.1 cell own.target of given.2 into (end_under object i relation made at given.0 given.1)
