-- What the changed links of an object give: values, or parts of the keys of named new rows.
use Rattle.std.proofs.Common.{◌≡◌, ℕ, ◌<◌, Bool, true, false, if◌then◌else◌, List, [], ◌∷◌, length, map, Option, None, Some, refl, subst, ◌∙◌}
use Rattle.std.specs.Prelude.{slice_get}
use Rattle.std.specs.List.{enumerate_from, position}
use Rattle.std.proofs.lemmas.List.Quantifiers.{position-Some}
use Rattle.std.proofs.lemmas.Option.{same_Some}
use Rattle.base_core.specs.declared.ids.ObjId.{ObjId}
use Rattle.base_core.specs.declared.ids.TableId.{TableId}
use Rattle.base_core.specs.declared.refusal.RowName.{RowName}
use Rattle.base_core.specs.declared.value.Value.{Value}
use Rattle.schema_core.specs.declared.changes.RowCell.{RowCell}
use Rattle.schema_core.specs.declared.changes.RowCell.TheVariants.{Given, KeyOf}
use Rattle.schema_core.specs.declared.table.ForeignSpec.{ForeignSpec}
use Rattle.schema_core.specs.Catalog.{Catalog, same_name, target_of}
use Rattle.class_layouts.specs.Faults.{foreigns_in}
use Rattle.class_types.specs.declared.mapped.Relation.{Relation}
use Rattle.class_mapping.specs.Mapped.{Mapped, relations_of}
use Rattle.object_arena.specs.Graph.{Graph, object_at}
use Rattle.object_rows.specs.declared.prepared.Prepared.{Prepared}
use Rattle.object_rows.specs.Cells.{end_cell, first_cell, foreign_cell, is_by, key_cell, linked_cell, or_first, part_cell, put_cell, relation_cell}
use Rattle.object_rows.specs.Places.{is_row_of}
use Rattle.object_rows.specs.Seen.{end_put, is_kept_end}

-- a part of a key is of a named row
abbrev pub IsOfNames : List RowName → RowCell → Type 0
IsOfNames names (Given value) = Unit {0}
IsOfNames names (KeyOf place part) = place < length names

module _ (graph : Graph) (names : List RowName) where
  by_place : (found : Option ℕ) (identity : Option (List Value)) (part : ℕ) → ((place : ℕ) → found ≡ Some place → place < length names) → IsOfNames names (key_cell found identity part)
  by_place None identity part less = tt
  by_place (Some place) identity part less = less place refl

  of_end : (table : Option TableId) (part : ℕ) (end : Option ObjId) → IsOfNames names (end_cell graph names table part end)
  of_end table part None = tt
  of_end None part (Some end) = tt
  of_end (Some table) part (Some end) =
      by_place (position (is_row_of table end) names) (object_at graph end).identity part (λ place e. (position-Some (is_row_of table end) names place (record { table = table; object = end }) e).0)

  of_part : (schema : Catalog) (foreign : ForeignSpec) (end : Option ObjId) (part : Option ℕ) (cell : RowCell) → part_cell schema graph names foreign end part ≡ Some cell → IsOfNames names cell
  of_part schema foreign end None cell e = absurd cc
  of_part schema foreign end (Some part) cell e = subst (IsOfNames names) (same_Some (end_cell graph names (target_of schema foreign) part end) cell e) (of_end (target_of schema foreign) part end)

  of_foreign : (schema : Catalog) (name : List ℕ) (end : Option ObjId) (foreign : Option ForeignSpec) (cell : RowCell) → foreign_cell schema graph names name end foreign ≡ Some cell → IsOfNames names cell
  of_foreign schema name end None cell e = absurd cc
  of_foreign schema name end (Some foreign) cell e = of_part schema foreign end (position (λ own. same_name own name) foreign.columns) cell e

  of_put : (schema : Catalog) (prepared : Prepared) (name : List ℕ) (foreign : Option ForeignSpec) (put : Option (Option ObjId)) (cell : RowCell) → put_cell schema graph prepared names name foreign put ≡ Some cell → IsOfNames names cell
  of_put schema prepared name foreign None cell e = absurd cc
  of_put schema prepared name foreign (Some end) cell e = by (is_kept_end graph prepared end) e
    where
      by : (b : Bool) → (if b then foreign_cell schema graph names name end foreign else None) ≡ Some cell → IsOfNames names cell
      by true e = of_foreign schema name end foreign cell e
      by false e = absurd (let wrong : None ≡ Some cell = e in cc)

  of_relation : (mapped : Mapped) (prepared : Prepared) (object : ObjId) (table : TableId) (name : List ℕ) (placed : ℕ × Relation) (cell : RowCell) → relation_cell mapped graph prepared names object table name placed ≡ Some cell → IsOfNames names cell
  of_relation mapped prepared object table name placed cell e = by (is_by table placed.1) e
    where
      foreign : Option ForeignSpec
      foreign = slice_get (foreigns_in mapped.schema.tables table) placed.1.foreign.1

      by : (b : Bool) → (if b then put_cell mapped.schema graph prepared names name (slice_get (foreigns_in mapped.schema.tables table) placed.1.foreign.1) (end_put graph prepared object (record { 0 = placed.0 })) else None) ≡ Some cell → IsOfNames names cell
      by true e = of_put mapped.schema prepared name (slice_get (foreigns_in mapped.schema.tables table) placed.1.foreign.1) (end_put graph prepared object (record { 0 = placed.0 })) cell e
      by false e = absurd (let wrong : None ≡ Some cell = e in cc)

  of_first : {A : Type 0} (f : A → Option RowCell) (xs : List A) → ((x : A) (cell : RowCell) → f x ≡ Some cell → IsOfNames names cell) → (cell : RowCell) → first_cell (map f xs) ≡ Some cell → IsOfNames names cell
  of_first f [] each cell e = absurd cc
  of_first f (x ∷ xs) each cell e = by (f x) refl e (of_first f xs each cell)
    where
      by : (found : Option RowCell) → f x ≡ found → or_first found (first_cell (map f xs)) ≡ Some cell → (first_cell (map f xs) ≡ Some cell → IsOfNames names cell) → IsOfNames names cell
      by None is e more = more e
      by (Some own) is e more = each x cell (is ∙ e)

  pub of_linked : (mapped : Mapped) (prepared : Prepared) (object : ObjId) (table : TableId) (name : List ℕ) (cell : RowCell) → linked_cell mapped graph prepared names object table name ≡ Some cell → IsOfNames names cell
  of_linked mapped prepared object table name cell e =
      of_first (relation_cell mapped graph prepared names object table name) (enumerate_from 0 (relations_of mapped (object_at graph object).class)) (λ placed own is. of_relation mapped prepared object table name placed own is) cell e
