-- The foreign keys of the rows of pairs: each is the key of one of both objects, or NULL.
use Rattle.std.proofs.Common.{◌≡◌, inl, ℕ, Bool, true, false, ◌==◌, List, length, map, Option, None, Some, unwrap_or, refl, sym, subst, ap, ◌∙◌}
use Rattle.std.proofs.lemmas.Bool.{eqb-true}
use Rattle.std.specs.Prelude.{slice_get}
use Rattle.std.specs.List.{AllByRecursion}
use Rattle.base_core.specs.declared.ids.ObjId.{ObjId}
use Rattle.base_core.specs.declared.refusal.RowName.{RowName}
use Rattle.base_core.specs.declared.value.Value.TheVariants.{Null}
use Rattle.schema_core.specs.declared.changes.RowCell.{RowCell}
use Rattle.schema_core.specs.declared.changes.RowCell.TheVariants.{Given}
use Rattle.schema_core.specs.declared.table.ColumnSpec.{ColumnSpec}
use Rattle.schema_core.specs.declared.table.ForeignSpec.{ForeignSpec}
use Rattle.schema_core.specs.declared.table.TableSpec.{TableSpec}
use Rattle.schema_core.specs.Catalog.{IsTable, same_name, spec_of, target_of}
use Rattle.schema_core.specs.Declaration.{IsDeclared, shares_one, some_two}
use Rattle.schema_core.proofs.Names.{name_itself}
use Rattle.class_layouts.specs.Faults.{foreigns_in}
use Rattle.class_mapping.specs.Lines.{AreLines}
use Rattle.class_mapping.specs.Mapped.{IsValidMapping, Mapped}
use Rattle.class_mapping.proofs.Having.{Has, all_from, any_has, has_at}
use Rattle.object_arena.specs.Fit.{IsFit}
use Rattle.object_arena.specs.Graph.{Graph}
use Rattle.object_rows.specs.declared.prepared.Prepared.{Prepared}
use Rattle.object_rows.specs.Cells.{end_cell, foreign_cell, or_first, part_cell}
use Rattle.object_rows.specs.Rows as rows
use Rattle.pair_rows.specs.Pairs as pairs
use Rattle.row_project.specs.Changes.{object_changes}
use Rattle.row_switches.proofs.Each.{map_given}
use Rattle.session_laws.specs.Plans.Laws.{IsOneKind, cell_named, is_given}
use Rattle.session_laws.proofs.Projects.Loose.{foreigns_same, has_place}
use Rattle.session_laws.specs.Graphs.{DiscriminatorsAreFree, HasOneKind}
use Rattle.session_laws.proofs.Graphs.LinkKinds.{end_kind, other_none}
use Rattle.session_laws.proofs.Graphs.Named.{cell_of_column, given_from, place_of_name}
use Rattle.session_laws.proofs.Graphs.OwnKinds.{as_long_as, column_there, first_rows, is_table_of, names_once, table_taken}

module _ (mapped : Mapped) (lined : length mapped.classes.lines ≡ length mapped.classes.specs) (lines : AreLines mapped.schema.tables mapped.classes) (valid : IsValidMapping mapped)
    (declared : IsDeclared mapped.schema.tables mapped.schema.resolved) (free : DiscriminatorsAreFree mapped) (graph : Graph) (prepared : Prepared) (fit : IsFit mapped graph) where
  abbrev tables : List TableSpec
  tables = mapped.schema.tables

  abbrev names : List RowName
  names = rows.new_names mapped graph prepared

  module _ (pair : pairs.Pair) (foreign : ForeignSpec) (number : ℕ) (here : slice_get (foreigns_in tables pair.0) number ≡ Some foreign) (inside : IsTable mapped.schema pair.0) where
    abbrev spec : TableSpec
    spec = spec_of mapped.schema pair.0

    abbrev foreigns : List ForeignSpec
    foreigns = foreigns_in tables pair.0

    abbrev cell : ColumnSpec → RowCell
    cell = pairs.pair_cell mapped graph names pair

    abbrev named : List ℕ → RowCell
    named = cell_named spec.columns (map cell spec.columns)

    -- what an object gives a column by the foreign key of a number
    abbrev one : ℕ → ObjId → List ℕ → Option RowCell
    one n object name = foreign_cell mapped.schema graph names name (Some object) (slice_get foreigns n)

    has_foreign : Has spec.foreigns foreign
    has_foreign = subst (λ fs. Has fs foreign) (foreigns_same tables pair.0.0) (has_at foreigns number foreign here)

    apart : some_two shares_one foreigns ≡ false
    apart = ap (some_two shares_one) (foreigns_same tables pair.0.0) ∙ (table_taken mapped lined lines valid declared free pair.0 inside).apart

    once : some_two same_name foreign.columns ≡ false
    once = names_once mapped lined lines valid declared free pair.0 inside foreign has_foreign

    pair_named : (i : ℕ) (name : List ℕ) → slice_get foreign.columns i ≡ Some name → named name ≡ unwrap_or (or_first (one 0 pair.1.0 name) (one 1 pair.1.1 name)) (Given Null)
    pair_named i name at =
        let found = cell_of_column spec.columns cell name (column_there mapped lined lines valid declared free pair.0 inside foreign has_foreign name (has_at foreign.columns i name at)) in
        found.2 ∙ ap (λ own. unwrap_or (or_first (one 0 pair.1.0 own) (one 1 pair.1.1 own)) (Given Null)) found.1

    mine : (n : ℕ) → n ≡ number → (object : ObjId) (i : ℕ) (name : List ℕ) → slice_get foreign.columns i ≡ Some name → one n object name ≡ Some (end_cell graph names (target_of mapped.schema foreign) i (Some object))
    mine n same object i name at =
        ap (foreign_cell mapped.schema graph names name (Some object)) (ap (slice_get foreigns) same ∙ here)
        ∙ ap (part_cell mapped.schema graph names foreign (Some object)) (place_of_name foreign.columns i name once at)

    none_of_other : (n : ℕ) → (n == number) ≡ false → (object : ObjId) (i : ℕ) (name : List ℕ) → slice_get foreign.columns i ≡ Some name → one n object name ≡ None
    none_of_other n differs object i name at =
        other_none mapped graph prepared names pair.0 number foreign here apart once name (any_has (λ other. same_name other name) foreign.columns name (has_at foreign.columns i name at) (name_itself name))
        n differs (slice_get foreigns n) refl (Some object)

    pair_kind : IsOneKind mapped.schema (object_changes mapped graph prepared) foreign (map named foreign.columns)
    pair_kind = by (0 == number) (1 == number) refl refl
      where
        of_end : (object : ObjId) → ((i : ℕ) (name : List ℕ) → slice_get foreign.columns i ≡ Some name → named name ≡ end_cell graph names (target_of mapped.schema foreign) i (Some object))
            → IsOneKind mapped.schema (object_changes mapped graph prepared) foreign (map named foreign.columns)
        of_end object each =
            end_kind mapped.schema (object_changes mapped graph prepared) graph names (first_rows mapped lined lines valid declared free graph prepared fit) foreign
            (as_long_as mapped lined lines valid declared free pair.0 inside foreign has_foreign) (Some object) named each

        by : (first second : Bool) → (0 == number) ≡ first → (1 == number) ≡ second → IsOneKind mapped.schema (object_changes mapped graph prepared) foreign (map named foreign.columns)
        by true second e f = of_end pair.1.0 (λ i name at.
            pair_named i name at ∙ ap (λ given. unwrap_or (or_first given (one 1 pair.1.1 name)) (Given Null)) (mine 0 (eqb-true 0 number e) pair.1.0 i name at))
        by false true e f = of_end pair.1.1 (λ i name at.
            pair_named i name at ∙ ap (λ given. unwrap_or (or_first given (one 1 pair.1.1 name)) (Given Null)) (none_of_other 0 e pair.1.0 i name at)
            ∙ ap (λ given. unwrap_or given (Given Null)) (mine 1 (eqb-true 1 number f) pair.1.1 i name at))
        by false false e f = inl (given_from named foreign.columns (λ i name at.
            ap is_given (pair_named i name at ∙ ap (λ given. unwrap_or (or_first given (one 1 pair.1.1 name)) (Given Null)) (none_of_other 0 e pair.1.0 i name at)
            ∙ ap (λ given. unwrap_or given (Given Null)) (none_of_other 1 f pair.1.1 i name at))))

  -- the rows of all pairs
  pub made_kinds : AllByRecursion (HasOneKind mapped.schema (object_changes mapped graph prepared)) (pairs.made_rows mapped graph prepared)
  unfolding pairs.made_rows
  made_kinds =
      map_given (HasOneKind mapped.schema (object_changes mapped graph prepared)) (pairs.made_row mapped graph names)
      (λ pair. all_from (λ (foreign : ForeignSpec). IsOneKind mapped.schema (object_changes mapped graph prepared) foreign (map (cell_named (spec_of mapped.schema pair.0).columns (map (pairs.pair_cell mapped graph names pair) (spec_of mapped.schema pair.0).columns)) foreign.columns))
      (spec_of mapped.schema pair.0).foreigns
      (λ foreign has.
      let place = has_place (foreigns_in tables pair.0) foreign (subst (λ fs. Has fs foreign) (sym (foreigns_same tables pair.0.0)) has) in
      pair_kind pair foreign place.0 place.1 (is_table_of mapped pair.0 foreign place.0 place.1)))
      (pairs.made_pairs mapped graph prepared)
