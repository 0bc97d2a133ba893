-- Which sources are in scope at a place of a statement, and which column a path means.
use Rattle.std.specs.Prelude.{ℕ, List, ◌∷◌, length, Option, None, Some, Result, Ok, Err}
use Rattle.std.specs.List.{enumerate_from, find, position}
use Rattle.std.specs.Option.{option_map}
use Rattle.base_core.specs.declared.ids.ColumnNo.{ColumnNo}
use Rattle.base_core.specs.declared.ids.TableId.{TableId}
use Rattle.schema_core.specs.declared.table.TableSpec.{TableSpec}
use Rattle.schema_core.specs.Catalog.{Catalog, find_table, same_name, spec_of}
use Rattle.sql_semantics.specs.Plain.{name_or}
use Rattle.script_types.specs.declared.expression.SynSource.{SynSource}
use Rattle.script_types.specs.declared.expression.Syn.TheOpen.{Syn-F}

-- sources, each behind its place, in the order in which a name is looked for
abbrev pub Scope : Type 0
Scope = List (ℕ × SynSource)

-- the scope of a statement: its sources, of which a name means the first
abbrev pub outer_scope : List SynSource → Scope
outer_scope sources = enumerate_from 0 sources

-- inside an `exists` its source is looked for before those around it, and has the next place
abbrev pub inner_scope : Scope → SynSource → Scope
inner_scope scope source = (length scope, source) ∷ scope

-- the scope of the operands
abbrev pub scope_below : {A : Type 0} → Scope → Syn-F A → Scope
scope_below scope (Syn-F.Exists source condition) = inner_scope scope source
scope_below scope level = scope

-- the name of a source: its own, or else its table's
abbrev pub shown_name : SynSource → List ℕ
shown_name source = name_or source.table source.alias

-- the source that a name means
abbrev pub source_meant : Scope → List ℕ → Option (ℕ × SynSource)
source_meant scope name = find (λ placed. same_name (shown_name placed.1) name) scope

-- the column of a name
abbrev pub find_column : TableSpec → List ℕ → Option ColumnNo
find_column spec name = option_map (λ place. record { 0 = place }) (position (λ column. same_name column.name name) spec.columns)

-- ---- paths

-- the place of a source and the column in it, or the name that stands for nothing
abbrev pub PathMeaning : Type 0
PathMeaning = Result (ℕ × ColumnNo) (List ℕ)

abbrev pub column_or_name : List ℕ → ℕ → Option ColumnNo → PathMeaning
column_or_name column place None = Err column
column_or_name column place (Some number) = Ok (place, number)

-- in a source whose table is not declared: it has its alias, where it is given one, and no column
abbrev pub in_no_table : List ℕ → List ℕ → Option (List ℕ) → PathMeaning
in_no_table source column None = Err source
in_no_table source column (Some alias) = Err column

abbrev pub in_table : Catalog → List ℕ → List ℕ → ℕ × SynSource → Option TableId → PathMeaning
in_table schema source column placed None = in_no_table source column placed.1.alias
in_table schema source column placed (Some table) = column_or_name column placed.0 (find_column (spec_of schema table) column)

abbrev pub in_source : Catalog → List ℕ → List ℕ → Option (ℕ × SynSource) → PathMeaning
in_source schema source column None = Err source
in_source schema source column (Some placed) = in_table schema source column placed (find_table schema.tables placed.1.table)

-- what the path `source.column` means
abbrev pub path_in : Catalog → Scope → List ℕ → List ℕ → PathMeaning
path_in schema scope source column = in_source schema source column (source_meant scope source)
