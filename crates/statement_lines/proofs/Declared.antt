-- Tables that are found, and tables that are not declared.
use Rattle.std.proofs.Common.{◌≡◌, ℕ, Bool, ◌<◌, ◌≤◌, List, [], length, Option, None, Some, Result, Ok, Err, IfErr, refl, ap, subst}
use Rattle.std.proofs.Math.ListN.{get_or-eq_default}
use Rattle.std.proofs.lemmas.List.Quantifiers.{position-Some}
use Rattle.std.specs.List.{position}
use Rattle.std.specs.Option.{option_map}
use Rattle.base_core.specs.Answers.{Gives}
use Rattle.base_core.specs.declared.ids.ColumnNo.{ColumnNo}
use Rattle.base_core.specs.declared.ids.TableId.{TableId}
use Rattle.base_core.specs.declared.refusal.Refusal.{Refusal}
use Rattle.base_core.specs.declared.refusal.Refusal.TheVariants.{CompileError, Memory}
use Rattle.schema_core.specs.declared.table.TableSpec.{TableSpec}
use Rattle.schema_core.specs.Catalog.{Catalog, IsTable, find_table, no_table, same_name, spec_of}
use Rattle.sql_semantics.specs.Checked.{◌>>=◌}
use Rattle.sql_tables.specs.Ddl.{create_text_or_refusal, ddl, first_unsized, unsized_in}
use Rattle.base_core.specs.declared.dialect.Dialect.{Dialect}
use Rattle.base_core.specs.declared.dialect.Dialect.TheVariants.{Sqlite, Postgresql, Mysql}
use Rattle.statement_lines.specs.CompiledLines.{IsOfCompiling, table_compiled}

at_place : (tables : List TableSpec) (test : TableSpec → Bool) (place : Option ℕ) (table : TableId) → position test tables ≡ place → option_map (λ (n : ℕ). record { 0 = n }) place ≡ Some table → table.0 < length tables
at_place tables test None table is found = absurd (cc)
at_place tables test (Some n) table is found =
    let same : record { 0 = n } ≡ table = cc in
    subst (λ (t : TableId). t.0 < length tables) same (position-Some test tables n no_table is).0

-- a table that is found is declared
pub found_inside : (schema : Catalog) (name : List ℕ) (table : TableId) → find_table schema.tables name ≡ Some table → IsTable schema table
found_inside schema name table found = at_place schema.tables (λ spec. same_name spec.name name) (position (λ spec. same_name spec.name name) schema.tables) table refl found

-- a table that is not declared has no column, and so none without a type
pub undeclared_compiled : (dialect : Dialect) (schema : Catalog) (table : TableId) → length schema.tables ≤ table.0 → table_compiled dialect schema table ≡ Ok tt
unfolding ddl
undeclared_compiled Sqlite schema table beyond = refl
undeclared_compiled Postgresql schema table beyond = refl
undeclared_compiled Mysql schema table beyond =
    let none : unsized_in Mysql (spec_of schema table).columns ≡ None = ap (λ (spec : TableSpec). first_unsized 0 spec.columns) (get_or-eq_default schema.tables no_table beyond) in
    ap (λ (column : Option ColumnNo). create_text_or_refusal Mysql schema table [] column >>= λ text. Ok tt) none

unsized_refused : (dialect : Dialect) (schema : Catalog) (table : TableId) (column : Option ColumnNo) (e : Refusal) → create_text_or_refusal dialect schema table [] column ≡ Err e → IsOfCompiling e
unsized_refused dialect schema table None e is = absurd (cc)
unsized_refused dialect schema table (Some column) e is = let same : CompileError table column ≡ e = cc in subst IsOfCompiling same tt

-- a table's text is refused for a column without a type alone
ddl_refused : (dialect : Dialect) (schema : Catalog) (table : TableId) (e : Refusal) → ddl dialect schema table [] ≡ Err e → IsOfCompiling e
unfolding ddl
ddl_refused dialect schema table e is = unsized_refused dialect schema table (unsized_in dialect (spec_of schema table).columns) e is

pub text_refused : (dialect : Dialect) (schema : Catalog) (table : TableId) (r : Result (List ℕ) Refusal) → Gives (λ (text : List ℕ). text) r (ddl dialect schema table []) → IfErr r IsOfCompiling
text_refused dialect schema table (Ok text) p = tt
text_refused dialect schema table (Err Memory) p = tt
text_refused dialect schema table (Err e) p = ddl_refused dialect schema table e p

pub ruleset refused = (text_refused)

pub ruleset found = (found_inside)

pub ruleset undeclared = (undeclared_compiled)
