-- Tables that are held, as a select sees them.
use Rattle.std.proofs.Common.{◌≡◌, ℕ, Bool, true, false, ◌==◌, List, [], ◌∷◌, map, Option, Some, None, is_some, cond, refl, sym, ap, ◌∙◌, arith}
use Rattle.std.proofs.lemmas.Bool.Decides.{nat_tests}
use Rattle.std.specs.Option.{option_map}
use Rattle.std.specs.Ordering.{is_eq, nat_cmp}
use Rattle.std.specs.List.{list_any}
use Rattle.base_core.specs.declared.ids.TableId.{TableId}
use Rattle.base_core.specs.declared.value.Value.{Value}
use Rattle.schema_core.specs.Tables as held
use Rattle.schema_core.specs.Tables.{Rows, table_cmp}
use Rattle.sql_semantics.specs.Created.{bare}
use Rattle.sql_semantics.specs.Eval as eval
use Rattle.sql_semantics.specs.Rows.{is_created}

same_number : (m n : ℕ) → is_eq (nat_cmp m n) ≡ (n == m)
same_number m n = grind (arith, nat_tests)

-- the rows of a table that is held, without their keys
abbrev without_keys : Option Rows → List (List Value)
without_keys None = []
without_keys (Some rows) = map (λ entry. entry.1) rows

-- one table more before these
rows_by : (b : Bool) (t : TableId × Rows) (tables : held.Tables) (table : TableId) → is_eq (table_cmp table t.0) ≡ b → without_keys (held.rows_in tables table) ≡ eval.rows_in (bare tables) table.0
    → without_keys (held.rows_in (t ∷ tables) table) ≡ eval.rows_in (bare (t ∷ tables)) table.0
rows_by true t tables table is rest = rw is (rw (sym (same_number table.0 t.0.0) ∙ is) refl)
rows_by false t tables table is rest = rw is (rw (sym (same_number table.0 t.0.0) ∙ is) rest)

bare_along : (tables : held.Tables) (table : TableId) → without_keys (held.rows_in tables table) ≡ eval.rows_in (bare tables) table.0
bare_along [] table = refl
bare_along (t ∷ tables) table = rows_by (is_eq (table_cmp table t.0)) t tables table refl (bare_along tables table)

created_by : (b : Bool) (t : TableId × Rows) (tables : held.Tables) (table : TableId) → is_eq (table_cmp table t.0) ≡ b → is_some (held.rows_in tables table) ≡ is_created (bare tables) table.0
    → is_some (held.rows_in (t ∷ tables) table) ≡ is_created (bare (t ∷ tables)) table.0
created_by true t tables table is rest = rw is (rw (sym (same_number table.0 t.0.0) ∙ is) refl)
created_by false t tables table is rest = rw is (rw (sym (same_number table.0 t.0.0) ∙ is) rest)

created_along : (tables : held.Tables) (table : TableId) → is_some (held.rows_in tables table) ≡ is_created (bare tables) table.0
created_along [] table = refl
created_along (t ∷ tables) table = created_by (is_eq (table_cmp table t.0)) t tables table refl (created_along tables table)

-- a table that was found
pub rows_found : (tables : held.Tables) (table : TableId) (rows : Rows) → Some rows ≡ held.rows_in tables table → map (λ entry. entry.1) rows ≡ eval.rows_in (bare tables) table.0
rows_found tables table rows is = ap without_keys is ∙ bare_along tables table

pub rows_missed : (tables : held.Tables) (table : TableId) → None ≡ held.rows_in tables table → [] ≡ eval.rows_in (bare tables) table.0
rows_missed tables table is = ap without_keys is ∙ bare_along tables table

pub table_found : (tables : held.Tables) (table : TableId) (rows : Rows) → Some rows ≡ held.rows_in tables table → true ≡ is_created (bare tables) table.0
table_found tables table rows is = ap (λ (found : Option Rows). is_some found) is ∙ created_along tables table

pub table_missed : (tables : held.Tables) (table : TableId) → None ≡ held.rows_in tables table → false ≡ is_created (bare tables) table.0
table_missed tables table is = ap (λ (found : Option Rows). is_some found) is ∙ created_along tables table

pub ruleset found_or_not = (rows_found, rows_missed, table_found, table_missed)
