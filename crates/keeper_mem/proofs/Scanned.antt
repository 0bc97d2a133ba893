-- The rows of a table are among those of all tables.
use Rattle.std.proofs.Common.{◌≡◌, true, cond, List, [], ◌∷◌, map, Option, Some, Ordering, refl, sym, ap, subst, IfSome}
use Rattle.std.specs.declared.cmp.Ordering.TheVariants.{Less, Equal, Greater}
use Rattle.std.specs.Ordering.{is_eq}
use Rattle.std.specs.Option.{option_map}
use Rattle.std.proofs.lemmas.Cmp.{ranked}
use Rattle.base_core.specs.declared.ids.TableId.{TableId}
use Rattle.schema_core.specs.Catalog.{Catalog}
use Rattle.schema_core.specs.Tables.{Rows, Tables, rows_in, table_cmp}
use Rattle.sql_semantics.specs.Eval.{Row}
use Rattle.sql_semantics.specs.Created.{bare}
use Rattle.sql_semantics.specs.Shapes.{AreRows}
use Rattle.keeper_core.specs.Keeping.{AreRowsOf, HoldsRows}
use Rattle.keeper_mem.specs.Kept.{Kept, is_taken, moment_of}
use Rattle.keeper_mem.proofs.Keeping.{held_rows}

-- rows without the keys before them
abbrev without_keys : Rows → List Row
without_keys rows = map (λ entry. entry.1) rows

same_table : (a b : TableId) → table_cmp a b ≡ Equal → b ≡ a
same_table a b e = ap (λ n. record { 0 = n }) (sym (ranked a.0 b.0 Equal (sym e)))

here : (schema : Catalog) (table one : TableId) (rows : Rows) (rest : Option Rows) (r : Ordering) → table_cmp table one ≡ r → AreRowsOf schema one (without_keys rows)
    → IfSome (option_map without_keys rest) (AreRowsOf schema table) → IfSome (option_map without_keys (cond (is_eq r) (Some rows) rest)) (AreRowsOf schema table)
here schema table one rows rest Less is h more = more
here schema table one rows rest Equal is h more = subst (λ t. AreRowsOf schema t (without_keys rows)) (same_table table one is) h
here schema table one rows rest Greater is h more = more

-- where all tables have rows that fit, those of one do
pub rows_scanned : (schema : Catalog) (table : TableId) (tables : Tables) → AreRows schema (bare tables) → IfSome (option_map without_keys (rows_in tables table)) (AreRowsOf schema table)
rows_scanned schema table [] h = tt
rows_scanned schema table (t ∷ tables) h = here schema table t.0 t.1 (rows_in tables table) (table_cmp table t.0) refl h.0 (rows_scanned schema table tables h.1)

-- where the tables that are told have rows that fit, so has the one that is scanned
pub scanned_kinds : (schema : Catalog) (table : TableId) (kept : Kept) (found : Option (List Row)) → is_taken kept.attachment ≡ true → HoldsRows schema (moment_of kept).told
    → found ≡ option_map without_keys (rows_in kept.store.tables table) → IfSome found (AreRowsOf schema table)
scanned_kinds schema table kept found taken h is = subst (λ (o : Option (List Row)). IfSome o (AreRowsOf schema table)) (sym is) (rows_scanned schema table kept.store.tables (held_rows schema kept taken h))
