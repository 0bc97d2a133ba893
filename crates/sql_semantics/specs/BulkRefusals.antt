-- Which refusals a bulk statement may meet.
use Rattle.std.specs.Prelude.{◌≡◌, ℕ, ◌==◌, Bool, true, false, List, [], ◌∷◌, IsTrue}
use Rattle.std.specs.List.{list_any}
use Rattle.base_core.specs.declared.refusal.Refusal.{Refusal}
use Rattle.base_core.specs.declared.refusal.Refusal.TheVariants.{Memory, DataError, KeysSpent, IntegrityError, OperationalError}
use Rattle.base_core.specs.declared.refusal.IntegrityKind.{IntegrityKind}
use Rattle.base_core.specs.declared.refusal.IntegrityKind.TheVariants as kinds
use Rattle.expr_types.specs.declared.select.Bulk.{Bulk}
use Rattle.expr_types.specs.declared.select.Bulk.TheVariants as bulk
use Rattle.sql_semantics.specs.Applied.{named_in, table_of}

-- the tables that the statement names, in the order of its text
abbrev pub tables_of : Bulk → List ℕ
tables_of (bulk.Insert table columns values) = table.0 ∷ []
tables_of (bulk.Update table cells filter) = table.0 ∷ named_in cells filter
tables_of (bulk.Delete table filter) = table.0 ∷ named_in [] filter

-- an UPDATE writes no key, and a DELETE leaves rows as they were
abbrev pub may_break : Bulk → IntegrityKind → Bool
may_break (bulk.Insert table columns values) kind = true
may_break (bulk.Update table cells filter) kinds.PrimaryKey = false
may_break (bulk.Update table cells filter) kind = true
may_break (bulk.Delete table filter) kinds.Foreign = true
may_break (bulk.Delete table filter) kind = false

abbrev pub draws_key : Bulk → Bool
draws_key (bulk.Insert table columns values) = true
draws_key statement = false

abbrev pub has_expressions : Bulk → Bool
has_expressions (bulk.Insert table columns values) = false
has_expressions statement = true

-- a table of the statement's text, a result outside 64 bits, a rule of the written table, or no memory
abbrev pub CanRefuse : Bulk → Refusal → Type 0
CanRefuse statement (OperationalError absent) = IsTrue (list_any (λ t. t == absent.0) (tables_of statement))
CanRefuse statement (DataError op a b) = IsTrue (has_expressions statement)
CanRefuse statement (KeysSpent table) = IsTrue (draws_key statement) × (table ≡ table_of statement)
CanRefuse statement (IntegrityError kind table) = IsTrue (may_break statement kind) × (table ≡ table_of statement)
CanRefuse statement Memory = Unit {0}
CanRefuse statement e = ⊥
