-- What an evaluation of a bulk statement may be refused by.
use Rattle.std.proofs.Common.{ℕ, List, [], Option, Ok, Err, subst}
use Rattle.base_core.specs.declared.ids.ColumnNo.{ColumnNo}
use Rattle.base_core.specs.declared.refusal.Refusal.{Refusal}
use Rattle.base_core.specs.declared.refusal.Refusal.TheVariants as refusals
use Rattle.schema_core.specs.Tables.{Rows, Tables}
use Rattle.expr_types.specs.declared.expr.Expr.{Expr}
use Rattle.sql_semantics.specs.Applied.{named_in}
use Rattle.sql_semantics.specs.Checked.{Checked, ◌>>=◌, Refuses}
use Rattle.sql_semantics.specs.Created.{bare}
use Rattle.sql_semantics.specs.Rows.{require_created}
use Rattle.sql_semantics.specs.Taken.{deleted_from, updated_from}
use Rattle.expr_eval.proofs.Refused.{OnlyData}
use Rattle.select_rows.proofs.Refused.{OnlyMisses, created_misses}
use Rattle.bulk_rows.proofs.Refused.{deleted_data, updated_data}
use Rattle.table_store.specs.Written.{IsOfEvaluation, keys_to_remove, rows_to_write}

abbrev OnlyEvaluated : {A : Type 0} → Checked A → Type 0
OnlyEvaluated (Ok a) = Unit {0}
OnlyEvaluated (Err e) = IsOfEvaluation e

misses_only : {A : Type 0} (ts : List ℕ) (r : Checked A) → OnlyMisses ts r → OnlyEvaluated r
misses_only ts (Ok a) h = tt
misses_only ts (Err (refusals.OperationalError table)) h = tt
misses_only ts (Err e) h = absurd h

data_only : {A : Type 0} (r : Checked A) → OnlyData r → OnlyEvaluated r
data_only (Ok a) h = tt
data_only (Err (refusals.DataError op a b)) h = tt
data_only (Err e) h = absurd h

both_only : {A B : Type 0} (first : Checked A) (next : Checked B) → OnlyEvaluated first → OnlyEvaluated next → OnlyEvaluated (first >>= λ _. next)
both_only (Ok a) next h g = g
both_only (Err e) next h g = h

told_only : {A : Type 0} (r : Checked A) (e : Refusal) → OnlyEvaluated r → Refuses e r → IsOfEvaluation e
told_only r refusals.Memory h told = tt
told_only r e h told = subst OnlyEvaluated told h

pub updates_evaluated : (tables : Tables) (cells : List (ColumnNo × Option Expr)) (filter : Option Expr) (rows : Rows) (e : Refusal) → Refuses e (rows_to_write tables cells filter rows) → IsOfEvaluation e
updates_evaluated tables cells filter rows e told =
    told_only (rows_to_write tables cells filter rows) e
    (both_only (require_created (bare tables) (named_in cells filter)) (updated_from (bare tables) cells filter [] rows) (misses_only (named_in cells filter) (require_created (bare tables) (named_in cells filter)) (created_misses (bare tables) (named_in cells filter)))
    (data_only (updated_from (bare tables) cells filter [] rows) (updated_data (bare tables) cells filter [] rows))) told

pub deletes_evaluated : (tables : Tables) (filter : Option Expr) (rows : Rows) (e : Refusal) → Refuses e (keys_to_remove tables filter rows) → IsOfEvaluation e
deletes_evaluated tables filter rows e told =
    told_only (keys_to_remove tables filter rows) e
    (both_only (require_created (bare tables) (named_in [] filter)) (deleted_from (bare tables) filter [] rows) (misses_only (named_in [] filter) (require_created (bare tables) (named_in [] filter)) (created_misses (bare tables) (named_in [] filter)))
    (data_only (deleted_from (bare tables) filter [] rows) (deleted_data (bare tables) filter [] rows))) told
