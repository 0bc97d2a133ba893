-- The statements of a plan are the same by keys that are the same at each place.
use Rattle.std.proofs.Common.{◌≡◌, List, map, get_or, refl, ap, sym, ◌∙◌}
use Rattle.base_core.specs.declared.value.Value.{Value}
use Rattle.base_core.specs.declared.value.Value.TheVariants.{Null}
use Rattle.schema_core.specs.declared.changes.Planned.{Planned}
use Rattle.schema_core.specs.declared.changes.Planned.TheVariants.{Insert, Update, Remove}
use Rattle.schema_core.specs.declared.changes.RowCell.{RowCell}
use Rattle.schema_core.specs.declared.changes.RowCell.TheVariants.{Given, KeyOf}
use Rattle.schema_core.specs.declared.changes.RowChanges.{RowChanges}
use Rattle.schema_core.specs.declared.statement.RowStmt.TheVariants as statement
use Rattle.schema_core.specs.Catalog.{Catalog}
use Rattle.flush_order.specs.Cells.{first_cells}
use Rattle.flush_plan.specs.Flushing.{Keys, statement_sent, value_of_cell}
use Rattle.plan_statements.specs.Known.{AreKeysAt, keys_at}
use Rattle.plan_statements.proofs.KeyLemmas.{key_in_list}

value_at : (keys : Keys) (known : List (List Value)) → AreKeysAt keys known → (cell : RowCell) → value_of_cell keys cell ≡ value_of_cell (keys_at known) cell
value_at keys known are (Given value) = refl
value_at keys known are (KeyOf place part) = ap (λ (key : List Value). get_or key part Null) (are place ∙ sym (key_in_list known place))

values_at : (keys : Keys) (known : List (List Value)) → AreKeysAt keys known → value_of_cell keys ≡ value_of_cell (keys_at known)
values_at keys known are = λ i cell. value_at keys known are cell i

pub sent_at : (schema : Catalog) (changes : RowChanges) (keys : Keys) (known : List (List Value)) (planned : Planned) → AreKeysAt keys known → statement_sent schema changes keys planned ≡ statement_sent schema changes (keys_at known) planned
sent_at schema changes keys known (Insert table places) are =
    ap (λ (value : RowCell → Value). statement.Insert table (map (λ place. map value (first_cells schema changes place)) places)) (values_at keys known are)
sent_at schema changes keys known (Update table key cells) are =
    ap (λ (value : RowCell → Value). statement.Update table (map value key) (map (λ cell. (cell.0, value cell.1)) cells)) (values_at keys known are)
sent_at schema changes keys known (Remove table key) are = refl
