use Rattle.std.proofs.Common.{◌≡◌, ◌||◌, List, take}
use Rattle.std.specs.List.{list_any}
use Rattle.base_core.specs.declared.ids.TableId.{TableId}
use Rattle.base_core.specs.declared.value.Value.{Value}
use Rattle.plan_statements.specs.Stale.{has_place, is_written_at}
use Rattle.plan_statements.proofs.stale.put_all_changed.Given as goal

abbrev pub invariant-loop-row : goal.invariant-loop-row
invariant-loop-row l = (table : TableId) (key : List Value) → has_place l.places table key ≡ (has_place l.fn.places table key || list_any (is_written_at table key) (take l.row-index l.rows))
