-- A place that was emptied holds no row, and no place is given up.
use Rattle.std.proofs.Common.{◌≡◌, true, List, Option, is_some, ap, sym, subst, ◌∙◌}
use Rattle.std.specs.BTreeMap.{is_at}
use Rattle.std.specs.Map.{set_value}
use Rattle.base_core.specs.declared.value.Value.{Value}
use Rattle.base_core.specs.Order.{values_cmp}
use Rattle.schema_core.specs.Tables.{without_row}
use Rattle.table_rows.specs.Rows.{Places, is_placed, rows_present}
use Rattle.table_rows.proofs.Bounds.{set_sorted, take_bound}
use Rattle.table_rows.proofs.Laws.{if_some}
use Rattle.table_rows.proofs.Standing.{kept_set, row_taken}
use Rattle.table_rows.proofs.rows.TableRows.take.Goals as goal

pub returns-clause-rows : goal.returns-clause-rows
returns-clause-rows c =
    ap rows_present ((c.get_mut.follows.holds c.take-taken.new.self).0 ∙ ap (λ (place : Option (List Value)). set_value (is_at (values_cmp c.args.key.now)) c.self.inside.rows.entries place) c.take-taken.ensures.after)
    ∙ row_taken c.self.inside.rows.entries c.args.key.now c.self.invariant.0
    ∙ ap (λ (places : Places). without_row (rows_present places) c.args.key.now) c.self.view_is

pub returns-clause-places : goal.returns-clause-places
returns-clause-places c key there =
    subst (λ (places : Places). is_placed places key ≡ true) (sym (c.get_mut.follows.holds c.take-taken.new.self).0)
    (kept_set c.self.inside.rows.entries c.args.key.now c.take-taken.new.self key (subst (λ (places : Places). is_placed places key ≡ true) (sym c.self.view_is) there))

pub returns-clause-place : goal.returns-clause-place
returns-clause-place c =
    if_some c.take-taken.result (subst (λ (places : Places). is_placed places c.args.key.now ≡ true) (sym (c.get_mut.follows.holds c.take-taken.new.self).0)
    (kept_set c.self.inside.rows.entries c.args.key.now c.take-taken.new.self c.args.key.now (ap is_some (sym c.in-Some.ensures.value))))

pub lower-requires-clause-bound : goal.lower-requires-clause-bound
lower-requires-clause-bound c =
    take_bound c.self.inside.rows.entries _ c.self.inside.bound c.args.key.now c.self.invariant.0
    ((c.get_mut.follows.holds c.take-taken.new.self).0 ∙ ap (λ (place : Option (List Value)). set_value (is_at (values_cmp c.args.key.now)) c.self.inside.rows.entries place) c.take-taken.ensures.after) c.self.invariant.1

pub lower-requires-clause-sorted : goal.lower-requires-clause-sorted
lower-requires-clause-sorted c = set_sorted c.self.inside.rows.entries _ c.args.key.now c.take-taken.new.self (c.get_mut.follows.holds c.take-taken.new.self).0 c.self.invariant.0
