-- What stood in a place, written into it, and no place is given up.
use Rattle.std.proofs.Common.{◌≡◌, true, List, Option, ap, sym, subst, ◌∙◌}
use Rattle.std.specs.BTreeMap.{is_at}
use Rattle.std.specs.Map.{set_value}
use Rattle.base_core.specs.declared.value.Value.{Value}
use Rattle.base_core.specs.Order.{values_cmp}
use Rattle.table_rows.specs.Rows.{Places, is_placed, rows_present, with_former_row}
use Rattle.table_rows.proofs.Bounds.{back_bound, set_sorted}
use Rattle.table_rows.proofs.Standing.{kept_set, row_back}
use Rattle.table_rows.proofs.rows.TableRows.restore.Goals as goal

pub returns-clause-rows : goal.returns-clause-rows
returns-clause-rows c =
    ap rows_present ((c.get_mut.follows.holds c.replace-replaced.new.dest).0 ∙ ap (λ (place : Option (List Value)). set_value (is_at (values_cmp c.args.key.now)) c.self.inside.rows.entries place) c.replace-replaced.ensures.after)
    ∙ row_back c.self.inside.rows.entries c.args.key.now c.in-Some.place.now c.args.before c.self.invariant.0 (sym c.in-Some.ensures.value)
    ∙ ap (λ (places : Places). with_former_row (rows_present places) c.args.key.now c.args.before) c.self.view_is

pub returns-clause-places : goal.returns-clause-places
returns-clause-places c key there =
    subst (λ (places : Places). is_placed places key ≡ true) (sym (c.get_mut.follows.holds c.replace-replaced.new.dest).0)
    (kept_set c.self.inside.rows.entries c.args.key.now c.replace-replaced.new.dest key (subst (λ (places : Places). is_placed places key ≡ true) (sym c.self.view_is) there))

pub lower-requires-clause-bound : goal.lower-requires-clause-bound
lower-requires-clause-bound c =
    back_bound c.self.inside.rows.entries _ c.raise.new.bound c.args.key.now c.in-Some.place.now c.args.before c.self.invariant.0 (sym c.in-Some.ensures.value)
    ((c.get_mut.follows.holds c.replace-replaced.new.dest).0 ∙ ap (λ (place : Option (List Value)). set_value (is_at (values_cmp c.args.key.now)) c.self.inside.rows.entries place) c.replace-replaced.ensures.after) c.raise.ensures.key
    (c.raise.ensures.rows (rows_present c.self.inside.rows.entries) c.self.invariant.1)

pub lower-requires-clause-sorted : goal.lower-requires-clause-sorted
lower-requires-clause-sorted c = set_sorted c.self.inside.rows.entries _ c.args.key.now c.replace-replaced.new.dest (c.get_mut.follows.holds c.replace-replaced.new.dest).0 c.self.invariant.0
