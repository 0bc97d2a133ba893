-- The rows of one table without one, in the place of the table's.
use Rattle.std.proofs.Common.{sym, ap, subst, ◌∙◌}
use Rattle.std.specs.BTreeMap.{is_at}
use Rattle.schema_core.specs.Tables.{row_under, table_cmp, without_row}
use Rattle.table_rows.specs.Rows.{Held, IsPlaced, tables_present}
use Rattle.table_rows.proofs.Laws.{if_some_then}
use Rattle.table_rows.proofs.Seen.{keeps_all_set, placed_set, seen_at, seen_changed, seen_sorted, sorted_there}
use Rattle.table_rows.proofs.tables.TableMap.take.Goals as goal

pub returns-clause-rows : goal.returns-clause-rows
returns-clause-rows c =
    rw (← c.self.view_is) (ap tables_present (c.get_mut.follows.holds c.take.new.self).0
    ∙ seen_changed c.self.inside.tables.entries c.args.table c.in-Some.rows.now c.take.new.self (λ rows. without_row rows c.args.key.now) c.self.invariant (sym c.in-Some.ensures.value) c.take.ensures.rows)

pub returns-clause-taken : goal.returns-clause-taken
returns-clause-taken c =
    rw (← c.self.view_is) (c.take.ensures.taken ∙ ap (λ rows. row_under rows c.args.key.now) (sym (seen_at c.self.inside.tables.entries c.args.table c.in-Some.rows.now (sym c.in-Some.ensures.value))))

pub returns-clause-places : goal.returns-clause-places
returns-clause-places c table key there =
    subst (λ (tables : Held). IsPlaced tables table key) (sym (c.get_mut.follows.holds c.take.new.self).0)
    (keeps_all_set (is_at (table_cmp c.args.table)) (is_at (table_cmp table)) c.in-Some.rows.now c.take.new.self c.self.inside.tables.entries key (sym c.in-Some.ensures.value) c.take.ensures.places (subst (λ (tables : Held). IsPlaced tables table key) (sym c.self.view_is) there))

pub returns-clause-sorted : goal.returns-clause-sorted
returns-clause-sorted c = rw (← c.self.view_is) (seen_sorted c.self.inside.tables.entries c.args.table c.in-Some.rows.now c.self.invariant (sym c.in-Some.ensures.value) c.take.ensures.sorted)

pub returns-clause-place : goal.returns-clause-place
returns-clause-place c =
    if_some_then c.take.result
    (λ placed. subst (λ (tables : Held). IsPlaced tables c.args.table c.args.key.now) (sym (c.get_mut.follows.holds c.take.new.self).0)
    (placed_set c.self.inside.tables.entries c.args.table c.in-Some.rows.now c.take.new.self c.args.key.now (sym c.in-Some.ensures.value) placed)) c.take.ensures.place

pub returns-in_default-clause-sorted : goal.returns-in_default-clause-sorted
returns-in_default-clause-sorted c = sorted_there _ _ c.args.table c.self.view_is c.requires c.in_default.ensures.value
