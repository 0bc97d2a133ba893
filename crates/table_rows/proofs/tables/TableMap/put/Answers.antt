-- The rows of one table with one more, in the place of the table's.
use Rattle.std.proofs.Common.{sym, ap, subst, ◌∙◌}
use Rattle.std.specs.BTreeMap.{is_at}
use Rattle.schema_core.specs.Tables.{row_under, table_cmp, with_row}
use Rattle.table_rows.specs.Rows.{Held, IsPlaced, tables_present}
use Rattle.table_rows.proofs.Laws.{if_ok, on_err, on_ok}
use Rattle.table_rows.proofs.Seen.{keeps_all_set, placed_set, seen_at, seen_changed, seen_sorted, set_same, sorted_there}
use Rattle.table_rows.proofs.tables.TableMap.put.Goals as goal

pub returns-clause-ok : goal.returns-clause-ok
returns-clause-ok c =
    rw (← c.self.view_is) (on_ok c.put.result
    (λ is. ap tables_present (c.get_mut.follows.holds c.put.new.self).0
    ∙ seen_changed c.self.inside.tables.entries c.args.table c.in-Some.rows.now c.put.new.self (λ rows. with_row rows c.args.key c.args.row) c.self.invariant (sym c.in-Some.ensures.value) is)
    c.put.ensures.ok)

pub returns-clause-before : goal.returns-clause-before
returns-clause-before c =
    rw (← c.self.view_is) (if_ok c.put.result
    (λ before is. is ∙ ap (λ rows. row_under rows c.args.key) (sym (seen_at c.self.inside.tables.entries c.args.table c.in-Some.rows.now (sym c.in-Some.ensures.value)))) c.put.ensures.before)

pub returns-clause-place : goal.returns-clause-place
returns-clause-place c =
    on_ok c.put.result
    (λ placed. subst (λ (tables : Held). IsPlaced tables c.args.table c.args.key) (sym (c.get_mut.follows.holds c.put.new.self).0)
    (placed_set c.self.inside.tables.entries c.args.table c.in-Some.rows.now c.put.new.self c.args.key (sym c.in-Some.ensures.value) placed)) c.put.ensures.place

pub returns-clause-places : goal.returns-clause-places
returns-clause-places c table key there =
    subst (λ (tables : Held). IsPlaced tables table key) (sym (c.get_mut.follows.holds c.put.new.self).0)
    (keeps_all_set (is_at (table_cmp c.args.table)) (is_at (table_cmp table)) c.in-Some.rows.now c.put.new.self c.self.inside.tables.entries key (sym c.in-Some.ensures.value) c.put.ensures.places (subst (λ (tables : Held). IsPlaced tables table key) (sym c.self.view_is) there))

pub returns-clause-err : goal.returns-clause-err
returns-clause-err c =
    on_err c.put.result
    (λ same. (c.get_mut.follows.holds c.put.new.self).0 ∙ set_same c.self.inside.tables.entries c.args.table c.in-Some.rows.now c.put.new.self (sym c.in-Some.ensures.value) same ∙ c.self.view_is) c.put.ensures.err

pub returns-clause-sorted : goal.returns-clause-sorted
returns-clause-sorted c = rw (← c.self.view_is) (seen_sorted c.self.inside.tables.entries c.args.table c.in-Some.rows.now c.self.invariant (sym c.in-Some.ensures.value) c.put.ensures.sorted)

pub returns-in_default-clause-sorted : goal.returns-in_default-clause-sorted
returns-in_default-clause-sorted c = sorted_there c.self.inside.tables.entries c.args.self.now c.args.table c.self.view_is c.requires c.in_default.ensures.value
