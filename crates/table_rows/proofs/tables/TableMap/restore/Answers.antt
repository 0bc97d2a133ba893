-- The rows of one table with what stood under a key before, in the place of the table's.
use Rattle.std.proofs.Common.{sym, ap, subst, ◌∙◌}
use Rattle.std.specs.BTreeMap.{is_at}
use Rattle.schema_core.specs.Tables.{table_cmp}
use Rattle.table_rows.specs.Rows.{Held, IsPlaced, with_former_row, tables_present}
use Rattle.table_rows.proofs.Seen.{keeps_all_set, placed_there, seen_changed}
use Rattle.table_rows.proofs.tables.TableMap.restore.Goals as goal

pub returns-clause-rows : goal.returns-clause-rows
returns-clause-rows c =
    rw (← c.self.view_is) (ap tables_present (c.get_mut.follows.holds c.restore.new.self).0
    ∙ seen_changed c.self.inside.tables.entries c.args.table c.in-Some.rows.now c.restore.new.self (λ rows. with_former_row rows c.args.key.now c.args.before) c.self.invariant (sym c.in-Some.ensures.value) c.restore.ensures.rows)

pub returns-clause-places : goal.returns-clause-places
returns-clause-places c table key there =
    subst (λ (tables : Held). IsPlaced tables table key) (sym (c.get_mut.follows.holds c.restore.new.self).0)
    (keeps_all_set (is_at (table_cmp c.args.table)) (is_at (table_cmp table)) c.in-Some.rows.now c.restore.new.self c.self.inside.tables.entries key (sym c.in-Some.ensures.value) c.restore.ensures.places (subst (λ (tables : Held). IsPlaced tables table key) (sym c.self.view_is) there))

pub restore-requires : goal.restore-requires
restore-requires c =
    placed_there c.self.inside.tables.entries c.args.table c.in-Some.rows.now c.args.key.now (sym c.in-Some.ensures.value)
    (subst (λ (held : Held). IsPlaced held c.args.table c.args.key.now) (sym c.self.view_is) c.requires)
