use Rattle.std.proofs.Common.{sym, subst}
use Rattle.keeper_core.specs.Keeping.{IsCall}
use Rattle.session_tables.specs.declared.tables.TableChange.{TableChange}
use Rattle.session_tables.specs.Steps.{change_in_store}
use Rattle.session_tables.proofs.tables.store_changes.Goals as goal

pub returns-in-Create : goal.returns-in-Create
returns-in-Create g c =
    subst (λ (change : TableChange). IsCall g.K.Keeper.moment (change_in_store change c.args.table) 0 c.args.keeper.now c.create.result c.create.new.keeper) (sym c.in-Create.is) c.create.ensures

pub returns-in-Drop : goal.returns-in-Drop
returns-in-Drop g c =
    subst (λ (change : TableChange). IsCall g.K.Keeper.moment (change_in_store change c.args.table) 0 c.args.keeper.now c.drop_table.result c.drop_table.new.keeper) (sym c.in-Drop.is) c.drop_table.ensures
