use Rattle.expr_typing.proofs.Items.{answers_given, answers_of_items, answers_wide}
use Rattle.keeper_sqlite.proofs.acting.SqliteKeeperKeeper.query.Goals as goal

pub returns-clause-wide : goal.returns-clause-wide
returns-clause-wide g c = answers_wide c.args.schema.now c.args.select.now c.settle_query.result c.settle_query.ensures.rows

pub returns-clause-kinds : goal.returns-clause-kinds
returns-clause-kinds g c h = answers_of_items c.args.schema.now c.args.select.now c.settle_query.result c.settle_query.ensures.rows

pub returns-clause-given : goal.returns-clause-given
returns-clause-given g c h = answers_given c.args.schema.now c.args.select.now c.settle_query.result c.settle_query.ensures.rows
