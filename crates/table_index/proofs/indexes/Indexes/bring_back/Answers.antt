-- Each index has the row that comes back.
use Rattle.table_index.proofs.Entered.{all_back}
use Rattle.table_index.proofs.indexes.Indexes.bring_back.Goals as goal

pub returns : goal.returns
returns c = λ rows after complete changed. all_back c.args.self.now rows after c.args.key.now c.args.row.now c.in-Ok.has c.if-not-has.false c.in-Ok.ensures complete changed
