use Rattle.std.proofs.Common.{◌-◌, refl}
use Rattle.session_calls.proofs.Acting.{inner_rolled, outer_rolled}
use Rattle.session_calls.proofs.store.roll_back.Goals as goal

pub returns-then-depth-eq1 : goal.returns-then-depth-eq1
returns-then-depth-eq1 g c = outer_rolled g.K.Keeper.moment c.args.depth c.if-depth-eq1.true c.roll_back_transaction.ensures

pub returns : goal.returns
returns g c = inner_rolled g.K.Keeper.moment c.args.depth (c.args.depth - 1) c.if-depth-eq1.false refl c.roll_back_to.ensures
