use Rattle.std.proofs.Common.{◌-◌, arith}
use Rattle.session_calls.proofs.Acting.{alike_handles, alike_scopes, goes_back, goes_not}
use Rattle.session_calls.proofs.Joining.{passed_call}
use Rattle.session_calls.proofs.scopes.go_back.Goals as goal

pub go_back-requires : goal.go_back-requires
go_back-requires g c =
    let scopes = alike_scopes c.args.session.now c.roll_back.new.session c.in_ok-roll_back.ensures.alike in
    let handles = alike_handles c.args.session.now c.roll_back.new.session c.in_ok-roll_back.ensures.alike in
    record {
      depth = (c.requires.depth.0, omega (arith, scopes, c.requires.depth.1));
      count = omega (arith, handles, c.requires.count);
      left = omega (arith, handles, c.requires.left);
    }

pub returns-in_err-roll_back-clause-call : goal.returns-in_err-roll_back-clause-call
returns-in_err-roll_back-clause-call g c =
    passed_call c.from_residual.ensures.1 (goes_not g.K.Keeper.moment c.args.depth c.args.count (c.args.depth - 1) c.in_err-roll_back.ensures)

pub returns-clause-call : goal.returns-clause-call
returns-clause-call g c =
    goes_back g.K.Keeper.moment c.args.depth c.args.count (c.args.depth - 1) c.in_ok-roll_back.ensures c.go_back.ensures.ok c.go_back.ensures.same c.go_back.ensures.scopes
