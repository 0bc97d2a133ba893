use Rattle.std.proofs.Common.{◌+◌, ◌-◌, true, false, length, refl, sym, ap, ◌∙◌, arith}
use Rattle.session_calls.proofs.Acting.{deep_enough, gone_fits, place_rolled, recovers}
use Rattle.session_calls.proofs.scopes.roll_back_place.Goals as goal

pub recover-requires : goal.recover-requires
recover-requires g c = record {
  count = omega (arith, c.requires.place);
  left = gone_fits c.args.session.now.failed c.args.session.now.frames.scopes (length c.args.session.now.drawn.handles) c.args.place c.savepoints-count.ensures.depth (sym c.is_gone.ensures ∙ c.if-is_gone.true);
}

pub returns-then-is_gone-clause-call : goal.returns-then-is_gone-clause-call
returns-then-is_gone-clause-call g c =
    place_rolled g.K.Keeper.moment c.args.place (length c.args.session.now.drawn.handles - c.args.place + 1) true (sym c.is_gone.ensures ∙ c.if-is_gone.true) refl
    (recovers g.K.Keeper.moment (c.args.place + 1) c.recover.ensures.ok c.recover.ensures.same c.requires.in_step)

pub go_back-requires : goal.go_back-requires
go_back-requires g c =
    let deep = deep_enough c.args.session.now.failed c.args.session.now.frames.scopes (length c.args.session.now.drawn.handles) c.args.place c.savepoints-count.ensures.depth c.requires.place (sym c.is_gone.ensures ∙ c.if-is_gone.false) in
    record {
      in_step = c.requires.in_step;
      depth = (omega arith, omega (arith, deep, c.savepoints-count.ensures.count));
      count = omega (arith, c.requires.place);
      left = omega (arith, c.savepoints-count.ensures.count, c.requires.place);
    }

pub returns-clause-call : goal.returns-clause-call
returns-clause-call g c =
    place_rolled g.K.Keeper.moment c.args.place (c.savepoints-count.result - c.args.place + 1) false (sym c.is_gone.ensures ∙ c.if-is_gone.false) (ap (λ n. n - c.args.place + 1) (sym c.savepoints-count.ensures.count)) c.go_back.ensures.call
