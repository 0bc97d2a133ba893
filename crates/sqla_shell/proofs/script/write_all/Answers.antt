use Rattle.std.proofs.Common.{◌-◌, length, take, drop, arith, Err, refl, ◌∙◌}
use Rattle.sqla_shell.proofs.WritingLemmas.{all_written, prefix_written, more_written, part_of, within}
use Rattle.sqla_shell.proofs.KeepsLemmas.{write_counted}
use Rattle.sqla_shell.proofs.script.write_all.Goals as goal

-- src/script.rt:29:20
pub returns-in_err-written-clause-bytes : goal.returns-in_err-written-clause-bytes
returns-in_err-written-clause-bytes g c = prefix_written (g.O.Sink.written c.args.sink.now) (g.O.Sink.written c.loop-written.sink) (g.O.Sink.written c.write.new.self) c.args.piece.now c.loop-written.written c.from_residual.result (omega (arith, c.loop-written-test.true)) c.from_residual.ensures.0 c.loop-written.invariant.prefix c.in_err-written.ensures.bytes

-- src/script.rt:22:1
pub returns-clause-bytes : goal.returns-clause-bytes
returns-clause-bytes g c = all_written (g.O.Sink.written c.args.sink.now) (g.O.Sink.written c.loop-written.sink) c.args.piece.now c.loop-written.written c.loop-written.invariant.prefix (omega (arith, c.loop-written-test.false, c.loop-written.invariant.within))

pub loop-written-preserved : goal.loop-written-preserved
loop-written-preserved g c = record {
  prefix = more_written (g.O.Sink.written c.args.sink.now) (g.O.Sink.written c.loop-written.sink) (g.O.Sink.written c.write.new.self) c.args.piece.now
      (take c.in_ok-written.field-0 (take (length c.args.piece.now - c.loop-written.written) (drop c.loop-written.written c.args.piece.now))) c.loop-written.written c.in_ok-written.field-0
      c.loop-written.invariant.prefix c.in_ok-written.ensures.bytes (part_of c.args.piece.now c.loop-written.written c.in_ok-written.field-0);
  within = within c.args.piece.now c.loop-written.written c.in_ok-written.field-0 c.loop-written.invariant.within c.in_ok-written.ensures.bound;
  faults = c.in_ok-written.ensures.quiet (λ is. cc) ∙ c.loop-written.invariant.faults;
}

pub returns-in_err-written-clause-faults : goal.returns-in_err-written-clause-faults
returns-in_err-written-clause-faults g c = write_counted c.in_err-written.field-0.0 (Err c.in_err-written.field-0.0) c.from_residual.result (g.O.Sink.faults c.args.sink.now) (g.O.Sink.faults c.loop-written.sink) (g.O.Sink.faults c.write.new.self)
    refl c.from_residual.ensures.1 c.loop-written.invariant.faults c.in_err-written.ensures.later c.in_err-written.ensures.cause c.in_err-written.ensures.quiet

pub returns-clause-faults : goal.returns-clause-faults
returns-clause-faults g c = (refl, c.loop-written.invariant.faults, refl)
