use Rattle.class_types.specs.Shown.{rules_of}
use Rattle.sqla_shell.specs.Seen.{moment_seen}
use Rattle.script_laws.proofs.Answers.Ended.{run_ends}
use Rattle.script_laws.proofs.runs.run_to_its_end.Goals as goal

pub returns : goal.returns
returns g c = record {
  ends = λ options asked memory.
      run_ends options (rules_of c.args.validators.now) (g.K.Keeper.opening c.args.keeper.now)
      (moment_seen (g.S.Source.left c.args.source.now) (g.S.Source.faults c.args.source.now) (g.O.Sink.written c.args.sink.now) (g.O.Sink.faults c.args.sink.now) (g.K.Keeper.moment c.args.keeper.now)) c.run.result
      (moment_seen (g.S.Source.left c.run.new.source) (g.S.Source.faults c.run.new.source) (g.O.Sink.written c.run.new.sink) (g.O.Sink.faults c.run.new.sink) (g.K.Keeper.moment c.run.new.keeper))
      memory (c.run.ensures.reference options asked) c.run.ensures.faults;
}
