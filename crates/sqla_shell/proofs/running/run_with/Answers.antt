use Rattle.class_types.specs.Shown.{rules_of}
use Rattle.sqla_shell.specs.Seen.{moment_seen}
use Rattle.sqla_shell.specs.Words.{print_options}
use Rattle.sqla_shell.proofs.TakenLemmas.{taken, untaken}
use Rattle.sqla_shell.proofs.running.run_with.Goals as goal

pub returns-in-Ok-clause-reference : goal.returns-in-Ok-clause-reference
returns-in-Ok-clause-reference g c = taken (print_options c.args.options) (rules_of c.args.hooks.now) c.args.options.target (g.K.Keeper.opening c.args.keeper.now c.args.options.target)
    (moment_seen (g.S.Source.left c.args.source.now) (g.S.Source.faults c.args.source.now) (g.O.Sink.written c.args.sink.now) (g.O.Sink.faults c.args.sink.now) (g.K.Keeper.moment c.args.keeper.now))
    (g.K.Keeper.moment c.attach.new.self) c.run_script.result
    (moment_seen (g.S.Source.left c.run_script.new.source) (g.S.Source.faults c.run_script.new.source) (g.O.Sink.written c.run_script.new.sink) (g.O.Sink.faults c.run_script.new.sink) (g.K.Keeper.moment c.run_script.new.keeper))
    c.in-Ok.ensures.call c.in-Ok.ensures.opened (g.met.K.Keeper.coherent c.attach.new.self) c.run_script.ensures.keeper (g.met.K.Keeper.coherent c.run_script.new.keeper) c.run_script.ensures.reference

pub returns-in-Err-clause-reference : goal.returns-in-Err-clause-reference
returns-in-Err-clause-reference g c = untaken (print_options c.args.options) (rules_of c.args.hooks.now) c.args.options.target (g.K.Keeper.opening c.args.keeper.now c.args.options.target) c.in-Err.stop
    (moment_seen (g.S.Source.left c.args.source.now) (g.S.Source.faults c.args.source.now) (g.O.Sink.written c.args.sink.now) (g.O.Sink.faults c.args.sink.now) (g.K.Keeper.moment c.args.keeper.now))
    (g.K.Keeper.moment c.attach.new.self) c.status_untaken.result c.in-Err.ensures.call c.status_untaken.ensures
