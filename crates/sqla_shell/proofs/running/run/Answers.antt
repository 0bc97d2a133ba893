use Rattle.std.proofs.Common.{map, string_bytes}
use Rattle.class_types.specs.Shown.{rules_of}
use Rattle.program_words.specs.Asked.{options_asked}
use Rattle.sqla_shell.specs.Seen.{moment_seen}
use Rattle.sqla_shell.proofs.WordsLemmas.{given_as_asked, run_as_asked}
use Rattle.sqla_shell.proofs.running.run.Goals as goal

pub returns-in-Ok-clause-reference : goal.returns-in-Ok-clause-reference
returns-in-Ok-clause-reference g c = run_as_asked (rules_of c.args.hooks.now) (g.K.Keeper.opening c.args.keeper.now) (options_asked (map string_bytes c.args.words.now.items)) c.in-Ok.options
    (moment_seen (g.S.Source.left c.args.source.now) (g.S.Source.faults c.args.source.now) (g.O.Sink.written c.args.sink.now) (g.O.Sink.faults c.args.sink.now) (g.K.Keeper.moment c.args.keeper.now))
    c.run_with.result
    (moment_seen (g.S.Source.left c.run_with.new.source) (g.S.Source.faults c.run_with.new.source) (g.O.Sink.written c.run_with.new.sink) (g.O.Sink.faults c.run_with.new.sink) (g.K.Keeper.moment c.run_with.new.keeper))
    c.in-Ok.ensures.ok c.run_with.ensures.reference

pub returns-in-Ok-clause-target : goal.returns-in-Ok-clause-target
returns-in-Ok-clause-target g c = given_as_asked (options_asked (map string_bytes c.args.words.now.items)) c.in-Ok.options (g.K.Keeper.moment c.args.keeper.now) c.run_with.result (g.K.Keeper.moment c.run_with.new.keeper)
    c.in-Ok.ensures.ok c.run_with.ensures.target
