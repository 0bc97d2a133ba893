use Rattle.class_types.specs.Shown.{rules_of}
use Rattle.sqla_shell.proofs.EndLemmas.{concludes_faults, concludes_script, is_done, read_through}
use Rattle.sqla_shell.proofs.KeepsLemmas.{keeper_then}
use Rattle.sqla_shell.proofs.running.run_script.Goals as goal

-- src/running.rt:72:1
pub returns-clause-reference : goal.returns-clause-reference
returns-clause-reference g c = is_done g.K.Keeper.moment g.O.Sink.written c.args.print (rules_of c.args.hooks.now) (g.S.Source.left c.args.source.now) c.new-shell.result c.do_script-done.new.shell c.args.keeper.now c.do_script-done.new.keeper c.conclude.new.keeper c.args.sink.now c.do_script-done.new.sink c.do_script-done.result c.conclude.result
    c.new-shell.ensures c.do_script-done.ensures.reference (g.met.K.Keeper.coherent c.args.keeper.now) c.requires.outside c.conclude.ensures.concluded (g.met.K.Keeper.coherent c.conclude.new.keeper) c.conclude.ensures.rests.depth

pub returns-clause-through : goal.returns-clause-through
returns-clause-through g c = read_through c.do_script-done.result c.do_script-done.new.shell.desk.refused (g.K.Keeper.moment c.do_script-done.new.keeper).told (g.K.Keeper.moment c.conclude.new.keeper).told c.conclude.result
    (g.S.Source.left c.args.source.now) (g.S.Source.left c.do_script-done.new.source) c.conclude.ensures.concluded c.do_script-done.ensures.through

pub returns-clause-usage : goal.returns-clause-usage
returns-clause-usage g c = concludes_script c.do_script-done.result c.do_script-done.new.shell.desk.refused (g.K.Keeper.moment c.do_script-done.new.keeper).told (g.K.Keeper.moment c.conclude.new.keeper).told c.conclude.result c.conclude.ensures.concluded

pub returns-clause-keeper : goal.returns-clause-keeper
returns-clause-keeper g c = keeper_then c.do_script-done.ensures.keeps.keeper c.conclude.ensures.rests.keeper

pub returns-clause-faults : goal.returns-clause-faults
returns-clause-faults g c = concludes_faults c.do_script-done.result c.do_script-done.new.shell.desk.refused (g.K.Keeper.moment c.do_script-done.new.keeper).told (g.K.Keeper.moment c.conclude.new.keeper).told c.conclude.result
    (g.S.Source.faults c.args.source.now) (g.O.Sink.faults c.args.sink.now) (g.K.Keeper.moment c.args.keeper.now).faults (g.S.Source.faults c.do_script-done.new.source) (g.O.Sink.faults c.do_script-done.new.sink)
    (g.K.Keeper.moment c.do_script-done.new.keeper).faults (g.K.Keeper.moment c.conclude.new.keeper).faults c.conclude.ensures.concluded c.do_script-done.ensures.keeps.faults c.conclude.ensures.rests.faults c.conclude.ensures.counted
