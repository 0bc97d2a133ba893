use Rattle.graph_flushed.specs.Flushed.{Written, written_with}
use Rattle.flush_settling.proofs.SettleSteps.{settled_fits, settled_ok, settled_touched}
use Rattle.flush_settling.proofs.settling.settle.Goals as goal

pub returns-clause-ok : goal.returns-clause-ok
returns-clause-ok c =
    settled_ok (written_with c.args.mapping.now c.args.prepared.now c.args.changes.now c.args.keys.now c.args.arena.now) c.put_records.new.arena c.in_ok-records.records c.put_records.result c.in_ok-records.ensures.records c.put_records.ensures.ok

pub returns-clause-touched : goal.returns-clause-touched
returns-clause-touched c =
    settled_touched (written_with c.args.mapping.now c.args.prepared.now c.args.changes.now c.args.keys.now c.args.arena.now) c.put_records.new.arena c.in_ok-records.records c.put_records.result c.args.frames.now c.put_records.new.frames
    c.put_records.ensures.ok c.put_records.ensures.touched

pub returns-clause-fits : goal.returns-clause-fits
returns-clause-fits c =
    λ good.
    let written : Written = written_with c.args.mapping.now c.args.prepared.now c.args.changes.now c.args.keys.now c.args.arena.now in
    settled_fits c.args.mapping.now c.args.arena.now c.put_records.new.arena c.args.prepared.now c.args.changes.now c.args.keys.now c.put_records.result c.requires.fit
    (settled_ok written c.put_records.new.arena c.in_ok-records.records c.put_records.result c.in_ok-records.ensures.records c.put_records.ensures.ok) c.put_records.ensures.err c.put_records.ensures.classes good
