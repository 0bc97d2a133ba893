use Rattle.plan_statements.proofs.StaleLemmas.{deleted}
use Rattle.plan_statements.proofs.stale.put_gone.Goals as goal

pub returns : goal.returns
returns c = λ table key. deleted c.args.schema.now c.args.places.now c.insert.new.self c.args.row.now c.in_ok-key.key table key c.in_ok-key.ensures (c.in_ok-insert.ensures.updates.0 (table, key))
