use Rattle.std.proofs.Common.{◌≡◌, true, false, rules}
use Rattle.plan_statements.proofs.StaleLemmas.{not_written, written}
use Rattle.plan_statements.proofs.stale.put_changed.Goals as goal

pub returns-then-is_empty : goal.returns-then-is_empty
returns-then-is_empty c = λ table key. not_written c.args.places.now c.args.row.now table key (c.if-is_empty.ensures.0 (search rules))

pub returns : goal.returns
returns c = λ table key.
    written c.args.places.now c.insert.new.self c.args.row.now c.in_ok-key.key table key (λ none. absurd (let h : false ≡ true = c.if-is_empty.ensures.1 none in cc)) c.in_ok-key.ensures (c.in_ok-insert.ensures.updates.0 (table, key))
