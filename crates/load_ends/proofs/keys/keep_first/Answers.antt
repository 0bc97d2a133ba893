use Rattle.load_ends.proofs.KeySteps.{new_first, seen_first, seen_more}
use Rattle.load_ends.proofs.keys.keep_first.Goals as goal

pub returns-then-contains-clause-keys : goal.returns-then-contains-clause-keys
returns-then-contains-clause-keys c = seen_first c.args.seen.now c.args.keys.now c.args.key c.contains.result c.requires c.contains.ensures c.if-contains.true

pub returns-clause-keys : goal.returns-clause-keys
returns-clause-keys c = new_first c.args.seen.now c.args.keys.now c.push.new.self c.args.key c.contains.result c.push.result c.requires c.contains.ensures c.if-contains.false c.push.ensures.ok

pub returns-clause-seen : goal.returns-clause-seen
returns-clause-seen c = seen_more c.args.seen.now c.enter.new.seen c.args.keys.now c.push.new.self c.args.key c.push.result c.requires c.in_ok-enter.ensures c.push.ensures.ok
