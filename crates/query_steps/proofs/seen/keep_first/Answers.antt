use Rattle.std.proofs.Common.{true, sym, ◌∙◌}
use Rattle.query_steps.proofs.Firsts.{kept_more, seen_more}
use Rattle.query_steps.proofs.seen.keep_first.Goals as goal

pub returns-in_ok-push-clause-seen : goal.returns-in_ok-push-clause-seen
returns-in_ok-push-clause-seen c =
    seen_more c.args.seen.now c.insert.new.self c.args.kept.now.items c.push.new.self.items c.in_ok-copied.field-0 c.args.row c.in_ok-copied.ensures c.requires c.in_ok-insert.ensures.updates.0
    (kept_more c.args.seen.now c.args.kept.now.items c.push.new.self.items c.in_ok-copied.field-0 c.args.row true c.in_ok-copied.ensures c.requires (sym c.if-branch.true ∙ c.in_ok-insert.ensures.added) c.in_ok-push.ensures.items)
