use Rattle.std.proofs.Common.{◌∙◌, length, ap}
use Rattle.graph_flushed.specs.Flushed.{Written}
use Rattle.graph_flushed.specs.Keys.{Keys}
use Rattle.flush_settling.proofs.SettleSteps.{records_follow}
use Rattle.flush_settling.proofs.settling.records_flushed.Goals as goal

pub returns-clause-follow : goal.returns-clause-follow
returns-clause-follow c =
    let written : Written = record { mapping = c.args.mapping.now; graph = c.args.arena.now; prepared = c.args.prepared.now; names = c.in_ok-names.names; keys = c.as_slice-given.result.now } in
    records_follow written c.records.result c.records.ensures.records c.count-count.ensures.graph (ap (λ (ks : Keys). length ks) c.as_slice-given.ensures.value ∙ c.in_ok-keys.ensures.long) c.records.ensures.narrow
