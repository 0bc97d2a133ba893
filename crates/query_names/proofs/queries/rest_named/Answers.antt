use Rattle.query_names.proofs.Firsts.{paired_cause}
use Rattle.query_names.proofs.queries.rest_named.Goals as goal

pub returns-clause-cause : goal.returns-clause-cause
returns-clause-cause c = paired_cause c.order_named.result c.options_named.result c.pair.result c.pair.ensures.told c.order_named.ensures.cause c.options_named.ensures.cause
