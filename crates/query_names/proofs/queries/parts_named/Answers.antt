use Rattle.query_names.proofs.Firsts.{paired, paired_cause}
use Rattle.query_names.proofs.queries.parts_named.Goals as goal

pub returns-clause-said : goal.returns-clause-said
returns-clause-said c = paired c.filter_named.result c.rest_named.result c.pair.result _ _ c.pair.ensures.told c.filter_named.ensures.said c.rest_named.ensures.said

pub returns-clause-cause : goal.returns-clause-cause
returns-clause-cause c = paired_cause c.filter_named.result c.rest_named.result c.pair.result c.pair.ensures.told c.filter_named.ensures.cause c.rest_named.ensures.cause
