use Rattle.load_calls.proofs.RefusalLemmas.{select_refused}
use Rattle.load_queries.proofs.QuerySteps.{query_rows}
use Rattle.load_queries.proofs.queries.read_rows.Goals as goal

pub read-requires-clause-plain : goal.read-requires-clause-plain
read-requires-clause-plain g c = λ configured. c.requires.plain

pub returns-clause-rows : goal.returns-clause-rows
returns-clause-rows g c =
    query_rows c.args.mapping.now c.args.query.now.class c.args.query.now.select c.read.result c.read.ensures.configured.hierarchies c.requires.class c.requires.reads c.read.ensures.kinds c.read.ensures.given

pub returns-clause-refuses : goal.returns-clause-refuses
returns-clause-refuses g c = select_refused c.args.mapping.now c.args.query.now.select c.read.result c.read.ensures.refuses
