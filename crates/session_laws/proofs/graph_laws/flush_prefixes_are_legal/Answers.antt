use Rattle.session_laws.proofs.Graphs.Prefixes.{prefixes_legal}
use Rattle.session_laws.proofs.graph_laws.flush_prefixes_are_legal.Goals as goal

pub returns-clause-prefixes : goal.returns-clause-prefixes
returns-clause-prefixes c = prefixes_legal
