use Rattle.session_laws.proofs.Plans.InsertPrefixes.{insert_prefixes, insert_whole}
use Rattle.session_laws.proofs.legal_prefixes.inserts_are_legal.Goals as goal

pub returns-clause-prefixes : goal.returns-clause-prefixes
returns-clause-prefixes c = insert_prefixes

pub returns-clause-whole : goal.returns-clause-whole
returns-clause-whole c = insert_whole
