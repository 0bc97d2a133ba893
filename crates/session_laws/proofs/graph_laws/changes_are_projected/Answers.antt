use Rattle.session_laws.proofs.Graphs.Projected.{all_projected, all_read}
use Rattle.session_laws.proofs.graph_laws.changes_are_projected.Goals as goal

pub returns-clause-projected : goal.returns-clause-projected
returns-clause-projected c = all_projected

pub returns-clause-read : goal.returns-clause-read
returns-clause-read c = all_read
