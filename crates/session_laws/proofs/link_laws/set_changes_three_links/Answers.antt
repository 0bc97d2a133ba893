use Rattle.session_laws.proofs.Links.MirrorLemmas.{set_mirrors}
use Rattle.session_laws.proofs.Links.SetLemmas.{set_marks_orphans, set_tells}
use Rattle.session_laws.proofs.link_laws.set_changes_three_links.Goals as goal

pub returns : goal.returns
returns c = record { links = set_tells; mirror = set_mirrors; orphans = set_marks_orphans }
