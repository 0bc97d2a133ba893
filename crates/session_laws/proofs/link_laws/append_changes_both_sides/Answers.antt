use Rattle.session_laws.proofs.Links.HasLemmas.{append_adds}
use Rattle.session_laws.proofs.Links.MemberLemmas.{append_marks_orphans, append_tells}
use Rattle.session_laws.proofs.link_laws.append_changes_both_sides.Goals as goal

pub returns : goal.returns
returns c = record { links = append_tells; has = append_adds; orphans = append_marks_orphans }
