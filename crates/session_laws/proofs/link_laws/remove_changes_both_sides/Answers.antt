use Rattle.session_laws.proofs.Links.HasLemmas.{remove_takes_out}
use Rattle.session_laws.proofs.Links.MemberLemmas.{remove_marks_orphans, remove_tells}
use Rattle.session_laws.proofs.link_laws.remove_changes_both_sides.Goals as goal

pub returns : goal.returns
returns c = record { links = remove_tells; lacks = remove_takes_out; orphans = remove_marks_orphans }
