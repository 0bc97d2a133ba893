use Rattle.session_laws.proofs.Links.MemberLemmas.{append_keeps_rest, remove_keeps_rest}
use Rattle.session_laws.proofs.Links.SetLemmas.{set_keeps_rest}
use Rattle.session_laws.proofs.link_laws.links_alone_change.Goals as goal

pub returns : goal.returns
returns c = record { set = set_keeps_rest; append = append_keeps_rest; remove = remove_keeps_rest }
