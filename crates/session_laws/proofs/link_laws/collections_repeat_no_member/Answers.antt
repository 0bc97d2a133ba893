use Rattle.session_laws.proofs.Links.RepeatLemmas.{append_repeats_none, remove_repeats_none, set_repeats_none}
use Rattle.session_laws.proofs.link_laws.collections_repeat_no_member.Goals as goal

pub returns : goal.returns
returns c = record { set = set_repeats_none; append = append_repeats_none; remove = remove_repeats_none }
