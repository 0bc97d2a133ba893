use Rattle.session_laws.proofs.LinkCalls.Linking.{change_sound}
use Rattle.session_laws.proofs.link_call_laws.changing_links_keeps_sound.Goals as goal

pub returns : goal.returns
returns c = change_sound
