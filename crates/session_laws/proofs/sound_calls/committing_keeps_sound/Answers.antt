use Rattle.session_laws.proofs.Calls.Nesting.{commit_sound}
use Rattle.session_laws.proofs.Calls.Whole.{whole_sound}
use Rattle.session_laws.proofs.sound_calls.committing_keeps_sound.Goals as goal

pub returns-clause-transaction : goal.returns-clause-transaction
returns-clause-transaction c = commit_sound

pub returns-clause-whole : goal.returns-clause-whole
returns-clause-whole c = whole_sound
