use Rattle.session_laws.proofs.Calls.Rereading.{bulk_sound, rows_sound}
use Rattle.session_laws.proofs.Calls.Whole.{bulk_asked}
use Rattle.session_laws.proofs.sound_calls.statements_keep_sound.Goals as goal

pub returns-clause-enter : goal.returns-clause-enter
returns-clause-enter c = bulk_asked

pub returns-clause-bulk : goal.returns-clause-bulk
returns-clause-bulk c = bulk_sound

pub returns-clause-rows : goal.returns-clause-rows
returns-clause-rows c = rows_sound
