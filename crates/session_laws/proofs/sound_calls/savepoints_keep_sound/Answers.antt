use Rattle.session_laws.proofs.Calls.Nesting.{nest_sound, releases_sound}
use Rattle.session_laws.proofs.Calls.Whole.{handle_asked, handle_released, nested_asked}
use Rattle.session_laws.proofs.sound_calls.savepoints_keep_sound.Goals as goal

pub returns-clause-enter : goal.returns-clause-enter
returns-clause-enter c = nested_asked

pub returns-clause-check : goal.returns-clause-check
returns-clause-check c = handle_asked

pub returns-clause-begin : goal.returns-clause-begin
returns-clause-begin c = nest_sound

pub returns-clause-release : goal.returns-clause-release
returns-clause-release c = releases_sound

pub returns-clause-handle : goal.returns-clause-handle
returns-clause-handle c = handle_released
