use Rattle.session_laws.proofs.TableCalls.Dropping.{drop_sound}
use Rattle.session_laws.proofs.table_call_laws.dropping_tables_keeps_sound.Goals as goal

pub returns : goal.returns
returns c = drop_sound
