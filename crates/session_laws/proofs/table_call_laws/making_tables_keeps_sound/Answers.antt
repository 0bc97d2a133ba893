use Rattle.session_laws.proofs.TableCalls.Making.{create_sound}
use Rattle.session_laws.proofs.table_call_laws.making_tables_keeps_sound.Goals as goal

pub returns : goal.returns
returns c = create_sound
