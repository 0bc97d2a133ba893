use Rattle.script_laws.proofs.Shells.{end_law}
use Rattle.script_laws.proofs.scripts.scripts_end_whole.Goals as goal

pub returns : goal.returns
returns c = end_law c.calls_keep_whole.ensures
    (record {
      prepares = c.preparations_keep_sessions_whole.ensures.reread;
      whole = c.readings_keep_sessions_whole.ensures.whole;
      goes = c.readings_keep_sessions_whole.ensures.goes;
      keys = c.readings_tell_made_objects.ensures.keys;
      queries = c.readings_tell_made_objects.ensures.queries;
      links = c.readings_tell_made_objects.ensures.links;
    })
