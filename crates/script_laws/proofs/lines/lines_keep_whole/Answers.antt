use Rattle.script_laws.proofs.Performed.{lines_law}
use Rattle.script_laws.proofs.lines.lines_keep_whole.Goals as goal

pub returns : goal.returns
returns c = lines_law c.calls_keep_whole.ensures
    (record {
      prepares = c.preparations_keep_sessions_whole.ensures.reread;
      whole = c.readings_keep_sessions_whole.ensures.whole;
      goes = c.readings_keep_sessions_whole.ensures.goes;
      keys = c.readings_tell_made_objects.ensures.keys;
      queries = c.readings_tell_made_objects.ensures.queries;
      links = c.readings_tell_made_objects.ensures.links;
    })
