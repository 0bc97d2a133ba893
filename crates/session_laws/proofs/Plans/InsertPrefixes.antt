-- Every prefix of the INSERTs is accepted and leaves legal tables.
use Rattle.std.proofs.Common.{ℕ, List, map}
use Rattle.schema_core.specs.declared.changes.RowChanges.{RowChanges}
use Rattle.schema_core.specs.Catalog.{Catalog}
use Rattle.schema_core.specs.Tables.{Tables}
use Rattle.flush_plan.specs.Flushing.{Sofar}
use Rattle.session_laws.specs.Plans.Laws.{InsertPrefixesAreLegal, InsertsLeaveKeys, IsComplete, before, insert_of}
use Rattle.session_laws.proofs.Plans.Complete.{IsStated, ends, leads, news, told_of}
use Rattle.session_laws.proofs.Plans.Prefixes.{Goes, prefix_of, goes_whole}
use Rattle.session_laws.proofs.Plans.InsertOrder.{news_ordered}
use Rattle.session_laws.proofs.Plans.Inserting.{inserts_go}
use Rattle.session_laws.proofs.Plans.Whole.{start_putting}

pub inserts : (schema : Catalog) (old : Tables) (changes : RowChanges) (order : List ℕ) (placed : Sofar) (after : Tables) → IsComplete schema old changes order placed after → Goes schema changes (before old) (map (insert_of changes) order) placed
inserts schema old changes order placed after complete =
    let its = ends schema old changes order placed after complete in
    let told : IsStated schema old changes order placed after = told_of schema old changes order placed after complete in
    (inserts_go schema changes old after placed its order order (news schema old changes order placed after told) (before old) (λ other among. among)
    (news schema old changes order placed after told).once (news_ordered schema old changes order placed after told complete.no_guess)
    (start_putting schema changes old after placed its order) (leads schema old changes order placed after told)).0

pub insert_prefixes : InsertPrefixesAreLegal
insert_prefixes schema old changes order placed after complete n = prefix_of schema changes (before old) placed (map (insert_of changes) order) (inserts schema old changes order placed after complete) n

pub insert_whole : InsertsLeaveKeys
insert_whole schema old changes order placed after complete = goes_whole schema changes (before old) placed (map (insert_of changes) order) (inserts schema old changes order placed after complete)
