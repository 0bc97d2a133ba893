-- What a resolved line does to a session and its store: one program for each case, which answers what its reply tells.
use Rattle.std.specs.Prelude.{◌≡◌, ℕ, ◌≤◌, ◌==◌, List, length, map, Option, None, Some, Result, Ok, Err, IfOk}
use Rattle.base_core.specs.declared.ids.AttrNo.{AttrNo}
use Rattle.base_core.specs.declared.ids.ClassId.{ClassId}
use Rattle.base_core.specs.declared.ids.ObjId.{ObjId}
use Rattle.base_core.specs.declared.ids.RelNo.{RelNo}
use Rattle.base_core.specs.declared.refusal.Refusal.{Refusal}
use Rattle.base_core.specs.declared.value.Value.{Value}
use Rattle.class_types.specs.Rules.{Rules}
use Rattle.object_arena.specs.Graph.{Graph, object_at}
use Rattle.keeper_core.specs.Store.{Store}
use Rattle.keeper_core.specs.Programs.{Run, ◌>>=◌, give}
use Rattle.keeper_core.specs.Moment.{Moment, Runs}
use Rattle.keeper_core.specs.Beside.{by_own, moment_beside, on_own}
use Rattle.session_parts.specs.Depths.{StaysAt}
use Rattle.session_scopes.specs.SessionState.{AreThereStill, SessionState}
use Rattle.session_calls.specs.Parts.{World}
use Rattle.session_calls.specs.Steps as calls
use Rattle.session_tables.specs.Steps.{change_all}
use Rattle.session_tables.specs.declared.tables.TableChange.TheVariants.{Create, Drop}
use Rattle.session_objects.specs.Steps.{add, expunge}
use Rattle.session_objects.specs.ValueSteps as values
use Rattle.session_links.specs.Steps as links
use Rattle.session_links.specs.declared.reading.Related.{Related}
use Rattle.session_links.specs.declared.reading.Related.TheVariants.{One, Many}
use Rattle.session_acts.specs.Steps as acts
use Rattle.session_loads.specs.Queries as queries
use Rattle.session_loads.specs.Reads as reads
use Rattle.relations.specs.declared.calls.LinkCall.{LinkCall}
use Rattle.relations.specs.declared.calls.LinkCall.TheVariants.{Set}
use Rattle.expr_types.specs.declared.select.ObjectQuery.{ObjectQuery}
use Rattle.session_tables.specs.Dump.{scan_tables}
use Rattle.shell_parts.specs.declared.names.Bound.{Bound}
use Rattle.shell_parts.specs.declared.names.Bound.TheVariants.{Nothing, Object, Objects, Saved}
use Rattle.command_resolve.specs.declared.answer.Answer.{Answer}
use Rattle.command_resolve.specs.declared.answer.Answer.TheVariants as answer
use Rattle.command_resolve.specs.declared.resolved.Resolved.{Resolved}
use Rattle.command_resolve.specs.declared.resolved.Resolved.TheVariants as resolved
use Rattle.command_resolve.specs.Standing.{IsAnswer, IsResolved}

-- ---- the programs

-- a program, and what is told of its answer
abbrev pub telling : {A : Type 0} → (A → Answer) → (World → Run World A) → World → Run World Answer
telling tell m = m >>= λ a. give (tell a)

-- the answer where nothing is told
abbrev pub nothing_told : Result (Unit {0}) Refusal → Result Answer Refusal
nothing_told (Ok u) = Ok answer.Nothing
nothing_told (Err e) = Err e

-- a program of whose answer nothing is told
abbrev pub quietly : (World → Run World (Unit {0})) → World → Run World Answer
quietly m = telling (λ u. answer.Nothing) m

-- an object is made of values that its validators take, and the name is to stand for it
abbrev pub make : Rules → List ℕ → ClassId → List (AttrNo × Value) → World → Run World Answer
make rules name class cells = telling (λ object. answer.Bind name (Object object class)) (on_own (values.valid_made rules class cells))

-- what is to be written is written, and a savepoint begins, for which the name is to stand
abbrev pub begin_nested : List ℕ → World → Run World Answer
begin_nested name = telling (λ handle. answer.Bind name (Saved handle)) acts.begin_nested

-- what is to be written is written, and the whole transaction ends, or the savepoint of a handle
abbrev pub commit : Option ℕ → World → Run World (Unit {0})
commit None = acts.commit
commit (Some handle) = acts.commit_handle handle

-- the whole transaction is rolled back, or the savepoint of a handle
abbrev pub roll_back : Option ℕ → World → Run World (Unit {0})
roll_back None = calls.rollback
roll_back (Some handle) = calls.rollback_handle handle

-- what is told of the session as it is
abbrev pub as_it_is : (SessionState → Answer) → World → Run World Answer
as_it_is tell = by_own (λ session. give (tell session))

abbrev pub state_of : ObjId → SessionState → Answer
state_of object session = answer.State (object_at session.graph object).state

-- an object, with its class
abbrev pub with_class : Graph → ObjId → ObjId × ClassId
with_class graph object = (object, (object_at graph object).class)

-- what is shown of a link: the object to which it leads, or none, or the members of a collection
abbrev pub link_shown : Graph → Related → Bound
link_shown graph (One None) = Nothing
link_shown graph (One (Some end)) = Object end (object_at graph end).class
link_shown graph (Many members) = Objects (map (with_class graph) members)

-- what a link holds
abbrev pub read_link : ObjId → RelNo → World → Run World Answer
read_link object relation = reads.read_related object relation >>= λ related. as_it_is (λ session. answer.Thing (link_shown session.graph related))

-- the name is to stand for what a link holds
abbrev pub bind_related : List ℕ → ObjId → RelNo → World → Run World Answer
bind_related name object relation = reads.read_related object relation >>= λ related. as_it_is (λ session. answer.Bind name (link_shown session.graph related))

-- the name is to stand for the object of a class under a key, which may be of a class under this one, or for none
abbrev pub get : List ℕ → ClassId → List Value → World → Run World Answer
get name class key = reads.get class key >>= λ found. as_it_is (λ session. answer.Bind name (link_shown session.graph (One found)))

-- the name is to stand for the objects of a query
abbrev pub select_objects : List ℕ → ObjectQuery → World → Run World Answer
select_objects name query = queries.select_objects query >>= λ objects. as_it_is (λ session. answer.Bind name (link_shown session.graph (Many objects)))

-- a link is set, or a member is appended to a collection or removed from it
abbrev pub change_link : ObjId → RelNo → LinkCall → World → Run World (Unit {0})
change_link owner relation (Set end) = links.change_link owner relation (Set end)
change_link owner relation call = reads.change_collection owner relation call

-- whether two objects are one
abbrev pub same : ObjId → ObjId → Answer
same object other = answer.Same (object.0 == other.0)

-- what a resolved line does, where these are the rules of the validators
abbrev pub program_of_resolved : Rules → Resolved → World → Run World Answer
program_of_resolved rules resolved.CreateAll = quietly (change_all Create)
program_of_resolved rules resolved.DropAll = quietly (change_all Drop)
program_of_resolved rules resolved.Dump = telling answer.Tables scan_tables
program_of_resolved rules (resolved.New name class cells) = make rules name class cells
program_of_resolved rules (resolved.Get name class key) = get name class key
program_of_resolved rules (resolved.Objects name query) = select_objects name query
program_of_resolved rules (resolved.Related name object relation) = bind_related name object relation
program_of_resolved rules (resolved.BeginNested name) = begin_nested name
program_of_resolved rules (resolved.SetCell object attr value) = quietly (values.set_valid rules object attr value)
program_of_resolved rules (resolved.ChangeLink owner relation call) = quietly (change_link owner relation call)
program_of_resolved rules (resolved.Add object) = quietly (add object)
program_of_resolved rules (resolved.Delete object) = quietly (calls.delete object)
program_of_resolved rules (resolved.Expunge object) = quietly (expunge object)
program_of_resolved rules (resolved.Expire object) = quietly (reads.expire object)
program_of_resolved rules (resolved.Refresh object) = quietly (reads.refresh object)
program_of_resolved rules (resolved.Show thing) = give (answer.Thing thing)
program_of_resolved rules (resolved.ShowCell object attr) = telling answer.Value (reads.read_cell object attr)
program_of_resolved rules (resolved.ShowLink object relation) = read_link object relation
program_of_resolved rules (resolved.State object) = as_it_is (state_of object)
program_of_resolved rules (resolved.Same object other) = give (same object other)
program_of_resolved rules resolved.Flush = quietly acts.flush_now
program_of_resolved rules (resolved.Commit handle) = quietly (commit handle)
program_of_resolved rules (resolved.Rollback handle) = quietly (roll_back handle)
program_of_resolved rules resolved.Close = quietly calls.close
program_of_resolved rules (resolved.Rows select) = telling answer.Rows (acts.rows select)
program_of_resolved rules (resolved.Bulk statement) = telling answer.Count (acts.bulk statement)

-- ---- what a line is asked, and what it keeps

-- all that the line names is there in the session
abbrev pub IsReady : SessionState → Resolved → Type 0
IsReady session line = IsResolved session.mapping session.graph session.drawn.drawn line

-- The line ran its program. The mapping stays, each object is there still, of its class, and no handle fewer was drawn; unless it
-- ended early the keeper is in step. What is to be bound or shown is there.
pub record IsPerformed {K : Type 0} (moment : K → Moment Store) (m : World → Run World Answer) (old : SessionState × K) (result : Result Answer Refusal) (new : SessionState × K) : Type 0 where
  pub step : Runs (moment_beside moment) (λ a. a) m old result new
  pub mapping : new.0.mapping ≡ old.0.mapping
  pub stay : AreThereStill old.0.graph new.0.graph
  pub drawn : old.0.drawn.drawn ≤ new.0.drawn.drawn
  pub in_step : StaysAt result (length new.0.frames.scopes) (moment new.1)
  pub answer : IfOk result (IsAnswer new.0.mapping new.0.graph new.0.drawn.drawn)
