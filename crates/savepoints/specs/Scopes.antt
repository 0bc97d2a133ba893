-- The scopes of a session, and how each object goes back to where it stood at the start of one.
use Rattle.std.specs.Prelude.{◌≡◌, ℕ, zero, suc, ◌&&◌, ◌+◌, ◌++◌, replicate, slice_set, ◌-◌, ◌<◌, ◌≤◌, Bool, true, false, ◌||◌, List, [], ◌∷◌, length, map, take, min, slice_index_or, drop, nat_le, nat_lt, Option, None, Some, is_some, Result, Ok, Err, ◌==◌, if◌then◌else◌}
use Rattle.std.specs.List.{All}
use Rattle.base_core.specs.declared.ids.ObjId.{ObjId}
use Rattle.base_core.specs.declared.ids.ClassId.{ClassId}
use Rattle.base_core.specs.declared.value.Value.{Value}
use Rattle.base_core.specs.declared.refusal.LimitKind.TheVariants.{Savepoints}
use Rattle.base_core.specs.declared.refusal.Refusal.{Refusal}
use Rattle.base_core.specs.declared.refusal.Refusal.TheVariants.{LimitReached}
use Rattle.class_mapping.specs.Mapped.{Mapped}
use Rattle.object_arena.specs.declared.object.Object.{Object}
use Rattle.object_arena.specs.declared.object.State.{State}
use Rattle.object_arena.specs.declared.object.State.TheVariants.{Transient, Pending, Persistent, Deleted, Detached}
use Rattle.object_arena.specs.Graph.{Graph, expired_object, has_identity, is_persistent, no_class_id, no_object, object_at, place_of, put_back_object}
use Rattle.object_arena.specs.Identity.{holds_at}
use Rattle.object_arena.specs.Fit.{identity_fits}
use Rattle.object_arena.specs.Every.{each_object, each_placed}
use Rattle.savepoints.specs.declared.scope.Standing.{Standing}
use Rattle.savepoints.specs.declared.scope.Scope.{Scope}
use Rattle.savepoints.specs.declared.traces.Trace.{Trace}

-- ---- where objects stand

abbrev pub standing_of : Object → Standing
standing_of object = record { state = object.state; identity = object.identity }

-- an object that was made since counts as transient
abbrev pub made_since : Standing
made_since = record { state = Transient; identity = None }

-- where the object at a place stood at the scope's start
abbrev pub standing_at : Scope → ℕ → Standing
standing_at scope place = slice_index_or scope.standings place made_since

-- a scope that begins with these objects
abbrev pub begun_at : Graph → Scope
begun_at graph = record { standings = map standing_of graph.objects }

-- exactly a state that has an identity comes with one
abbrev pub IsStanding : Standing → Type 0
IsStanding standing = has_identity standing.state ≡ is_some standing.identity

-- ---- the scopes in progress

-- an object that was touched in no scope
abbrev pub no_trace : Trace
no_trace = record { depth = 0; loaded = false }

abbrev pub trace_in : List Trace → ℕ → Trace
trace_in traces place = slice_index_or traces place no_trace

-- The scopes in progress, the innermost first: the outermost is the transaction, at depth 1, and the others are
-- savepoints. Beside them, at the place of each object, the depth of the innermost scope in which it was touched, and
-- whether a load made it since the transaction began; of an object past their end neither was.
pub record Framed : Type 0 where
  pub scopes : List Scope
  pub traces : List Trace

abbrev pub no_frames : Framed
no_frames = record { scopes = []; traces = [] }

-- the transaction and 64 savepoints
abbrev pub scope_limit : ℕ
scope_limit = 65

-- what the scopes of a session keep
pub record IsFrames (scopes : List Scope) : Type 0 where
  pub few : length scopes ≤ scope_limit
  pub sound : All (λ scope. All IsStanding scope.standings) scopes

abbrev pub no_scope : Scope
no_scope = record { standings = [] }

-- the scope at a depth: the transaction is at depth 1
abbrev pub scope_at : ℕ → List Scope → Scope
scope_at depth scopes = slice_index_or scopes (length scopes - depth) no_scope

-- the object at a place was touched in the scope at a depth or in a scope inside it
abbrev pub is_touched : Framed → ℕ → ℕ → Bool
is_touched frames depth place = nat_le depth (trace_in frames.traces place).depth

-- one more scope starts, unless there are 64 savepoints
unfoldable pub push : Graph → Framed → Result (Unit {0} × Framed) Refusal
push graph frames =
    if nat_lt (length frames.scopes) scope_limit then Ok (tt, record frames { scopes = begun_at graph ∷ frames.scopes })
    else Err (LimitReached Savepoints)

-- ---- touching

-- A load made the object, where it is persistent when it is touched for the first time since it was made, and it was made
-- since the transaction began.
abbrev pub is_load : Framed → ℕ → Object → Bool
is_load frames place object =
    (trace_in frames.traces place).loaded
    || (is_persistent object.state && ((trace_in frames.traces place).depth == 0 && nat_le (length (scope_at 1 frames.scopes).standings) place))

abbrev pub touched_trace : Framed → ℕ → Object → Trace
touched_trace frames place object = record { depth = length frames.scopes; loaded = is_load frames place object }

-- the traces up to a place
abbrev pub padded_traces : List Trace → ℕ → List Trace
padded_traces traces place = traces ++ replicate (place + 1 - length traces) no_trace

abbrev pub with_trace : List Trace → ℕ → Trace → List Trace
with_trace traces place trace = slice_set (padded_traces traces place) place trace

abbrev pub touch_in : List Scope → Graph → ObjId → Framed → Framed
touch_in [] graph object frames = frames
touch_in (scope ∷ scopes) graph object frames =
    record frames { traces = with_trace frames.traces (place_of object) (touched_trace frames (place_of object) (object_at graph object)) }

-- an object is touched in the innermost scope; where no scope is in progress nothing happens
unfoldable pub touch : Graph → ObjId → Framed → Framed
touch graph object frames = touch_in frames.scopes graph object frames

-- ---- ends of scopes

-- what was touched inside passes outwards, and the end of the transaction forgets all
abbrev pub outward : ℕ → Trace → Trace
outward depth trace = if depth == 0 then no_trace else record trace { depth = min trace.depth depth }

-- so many scopes are left
abbrev pub left_at : ℕ → Framed → Framed
left_at depth frames = record { scopes = drop (length frames.scopes - depth) frames.scopes; traces = map (outward depth) frames.traces }

-- the innermost scope ends, and what was done inside stays
unfoldable pub scope_released : Framed → Framed
scope_released frames = left_at (length frames.scopes - 1) frames

-- the scope at a depth ends with those inside it
unfoldable pub around : ℕ → Framed → Framed
around depth frames = left_at (depth - 1) frames

-- ---- going back

abbrev pub put_back_to : Standing → Object → Object
put_back_to standing object = put_back_object object standing.state standing.identity

abbrev pub loaded_standing : Option (List Value) → Standing
loaded_standing None = made_since
loaded_standing (Some key) = record { state = Persistent; identity = Some key }

-- an object that was made since the scope's start: one that a load made counts as persistent under its identity
abbrev pub since : Bool → Option (List Value) → Standing
since true identity = loaded_standing identity
since false identity = made_since

-- where an object is to stand again
abbrev pub wanted_standing : Scope → List Trace → ℕ → Object → Standing
wanted_standing scope traces place object =
    if nat_lt place (length scope.standings) then standing_at scope place else since (trace_in traces place).loaded object.identity

-- the objects as they are to stand again
abbrev pub all_wanted : Scope → List Trace → Graph → Graph
all_wanted scope traces graph = each_placed (λ place object. put_back_to (wanted_standing scope traces place object) object) graph

-- some number below one passes
abbrev pub any_below : (ℕ → Bool) → ℕ → Bool
any_below test zero = false
any_below test (suc n) = test n || any_below test n

-- an object at a lesser place is persistent under the key and the root of the object at a place
abbrev pub is_lost : Graph → ℕ → Option (List Value) → Bool
is_lost graph place None = false
is_lost graph place (Some key) = any_below (holds_at graph.objects graph.roots (slice_index_or graph.roots place no_class_id) key) place

-- Of several that would be persistent under one identity, the least number keeps it; the others are detached. An object
-- that stood under it at the scope's start has a lesser number than all that were loaded since.
abbrev pub contested_state : Bool → State → State
contested_state true Persistent = Detached
contested_state lost state = state

abbrev pub back_to : Standing → Bool → Object → Object
back_to standing lost object = put_back_object object (contested_state lost standing.state) standing.identity

-- an object stands again where it stood
abbrev pub stood_again : Scope → List Trace → Graph → ℕ → Object → Object
stood_again scope traces graph place object =
    back_to (wanted_standing scope traces place object) (is_lost (all_wanted scope traces graph) place (wanted_standing scope traces place object).identity) object

-- the graph in which each object stands again where it stood at the scope's start
unfoldable pub put_back_all : Scope → List Trace → Graph → Graph
put_back_all scope traces graph = each_placed (stood_again scope traces graph) graph

abbrev pub expired_in : State → Object → Object
expired_in Persistent object = expired_object object
expired_in state object = object

abbrev pub expired_where : Bool → Object → Object
expired_where true object = expired_in object.state object
expired_where false object = object

-- what is read again after a rollback: the persistent objects touched inside, and after the transaction's all of them
abbrev pub read_again : ℕ → List Trace → ℕ → Object → Object
read_again depth traces place object = expired_where (depth == 1 || nat_le depth (trace_in traces place).depth) object

-- the graph after a rollback to the start of the scope at a depth
unfoldable pub restored_graph : ℕ → Framed → Graph → Graph
restored_graph depth frames graph = each_placed (read_again depth frames.traces) (put_back_all (scope_at depth frames.scopes) frames.traces graph)

-- ---- keys

-- the objects had keys of their classes at the scope's start
pub record HasKeys (mapped : Mapped) (graph : Graph) (scope : Scope) : Type 0 where
  pub few : length scope.standings ≤ length graph.objects
  pub keys : (place : ℕ) → place < length graph.objects → identity_fits mapped (slice_index_or graph.objects place no_object).class (standing_at scope place).identity ≡ true
