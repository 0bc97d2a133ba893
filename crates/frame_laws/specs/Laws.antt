-- What scopes by copies have in common with those of a session, and the laws that each act keeps that.
use Rattle.std.specs.Prelude.{◌≡◌, ◌⊎◌, ℕ, ◌+◌, ◌-◌, ◌≤◌, List, [], ◌∷◌, length, is_some, nat_le, slice_index_or, Some}
use Rattle.base_core.specs.declared.ids.ObjId.{ObjId}
use Rattle.object_arena.specs.Graph.{Graph, IsObject, no_object}
use Rattle.savepoints.specs.declared.scope.Scope.{Scope}
use Rattle.savepoints.specs.declared.traces.Trace.{Trace}
use Rattle.savepoints.specs.Scopes as scope
use Rattle.savepoints.specs.Scopes.{Framed, begun_at, no_trace, trace_in}
use Rattle.frame_laws.specs.Copies.{Copy, Identity, Places, begin, either, ended, no_place, restored, touch}

-- how many objects had been made at the start of the outermost of these scopes
abbrev pub outer_count : List Scope → ℕ
outer_count [] = 0
outer_count (only ∷ []) = length only.standings
outer_count (first ∷ next ∷ scopes) = outer_count (next ∷ scopes)

-- A scope by copies and the innermost of these scopes of a session are alike: objects stood alike at the start; those that were touched in
-- it or inside it are those whose trace is as deep; and of those that were made since, the ones that a load made are those of which the
-- trace says so, and none was touched outside alone. So many objects have been made.
pub record IsAlike (traces : List Trace) (size : ℕ) (inside : Places) (copy : Copy) (only : Scope) (scopes : List Scope) : Type 0 where
  pub stood : copy.stood ≡ only.standings
  pub touched : (place : ℕ) → either inside copy.touched place ≡ nat_le (length (only ∷ scopes)) (trace_in traces place).depth
  pub loaded : (place : ℕ) → length only.standings ≤ place → is_some (copy.loaded place) ≡ (trace_in traces place).loaded
  pub since : (place : ℕ) → length only.standings ≤ place → ((trace_in traces place).depth ≡ 0) ⊎ (length (only ∷ scopes) ≤ (trace_in traces place).depth)
  pub few : length only.standings ≤ size
  pub first : outer_count (only ∷ scopes) ≤ length only.standings

-- all scopes in progress are, from the innermost on
abbrev pub AreAlike : List Trace → ℕ → Places → List Copy → List Scope → Type 0
AreAlike traces size inside [] [] = Unit {0}
AreAlike traces size inside (copy ∷ copies) (only ∷ scopes) = IsAlike traces size inside copy only scopes × AreAlike traces size (either inside copy.touched) copies scopes
AreAlike traces size inside copies scopes = ⊥

-- the scopes by copies and those of a session are the same scopes of these objects
pub record AreSame (copies : List Copy) (frames : Framed) (graph : Graph) : Type 0 where
  pub alike : AreAlike frames.traces (length graph.objects) no_place copies frames.scopes
  pub deep : (place : ℕ) → (trace_in frames.traces place).depth ≤ length frames.scopes
  pub made : (place : ℕ) → length graph.objects ≤ place → trace_in frames.traces place ≡ no_trace

-- an object that a load made has the identity still under which it did
abbrev pub AreNamedStill : Graph → List Copy → Type 0
AreNamedStill graph [] = Unit {0}
AreNamedStill graph (copy ∷ copies) =
    ((place : ℕ) (identity : Identity) → copy.loaded place ≡ Some identity → (slice_index_or graph.objects place no_object).identity ≡ identity) × AreNamedStill graph copies

-- ---- the laws

-- they are the same where none is in progress
abbrev pub StartsTheSame : Type 0
StartsTheSame = (graph : Graph) → AreSame [] scope.no_frames graph

-- objects change and are made in whatever way
abbrev pub ChangesKeepSame : Type 0
ChangesKeepSame = (copies : List Copy) (frames : Framed) (old new : Graph) → length old.objects ≤ length new.objects → AreSame copies frames old → AreSame copies frames new

-- a scope begins
abbrev pub BeginKeepsSame : Type 0
BeginKeepsSame = (copies : List Copy) (frames : Framed) (graph : Graph) → AreSame copies frames graph → AreSame (begin graph copies) (record frames { scopes = begun_at graph ∷ frames.scopes }) graph

-- an object is touched
abbrev pub TouchKeepsSame : Type 0
TouchKeepsSame = (copies : List Copy) (frames : Framed) (graph : Graph) (object : ObjId) → IsObject graph object → AreSame copies frames graph → AreSame (touch graph object copies) (scope.touch graph object frames) graph

-- so many scopes end, released or gone back to
abbrev pub EndsKeepSame : Type 0
EndsKeepSame =
    (copies : List Copy) (frames : Framed) (graph : Graph) (count left : ℕ) → length frames.scopes ≡ left + count → AreSame copies frames graph → AreSame (ended count no_place copies) (scope.left_at left frames) graph

-- a rollback of the scope at a depth makes the same of the objects
abbrev pub RestoresTheSame : Type 0
RestoresTheSame =
    (copies : List Copy) (frames : Framed) (graph : Graph) (depth : ℕ) → 1 ≤ depth → depth ≤ length frames.scopes → AreSame copies frames graph → AreNamedStill graph copies
    → restored (length frames.scopes - depth) no_place copies graph ≡ scope.restored_graph depth frames graph
