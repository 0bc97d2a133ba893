-- What a load does to the objects, step by step, and what a program leaves of what held before it.
use Rattle.std.specs.Prelude.{◌≡◌, true, false, List, length, Option, None, Some, IfOk}
use Rattle.std.specs.List.{AllByRecursion}
use Rattle.base_core.specs.declared.ids.AttrNo.{AttrNo}
use Rattle.base_core.specs.declared.ids.ClassId.{ClassId}
use Rattle.base_core.specs.declared.ids.ObjId.{ObjId}
use Rattle.base_core.specs.declared.ids.RelNo.{RelNo}
use Rattle.base_core.specs.declared.value.Value.{Value}
use Rattle.class_types.specs.declared.mapped.Relation.{Relation}
use Rattle.class_mapping.specs.Mapped.{IsClass, Mapped, root_of}
use Rattle.class_mapping.specs.Related.{IsRelated}
use Rattle.keeper_core.specs.declared.sent.Sent.{Sent}
use Rattle.keeper_core.specs.Programs.{Run}
use Rattle.keeper_core.specs.Store.{Store}
use Rattle.object_arena.specs.Fit.{IsFit}
use Rattle.object_arena.specs.Graph.{Graph, object_at}
use Rattle.object_arena.specs.Identity.{IsGraph}
use Rattle.load_rows.specs.Loading.{Loading, filled, take_row}
use Rattle.load_rows.specs.Reading.{identity_key}
use Rattle.load_rows.specs.Links.{collection_filled, end_filled}
use Rattle.load_calls.specs.Reading.{World, with_statement}
use Rattle.load_calls.specs.Refreshing.{found_among}
use Rattle.load_ends.specs.Ends.{IsChild}
use Rattle.loading_laws.specs.Strategies.Standing.{Stands}

-- ---- objects

-- the objects are those of an arena, and fit the mapping
pub record IsArena (mapped : Mapped) (all : Graph) : Type 0 where
  pub fit : IsFit mapped all
  pub graph : IsGraph all.objects all.roots

-- the object is the persistent one of a hierarchy under some key
pub record IsFound (graph : Graph) (root : ClassId) (object : ObjId) : Type 0 where
  pub key : List Value
  pub stands : Stands root graph key object

abbrev pub AreFound : Graph → ClassId → List ObjId → Type 0
AreFound graph root objects = AllByRecursion (IsFound graph root) objects

-- if there is one, it is found
abbrev pub IsEnd : Graph → ClassId → Option ObjId → Type 0
IsEnd graph root None = Unit {0}
IsEnd graph root (Some object) = IsFound graph root object

-- ---- steps

-- P is kept by each step that loads make
pub record AreLoadSteps (mapped : Mapped) (IsRow : ClassId → List Value → Type 0) (IsCells : ClassId → List AttrNo → List Value → List Value → Type 0) (P : Loading → Type 0) : Type 0 where
  pub noted : (statement : Sent) (own : Loading) → P own → P (with_statement statement own)
  pub taken : (class : ClassId) (row : List Value) (own : Loading) → IsClass mapped class → IsRow class row → IsArena mapped own.graph → P own → P (take_row mapped class row own).after
  pub filled : (root : ClassId) (object : ObjId) (attrs : List AttrNo) (row : List Value) (own : Loading) → IsFound own.graph root object
      → IsCells (object_at own.graph object).class attrs (identity_key own.graph object) row → IsArena mapped own.graph → P own
      → P (filled object (found_among (length (object_at own.graph object).cells) attrs row) own)
  pub members : (relation : Relation) (place : RelNo) (owner : ObjId) (members : List ObjId) (own : Loading) → IsRelated mapped relation → relation.many ≡ true → IsChild mapped own.graph relation place owner
      → AreFound own.graph (root_of mapped relation.target) members → IsArena mapped own.graph → P own → P (collection_filled owner place members own)
  pub ended : (relation : Relation) (place : RelNo) (owner : ObjId) (end : Option ObjId) (own : Loading) → IsRelated mapped relation → relation.many ≡ false → IsChild mapped own.graph relation place owner
      → IsEnd own.graph (root_of mapped relation.target) end → IsArena mapped own.graph → P own → P (end_filled owner place end own)

-- the objects are an arena's that fit, and P holds of them
pub record Holds (mapped : Mapped) (P : Loading → Type 0) (own : Loading) : Type 0 where
  pub arena : IsArena mapped own.graph
  pub is : P own

-- so over this store
pub record IsOver (mapped : Mapped) (P : Loading → Type 0) (one : Store) (w : World) : Type 0 where
  pub holds : Holds mapped P w.own
  pub store : w.store ≡ one

-- ---- programs

-- I holds after the run, whatever it answers, and Q of what it answers and of the world then
pub record Left {W A : Type 0} (I : W → Type 0) (Q : A → W → Type 0) (run : Run W A) : Type 0 where
  pub after : I run.after
  pub answer : IfOk run.answer (λ a. Q a run.after)

-- where Before holds of the world, the program leaves I and Q
pub record Keeps {W A : Type 0} (Before I : W → Type 0) (Q : A → W → Type 0) (m : W → Run W A) : Type 0 where
  pub left : (w : W) → Before w → Left I Q (m w)

-- nothing is said of the answer
abbrev pub IsAnything : {W A : Type 0} → A → W → Type 0
IsAnything a w = Unit {0}
