-- Programs that answer, taken apart: what their parts answer and leave.
use Rattle.std.proofs.Common.{◌≡◌, List, [], ◌∷◌, ◌++◌, length, Result, Ok, Err, refl, sym, ap, subst, ◌∙◌, append_assoc, append-nil}
use Rattle.base_core.specs.declared.ids.ClassId.{ClassId}
use Rattle.base_core.specs.declared.ids.ObjId.{ObjId}
use Rattle.base_core.specs.declared.refusal.Refusal.{Refusal}
use Rattle.base_core.specs.declared.value.Value.{Value}
use Rattle.schema_core.specs.Catalog.{Catalog}
use Rattle.expr_types.specs.declared.select.Select.{Select}
use Rattle.sql_semantics.specs.Created.{bare}
use Rattle.sql_semantics.specs.Rows.{answer}
use Rattle.class_mapping.specs.Mapped.{Mapped, root_of}
use Rattle.class_mapping.specs.Paired.{HasPairs}
use Rattle.keeper_core.specs.Programs.{Event, Run, ◌>>=◌, change, continue_from, each, give}
use Rattle.keeper_core.specs.Beside.{Beside, by_own, changes, on_own, on_store}
use Rattle.keeper_core.specs.Calls.{query}
use Rattle.object_arena.specs.Graph.{Graph, object_at}
use Rattle.load_filling.specs.Filled.{Found, with_filled}
use Rattle.load_filling.specs.Rows.{row_key, row_object}
use Rattle.load_rows.specs.Loading.{Loading, found_in_row, take_row, taken_as, filled}
use Rattle.load_calls.specs.Reading.{World, read}
use Rattle.load_calls.specs.Collections.{take_next, take_rows}
use Rattle.loading_laws.specs.Strategies.Filled.{Goes}
use Rattle.loading_laws.specs.Strategies.Standing.{Keeps, Stands}
use Rattle.loading_laws.proofs.Strategies.Standing.{IsTaken, filled_taken, keeps_same, keeps_then, row_object_taken}

-- ---- programs

-- the two parts of a program
pub record Parted {W A B : Type 0} (m : W → Run W A) (next : A → W → Run W B) (w : W) (b : B) (v : W) : Type 0 where
  pub value : A
  pub between : W
  pub first : Goes m w value between
  pub second : Goes (next value) between b v

parted_by : {W A B : Type 0} (m : W → Run W A) (next : A → W → Run W B) (w : W) (b : B) (v u : W) (events : List Event) (r : Result A Refusal) → (m w).after ≡ u → (m w).answer ≡ r → (continue_from events u r next).answer ≡ Ok b
    → (continue_from events u r next).after ≡ v → Parted m next w b v
parted_by m next w b v u events (Ok a) after answer p q = record { value = a; between = u; first = record { answer = answer; leaves = after }; second = record { answer = p; leaves = q } }
parted_by m next w b v u events (Err e) after answer p q = absurd cc

pub parted : {W A B : Type 0} (m : W → Run W A) (next : A → W → Run W B) (w : W) (b : B) (v : W) → Goes (m >>= next) w b v → Parted m next w b v
unfolding ◌>>=◌
parted m next w b v g = parted_by m next w b v (m w).after (m w).events (m w).answer refl refl g.answer g.leaves

pub same_answer : {A : Type 0} (a b : A) → ◌≡◌ {A = Result A Refusal} (Ok a) (Ok b) → a ≡ b
same_answer a b e = cc

pub given : {W A : Type 0} (a b : A) (w v : W) → Goes (give a) w b v → (a ≡ b) × (w ≡ v)
unfolding give
given a b w v g = (same_answer a b g.answer, g.leaves)

pub by_own_goes : {S A : Type 0} (choose : S → Beside S → Run (Beside S) A) (w : Beside S) (a : A) (v : Beside S) → Goes (by_own choose) w a v → Goes (choose w.own) w a v
unfolding by_own
by_own_goes choose w a v g = record { answer = g.answer; leaves = g.leaves }

pub changed_to : {S : Type 0} (f : S → S) (w : Beside S) (u : Unit {0}) (v : Beside S) → Goes (changes f) w u v → record { own = f w.own; store = w.store } ≡ v
unfolding changes
changed_to f w u v g = g.leaves

pub change_to : {S : Type 0} (f : S → S) (own : S) (u : Unit {0}) (now : S) → Goes (change f) own u now → f own ≡ now
unfolding change
change_to f own u now g = g.leaves

-- a program of what stands beside the store leaves the store
pub record IsOwn {S A : Type 0} (m : S → Run S A) (w : Beside S) (a : A) (v : Beside S) : Type 0 where
  pub goes : Goes m w.own a v.own
  pub store : v.store ≡ w.store

pub on_own_goes : {S A : Type 0} (m : S → Run S A) (w : Beside S) (a : A) (v : Beside S) → Goes (on_own m) w a v → IsOwn m w a v
unfolding on_own
on_own_goes m w a v g = record { goes = record { answer = g.answer; leaves = ap (λ (u : Beside _). u.own) g.leaves }; store = sym (ap (λ (u : Beside _). u.store) g.leaves) }

-- ---- selects

-- a select that is answered: the rows are its answer, and of the world only the notes have changed
pub record IsRead (schema : Catalog) (select : Select) (w : World) (rows : List (List Value)) (v : World) : Type 0 where
  pub answered : answer schema (bare w.store.tables) select ≡ Ok rows
  pub graph : v.own.graph ≡ w.own.graph
  pub store : v.store ≡ w.store

pub read_goes : (schema : Catalog) (select : Select) (w : World) (rows : List (List Value)) (v : World) → Goes (read schema select) w rows v → IsRead schema select w rows v
unfolding read on_store query
read_goes schema select w rows v g = record { answered = g.answer; graph = sym (ap (λ (u : World). u.own.graph) g.leaves); store = sym (ap (λ (u : World). u.store) g.leaves) }

-- ---- rows that are taken

module _ (mapped : Mapped) (class : ClassId) (has : HasPairs mapped) where
  row_by : (row : List Value) (own now : Loading) (object : ObjId) (r : Result (ObjId × Graph) Refusal) → length own.graph.roots ≡ length own.graph.objects → row_object mapped class row own.graph ≡ r → Goes (λ (start : Loading). taken_as mapped class row start r) own object now
      → IsTaken mapped class row own.graph now.graph object
  unfolding filled
  row_by row own now object (Err e) rooted is g = absurd (let no = g.answer in cc)
  row_by row own now object (Ok found) rooted is g =
      let same : found.0 ≡ object = same_answer found.0 object g.answer in
      let values : Found = found_in_row mapped class row (object_at found.1 found.0).class in
      let taken = filled_taken mapped class row own.graph found.1 found.0 values (row_object_taken mapped class row own.graph has rooted found is) in
      subst (λ (graph : Graph). IsTaken mapped class row own.graph graph object) (ap (λ (one : Loading). one.graph) g.leaves)
      (subst (λ (one : ObjId). IsTaken mapped class row own.graph (with_filled found.1 found.0 values) one) same taken)

  -- the object of a row
  pub row_taken : (row : List Value) (own now : Loading) (object : ObjId) → length own.graph.roots ≡ length own.graph.objects → Goes (take_row mapped class row) own object now → IsTaken mapped class row own.graph now.graph object
  unfolding take_row
  row_taken row own now object rooted g = row_by row own now object (row_object mapped class row own.graph) rooted refl (record { answer = g.answer; leaves = g.leaves })

-- objects stand for rows of a class, one by one
abbrev pub StandFor : Mapped → ClassId → Graph → List (List Value) → List ObjId → Type 0
StandFor mapped class graph [] [] = Unit {0}
StandFor mapped class graph (row ∷ rows) (object ∷ objects) = Stands (root_of mapped class) graph (row_key mapped class row) object × StandFor mapped class graph rows objects
StandFor mapped class graph rows objects = ⊥

pub record AreTaken (mapped : Mapped) (class : ClassId) (rows : List (List Value)) (before : List ObjId) (own : Loading) (objects : List ObjId) (now : Loading) : Type 0 where
  pub new : List ObjId
  pub are : objects ≡ before ++ new
  pub stand : StandFor mapped class now.graph rows new
  pub keeps : Keeps own.graph now.graph
  pub rooted : length now.graph.roots ≡ length now.graph.objects

module _ (mapped : Mapped) (class : ClassId) (has : HasPairs mapped) where
  rows_go : (rows : List (List Value)) (before : List ObjId) (own : Loading) (objects : List ObjId) (now : Loading) → length own.graph.roots ≡ length own.graph.objects → Goes (each (take_next mapped class) before rows) own objects now
      → AreTaken mapped class rows before own objects now
  unfolding each
  rows_go [] before own objects now rooted g =
      let end = given before objects own now g in
      subst (λ (u : Loading). AreTaken mapped class [] before own objects u) end.1
      (record { new = []; are = sym end.0 ∙ sym (append-nil before); stand = tt; keeps = keeps_same own.graph; rooted = rooted })
  rows_go (row ∷ rows) before own objects now rooted g =
      let one = parted (take_next mapped class row before) (λ (t : List ObjId). each (take_next mapped class) t rows) own objects now g in
      let two = parted (take_row mapped class row) (λ (o : ObjId). give (before ++ o ∷ [])) own one.value one.between one.first in
      let put = given (before ++ two.value ∷ []) one.value two.between one.between two.second in
      let here = subst (λ (u : Loading). IsTaken mapped class row own.graph u.graph two.value) put.1 (row_taken mapped class has row own two.between two.value rooted two.first) in
      let rest = rows_go rows one.value one.between objects now here.rooted one.second in
      record {
        new = two.value ∷ rest.new;
        are = rest.are ∙ ap (λ (b : List ObjId). b ++ rest.new) (sym put.0) ∙ append_assoc before (two.value ∷ []) rest.new;
        stand = (rest.keeps.all.stand (root_of mapped class) (row_key mapped class row) two.value here.stands, rest.stand);
        keeps = keeps_then own.graph one.between.graph now.graph here.keeps rest.keeps;
        rooted = rest.rooted;
      }

  -- the objects of rows stand for them, and whoever stood before still does
  pub rows_taken : (rows : List (List Value)) (own : Loading) (objects : List ObjId) (now : Loading) → length own.graph.roots ≡ length own.graph.objects → Goes (take_rows mapped class rows) own objects now → AreTaken mapped class rows [] own objects now
  unfolding take_rows
  rows_taken rows own objects now rooted g = rows_go rows [] own objects now rooted (record { answer = g.answer; leaves = g.leaves })
