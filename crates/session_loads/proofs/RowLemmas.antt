-- The reading of an object's whole row, put together of its parts.
use Rattle.std.proofs.Common.{◌≡◌, ℕ, zero, suc, ◌+◌, ◌<◌, List, [], ◌∷◌, length, map, Result, Ok, Err, IfErr, refl, sym, ap, ◌∙◌, subst, arith}
use Rattle.std.specs.List.{All, AllByRecursion, range_with_len}
use Rattle.std.proofs.lemmas.List.Elements.{All-from_recursion}
use Rattle.base_core.specs.declared.ids.AttrNo.{AttrNo}
use Rattle.base_core.specs.declared.ids.ClassId.{ClassId}
use Rattle.base_core.specs.declared.ids.ObjId.{ObjId}
use Rattle.base_core.specs.declared.value.Value.{Value}
use Rattle.base_core.specs.declared.refusal.Refusal.{Refusal}
use Rattle.base_core.specs.declared.refusal.Refusal.TheVariants.{Memory, ObjectDeletedError}
use Rattle.class_mapping.specs.Mapped.{IsAttribute, Mapped, attributes_of}
use Rattle.keeper_core.specs.Alone.{IsQuiet}
use Rattle.keeper_core.specs.Store.{Store}
use Rattle.keeper_core.specs.Beside.{moment_beside, on_own}
use Rattle.keeper_core.specs.Moment.{Moment, Runs, parts}
use Rattle.keeper_core.specs.Programs.{Run}
use Rattle.keeper_core.specs.declared.notes.Note.{Note}
use Rattle.keeper_core.proofs.Lifting.{chosen, quietly}
use Rattle.keeper_core.proofs.Sequence.{done, refused, then_err, then_ok}
use Rattle.object_arena.specs.Graph.{Graph, IsObject, object_at}
use Rattle.load_rows.specs.Loading.{Loading, loading}
use Rattle.load_calls.specs.Refreshing.{CanRefuseCells, Scene, read_cells, take_cells, with_cells_select}
use Rattle.collection_selects.specs.Rows.{AreCellsOf}
use Rattle.session_parts.proofs.ObjectLemmas.{class_still}
use Rattle.session_scopes.specs.SessionState.{SameObjects, SessionState}
use Rattle.session_loads.specs.Rows.{AreRowsOf, IsShownGone, all_attrs, attr_at, attrs_of, fill_row, if_there, read_row}

abbrev Rows : Type 0
Rows = List (List Value)

-- ---- the attributes

in_range : (from n count : ℕ) → from + n ≡ count → AllByRecursion (λ (attr : AttrNo). attr.0 < count) (map attr_at (range_with_len from n))
in_range from zero count is = tt
in_range from (suc n) count is = (omega (arith, is), in_range (from + 1) n count (omega (arith, is)))

-- each is an attribute of the class
pub all_attributes : (mapped : Mapped) (class : ClassId) → All (IsAttribute mapped class) (all_attrs mapped class)
all_attributes mapped class = All-from_recursion (IsAttribute mapped class) (all_attrs mapped class) (in_range 0 (length (attributes_of mapped class)) (length (attributes_of mapped class)) (omega arith))

-- ---- the row is read

if_given : {K : Type 0} (moment : K → Moment Store) (object : ObjId) (rows : Rows) {own : Loading} {keeper : K} → 0 < length rows → Runs (moment_beside moment) (λ (rows : Rows). rows) (if_there object rows) (own, keeper) (Ok rows) (own, keeper)
if_given moment object [] some = absurd (omega (arith, some))
if_given moment object (row ∷ rows) some = done refl

-- there is one
pub row_read : {K : Type 0} (moment : K → Moment Store) (mapped : Mapped) (object : ObjId) (attrs : List AttrNo) (graph : Graph) (rows : Rows) {before after : List Note} {old new : K} → attrs ≡ attrs_of mapped graph object → 0 < length rows
    → Runs (moment_beside moment) (λ (rows : Rows). rows) (read_cells mapped object attrs) (loading graph before, old) (Ok rows) (loading graph after, new)
    → Runs (moment_beside moment) (λ (rows : Rows). rows) (read_row mapped object) (loading graph before, old) (Ok rows) (loading graph after, new)
unfolding read_row
row_read moment mapped object attrs graph rows {before = before} {after = after} {old = old} {new = new} is some p =
    then_ok (λ rows. if_there object rows)
    (chosen moment (λ own. read_cells mapped object (attrs_of mapped own.graph object))
    (subst (λ (wanted : List AttrNo). Runs (moment_beside moment) (λ (rows : Rows). rows) (read_cells mapped object wanted) (loading graph before, old) (Ok rows) (loading graph after, new)) is p))
    (if_given moment object rows some)

-- there is none
pub row_gone : {K : Type 0} (moment : K → Moment Store) (mapped : Mapped) (object : ObjId) (attrs : List AttrNo) (graph : Graph) (rows : Rows) {before after : List Note} {old new : K} → attrs ≡ attrs_of mapped graph object → rows ≡ []
    → Runs (moment_beside moment) (λ (rows : Rows). rows) (read_cells mapped object attrs) (loading graph before, old) (Ok rows) (loading graph after, new)
    → Runs (moment_beside moment) (λ (rows : Rows). rows) (read_row mapped object) (loading graph before, old) (Err (ObjectDeletedError object)) (loading graph after, new)
unfolding read_row
row_gone moment mapped object attrs graph rows {before = before} {after = after} {old = old} {new = new} is none p =
    then_ok (λ rows. if_there object rows)
    (chosen moment (λ own. read_cells mapped object (attrs_of mapped own.graph object))
    (subst (λ (wanted : List AttrNo). Runs (moment_beside moment) (λ (rows : Rows). rows) (read_cells mapped object wanted) (loading graph before, old) (Ok rows) (loading graph after, new)) is p))
    (subst (λ (rs : Rows). Runs (moment_beside moment) (λ (rows : Rows). rows) (if_there object rs) (loading graph after, new) (Err (ObjectDeletedError object)) (loading graph after, new)) (sym none) (refused refl refl))

-- the select was refused
pub row_refused : {K : Type 0} (moment : K → Moment Store) (mapped : Mapped) (object : ObjId) (attrs : List AttrNo) (graph : Graph) {before after : List Note} {old new : K} {e : Refusal} → attrs ≡ attrs_of mapped graph object
    → Runs (moment_beside moment) (λ (rows : Rows). rows) (read_cells mapped object attrs) (loading graph before, old) (Err e) (loading graph after, new)
    → Runs (moment_beside moment) (λ (rows : Rows). rows) (read_row mapped object) (loading graph before, old) (Err e) (loading graph after, new)
unfolding read_row
row_refused moment mapped object attrs graph {before = before} {after = after} {old = old} {new = new} {e = e} is p =
    then_err {v = λ (rows : Rows). rows} (λ rows. if_there object rows)
    (chosen moment (λ own. read_cells mapped object (attrs_of mapped own.graph object))
    (subst (λ (wanted : List AttrNo). Runs (moment_beside moment) (λ (rows : Rows). rows) (read_cells mapped object wanted) (loading graph before, old) (Err e) (loading graph after, new)) is p))

-- ---- what shows a refusal

-- the select is never refused as for an object that is gone
pub cells_shown : (mapped : Mapped) (object : ObjId) (old new : Scene) (e : Refusal) → CanRefuseCells mapped e → IsShownGone mapped object old new e
cells_shown mapped object old new (ObjectDeletedError deleted) h = absurd h
cells_shown mapped object old new e h = tt

-- no row was given
pub without_whole : {K : Type 0} (moment : K → Moment Store) (mapped : Mapped) (object : ObjId) (attrs : List AttrNo) (graph : Graph) (rows : Rows) {before after : List Note} {old new : K} → attrs ≡ attrs_of mapped graph object
    → loading graph after ≡ with_cells_select mapped object attrs (loading graph before)
    → Runs (moment_beside moment) (λ (rows : Rows). rows) (read_cells mapped object attrs) (loading graph before, old) (Ok rows) (loading graph after, new)
    → IsShownGone mapped object (loading graph before, moment old) (loading graph after, moment new) (ObjectDeletedError object)
unfolding moment_beside
without_whole moment mapped object attrs graph rows {before = before} is noted p = record {
  noted = noted ∙ ap (λ (wanted : List AttrNo). with_cells_select mapped object wanted (loading graph before)) is;
  answered = (parts p).keeps.calm;
}

-- ---- the cells are filled

pub row_filled : {K : Type 0} (moment : K → Moment Store) (mapped : Mapped) (object : ObjId) (attrs : List AttrNo) (rows : Rows) {own now : Loading} {keeper : K} {r : Result (Unit {0}) Refusal} → attrs ≡ attrs_of mapped own.graph object
    → IsQuiet (λ (u : Unit {0}). u) (take_cells object attrs rows own) r now → Runs (moment_beside moment) (λ (u : Unit {0}). u) (fill_row mapped object rows) (own, keeper) r (now, keeper)
unfolding fill_row
row_filled moment mapped object attrs rows {own = own} {now = now} {r = r} is q =
    chosen moment (λ own. on_own (take_cells object (attrs_of mapped own.graph object) rows))
    (quietly moment (take_cells object (attrs_of mapped own.graph object) rows) (subst (λ (wanted : List AttrNo). IsQuiet (λ (u : Unit {0}). u) (take_cells object wanted rows own) r now) is q))

-- where there is a row nothing but want of memory is in the way
memory_alone : (object : ObjId) (attrs : List AttrNo) (rows : Rows) (own now : Loading) (e : Refusal) → 0 < length rows → IsQuiet (λ (u : Unit {0}). u) (take_cells object attrs rows own) (Err e) now → e ≡ Memory
unfolding take_cells
memory_alone object attrs rows own now Memory some q = refl
memory_alone object attrs [] own now e some q = absurd (omega (arith, some))
memory_alone object attrs (row ∷ rows) own now e some q =
    let same : Ok tt ≡ Err e = ap (λ (run : Run Loading (Unit {0})). run.answer) q.0 in
    absurd cc

pub filled_unless : (object : ObjId) (attrs : List AttrNo) (rows : Rows) (own now : Loading) (r : Result (Unit {0}) Refusal) → 0 < length rows → IsQuiet (λ (u : Unit {0}). u) (take_cells object attrs rows own) r now → IfErr r (λ e. e ≡ Memory)
filled_unless object attrs rows own now (Ok u) some q = tt
filled_unless object attrs rows own now (Err e) some q = memory_alone object attrs rows own now e some q

-- ---- rows of an object that stays of its class

pub rows_still : (old new : SessionState) (object : ObjId) (rows : Rows) → SameObjects old new → IsObject old.graph object → AreRowsOf old.mapping old.graph object rows → AreRowsOf new.mapping new.graph object rows
rows_still old new object rows same made are = record {
  some = are.some;
  cells = subst (λ (m : Mapped). AllByRecursion (AreCellsOf m (object_at new.graph object).class (attrs_of m new.graph object)) rows) (sym same.mapping)
      (subst (λ (k : ClassId). AllByRecursion (AreCellsOf old.mapping k (all_attrs old.mapping k)) rows) (sym (class_still old.graph new.graph object same.classes made)) are.cells);
}

-- ---- what was found

pub nonempty : (rows : Rows) → (rows ≡ [] → ⊥) → 0 < length rows
nonempty [] some = absurd (some refl)
nonempty (row ∷ rows) some = omega arith

pub rows_found : (mapped : Mapped) (graph : Graph) (object : ObjId) (attrs : List AttrNo) (rows : Rows) → attrs ≡ attrs_of mapped graph object → 0 < length rows → AllByRecursion (AreCellsOf mapped (object_at graph object).class attrs) rows → AreRowsOf mapped graph object rows
rows_found mapped graph object attrs rows is some cells = record {
  some = some;
  cells = subst (λ (wanted : List AttrNo). AllByRecursion (AreCellsOf mapped (object_at graph object).class wanted) rows) is cells;
}
