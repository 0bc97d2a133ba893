-- Why loads are refused.
use Rattle.std.proofs.Common.{◌≡◌, ℕ, ◌+◌, ◌≤◌, Bool, true, false, nat_lt, List, length, Option, None, Some, Result, Ok, Err, IfErr, if◌then◌else◌, refl, ap, subst}
use Rattle.std.proofs.lemmas.Bool.{ltb-false}
use Rattle.base_core.specs.declared.ids.ClassId.{ClassId}
use Rattle.base_core.specs.declared.ids.ObjId.{ObjId}
use Rattle.base_core.specs.declared.value.Value.{Value}
use Rattle.base_core.specs.declared.refusal.Refusal.{Refusal}
use Rattle.base_core.specs.declared.refusal.Refusal.TheVariants.{DataError, InvalidRequestError, KeeperFault, LimitReached, Memory, ObjectDeletedError, OperationalError}
use Rattle.base_core.specs.declared.refusal.LimitKind.TheVariants.{Objects}
use Rattle.base_core.specs.declared.refusal.RequestKind.TheVariants.{NoSuchIdentity}
use Rattle.expr_types.specs.declared.select.Select.{Select}
use Rattle.sql_semantics.specs.SelectRefusals.{calculates}
use Rattle.class_mapping.specs.Mapped.{Mapped, root_of}
use Rattle.object_arena.specs.Graph.{Graph, object_limit}
use Rattle.object_arena.specs.Identity.{find_identity}
use Rattle.keeper_core.specs.Alone.{IsQuiet}
use Rattle.keeper_core.specs.Programs.{Run, quiet}
use Rattle.keeper_core.specs.Keeping.{RefusesSelect}
use Rattle.load_filling.specs.Loaded.{load, with_loaded}
use Rattle.load_filling.specs.Rows.{class_named, found_or_loaded, loaded_as, row_key, row_object}
use Rattle.load_rows.specs.Loading.{Loading, take_row, taken_as}
use Rattle.load_rows.specs.Reading.{IsRowOf}
use Rattle.load_calls.specs.Refreshing.{CanRefuse, CanRefuseCells}
use Rattle.load_calls.specs.Refusals.{CanRefuseLoad, CanRefuseQuery, CanRefuseRow, CanRefuseRows, CanRefuseSelect}

-- ---- rows

-- a row of a class that is refused, and the objects that there are then
abbrev Row : Type 0
Row = List Value

same_refusal : {A : Type 0} (mapped : Mapped) (graph : Graph) (d e : Refusal) → CanRefuseRow mapped graph d → (let one : Result A Refusal = Err d in one ≡ Err e) → CanRefuseRow mapped graph e
same_refusal mapped graph d e can is = let same : d ≡ e = cc in subst (CanRefuseRow mapped graph) same can

full_by : (n : ℕ) → nat_lt n object_limit ≡ false → object_limit ≤ n
full_by n is = ltb-false n object_limit is

load_refuses : (mapped : Mapped) (class : ClassId) (key : Row) (graph : Graph) (e : Refusal) → load mapped class key graph ≡ Err e → CanRefuseRow mapped graph e
unfolding load
load_refuses mapped class key graph e is = by (nat_lt (length graph.objects) object_limit) refl is
  where
    by : (b : Bool) → nat_lt (length graph.objects) object_limit ≡ b
        → (let answer : Result (ObjId × Graph) Refusal = if b then Ok (record { 0 = length graph.objects + 1 }, with_loaded mapped class key graph) else Err (LimitReached Objects) in answer ≡ Err e) → CanRefuseRow mapped graph e
    by true full h = absurd cc
    by false full h = same_refusal mapped graph (LimitReached Objects) e (full_by (length graph.objects) full) h

named_refuses : (mapped : Mapped) (class : ClassId) (values : Row) (key : Row) (graph : Graph) (named : Option ClassId) (e : Refusal) → IsRowOf mapped class values → class_named mapped class values ≡ named → loaded_as mapped key graph named ≡ Err e
    → CanRefuseRow mapped graph e
named_refuses mapped class values key graph None e row none is = same_refusal mapped graph (InvalidRequestError NoSuchIdentity) e (class, (values, row, none)) is
named_refuses mapped class values key graph (Some named) e row none is = load_refuses mapped named key graph e is

found_refuses : (mapped : Mapped) (class : ClassId) (values : Row) (graph : Graph) (found : Option ObjId) (e : Refusal) → IsRowOf mapped class values → found_or_loaded mapped class values graph found ≡ Err e → CanRefuseRow mapped graph e
found_refuses mapped class values graph (Some object) e row is = absurd cc
found_refuses mapped class values graph None e row is = named_refuses mapped class values (row_key mapped class values) graph (class_named mapped class values) e row refl is

object_refuses : (mapped : Mapped) (class : ClassId) (values : Row) (graph : Graph) (e : Refusal) → IsRowOf mapped class values → row_object mapped class values graph ≡ Err e → CanRefuseRow mapped graph e
unfolding row_object
object_refuses mapped class values graph e row is = found_refuses mapped class values graph (find_identity graph (root_of mapped class) (row_key mapped class values)) e row is

-- a refused row leaves the objects
taken_refuses : (mapped : Mapped) (class : ClassId) (values : Row) (own now : Loading) (r : Result (ObjId × Graph) Refusal) (e : Refusal) → IsRowOf mapped class values → row_object mapped class values own.graph ≡ r
    → taken_as mapped class values own r ≡ quiet (Err e) now → CanRefuseRow mapped now.graph e
taken_refuses mapped class values own now (Ok found) e row h is = let never : Ok found.0 ≡ Err e = ap (λ (run : Run Loading ObjId). run.answer) is in absurd cc
taken_refuses mapped class values own now (Err d) e row h is =
    subst (λ (graph : Graph). CanRefuseRow mapped graph e) (ap (λ (run : Run Loading ObjId). run.after.graph) is)
    (same_refusal {A = ObjId} mapped own.graph d e (object_refuses mapped class values own.graph d row h) (ap (λ (run : Run Loading ObjId). run.answer) is))

-- what refuses a row
pub row_refuses : (mapped : Mapped) (class : ClassId) (values : Row) (own now : Loading) (e : Refusal) → IsRowOf mapped class values → IsQuiet {X = ObjId} (λ (o : ObjId). o) (take_row mapped class values own) (Err e) now → CanRefuseRow mapped now.graph e
unfolding take_row
row_refuses mapped class values own now Memory row h = tt
row_refuses mapped class values own now e row h = taken_refuses mapped class values own now (row_object mapped class values own.graph) e row refl h.0

-- ---- loads

pub of_row : (mapped : Mapped) (graph : Graph) (e : Refusal) → CanRefuseRow mapped graph e → CanRefuseRows mapped graph e
of_row mapped graph (OperationalError table) h = absurd h
of_row mapped graph KeeperFault h = absurd h
of_row mapped graph e h = h

pub of_cells : (mapped : Mapped) (graph : Graph) (e : Refusal) → CanRefuseCells mapped e → CanRefuseRows mapped graph e
of_cells mapped graph (OperationalError table) h = h
of_cells mapped graph KeeperFault h = tt
of_cells mapped graph Memory h = tt
of_cells mapped graph e h = absurd h

pub never_both : (b : Bool) → b ≡ false → b ≡ true → ⊥
never_both b p q = cc

-- a select that calculates nothing
pub select_refuses : (mapped : Mapped) (s : Select) (e : Refusal) → calculates s ≡ false → RefusesSelect mapped.schema s e → CanRefuseCells mapped e
select_refuses mapped s (OperationalError table) none h = h.1
select_refuses mapped s (DataError op a b) none h = absurd (never_both (calculates s) none h.0)
select_refuses mapped s KeeperFault none h = tt
select_refuses mapped s Memory none h = tt
select_refuses mapped s e none h = absurd h.0

query_refuses : (mapped : Mapped) (s : Select) (e : Refusal) → RefusesSelect mapped.schema s e → CanRefuseSelect mapped s e
query_refuses mapped s (OperationalError table) h = h.1
query_refuses mapped s (DataError op a b) h = h.0
query_refuses mapped s KeeperFault h = tt
query_refuses mapped s Memory h = tt
query_refuses mapped s e h = absurd h.0

pub rows_of_query : (mapped : Mapped) (s : Select) (graph : Graph) (e : Refusal) → CanRefuseRows mapped graph e → CanRefuseQuery mapped graph s e
rows_of_query mapped s graph (DataError op a b) h = absurd h
rows_of_query mapped s graph e h = h

pub select_of_query : (mapped : Mapped) (s : Select) (graph : Graph) (e : Refusal) → CanRefuseSelect mapped s e → CanRefuseQuery mapped graph s e
select_of_query mapped s graph (DataError op a b) h = h
select_of_query mapped s graph (OperationalError table) h = h
select_of_query mapped s graph KeeperFault h = tt
select_of_query mapped s graph Memory h = tt
select_of_query mapped s graph e h = absurd h

pub of_rows : (mapped : Mapped) (object : ObjId) (graph : Graph) (e : Refusal) → CanRefuseRows mapped graph e → CanRefuseLoad mapped graph object e
of_rows mapped object graph (ObjectDeletedError deleted) h = absurd h
of_rows mapped object graph e h = h

pub of_refresh : (mapped : Mapped) (object : ObjId) (graph : Graph) (e : Refusal) → CanRefuse mapped object e → CanRefuseLoad mapped graph object e
of_refresh mapped object graph (ObjectDeletedError deleted) h = h
of_refresh mapped object graph (OperationalError table) h = h
of_refresh mapped object graph KeeperFault h = tt
of_refresh mapped object graph Memory h = tt
of_refresh mapped object graph e h = absurd h

-- whatever is answered

pub refused_rows : {A : Type 0} (mapped : Mapped) (graph : Graph) (r : Result A Refusal) → IfErr r (CanRefuseRow mapped graph) → IfErr r (CanRefuseRows mapped graph)
refused_rows mapped graph (Ok x) h = tt
refused_rows mapped graph (Err e) h = of_row mapped graph e h

pub cells_refused : {A : Type 0} (mapped : Mapped) (s : Select) (r : Result A Refusal) → calculates s ≡ false → IfErr r (RefusesSelect mapped.schema s) → IfErr r (CanRefuseCells mapped)
cells_refused mapped s (Ok x) none h = tt
cells_refused mapped s (Err e) none h = select_refuses mapped s e none h

pub select_refused : {A : Type 0} (mapped : Mapped) (s : Select) (r : Result A Refusal) → IfErr r (RefusesSelect mapped.schema s) → IfErr r (CanRefuseSelect mapped s)
select_refused mapped s (Ok x) h = tt
select_refused mapped s (Err e) h = query_refuses mapped s e h

pub refused_rows_of_query : {A : Type 0} (mapped : Mapped) (s : Select) (graph : Graph) (r : Result A Refusal) → IfErr r (CanRefuseRow mapped graph) → IfErr r (CanRefuseQuery mapped graph s)
refused_rows_of_query mapped s graph (Ok x) h = tt
refused_rows_of_query mapped s graph (Err e) h = rows_of_query mapped s graph e (of_row mapped graph e h)

pub refused_load : {A : Type 0} (mapped : Mapped) (object : ObjId) (graph : Graph) (r : Result A Refusal) → IfErr r (CanRefuseRows mapped graph) → IfErr r (CanRefuseLoad mapped graph object)
refused_load mapped object graph (Ok x) h = tt
refused_load mapped object graph (Err e) h = of_rows mapped object graph e h
