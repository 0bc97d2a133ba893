-- What the taking of rows leaves, and the filling of links with what they give.
use Rattle.std.proofs.Common.{List, [], ◌∷◌, ◌++◌}
use Rattle.std.specs.List.{AllByRecursion}
use Rattle.base_core.proofs.Lists.{every_append}
use Rattle.base_core.specs.declared.ids.AttrNo.{AttrNo}
use Rattle.base_core.specs.declared.ids.ClassId.{ClassId}
use Rattle.base_core.specs.declared.ids.ObjId.{ObjId}
use Rattle.base_core.specs.declared.value.Value.{Value}
use Rattle.class_mapping.specs.Mapped.{IsClass, Mapped, root_of}
use Rattle.keeper_core.specs.Programs.{each, give}
use Rattle.object_arena.specs.Graph.{Graph}
use Rattle.load_rows.specs.Loading.{Loading, take_row}
use Rattle.load_calls.specs.Collections.{take_next, take_rows}
use Rattle.load_steps.specs.Steps.{AreFound, AreLoadSteps, Holds, IsFound, Keeps}
use Rattle.load_steps.proofs.Keeping.{keeps_at, keeps_each, keeps_from, keeps_give, keeps_less, keeps_then}
use Rattle.load_steps.proofs.Lasting.{AreOfMapping, Lasts, all_found_since, row_step, steps_with, taken_holds}

module _ {mapped : Mapped} {IsRow : ClassId → List Value → Type 0} {IsCells : ClassId → List AttrNo → List Value → List Value → Type 0} (of : AreOfMapping mapped IsRow IsCells) where
  -- a row gives an object of its hierarchy
  pub row_keeps : {P : Loading → Type 0} → AreLoadSteps mapped IsRow IsCells P → (class : ClassId) (row : List Value) → IsClass mapped class → IsRow class row
      → Keeps (Holds mapped P) (Holds mapped P) (λ object own. IsFound own.graph (root_of mapped class) object) (take_row mapped class row)
  row_keeps steps class row declared is = keeps_at (take_row mapped class row) (λ own h. record {
    after = taken_holds of steps class row own declared is h;
    answer = (row_step mapped of.has class row own declared (of.rows class row is) h.arena).answer;
  })

  -- beside what lasts
  pub row_keeps_with : {P : Loading → Type 0} (Q : Graph → Type 0) → Lasts Q → AreLoadSteps mapped IsRow IsCells P → (class : ClassId) (row : List Value) → IsClass mapped class → IsRow class row
      → Keeps (λ own. Holds mapped P own × Q own.graph) (λ own. Holds mapped P own × Q own.graph) (λ object own. IsFound own.graph (root_of mapped class) object) (take_row mapped class row)
  row_keeps_with {P = P} Q lasts steps class row declared is =
      keeps_less (take_row mapped class row) (keeps_from (take_row mapped class row) (row_keeps (steps_with of Q lasts steps) class row declared is) (λ own h. record { arena = h.0.arena; is = (h.0.is, h.1) })) (λ own h. (record { arena = h.arena; is = h.is.0 }, h.is.1))
      (λ object own h found. found)

  -- rows are taken one by one, and of the object of each something is made
  module _ {P : Loading → Type 0} (steps : AreLoadSteps mapped IsRow IsCells P) (class : ClassId) (declared : IsClass mapped class) where
    next_keeps : (row : List Value) (objects : List ObjId) → IsRow class row
        → Keeps (λ own. Holds mapped P own × AreFound own.graph (root_of mapped class) objects) (Holds mapped P) (λ found own. AreFound own.graph (root_of mapped class) found) (take_next mapped class row objects)
    next_keeps row objects is =
        let root : ClassId = root_of mapped class in
        keeps_then (take_row mapped class row) (λ object. give (objects ++ object ∷ [])) (row_keeps_with (λ graph. AreFound graph root objects) (λ old new since found. all_found_since root objects old new since found) steps class row declared is)
        (λ own h. h.0) (λ object. keeps_from (give (objects ++ object ∷ [])) (keeps_give (objects ++ object ∷ [])) (λ own h. (h.0.0, every_append (IsFound own.graph root) objects (object ∷ []) h.0.1 (h.1, tt))))

    -- the objects of rows are found
    pub rows_keep : (rows : List (List Value)) → AllByRecursion (IsRow class) rows → Keeps (Holds mapped P) (Holds mapped P) (λ objects own. AreFound own.graph (root_of mapped class) objects) (take_rows mapped class rows)
    unfolding take_rows
    rows_keep rows are = keeps_from (each (take_next mapped class) [] rows) (keeps_each (IsRow class) (take_next mapped class) [] rows next_keeps are) (λ own h. (h, tt))
