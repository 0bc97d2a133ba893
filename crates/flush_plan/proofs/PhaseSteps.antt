-- The parts of a plan, one behind another, and what is made of the order of deleted rows.
use Rattle.std.proofs.Common.{◌≡◌, ◌<◌, ℕ, List, ◌++◌, length, map, Ok, Err, sym, ap, ◌∙◌, subst}
use Rattle.std.specs.List.{All}
use Rattle.base_core.specs.declared.refusal.Refusal.TheVariants.{CircularDependencyError}
use Rattle.base_core.specs.declared.refusal.RowName.{RowName}
use Rattle.schema_core.specs.declared.changes.Planned.{Planned}
use Rattle.schema_core.specs.declared.changes.RowChanges.{RowChanges}
use Rattle.schema_core.specs.Catalog.{Catalog}
use Rattle.row_order.specs.declared.places.Ordered.{Ordered}
use Rattle.flush_order.specs.declared.refers.ReadyGone.{ReadyGone}
use Rattle.flush_order.specs.Orders.{delete_order, gone_at, gone_rows}
use Rattle.flush_order.specs.Ready.{AreReadyGone}
use Rattle.row_order.specs.Told.{rows_of, order_result}
use Rattle.flush_order.proofs.GoneLemmas.{gone_size}
use Rattle.flush_plan.specs.Planning.{statements, unless_gone_cycle}

pub four_parts : (a b c d p u l r p1 p2 p3 : List Planned) → p ≡ a → u ≡ b → l ≡ c → r ≡ d → p1 ≡ p ++ u → p2 ≡ p1 ++ l → p3 ≡ p2 ++ r → p3 ≡ a ++ b ++ c ++ d
four_parts a b c d p u l r p1 p2 p3 first second third fourth one two three =
    three
    ∙ ap (λ xs. xs ++ r) (two ∙ ap (λ xs. xs ++ l) (one ∙ ap (λ xs. xs ++ u) first ∙ ap (λ xs. a ++ xs) second) ∙ ap (λ xs. (a ++ b) ++ xs) third)
    ∙ ap (λ xs. ((a ++ b) ++ c) ++ xs) fourth

-- the rows of an order or a cycle are places of the rows that were made ready
pub rows_within : (schema : Catalog) (changes : RowChanges) (ready slice : List ReadyGone) (ordered : Ordered) (rows list : List ℕ) → AreReadyGone schema changes ready → slice ≡ ready → rows_of ordered ≡ rows → list ≡ rows
    → All (λ row. row < length (gone_rows schema changes)) (rows_of ordered) → All (λ row. row < length slice) list
rows_within schema changes ready slice ordered rows list are lent of same within =
    subst (All (λ row. row < length slice)) (of ∙ sym same) (subst (λ n. All (λ row. row < n) (rows_of ordered)) (sym (ap length lent ∙ gone_size schema changes ready are)) within)

pub planned : (schema : Catalog) (changes : RowChanges) (new_order rows list : List ℕ) (ordered : Ordered) (plan : List Planned) → order_result ordered ≡ delete_order schema changes (gone_rows schema changes) → order_result ordered ≡ Ok rows → list ≡ rows
    → plan ≡ statements schema changes new_order list → unless_gone_cycle schema changes new_order (delete_order schema changes (gone_rows schema changes)) ≡ Ok plan
planned schema changes new_order rows list ordered plan is of same made =
    ap (unless_gone_cycle schema changes new_order) (sym is ∙ of ∙ ap Ok (sym same)) ∙ ap Ok (sym made)

pub cycled : (schema : Catalog) (changes : RowChanges) (new_order rows list : List ℕ) (ordered : Ordered) (names : List RowName) → order_result ordered ≡ delete_order schema changes (gone_rows schema changes) → order_result ordered ≡ Err rows → list ≡ rows
    → names ≡ map (λ row. (gone_at (gone_rows schema changes) row).name) list → unless_gone_cycle schema changes new_order (delete_order schema changes (gone_rows schema changes)) ≡ Err (CircularDependencyError names)
cycled schema changes new_order rows list ordered names is of same made =
    ap (unless_gone_cycle schema changes new_order) (sym is ∙ of ∙ ap Err (sym same)) ∙ ap (λ names. Err (CircularDependencyError names)) (sym made)
