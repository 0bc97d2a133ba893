use Rattle.std.proofs.Common.{◌≡◌, ℕ, Bool, true, ◌&&◌, List, Option, IfOk, sym, ◌∙◌, subst}
use Rattle.std.proofs.lemmas.Bool.{and_from}
use Rattle.std.specs.List.{list_all}
use Rattle.schema_core.specs.Catalog.{Catalog}
use Rattle.expr_types.specs.declared.expr.Expr.{Expr}
use Rattle.sql_semantics.specs.Kinds.{Scope}
use Rattle.plain_statements.specs.Tested as test
use Rattle.plain_statements.proofs.select.are_placed.Goals as goal

pub returns : goal.returns
returns c =
    let schema : Catalog = c.args.schema.now in
    let ts : Scope = c.args.around.now.tables.items in
    let ns : List (List ℕ) = c.args.around.now.names.items in
    let filtered : Bool = test.if_set (test.is_filter schema ts ns) c.args.select.now.filter in
    let having : Bool = test.if_set (test.is_condition schema ts ns) c.args.select.now.having in
    let items : List (Expr × Option (List ℕ)) → Bool = list_all (λ (item : Expr × Option (List ℕ)). test.stands schema ts ns item.0) in
    let groups : List Expr → Bool = list_all (test.is_group schema ts ns) in
    let keys : List (Expr × Bool) → Bool = list_all (λ (key : Expr × Bool). test.stands schema ts ns key.0) in
    let filter_is : filtered ≡ true = sym c.in_ok-is_filtered.ensures ∙ c.if-not-branch.false in
    let having_is : having ≡ true = sym c.in_ok-is_having.ensures ∙ c.if-not-branch-2.false in
    let items_are : items c.args.select.now.items ≡ true = subst (λ (xs : List (Expr × Option (List ℕ))). items xs ≡ true) c.as_slice.ensures (sym c.in_ok-pairs_stand.ensures ∙ c.if-not-branch-3.false) in
    let groups_are : groups c.args.select.now.groups ≡ true = subst (λ (xs : List Expr). groups xs ≡ true) c.as_slice-else-not-branch-3.ensures (sym c.in_ok-are_groups.ensures ∙ c.if-not-branch-4.false) in
    let held : (filtered && having && items c.args.select.now.items && groups c.args.select.now.groups) ≡ true =
    and_from (filtered && having && items c.args.select.now.items) (groups c.args.select.now.groups)
    (and_from (filtered && having) (items c.args.select.now.items) (and_from filtered having filter_is having_is) items_are)
    groups_are in
    let told : IfOk c.pairs_stand-2.result (λ placed. placed ≡ keys c.args.select.now.order) =
    subst (λ (xs : List (Expr × Bool)). IfOk c.pairs_stand-2.result (λ placed. placed ≡ keys xs)) c.as_slice-2.ensures c.pairs_stand-2.ensures in
    subst (λ (b : Bool). IfOk c.pairs_stand-2.result (λ placed. placed ≡ (b && keys c.args.select.now.order))) (sym held) told
