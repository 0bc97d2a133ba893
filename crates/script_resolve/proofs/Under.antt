-- What stands under all sources, where all but the keys of the order pass a test.
use Rattle.std.proofs.Common.{◌≡◌, ℕ, Bool, true, ◌&&◌, List, Option, ap, ◌∙◌}
use Rattle.std.specs.List.{list_all}
use Rattle.std.specs.Option.{option_to_list}
use Rattle.expr_types.specs.declared.expr.Expr.{Expr}
use Rattle.expr_types.specs.declared.select.Select.{Select}
use Rattle.script_resolve.specs.Judging.{under_sources}
use Rattle.script_resolve.proofs.Placing.{under_sources_hold}

pub keys_left : (p : Expr → Bool) (s : Select) → list_all p (option_to_list s.filter) ≡ true → list_all p s.groups ≡ true → list_all p (option_to_list s.having) ≡ true → list_all (λ item. p item.0) s.items ≡ true
    → list_all p (under_sources s) ≡ list_all (λ key. p key.0) s.order
keys_left p s filter groups having items =
    let keys : Bool = list_all (λ (key : Expr × Bool). p key.0) s.order in
    let said : Bool = list_all (λ (item : Expr × Option (List ℕ)). p item.0) s.items in
    let grouped : Bool = list_all p (option_to_list s.having) in
    under_sources_hold p s
    ∙ ap (λ b. b && list_all p s.groups && grouped && said && keys) filter
    ∙ ap (λ b. b && grouped && said && keys) groups
    ∙ ap (λ b. b && said && keys) having
    ∙ ap (λ b. b && keys) items
