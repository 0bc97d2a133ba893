use Rattle.std.proofs.Common.{◌≡◌, ℕ, Bool, true, List, Option, sym, ap, ◌∙◌}
use Rattle.std.specs.List.{list_all}
use Rattle.std.specs.Option.{option_to_list}
use Rattle.expr_types.specs.declared.expr.Expr.{Expr}
use Rattle.sql_semantics.specs.Plain.{names_apart}
use Rattle.script_resolve.proofs.Under.{keys_left}
use Rattle.script_resolve.proofs.apart.parts_apart.Goals as goal

pub returns : goal.returns
returns c =
    let p = λ (e : Expr). names_apart c.args.schema.now e c.args.names.now in
    let filter : list_all p (option_to_list c.args.s.now.filter) ≡ true = sym c.in_ok-apart_if_given.ensures ∙ c.if-not-branch.false in
    let groups : list_all p c.args.s.now.groups ≡ true = sym (c.in_ok-groups_apart.ensures ∙ ap (list_all p) c.as_slice.ensures) ∙ c.if-not-branch-2.false in
    let having : list_all p (option_to_list c.args.s.now.having) ≡ true = sym c.in_ok-apart_if_given-2.ensures ∙ c.if-not-branch-3.false in
    let items : list_all (λ (item : Expr × Option (List ℕ)). p item.0) c.args.s.now.items ≡ true =
    sym (c.in_ok-pairs_apart.ensures ∙ ap (list_all (λ (item : Expr × Option (List ℕ)). p item.0)) c.as_slice-else-not-branch-3.ensures) ∙ c.if-not-branch-4.false in
    (c.in_ok-pairs_apart-2.ensures ∙ ap (list_all (λ (key : Expr × Bool). p key.0)) c.as_slice-2.ensures) ∙ sym (keys_left p c.args.s.now filter groups having items)
