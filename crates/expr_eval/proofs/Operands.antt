-- What is told of an expression by its meaning; the first operand of a function.
use Rattle.std.proofs.Common.{◌≡◌, List, [], ◌∷◌, map, Some, None, Result, Ok, slice_get, refl, ap, sym, subst, ◌∙◌}
use Rattle.base_core.specs.declared.value.Value.{Value}
use Rattle.base_core.specs.declared.refusal.Refusal.{Refusal}
use Rattle.expr_types.specs.declared.expr.Expr.{Expr}
use Rattle.base_core.specs.Answers.{Gives}
use Rattle.sql_semantics.specs.Eval.{Place, Meaning, group_values, over, meaning_of}

pub gathered_some : (operands : List Expr) (m : Expr) (p : Place) → slice_get operands 0 ≡ Some m → group_values (map meaning_of operands) p ≡ over p.group p (meaning_of m)
gathered_some [] m p e = absurd (cc)
gathered_some (x ∷ xs) m p e = let same : x ≡ m = cc in ap (λ y. over p.group p (meaning_of y)) same

pub gathered_none : (operands : List Expr) (p : Place) → slice_get operands 0 ≡ None → group_values (map meaning_of operands) p ≡ Ok None
gathered_none [] p e = refl
gathered_none (x ∷ xs) p e = absurd (cc)

-- what is told of an expression's meaning is told of the expression
pub told_as : (e f : Expr) (m : Meaning) (p : Place) (result : Result Value Refusal) → e ≡ f → meaning_of f ≡ m → Gives (λ x. x) result (m p) → Gives (λ x. x) result (meaning_of e p)
told_as e f m p result is means h = subst (λ t. Gives (λ x. x) result t) (sym (ap (λ d. meaning_of d p) is ∙ ap (λ (n : Meaning). n p) means)) h
