-- Lists behind lists.
use Rattle.std.proofs.Common.{◌≡◌, ℕ, ◌+◌, ◌<◌, ◌≤◌, Bool, List, [], ◌∷◌, ◌++◌, length, get_or, drop, map, append_assoc, append-nil, sym, ap, ◌∙◌}
use Rattle.std.proofs.lemmas.List.{drop_all, drop_more}
use Rattle.expr_types.specs.declared.expr.Expr.{Expr}
use Rattle.expr_types.specs.declared.expr.Expr.TheVariants as expr
use Rattle.expr_types.specs.declared.expr.Origin.{Origin}
use Rattle.expr_types.proofs.Folds.{fold-Between, fold-Exists}
use Rattle.sql_semantics.specs.Rows.{exists_tables, flat, own_table}
use Rattle.expr_types.specs.Level.{operands}

pub ruleset all_named = (append_assoc, append-nil)

-- one more item's numbers are behind
pub named_more : {A : Type 0} (f : A → List ℕ) (xs : List A) (i : ℕ) (x : A) (old new whole : List ℕ) → i < length xs → x ≡ get_or xs i x → new ≡ old ++ f x → old ++ flat (map f (drop i xs)) ≡ whole → new ++ flat (map f (drop (i + 1) xs)) ≡ whole
named_more f xs i x old new whole inside is more so_far =
    ap (λ numbers. numbers ++ flat (map f (drop (i + 1) xs))) more ∙ append_assoc old (f x) (flat (map f (drop (i + 1) xs)))
    ∙ sym (ap (λ left. old ++ flat (map f left)) (drop_more xs i x inside ∙ ap (λ item. item ∷ drop (i + 1) xs) (sym is))) ∙ so_far

-- and in the end all are
pub named_in_end : {A : Type 0} (f : A → List ℕ) (xs : List A) (i : ℕ) (found whole : List ℕ) → length xs ≤ i → found ++ flat (map f (drop i xs)) ≡ whole → found ≡ whole
named_in_end f xs i found whole past so_far = sym (append-nil found) ∙ sym (ap (λ left. found ++ flat (map f left)) (drop_all i xs past)) ∙ so_far

-- the tables of an `exists`, and of a `between`
named_exists : (negated : Bool) (origin : Origin) (condition : Expr) → exists_tables (expr.Exists negated origin condition) ≡ origin.table.0 ∷ exists_tables condition
unfolding exists_tables
named_exists negated origin condition = fold-Exists (List ℕ) (λ level. own_table level ++ flat (operands level)) negated origin condition ∙ ap (λ numbers. origin.table.0 ∷ numbers) (append-nil (exists_tables condition))

named_between : (negated : Bool) (a low high : Expr) → exists_tables (expr.Between negated a low high) ≡ exists_tables a ++ (exists_tables low ++ exists_tables high)
unfolding exists_tables
named_between negated a low high =
    fold-Between (List ℕ) (λ level. own_table level ++ flat (operands level)) negated a low high ∙ ap (λ numbers. exists_tables a ++ (exists_tables low ++ numbers)) (append-nil (exists_tables high))

pub exists_found : (negated : Bool) (origin : Origin) (e condition : Expr) (old pushed new : List ℕ) → e ≡ expr.Exists negated origin condition → pushed ≡ old ++ origin.table.0 ∷ [] → new ≡ pushed ++ exists_tables condition → new ≡ old ++ exists_tables e
exists_found negated origin e condition old pushed new is push more =
    more ∙ ap (λ numbers. numbers ++ exists_tables condition) push ∙ append_assoc old (origin.table.0 ∷ []) (exists_tables condition)
    ∙ sym (ap (λ numbers. old ++ numbers) (ap exists_tables is ∙ named_exists negated origin condition))

pub between_found : (negated : Bool) (e a low high : Expr) (old one two new : List ℕ) → e ≡ expr.Between negated a low high → one ≡ old ++ exists_tables a → two ≡ one ++ exists_tables low → new ≡ two ++ exists_tables high → new ≡ old ++ exists_tables e
between_found negated e a low high old one two new is first second third =
    third ∙ ap (λ numbers. numbers ++ exists_tables high) (second ∙ ap (λ numbers. numbers ++ exists_tables low) first ∙ append_assoc old (exists_tables a) (exists_tables low))
    ∙ append_assoc old (exists_tables a ++ exists_tables low) (exists_tables high) ∙ ap (λ numbers. old ++ numbers) (append_assoc (exists_tables a) (exists_tables low) (exists_tables high))
    ∙ sym (ap (λ numbers. old ++ numbers) (ap exists_tables is ∙ named_between negated a low high))
