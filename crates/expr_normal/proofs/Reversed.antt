-- One item more from the end of a list, as its reverse begins.
use Rattle.std.proofs.Common.{◌≡◌, List, [], ◌∷◌, ◌++◌, map, reverse}
use Rattle.std.proofs.lemmas.List.{reverse-append, append_assoc, map-append}
use Rattle.expr_types.specs.declared.expr.Expr.{Expr}
use Rattle.expr_types.specs.Normal.{joined_parts}

pub joined_last : (parts : Expr → List Expr) (out xs : List Expr) (e : Expr) →
    (out ++ parts e) ++ joined_parts parts (reverse xs) ≡ out ++ joined_parts parts (reverse (xs ++ e ∷ []))
joined_last parts out xs e = rw reverse-append (append_assoc out (parts e) (joined_parts parts (reverse xs)))

pub turned_last : {A : Type 0} (out xs : List A) (e : A) → (out ++ e ∷ []) ++ reverse xs ≡ out ++ reverse (xs ++ e ∷ [])
turned_last out xs e = rw reverse-append (append_assoc out (e ∷ []) (reverse xs))

pub mapped_last : {A B : Type 0} (f : A → B) (out : List B) (xs : List A) (e : A) →
    (out ++ f e ∷ []) ++ reverse (map f xs) ≡ out ++ reverse (map f (xs ++ e ∷ []))
mapped_last f out xs e = rw (map-append, reverse-append) (append_assoc out (f e ∷ []) (reverse (map f xs)))

pub ruleset from_the_end = (joined_last, turned_last, mapped_last)
