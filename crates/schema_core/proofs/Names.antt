-- Two names are the same exactly where they are equal.
use Rattle.std.proofs.Common.{◌≡◌, ℕ, true, ◌&&◌, ◌==◌, List, [], ◌∷◌, refl, ap, ◌∙◌}
use Rattle.std.proofs.lemmas.Bool.{and_parts, eq-eqb, eqb-true}
use Rattle.schema_core.specs.Catalog.{same_name}

pub same_names : (one other : List ℕ) → same_name one other ≡ true → one ≡ other
same_names [] [] e = refl
same_names [] (y ∷ ys) e = absurd (cc)
same_names (x ∷ xs) [] e = absurd (cc)
same_names (x ∷ xs) (y ∷ ys) e =
    let both = and_parts (x == y) (same_name xs ys) e in
    ap (λ (c : ℕ). c ∷ xs) (eqb-true x y both.0) ∙ ap (λ (cs : List ℕ). y ∷ cs) (same_names xs ys both.1)

pub name_itself : (name : List ℕ) → same_name name name ≡ true
name_itself [] = refl
name_itself (c ∷ cs) = ap (λ b. b && same_name cs cs) (eq-eqb c c refl) ∙ name_itself cs
