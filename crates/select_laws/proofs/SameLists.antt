-- Lists that are kept or made item by item, by two functions that agree on them.
use Rattle.std.proofs.Common.{◌≡◌, if◌then◌else◌, List, [], ◌∷◌, ◌++◌, Ok, Err, refl, ap, ◌∙◌}
use Rattle.std.specs.List.{AllByRecursion}
use Rattle.base_core.specs.declared.value.Value.{Value}
use Rattle.sql_semantics.specs.Checked.{Checked, ◌>>=◌}
use Rattle.sql_semantics.specs.Truth.{passes}
use Rattle.sql_semantics.specs.Rows.{each_from, kept_from, mapped_from}
use Rattle.select_sources.proofs.Sure.{Sure}
use Rattle.select_laws.proofs.Lists.{bind_same}

pub bind_sure_same : {A B : Type 0} (Q : A → Type 0) (r : Checked A) (f g : A → Checked B) → Sure Q r → ((x : A) → Q x → f x ≡ g x) → (r >>= f) ≡ (r >>= g)
bind_sure_same Q (Ok x) f g h s = s x h
bind_sure_same Q (Err e) f g h s = refl

pub kept_same : {A : Type 0} (Q : A → Type 0) (f g : A → Checked Value) → ((x : A) → Q x → f x ≡ g x) → (done xs : List A) → AllByRecursion Q xs → kept_from f done xs ≡ kept_from g done xs
kept_same Q f g s done [] h = refl
kept_same {A} Q f g s done (x ∷ xs) h =
    ap (λ (r : Checked Value). r >>= λ v. kept_from f (if passes v then done ++ x ∷ [] else done) xs) (s x h.0)
    ∙ bind_same (g x) _ _ (λ v. kept_same Q f g s (if passes v then done ++ x ∷ [] else done) xs h.1)

pub each_same : {A B : Type 0} (Q : A → Type 0) (f g : A → Checked (List B)) → ((x : A) → Q x → f x ≡ g x) → (done : List B) (xs : List A) → AllByRecursion Q xs → each_from f done xs ≡ each_from g done xs
each_same Q f g s done [] h = refl
each_same {A} {B} Q f g s done (x ∷ xs) h =
    ap (λ (r : Checked (List B)). r >>= λ ys. each_from f (done ++ ys) xs) (s x h.0) ∙ bind_same (g x) _ _ (λ ys. each_same Q f g s (done ++ ys) xs h.1)

pub mapped_same : {A B : Type 0} (Q : A → Type 0) (f g : A → Checked B) → ((x : A) → Q x → f x ≡ g x) → (done : List B) (xs : List A) → AllByRecursion Q xs → mapped_from f done xs ≡ mapped_from g done xs
mapped_same Q f g s done [] h = refl
mapped_same {A} {B} Q f g s done (x ∷ xs) h =
    ap (λ (r : Checked B). r >>= λ y. mapped_from f (done ++ y ∷ []) xs) (s x h.0) ∙ bind_same (g x) _ _ (λ y. mapped_same Q f g s (done ++ y ∷ []) xs h.1)
