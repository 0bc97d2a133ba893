-- What is sure of an answer, if it is no refusal; lists that are kept or made item by item.
use Rattle.std.proofs.Common.{Bool, true, false, if◌then◌else◌, List, [], ◌∷◌, ◌++◌, Ok, Err}
use Rattle.std.specs.List.{AllByRecursion}
use Rattle.base_core.specs.declared.value.Value.{Value}
use Rattle.sql_semantics.specs.Checked.{Checked, ◌>>=◌}
use Rattle.sql_semantics.specs.Truth.{passes}
use Rattle.sql_semantics.specs.Rows.{kept_from, mapped_from}

-- what is answered, if it is, has the property
abbrev pub Sure : {A : Type 0} → (A → Type 0) → Checked A → Type 0
Sure P (Ok a) = P a
Sure P (Err e) = Unit {0}

pub bind_sure : {A B : Type 0} (Q : A → Type 0) (P : B → Type 0) (r : Checked A) (f : A → Checked B) → Sure Q r → ((a : A) → Q a → Sure P (f a)) → Sure P (r >>= f)
bind_sure Q P (Ok a) f h g = g a h
bind_sure Q P (Err e) f h g = tt

pub sure_all : {A : Type 0} (P Q : A → Type 0) (r : Checked A) → Sure P r → ((a : A) → P a → Q a) → Sure Q r
sure_all P Q (Ok a) h g = g a h
sure_all P Q (Err e) h g = tt

pub always : {A : Type 0} (r : Checked A) → Sure (λ _. Unit {0}) r
always (Ok a) = tt
always (Err e) = tt

pub every_more : {A : Type 0} (P : A → Type 0) (xs : List A) (x : A) → AllByRecursion P xs → P x → AllByRecursion P (xs ++ x ∷ [])
every_more P [] x h p = (p, tt)
every_more P (y ∷ ys) x h p = (h.0, every_more P ys x h.1 p)

pub more_by : {A : Type 0} (P : A → Type 0) (b : Bool) (done : List A) (x : A) → AllByRecursion P done → P x → AllByRecursion P (if b then done ++ x ∷ [] else done)
more_by P true done x h p = every_more P done x h p
more_by P false done x h p = h

-- the items that are kept have what all of them have
pub kept_sure : {A : Type 0} (P : A → Type 0) (test : A → Checked Value) (done xs : List A) → AllByRecursion P done → AllByRecursion P xs → Sure (AllByRecursion P) (kept_from test done xs)
kept_sure P test done [] d h = d
kept_sure P test done (x ∷ xs) d h =
    bind_sure (λ _. Unit {0}) (AllByRecursion P) (test x) (λ v. kept_from test (if passes v then done ++ x ∷ [] else done) xs) (always (test x))
    (λ v _. kept_sure P test (if passes v then done ++ x ∷ [] else done) xs (more_by P (passes v) done x d h.0) h.1)

-- what is given for each item has what each gives
pub mapped_sure : {A B : Type 0} (Q : A → Type 0) (P : B → Type 0) (f : A → Checked B) → ((x : A) → Q x → Sure P (f x)) → (done : List B) (xs : List A) → AllByRecursion P done → AllByRecursion Q xs → Sure (AllByRecursion P) (mapped_from f done xs)
mapped_sure Q P f g done [] d h = d
mapped_sure Q P f g done (x ∷ xs) d h =
    bind_sure P (AllByRecursion P) (f x) (λ y. mapped_from f (done ++ y ∷ []) xs) (g x h.0) (λ y p. mapped_sure Q P f g (done ++ y ∷ []) xs (every_more P done y d p) h.1)
