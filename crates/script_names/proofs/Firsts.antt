-- Of faults in order the first is told.
use Rattle.std.proofs.Common.{◌≡◌, List, [], ◌∷◌, ◌++◌, Some, Result, Ok, Err, sym, ap, subst, ◌∙◌}
use Rattle.std.specs.Prelude.{IfOk}
use Rattle.std.specs.Result.{IsErrAnd}
use Rattle.std.proofs.lemmas.List.{append-nil}
use Rattle.base_core.specs.declared.refusal.Refusal.{Refusal}
use Rattle.base_core.specs.declared.refusal.Refusal.TheVariants.{Memory}
use Rattle.base_core.specs.Answers.{Gives}
use Rattle.script_names.specs.Faults.{IsFirst, TellsFirst, first_fault, pair_or_refusal, unless}

first_of : (xs ys : List Refusal) (e : Refusal) → first_fault xs ≡ Some e → first_fault (xs ++ ys) ≡ Some e
first_of [] ys e h = absurd cc
first_of (x ∷ xs) ys e h = h

-- the refusal of the first part is that of all
pub first_left : (e : Refusal) (xs ys : List Refusal) → IsFirst e xs → IsFirst e (xs ++ ys)
first_left Memory xs ys h = tt
first_left e xs ys h = first_of xs ys e h

-- behind a part without a fault the rest is told
pub first_right : (e : Refusal) (xs ys : List Refusal) → xs ≡ [] → IsFirst e ys → IsFirst e (xs ++ ys)
first_right e xs ys none h = subst (λ zs. IsFirst e (zs ++ ys)) (sym none) h

pub none_both : (xs ys : List Refusal) → xs ≡ [] → ys ≡ [] → xs ++ ys ≡ []
none_both xs ys h g = ap (λ zs. zs ++ ys) h ∙ g

-- nothing is asked behind
pub told_end : {A : Type 0} (xs : List Refusal) (r : Result A Refusal) → TellsFirst xs r → TellsFirst (xs ++ []) r
told_end xs r h = subst (λ zs. TellsFirst zs r) (sym (append-nil xs)) h

pub told_inner : {A : Type 0} (xs ys : List Refusal) (r : Result A Refusal) → TellsFirst (xs ++ ys) r → TellsFirst (xs ++ (ys ++ [])) r
told_inner xs ys r h = subst (λ zs. TellsFirst (xs ++ zs) r) (sym (append-nil ys)) h

-- behind a part without a fault the rest is asked
pub told_right : {A : Type 0} (xs ys : List Refusal) (r : Result A Refusal) → xs ≡ [] → TellsFirst ys r → TellsFirst (xs ++ ys) r
told_right xs ys r none h = subst (λ zs. TellsFirst (zs ++ ys) r) (sym none) h

-- two parts, the first one's faults before those of the second
pub told_pair : {A B : Type 0} (r : Result A Refusal) (s : Result B Refusal) (xs ys : List Refusal) → TellsFirst xs r → TellsFirst ys s → TellsFirst (xs ++ ys) (pair_or_refusal r s)
told_pair (Ok a) (Ok b) xs ys h g = none_both xs ys h g
told_pair (Ok a) (Err e) xs ys h g = first_right e xs ys h g
told_pair (Err e) s xs ys h g = first_left e xs ys h

-- the same of a call that answers both
pub paired : {A B : Type 0} (r : Result A Refusal) (s : Result B Refusal) (p : Result (A × B) Refusal) (xs ys : List Refusal) → p ≡ pair_or_refusal r s → TellsFirst xs r → TellsFirst ys s → TellsFirst (xs ++ ys) p
paired r s p xs ys is h g = subst (TellsFirst (xs ++ ys)) (sym is) (told_pair r s xs ys h g)

-- a refusal that is passed on
pub passed_on : {A : Type 0} (r : Result A Refusal) (e : Refusal) (xs : List Refusal) → IsErrAnd r (λ d. d ≡ e) → IsFirst e xs → TellsFirst xs r
passed_on (Ok x) e xs is h = absurd is
passed_on (Err d) e xs is h = subst (λ f. IsFirst f xs) (sym is) h

unless_first : {A : Type 0} (xs : List Refusal) (a : A) (e : Refusal) → first_fault xs ≡ Some e → unless xs a ≡ Err e
unless_first [] a e h = absurd cc
unless_first (x ∷ xs) a e h = cc

-- what is answered without a fault, and which fault is told, is the whole answer
pub gives_told : {A : Type 0} (r : Result A Refusal) (xs : List Refusal) (a : A) → IfOk r (λ x. x ≡ a) → TellsFirst xs r → Gives (λ x. x) r (unless xs a)
gives_told (Ok x) xs a is h = ap (λ zs. unless zs a) h ∙ ap Ok (sym is)
gives_told (Err Memory) xs a is h = tt
gives_told (Err e) xs a is h = unless_first xs a e h

pub ruleset firsts = (first_left, first_right, none_both, told_end, told_inner, told_right, told_pair)
