-- The first refusal in reading order.
use Rattle.std.proofs.Common.{◌≡◌, List, [], ◌∷◌, ◌++◌, Result, Ok, Err, refl, sym, ap, subst, append_assoc, ◌∙◌}
use Rattle.std.specs.Prelude.{IfErr}
use Rattle.std.specs.Result.{IsErrAnd}
use Rattle.base_core.specs.declared.refusal.Refusal.{Refusal}
use Rattle.base_core.specs.declared.refusal.Refusal.TheVariants.{Memory}
use Rattle.base_core.specs.Answers.{Gives, Refuses}
use Rattle.sql_semantics.specs.Checked.{Checked, ◌>>=◌}
use Rattle.script_names.specs.Faults.{pair_or_refusal}
use Rattle.script_resolve.specs.Refusals.{CanRefuse}

-- what is refused stays so with what comes behind it
pub refuses_then : {A B : Type 0} (e : Refusal) (told : Checked A) (next : A → Checked B) → Refuses e told → Refuses e (told >>= next)
refuses_then Memory told next h = tt
refuses_then e told next h = ap (λ t. t >>= next) h

-- a refusal of the first part, passed on
pub refused : {A B : Type 0} (r : Checked A) (e : Refusal) (told : Checked B) (next : B → Checked A) (whole : Checked A)
    → whole ≡ (told >>= next) → IsErrAnd r (λ d. d ≡ e) → Refuses e told → Gives (λ (a : A). a) r whole
refused (Ok a) e told next whole same is h = absurd is
refused (Err d) e told next whole same is h = subst (λ f. Refuses f whole) (sym is) (subst (λ w. Refuses e w) (sym same) (refuses_then e told next h))

-- the first part is given, and the next made of it
pub given : {A B : Type 0} (told : Checked B) (next : B → Checked A) (whole : Checked A) (b : B) → whole ≡ (told >>= next) → told ≡ Ok b → whole ≡ next b
given told next whole b same is = same ∙ ap (λ t. t >>= next) is

refuses_pair : {A B : Type 0} (e : Refusal) (first : Checked A) (second : Checked B) → Refuses e first → Refuses e (pair_or_refusal first second)
refuses_pair Memory first second h = tt
refuses_pair e first second h = ap (λ t. pair_or_refusal t second) h

refuses_second : {A B : Type 0} (a : A) (e : Refusal) (first : Checked A) (second : Checked B) → first ≡ Ok a → Refuses e second → Refuses e (pair_or_refusal first second)
refuses_second a Memory first second is h = tt
refuses_second a e first second is h = subst (λ t. pair_or_refusal t second ≡ Err e) (sym is) (ap (λ t. pair_or_refusal (Ok a) t) h)

both_given : {A B : Type 0} (a : A) (b : B) (first : Checked A) (second : Checked B) → first ≡ Ok a → second ≡ Ok b → pair_or_refusal first second ≡ Ok (a, b)
both_given a b first second is same = subst (λ t. pair_or_refusal t second ≡ Ok (a, b)) (sym is) (ap (λ t. pair_or_refusal (Ok a) t) same)

-- two answers in order are what is told of the two
pub gives_pair : {A B : Type 0} (r : Checked A) (s : Checked B) (first : Checked A) (second : Checked B)
    → Gives (λ (a : A). a) r first → Gives (λ (b : B). b) s second → Gives (λ (both : A × B). both) (pair_or_refusal r s) (pair_or_refusal first second)
gives_pair (Ok a) (Ok b) first second h g = both_given a b first second h g
gives_pair (Ok a) (Err e) first second h g = refuses_second a e first second h g
gives_pair (Err e) s first second h g = refuses_pair e first second h

-- the same of a call that answers both
pub paired : {A B : Type 0} (r : Checked A) (s : Checked B) (p : Checked (A × B)) (first : Checked A) (second : Checked B)
    → p ≡ pair_or_refusal r s → Gives (λ (a : A). a) r first → Gives (λ (b : B). b) s second → Gives (λ (both : A × B). both) p (pair_or_refusal first second)
paired {A = A} {B = B} r s p first second is h g = subst (λ q. Gives (λ (both : A × B). both) q (pair_or_refusal first second)) (sym is) (gives_pair r s first second h g)

pair_cause : {A B : Type 0} (r : Checked A) (s : Checked B) → IfErr r CanRefuse → IfErr s CanRefuse → IfErr (pair_or_refusal r s) CanRefuse
pair_cause (Ok a) (Ok b) h g = tt
pair_cause (Ok a) (Err e) h g = g
pair_cause (Err e) s h g = h

pub paired_cause : {A B : Type 0} (r : Checked A) (s : Checked B) (p : Checked (A × B)) → p ≡ pair_or_refusal r s → IfErr r CanRefuse → IfErr s CanRefuse → IfErr p CanRefuse
paired_cause r s p is h g = subst (λ q. IfErr q CanRefuse) (sym is) (pair_cause r s h g)

-- an answer more, behind those that are there
pub one_more : {A : Type 0} (rest : Checked (List A)) (before : List A) (a : A)
    → ((rest >>= λ more. Ok (a ∷ more)) >>= λ more. Ok (before ++ more)) ≡ (rest >>= λ more. Ok ((before ++ a ∷ []) ++ more))
one_more (Ok more) before a = ap (λ list. Ok list) (sym (append_assoc before (a ∷ []) more))
one_more (Err e) before a = refl

pub ruleset firsts = (refuses_then, paired, paired_cause, one_more, append_assoc)
