-- The first refusal of what is judged in order.
use Rattle.std.proofs.Common.{◌≡◌, Bool, true, false, cond, List, [], ◌∷◌, ◌++◌, Result, Ok, Err, refl, sym, ap, subst, ◌∙◌}
use Rattle.base_core.specs.Answers.{Refuses}
use Rattle.base_core.specs.declared.refusal.Refusal.{Refusal}
use Rattle.base_core.specs.declared.refusal.Refusal.TheVariants.{Memory, TypeMismatch}
use Rattle.base_core.specs.declared.value.Kind.{Kind}
use Rattle.schema_core.specs.Catalog.{same_kind}
use Rattle.sql_semantics.specs.Kinds.{Judged, all_of, kind_or_mismatch, then_judge}
use Rattle.script_names.specs.Faults.{IsFirst, TellsFirst, first_fault}
use Rattle.script_names.proofs.Firsts.{first_left, first_right, none_both, told_right}
use Rattle.statement_kinds.specs.Mismatches.{fault_of, first_refusal}

-- an answer has no fault
pub answer_is_free : {A : Type 0} (r : Result A Refusal) (a : A) → r ≡ Ok a → fault_of r ≡ []
answer_is_free r a h = ap fault_of h

-- what a call that gives an answer is refused with is the answer's fault
pub refused_first : {A : Type 0} (e : Refusal) (r : Result A Refusal) → Refuses e r → IsFirst e (fault_of r)
refused_first Memory r h = tt
refused_first e r h = ap (λ s. first_fault (fault_of s)) h

-- two parts, the first one's faults before those of the second
pub told_both : (r s : Result (Unit {0}) Refusal) (xs ys : List Refusal) → TellsFirst xs r → TellsFirst ys s → TellsFirst (xs ++ ys) (first_refusal r s)
told_both (Ok u) (Ok v) xs ys h g = none_both xs ys h g
told_both (Ok u) (Err e) xs ys h g = first_right e xs ys h g
told_both (Err e) s xs ys h g = first_left e xs ys h

-- the same of a call that answers both
pub both_told : (r s t : Result (Unit {0}) Refusal) (xs ys : List Refusal) → t ≡ first_refusal r s → TellsFirst xs r → TellsFirst ys s → TellsFirst (xs ++ ys) t
both_told r s t xs ys is h g = subst (TellsFirst (xs ++ ys)) (sym is) (told_both r s xs ys h g)

-- ---- one operand of a kind that is wanted

wanted_or : (b : Bool) (wanted : Kind) (e : Refusal) → fault_of (then_judge (cond b (Ok wanted) (Err e)) (λ kind. Ok wanted)) ≡ fault_of {A = Kind} (cond b (Ok wanted) (Err e))
wanted_or true wanted e = refl
wanted_or false wanted e = refl

pub faults_for : (wanted found : Kind) (r : Judged) → r ≡ Ok found → fault_of (all_of wanted (r ∷ [])) ≡ fault_of (kind_or_mismatch wanted found)
faults_for wanted found r h = ap (λ s. fault_of (all_of wanted (s ∷ []))) h ∙ wanted_or (same_kind found wanted) wanted (TypeMismatch wanted found)

pub told_for : (wanted found : Kind) (r : Judged) (u : Result (Unit {0}) Refusal) → r ≡ Ok found → TellsFirst (fault_of (kind_or_mismatch wanted found)) u → TellsFirst (fault_of (all_of wanted (r ∷ []))) u
told_for wanted found r u h g = subst (λ xs. TellsFirst xs u) (sym (faults_for wanted found r h)) g

pub first_for : (e : Refusal) (wanted : Kind) (r : Judged) → Refuses e r → IsFirst e (fault_of (all_of wanted (r ∷ [])))
first_for Memory wanted r h = tt
first_for e wanted r h = ap (λ s. first_fault (fault_of (all_of wanted (s ∷ [])))) h

pub ruleset firsts = (first_left, first_right, none_both, told_both, told_right)

pub ruleset judgements = (answer_is_free, refused_first, told_for, first_for)
