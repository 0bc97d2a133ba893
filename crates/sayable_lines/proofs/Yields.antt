-- What readers give, of tokens of which none holds NULL.
use Rattle.std.proofs.Common.{ℕ, zero, suc, Bool, true, false, if◌then◌else◌, ◌==◌, List, [], ◌∷◌, ◌++◌, Option, Some, None, Ok, Err}
use Rattle.std.specs.List.{AllByRecursion}
use Rattle.script_lex.specs.declared.kind.Kind.{Kind}
use Rattle.script_lex.specs.declared.kind.Kind.TheVariants as k
use Rattle.script_tokens.specs.Input.{Input, Outcome, Reader, ◌>>=◌, and_then, pure, refuse, peek, take_token, eat, expect, clause, next, sees, after, operator, fresh, turns, comma_list, separated_from}
use Rattle.script_tokens.specs.Many.{many_by, many_from}
use Rattle.sayable_lines.proofs.Given.{AreGiven, rest_given}

-- what is read has the property, and no token behind it holds NULL
abbrev pub Kept : {A : Type 0} → (A → Type 0) → Outcome A → Type 0
Kept P (Ok p) = P p.0 × AreGiven p.1.ahead
Kept P (Err e) = Unit {0}

pub record Yields {A : Type 0} (P : A → Type 0) (r : Reader A) : Type 0 where
  pub run : (i : Input) → AreGiven i.ahead → Kept P (r i)

-- of which nothing is said
abbrev pub Any : {A : Type 0} → A → Type 0
Any a = Unit {0}

-- of what may be left out
abbrev pub IfAny : {A : Type 0} → (A → Type 0) → Option A → Type 0
IfAny P None = Unit {0}
IfAny P (Some a) = P a

-- ---- steps

bound : {A B : Type 0} (P : A → Type 0) (Q : B → Type 0) (f : A → Reader B) → ((a : A) → P a → Yields Q (f a)) → (out : Outcome A) → Kept P out → Kept Q (and_then out f)
bound P Q f more (Ok p) kept = (more p.0 kept.0).run p.1 kept.1
bound P Q f more (Err e) kept = tt

pub link : {A B : Type 0} {P : A → Type 0} {Q : B → Type 0} {r : Reader A} {f : A → Reader B} → Yields P r → ((a : A) → P a → Yields Q (f a)) → Yields Q (r >>= f)
link {P = P} {Q = Q} {r = r} {f = f} one more = record { run = λ i given. bound P Q f more (r i) (one.run i given) }

pub made : {A : Type 0} {P : A → Type 0} (a : A) → P a → Yields P (pure a)
made a holds = record { run = λ i given. (holds, given) }

pub refused : {A : Type 0} {P : A → Type 0} → Yields P refuse
refused = record { run = λ i given. tt }

pub mapped : {A B : Type 0} {P : A → Type 0} {Q : B → Type 0} {r : Reader A} (f : A → B) → Yields P r → ((a : A) → P a → Q (f a)) → Yields Q (r >>= (λ x. pure (f x)))
mapped f one holds = link one (λ a is. made (f a) (holds a is))

pub chosen : {A : Type 0} {P : A → Type 0} {p q : Reader A} (b : Bool) → Yields P p → Yields P q → Yields P (if b then p else q)
chosen true one two = one
chosen false one two = two

looser : {A : Type 0} (P Q : A → Type 0) → ((a : A) → P a → Q a) → (out : Outcome A) → Kept P out → Kept Q out
looser P Q up (Ok p) kept = (up p.0 kept.0, kept.1)
looser P Q up (Err e) kept = tt

pub loosened : {A : Type 0} {P Q : A → Type 0} {r : Reader A} → ((a : A) → P a → Q a) → Yields P r → Yields Q r
loosened {P = P} {Q = Q} {r = r} up one = record { run = λ i given. looser P Q up (r i) (one.run i given) }

-- ---- single tokens

pub peeked : Yields Any peek
peeked = record { run = λ i given. (tt, given) }

pub taken : Yields Any take_token
unfolding next
taken = record { run = λ i given. (tt, rest_given i.ahead given) }

after_by : (b : Bool) (i : Input) → AreGiven i.ahead → AreGiven (if b then next i else i).ahead
unfolding next
after_by true i given = rest_given i.ahead given
after_by false i given = given

pub eaten : (kd : Kind) → Yields Any (eat kd)
unfolding after
eaten kd = record { run = λ i given. (tt, after_by (sees kd i) i given) }

expected_by : (b : Bool) (i : Input) → AreGiven i.ahead → Kept {A = Unit {0}} Any (if b then Ok (tt, next i) else refuse i)
unfolding next
expected_by true i given = (tt, rest_given i.ahead given)
expected_by false i given = tt

pub expected : (kd : Kind) → Yields Any (expect kd)
unfolding expect
expected kd = record { run = λ i given. expected_by (sees kd i) i given }

operated_by : (b : Bool) (i j : Input) → AreGiven j.ahead → Kept {A = Unit {0}} Any (if b then refuse i else Ok (tt, j))
operated_by true i j given = tt
operated_by false i j given = (tt, given)

pub operated : Yields Any operator
unfolding operator
operated = record { run = λ i given. operated_by (i.operators == 0) i _ (rest_given i.ahead given) }

pub begun : Yields Any fresh
begun = record { run = λ i given. (tt, given) }

-- ---- options and lists

pub introduced : {A : Type 0} {P : A → Type 0} (kd : Kind) {r : Reader A} → Yields P r → Yields (IfAny P) (clause kd r)
introduced {P = P} kd one = link (eaten kd) (λ found _. chosen {P = IfAny P} found (mapped {Q = IfAny P} Some one (λ a is. is)) (made None tt))

pub each_more : {A : Type 0} (P : A → Type 0) (found : List A) (a : A) → AllByRecursion P found → P a → AllByRecursion P (found ++ a ∷ [])
each_more P [] a all is = (is, tt)
each_more P (b ∷ found) a all is = (all.0, each_more P found a all.1 is)

-- items with a mark between, behind those that were found: of these R is known, and of all S
pub separated : {A : Type 0} {P : A → Type 0} (R S : List A → Type 0) (mark : Kind) {item : Reader A} → Yields P item
    → ((found : List A) (a : A) → R found → P a → R (found ++ a ∷ [])) → ((found : List A) (a : A) → R found → P a → S (found ++ a ∷ []))
    → (n : ℕ) (found : List A) → R found → Yields S (separated_from mark item n found)
unfolding separated_from
separated R S mark one more last zero found known = refused
separated R S mark one more last (suc n) found known =
    link one (λ a is. link (eaten mark) (λ b _. chosen b (separated R S mark one more last n (found ++ a ∷ []) (more found a known is)) (made (found ++ a ∷ []) (last found a known is))))

pub listed : {A : Type 0} {P : A → Type 0} {item : Reader A} → Yields P item → Yields (AllByRecursion P) (comma_list item)
listed {P = P} one =
    record { run = λ i given. (separated (AllByRecursion P) (AllByRecursion P) k.Comma one (each_more P) (each_more P) (turns i) [] tt).run i given }

more_by : {A : Type 0} {P : A → Type 0} (more : List A → Reader (List A)) → ((found : List A) → AllByRecursion P found → Yields (AllByRecursion P) (more found))
    → (found : List A) → AllByRecursion P found → (o : Option A) → IfAny P o → Yields (AllByRecursion P) (many_by more found o)
more_by more goes found all None is = made found all
more_by {P = P} more goes found all (Some a) is = goes (found ++ a ∷ []) (each_more P found a all is)

pub many : {A : Type 0} {P : A → Type 0} {item : Reader (Option A)} → Yields (IfAny P) item → (n : ℕ) (found : List A) → AllByRecursion P found → Yields (AllByRecursion P) (many_from item n found)
unfolding many_from
many one zero found all = made found all
many {item = item} one (suc n) found all = link one (λ o is. more_by (many_from item n) (λ f a. many one n f a) found all o is)
