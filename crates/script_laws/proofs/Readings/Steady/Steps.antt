-- The steps of readers keep them steady.
use Rattle.std.proofs.Common.{◌≡◌, ℕ, zero, suc, ◌+◌, ◌-◌, ◌≤◌, ◌==◌, if◌then◌else◌, Bool, true, false, List, [], ◌∷◌, length, take, drop, Some, None, Ok, Err, refl, ap, sym, subst, ◌∙◌, arith, length-drop}
use Rattle.script_lex.specs.declared.kind.Kind.{Kind}
use Rattle.script_lex.specs.declared.kind.Kind.TheVariants as k
use Rattle.script_lex.specs.declared.token.Token.{Token}
use Rattle.script_lex.specs.Lex.{same_kind}
use Rattle.script_tokens.proofs.Alike.{same}
use Rattle.script_tokens.specs.declared.fault.Fault.TheVariants.{At}
use Rattle.script_tokens.specs.Input.{Input, Reader, ◌>>=◌, ◌<$>◌, and_then, pure, refuse, peek, take_token, eat, expect, clause, head, next, sees, after, first_of, operator, fresh}
use Rattle.script_laws.proofs.Readings.Steady.Settling.{before, closes, IsClosed, Leaves, Settled, Taken, Refused, IsSteady}

drop_nil : (n : ℕ) → drop {A = Token} n [] ≡ []
drop_nil zero = refl
drop_nil (suc n) = refl

take_nil : (n : ℕ) → take {A = Token} n [] ≡ []
take_nil zero = refl
take_nil (suc n) = refl

pub drop_drop : (k m : ℕ) (xs : List Token) → drop m (drop k xs) ≡ drop (k + m) xs
drop_drop zero m xs = let e : m ≡ 0 + m = omega arith in ap (λ n. drop n xs) e
drop_drop (suc k) m [] = drop_nil m ∙ sym (drop_nil (suc k + m))
drop_drop (suc k) m (x ∷ xs) = let e : suc k + m ≡ suc (k + m) = omega arith in drop_drop k m xs ∙ sym (ap (λ n. drop n (x ∷ xs)) e)

take_take : (a b : ℕ) (xs : List Token) → a ≤ b → take a (take b xs) ≡ take a xs
take_take zero b xs h = refl
take_take (suc a) zero xs h = absurd (omega arith)
take_take (suc a) (suc b) [] h = refl
take_take (suc a) (suc b) (x ∷ xs) h = let below : a ≤ b = omega arith in ap (λ ys. x ∷ ys) (take_take a b xs below)

take_drop : (k m : ℕ) (xs : List Token) → take m (drop k xs) ≡ drop k (take (k + m) xs)
take_drop zero m xs = let e : m ≡ 0 + m = omega arith in ap (λ n. take n xs) e
take_drop (suc k) m [] = take_nil m ∙ sym (ap (drop (suc k)) (take_nil (suc k + m)) ∙ drop_nil (suc k))
take_drop (suc k) m (x ∷ xs) = let e : suc k + m ≡ suc (k + m) = omega arith in take_drop k m xs ∙ sym (ap (λ n. drop (suc k) (take n (x ∷ xs))) e)

pub alike_less : (a b : ℕ) (xs ys : List Token) → a ≤ b → take b xs ≡ take b ys → take a xs ≡ take a ys
alike_less a b xs ys h e = sym (take_take a b xs h) ∙ ap (take a) e ∙ take_take a b ys h

pub alike_drop : (k m : ℕ) (xs ys : List Token) → take (suc (k + m)) xs ≡ take (suc (k + m)) ys → take (suc m) (drop k xs) ≡ take (suc m) (drop k ys)
alike_drop k m xs ys e =
    let s : k + suc m ≡ suc (k + m) = omega arith in
    take_drop k (suc m) xs ∙ ap (λ n. drop k (take n xs)) s ∙ ap (drop k) e ∙ sym (ap (λ n. drop k (take n ys)) s) ∙ sym (take_drop k (suc m) ys)

first_taken : (k : ℕ) (xs : List Token) → first_of (take (suc k) xs) ≡ first_of xs
first_taken k [] = refl
first_taken k (x ∷ xs) = refl

pub first_alike : (k : ℕ) (xs ys : List Token) → take (suc k) xs ≡ take (suc k) ys → first_of ys ≡ first_of xs
first_alike k xs ys e = sym (first_taken k ys) ∙ sym (ap first_of e) ∙ first_taken k xs

-- ---- what a reader leaves of a line

is_false : Bool → Type 0
is_false true = ⊥
is_false false = Unit {0}

pub false_true : false ≡ true → ⊥
unfolding is_false
false_true e = subst is_false e tt

pub leaves_some : (xs : List Token) → Leaves 0 xs
leaves_some [] closed = absurd closed
leaves_some (t ∷ ts) closed = omega arith

closed_drop : (k : ℕ) (xs : List Token) → IsClosed xs → suc k ≤ length xs → IsClosed (drop k xs)
closed_drop zero xs closed some = closed
closed_drop (suc k) [] closed some = closed
closed_drop (suc k) (t ∷ []) closed some = absurd (omega arith)
closed_drop (suc k) (t ∷ u ∷ ts) closed some = let less : suc k ≤ length (u ∷ ts) = omega arith in closed_drop k (u ∷ ts) closed.1 less

pub leaves_both : (k m : ℕ) (xs : List Token) → Leaves k xs → Leaves m (drop k xs) → Leaves (k + m) xs
leaves_both k m xs one two closed =
    let first : suc k ≤ length xs = one closed in
    let second : suc m ≤ length (drop k xs) = two (closed_drop k xs closed first) in
    let left : length (drop k xs) ≡ length xs - k = length-drop k xs in
    omega arith

-- a token that does not close the line is not its last
pub leaves_one : (xs : List Token) → closes (first_of xs).kind ≡ false → Leaves 1 xs
leaves_one [] goes closed = absurd closed
leaves_one (t ∷ []) goes closed = absurd (false_true (sym goes ∙ closed))
leaves_one (t ∷ u ∷ ts) goes closed = omega arith

-- a minus and the digits behind it
pub leaves_two : (xs : List Token) → (first_of xs).kind ≡ k.Signed → Leaves 2 xs
leaves_two [] is closed = absurd closed
leaves_two (t ∷ []) is closed = absurd (false_true (sym (ap closes is) ∙ closed))
leaves_two (t ∷ u ∷ []) is closed = absurd (false_true (sym (closed.0 is) ∙ closed.1))
leaves_two (t ∷ u ∷ v ∷ ts) is closed = omega arith

-- ---- one after the other

then_at : {A B : Type 0} (p : Reader A) (f : A → Reader B) (i : Input) (k : ℕ) (a : A) (n : ℕ) → Leaves k i.ahead
    → ((other : List Token) → take (suc k) i.ahead ≡ take (suc k) other → p (before i other) ≡ Ok (a, record { ahead = drop k other; operators = n }))
    → Settled (f a) (record { ahead = drop k i.ahead; operators = n }) → Settled (p >>= f) i
then_at p f i k a n l h (Taken m b o r g) =
    Taken (k + m) b o (leaves_both k m i.ahead l r) (λ other e.
    let less : suc k ≤ suc (k + m) = omega arith in
    ap (λ out. and_then out f) (h other (alike_less (suc k) (suc (k + m)) i.ahead other less e))
    ∙ g (drop k other) (alike_drop k m i.ahead other e)
    ∙ ap (λ rest. Ok (b, record { ahead = rest; operators = o })) (drop_drop k m other))
then_at p f i k a n l h (Refused m r g) =
    Refused (k + m) (leaves_both k m i.ahead l r) (λ other e.
    let less : suc k ≤ suc (k + m) = omega arith in
    ap (λ out. and_then out f) (h other (alike_less (suc k) (suc (k + m)) i.ahead other less e))
    ∙ g (drop k other) (alike_drop k m i.ahead other e)
    ∙ ap (λ rest. Err (At (first_of rest).at)) (drop_drop k m other))

pub both_at : {A B : Type 0} (p : Reader A) (f : A → Reader B) (i : Input) → ((a : A) → IsSteady (f a)) → Settled p i → Settled (p >>= f) i
both_at p f i sf (Taken k a n l h) = then_at p f i k a n l h (sf a (record { ahead = drop k i.ahead; operators = n }))
both_at p f i sf (Refused k l h) = Refused k l (λ other e. ap (λ out. and_then out f) (h other e))

pub both : {A B : Type 0} {p : Reader A} {f : A → Reader B} → IsSteady p → ((a : A) → IsSteady (f a)) → IsSteady (p >>= f)
both {p = p} {f = f} sp sf = λ i. both_at p f i sf (sp i)

pub made : {A : Type 0} (a : A) → IsSteady (pure a)
made a = λ i. Taken 0 a i.operators (leaves_some i.ahead) (λ other e. refl)

pub mapped : {A B : Type 0} (f : A → B) {p : Reader A} → IsSteady p → IsSteady (f <$> p)
mapped f sp = both sp (λ x. made (f x))

-- ---- the next token decides

-- settled where this token comes next
abbrev pub IsSteadyOn : {A : Type 0} → Token → Reader A → Type 0
IsSteadyOn t p = (i : Input) → first_of i.ahead ≡ t → Settled p i

-- settled where a token of this kind comes next
abbrev pub IsSteadyAt : {A : Type 0} → Kind → Reader A → Type 0
IsSteadyAt kd p = (i : Input) → (first_of i.ahead).kind ≡ kd → Settled p i

pub at_head : {A : Type 0} (g : Token → Reader A) (i : Input) → Settled (g (first_of i.ahead)) i → Settled (λ j. g (first_of j.ahead) j) i
at_head g i (Taken k a n l h) = Taken k a n l (λ other e. ap (λ t. g t (before i other)) (first_alike k i.ahead other e) ∙ h other e)
at_head g i (Refused k l h) = Refused k l (λ other e. ap (λ t. g t (before i other)) (first_alike k i.ahead other e) ∙ h other e)

pub on_token : {A : Type 0} (g : Token → Reader A) → ((t : Token) → IsSteadyOn t (g t)) → IsSteady (λ i. g (first_of i.ahead) i)
on_token g sg = λ i. at_head g i (sg (first_of i.ahead) i refl)

pub on_head : {A : Type 0} (g : Token → Reader A) → ((t : Token) → IsSteady (g t)) → IsSteady (λ i. g (first_of i.ahead) i)
on_head g sg = on_token g (λ t i is. sg t i)

pub refused : {A : Type 0} → IsSteady (refuse {A = A})
unfolding head
refused = λ i. Refused 0 (leaves_some i.ahead) (λ other e. refl)

pub on_kind : {A : Type 0} (f : Kind → Reader A) → ((kd : Kind) → IsSteadyAt kd (f kd)) → IsSteady (peek >>= f)
unfolding head
on_kind f sf = on_token (λ t. f t.kind) (λ t i is. sf t.kind i (ap (λ u. u.kind) is))

-- whatever comes next
pub there : {A : Type 0} {kd : Kind} {p : Reader A} → IsSteady p → IsSteadyAt kd p
there sp = λ i is. sp i

pub both_there : {A B : Type 0} {kd : Kind} {p : Reader A} {f : A → Reader B} → IsSteadyAt kd p → ((a : A) → IsSteady (f a)) → IsSteadyAt kd (p >>= f)
both_there {p = p} {f = f} sp sf = λ i is. both_at p f i sf (sp i is)

pub gone_past : {A : Type 0} (a : A) (i : Input) → closes (first_of i.ahead).kind ≡ false → Settled (λ j. Ok (a, next j)) i
unfolding next
gone_past a i goes = Taken 1 a i.operators (leaves_one i.ahead goes) (λ other e. refl)

-- past a token of this kind
pub behind : {A : Type 0} (kd : Kind) {f : Unit {0} → Reader A} → closes kd ≡ false → ((u : Unit {0}) → IsSteady (f u)) → IsSteadyAt kd (take_token >>= f)
behind kd {f = f} goes sf = λ i is. both_at take_token f i sf (gone_past tt i (ap closes is ∙ goes))

pub chosen : {A : Type 0} {p q : Reader A} (b : Bool) → IsSteady p → IsSteady q → IsSteady (if b then p else q)
chosen true sp sq = sp
chosen false sp sq = sq

goes_on : (kd : Kind) (t : Token) (i : Input) → closes kd ≡ false → first_of i.ahead ≡ t → same_kind t.kind kd ≡ true → closes (first_of i.ahead).kind ≡ false
goes_on kd t i goes is seen = ap (λ u. closes u.kind) is ∙ ap closes (same seen) ∙ goes

pub eaten_by : (i : Input) (b : Bool) → (b ≡ true → closes (first_of i.ahead).kind ≡ false) → Settled (λ j. Ok (b, if b then next j else j)) i
unfolding next
eaten_by i true goes = Taken 1 true i.operators (leaves_one i.ahead (goes refl)) (λ other e. refl)
eaten_by i false goes = Taken 0 false i.operators (leaves_some i.ahead) (λ other e. refl)

pub eaten : (kd : Kind) → closes kd ≡ false → IsSteady (eat kd)
unfolding head sees after
eaten kd goes = on_token (λ t i. Ok (same_kind t.kind kd, if same_kind t.kind kd then next i else i)) (λ t i is. eaten_by i (same_kind t.kind kd) (goes_on kd t i goes is))

pub expected_by : (i : Input) (b : Bool) → (b ≡ true → closes (first_of i.ahead).kind ≡ false) → Settled {A = Unit {0}} (λ j. if b then Ok (tt, next j) else refuse j) i
expected_by i true goes = gone_past tt i (goes refl)
expected_by i false goes = refused i

pub expected : (kd : Kind) → closes kd ≡ false → IsSteady (expect kd)
unfolding head sees expect
expected kd goes = on_token (λ t i. if same_kind t.kind kd then Ok (tt, next i) else refuse i) (λ t i is. expected_by i (same_kind t.kind kd) (goes_on kd t i goes is))

pub introduced : {A : Type 0} (kd : Kind) {p : Reader A} → closes kd ≡ false → IsSteady p → IsSteady (clause kd p)
introduced kd goes sp = both (eaten kd goes) (λ found. chosen found (both sp (λ x. made (Some x))) (made None))

counted_at : (i : Input) (b : Bool) → closes (first_of i.ahead).kind ≡ false → (i.operators == 0) ≡ b → Settled operator i
unfolding operator head
counted_at i true goes e =
    Refused 0 (leaves_some i.ahead) (λ other q. ap (λ c. if c then refuse (before i other) else Ok (tt, record { ahead = drop 1 other; operators = i.operators - 1 })) e)
counted_at i false goes e =
    Taken 1 tt (i.operators - 1) (leaves_one i.ahead goes)
    (λ other q. ap (λ c. if c then refuse (before i other) else Ok (tt, record { ahead = drop 1 other; operators = i.operators - 1 })) e)

-- an operator
pub counted : (kd : Kind) → closes kd ≡ false → IsSteadyAt kd operator
counted kd goes = λ i is. counted_at i (i.operators == 0) (ap closes is ∙ goes) refl

pub begun : IsSteady fresh
begun = λ i. Taken 0 tt 1000 (leaves_some i.ahead) (λ other e. refl)

pub chosen_at : {A : Type 0} (p q : Reader A) (b : Bool) → IsSteady p → IsSteady q → IsSteady (λ i. if b then p i else q i)
chosen_at p q true sp sq = sp
chosen_at p q false sp sq = sq
