-- Readers of forms that say something: what they read is what the form says, and what they refuse begins some tokens of it.
use Rattle.std.proofs.Common.{◌≡◌, Bool, true, false, if◌then◌else◌, [], length, Some, None, Ok, Err, refl, subst, inl, inr}
use Rattle.script_lex.specs.declared.kind.Kind.{Kind}
use Rattle.script_lex.specs.declared.kind.Kind.TheVariants as k
use Rattle.script_tokens.proofs.Alike.{same}
use Rattle.script_tokens.specs.Input.{Input, Outcome, Reader, ◌>>=◌, and_then, pure, peek, take_token, eat, expect, clause, kind, sees, separated_from}
use Rattle.script_laws.specs.Readings.Forms.Form.{Form, sequence, says, word, maybe, whether, separated_list, ◌or◌}
use Rattle.script_laws.proofs.Readings.Forms.Taking.{Mode, Kept, Out, Whole, Sound, Inhabited}
use Rattle.script_laws.proofs.Readings.Forms.Steps as step
use Rattle.script_laws.proofs.Readings.Forms.Steps.{begun_by, budget_none, within_out, is_end}
use Rattle.script_laws.proofs.Readings.Expressions.Steps as expressions
use Rattle.script_laws.proofs.Readings.Forms.Lists as lists
use Rattle.script_laws.proofs.Readings.Forms.Options as options

pub record Follows {A : Type 0} (mode : Mode) (p : Reader A) (form : Form A) : Type 0 where
  pub sound : Sound mode p form
  pub some : Inhabited form

pub link : {A B : Type 0} {c : Mode} {p : Reader A} {g : Form A} {f : A → Reader B} {h : A → Form B} → Follows c p g → ((a : A) → Follows c (f a) (h a))
    → Follows c (p >>= f) (sequence g h)
link one two = record { sound = step.both one.sound (λ a. (two a).sound) (λ a. (two a).some); some = step.some_both one.some (λ a. (two a).some) }

pub made : {A : Type 0} {c : Mode} (a : A) → Follows c (pure a) (says a)
made a = record { sound = step.made a; some = step.some_made a }

pub token : {c : Mode} (kd : Kind) → is_end kd ≡ false → Follows c (expect kd) (word kd)
token kd not_end = record { sound = step.expected kd not_end; some = step.some_word kd }

pub mapped : {A B : Type 0} {c : Mode} {p : Reader A} {g : Form A} (f : A → B) → Follows c p g → Follows c (p >>= (λ x. pure (f x))) (sequence g (λ x. says (f x)))
mapped f one = link one (λ x. made (f x))

-- a reader that does the same
pub instead : {A : Type 0} {c : Mode} {p q : Reader A} {g : Form A} → ((i : Input) → p i ≡ q i) → Follows c p g → Follows c q g
instead {c = c} {g = g} same one = record { sound = record { run = λ i whole. subst (Kept c g i) (same i) (one.sound.run i whole) }; some = one.some }

pub listed : {A : Type 0} {c : Mode} (mark : Kind) {item : Reader A} {form : Form A} → is_end mark ≡ false → Follows c item form
    → Follows c (λ i. separated_from mark item (length i.ahead) [] i) (separated_list mark form)
listed mark not_end one = record { sound = lists.listed mark not_end one.sound one.some; some = lists.some_list mark one.some }

pub some_maybe : {A : Type 0} (g : Form A) → Inhabited (maybe g)
some_maybe g = record { tokens = []; value = None; said = (refl, refl) }

pub introduced : {A : Type 0} {c : Mode} (kd : Kind) {p : Reader A} {g : Form A} → is_end kd ≡ false → Follows c p g
    → Follows c (clause kd p) (maybe (sequence (word kd) (λ _. g)))
introduced kd {g = g} not_end one = record { sound = options.introduced kd not_end one.sound; some = some_maybe (sequence (word kd) (λ _. g)) }

pub eaten : {c : Mode} (kd : Kind) → is_end kd ≡ false → Follows c (eat kd) (whether (word kd))
eaten kd not_end = record { sound = options.eaten kd not_end; some = record { tokens = []; value = false; said = (refl, refl) } }

-- ---- one of two

-- a word and what it introduces, or another form
pub word_or : {A : Type 0} {c : Mode} (kd : Kind) {p q : Reader A} {g h : Form A} → is_end kd ≡ false → Follows c p g → Follows c q h
    → Follows c (eat kd >>= (λ found. if found then p else q)) ((sequence (word kd) (λ _. g)) or h)
word_or kd not_end one two = record { sound = expressions.either_word kd not_end one.sound two.sound; some = step.some_right two.some }

either_by : {A : Type 0} {c : Mode} (b : Bool) {p q : Reader A} {g h : Form A} → Sound c p g → Sound c q h → (i : Input) → Whole i.ahead → Kept c (g or h) i ((if b then p else q) i)
either_by {c = c} true {p = p} {g = g} {h = h} sp sq i whole = within_out c g (g or h) i (λ ts n a s. inl s) (p i) (sp.run i whole)
either_by {c = c} false {q = q} {g = g} {h = h} sp sq i whole = within_out c h (g or h) i (λ ts n a s. inr s) (q i) (sq.run i whole)

-- the kind of the next token decides between two
pub decided : {A : Type 0} {c : Mode} (by : Kind → Bool) {p q : Reader A} {g h : Form A} → Follows c p g → Follows c q h → Follows c (peek >>= (λ kd. if by kd then p else q)) (g or h)
decided by one two =
    record { sound = record { run = λ i whole. either_by (by (kind i)) one.sound two.sound i whole }; some = step.some_left one.some }

-- ---- the end of the line

unless_by : {A : Type 0} (c : Mode) (x : A) {p : Reader A} {h : Form A} → Sound c p h → h [] 0 x → (i : Input) → Whole i.ahead → (b : Bool) → Kept c h i (if b then Ok (x, i) else p i)
unless_by c x sp without i whole true = record { prefix = []; count = 0; joined = refl; budget = budget_none c i.operators; said = without }
unless_by c x sp without i whole false = sp.run i whole

-- nothing where the line ends
pub unless_end : {A : Type 0} {c : Mode} (x : A) {p : Reader A} {h : Form A} → Follows c p h → h [] 0 x → Follows c (λ i. if sees k.LineEnd i then Ok (x, i) else p i) h
unless_end {c = c} x one without =
    record { sound = record { run = λ i whole. unless_by c x one.sound without i whole (sees k.LineEnd i) }; some = one.some }

-- ---- what may be left out

some_out : {A : Type 0} (c : Mode) (g : Form A) (i : Input) (out : Outcome A) → Kept c g i out → Kept c (maybe g) i (and_then out (λ x. pure (Some x)))
some_out c g i (Ok p) t = record { prefix = t.prefix; count = t.count; joined = t.joined; budget = t.budget; said = t.said }
some_out c g i (Err e) r =
    begun_by r (record { more = r.done.more; count = r.done.count; value = Some r.done.value; enough = r.done.enough; said = r.done.said })

pub one_of : {A : Type 0} {c : Mode} {g : Form A} {i : Input} {out : Outcome A} → Out c g i out → Out c (maybe g) i (and_then out (λ x. pure (Some x)))
one_of {c = c} {g = g} {i = i} {out = out} t = record { kept = some_out c g i out t.kept }

pub perhaps : {A : Type 0} {c : Mode} {p : Reader A} {g : Form A} → Follows c p g → Follows c (p >>= (λ x. pure (Some x))) (maybe g)
perhaps {c = c} {p = p} {g = g} one = record { sound = record { run = λ i whole. some_out c g i (p i) (one.sound.run i whole) }; some = some_maybe g }

-- ---- the kind of the next token decides

pub on_kind : {A : Type 0} {c : Mode} {g : Form A} (by : Kind → Reader A) → ((kd : Kind) (i : Input) → Whole i.ahead → kind i ≡ kd → Out c g i (by kd i)) → Inhabited g
    → Follows c (peek >>= by) g
on_kind by cases any = record { sound = step.on_kind by cases; some = any }

pub behind_word : {A : Type 0} {c : Mode} (kd : Kind) {p : Reader A} {g : Form A} → is_end kd ≡ false → Follows c p g → (i : Input) → Whole i.ahead → kind i ≡ kd
    → Out c (sequence (word kd) (λ _. g)) i (and_then (take_token i) (λ _. p))
behind_word kd not_end one i whole is = step.behind_word kd not_end one.sound one.some i whole is

pub at : {A : Type 0} {c : Mode} {p : Reader A} {g : Form A} → Follows c p g → (i : Input) → Whole i.ahead → Out c g i (p i)
at one i whole = step.at one.sound i whole

pub lead : {A : Type 0} {c : Mode} (kd : Kind) {p : Reader A} {g : Form A} → Follows c p g → Inhabited (sequence (word kd) (λ _. g))
lead kd one = step.some_both (step.some_word kd) (λ _. one.some)

-- a reader of the first of two forms alone
pub of_first : {A : Type 0} {c : Mode} {p : Reader A} {g h : Form A} → Follows c p g → Follows c p (g or h)
of_first one = record { sound = expressions.within one.sound (λ ts n a s. inl s); some = step.some_left one.some }
