-- Parts of a form that may be left out.
use Rattle.std.proofs.Common.{◌≡◌, ℕ, Bool, true, false, if◌then◌else◌, List, [], ◌++◌, drop, Option, Some, None, Ok, refl, ap, sym, subst, ◌∙◌, append-nil, arith}
use Rattle.script_lex.specs.declared.kind.Kind.{Kind}
use Rattle.script_lex.specs.declared.token.Token.{Token}
use Rattle.script_lex.specs.Lex.{same_kind}
use Rattle.script_tokens.proofs.Alike.{same}
use Rattle.script_tokens.specs.Input.{Input, Reader, ◌>>=◌, ◌>>◌, pure, eat, expect, clause, head, next, sees, after, first_of}
use Rattle.script_laws.specs.Readings.Forms.Form.{Form, sequence, says, word, maybe, whether}
use Rattle.script_laws.proofs.Readings.Forms.Taking.{Mode, Took, Kept, Whole, Sound, Inhabited}
use Rattle.script_laws.proofs.Readings.Forms.Sequences.{then_to}
use Rattle.script_laws.proofs.Readings.Forms.Steps.{budget_none, both, both_taken, made, within_out, is_end, taken_by, expected, whole_next}

pub record Mapped {A B : Type 0} (g : Form A) (f : A → B) (tokens : List Token) (count : ℕ) (b : B) : Type 0 where
  pub value : A
  pub is : b ≡ f value
  pub said : g tokens count value

pub mapped_of : {A B : Type 0} (g : Form A) (f : A → B) (ts : List Token) (n : ℕ) (b : B) → sequence g (λ x. says (f x)) ts n b → Mapped g f ts n b
mapped_of g f ts n b s =
    let x = s.0 in
    let p = s.1 in
    let tokens : p.prefix ≡ ts = sym (p.joined ∙ ap (λ r. p.prefix ++ r) p.second.0 ∙ append-nil p.prefix) in
    let counts : p.prefix_count ≡ n = omega (arith, p.counted, p.second.1) in
    record { value = x; is = p.second.2; said = subst (λ m. g ts m x) counts (subst (λ us. g us p.prefix_count x) tokens p.first) }

-- ---- a word, and what it introduces

if_word_by : {A : Type 0} (c : Mode) (kd : Kind) {p : Reader A} {g : Form A} (x : A) (h : Form A) → is_end kd ≡ false → Sound c p g
    → ((ts : List Token) (n : ℕ) (a : A) → sequence (word kd) (λ _. g) ts n a → h ts n a) → h [] 0 x
    → (xs : List Token) (o : ℕ) (b : Bool) → same_kind (first_of xs).kind kd ≡ b → Whole xs
    → Kept c h (record { ahead = xs; operators = o }) ((if b then p else pure x) (if b then record { ahead = drop 1 xs; operators = o } else record { ahead = xs; operators = o }))
if_word_by c kd {p = p} {g = g} x h not_end sp up without xs o true is whole =
    let i : Input = record { ahead = xs; operators = o } in
    let j : Input = record { ahead = drop 1 xs; operators = o } in
    let t : Took c (word kd) i tt j = taken_by kd not_end xs o (same is) in
    within_out c (sequence (word kd) (λ _. g)) h i up (p j) (both_taken c (word kd) (λ _. g) i tt j t (p j) (sp.run j (whole_next xs whole)))
if_word_by c kd x h not_end sp up without xs o false is whole =
    record { prefix = []; count = 0; joined = refl; budget = budget_none c o; said = without }

pub if_word : {A : Type 0} {c : Mode} (kd : Kind) {p : Reader A} {g : Form A} (x : A) {h : Form A} → is_end kd ≡ false → Sound c p g
    → ((ts : List Token) (n : ℕ) (a : A) → sequence (word kd) (λ _. g) ts n a → h ts n a) → h [] 0 x
    → Sound c (eat kd >>= (λ found. if found then p else pure x)) h
unfolding sees after head next
if_word kd x {h = h} not_end sp up without =
    record { run = λ i whole. if_word_by _ kd x h not_end sp up without i.ahead i.operators (same_kind (first_of i.ahead).kind kd) refl whole }

clause_up : {A : Type 0} (kd : Kind) (g : Form A) (ts : List Token) (n : ℕ) (a : Option A)
    → sequence (word kd) (λ _. sequence g (λ x. says (Some x))) ts n a → maybe (sequence (word kd) (λ _. g)) ts n a
clause_up kd g ts n a s =
    let p = s.1 in
    let m = mapped_of g Some p.rest p.rest_count a p.second in
    subst (λ v. maybe (sequence (word kd) (λ _. g)) ts n v) (sym m.is)
    (s.0, record { prefix = p.prefix; rest = p.rest; prefix_count = p.prefix_count; rest_count = p.rest_count; joined = p.joined; counted = p.counted; first = p.first; second = m.said })

pub introduced : {A : Type 0} {c : Mode} (kd : Kind) {p : Reader A} {g : Form A} → is_end kd ≡ false → Sound c p g
    → Sound c (clause kd p) (maybe (sequence (word kd) (λ _. g)))
introduced kd {p = p} {g = g} not_end sp =
    if_word kd None not_end (both sp (λ x. made (Some x)) (λ x. some_says (Some x))) (clause_up kd g) (refl, refl)
  where
    some_says : {B : Type 0} (b : B) → Inhabited (says b)
    some_says b = record { tokens = []; value = b; said = (refl, refl, refl) }

eaten_by : (c : Mode) (kd : Kind) → is_end kd ≡ false → (xs : List Token) (o : ℕ) (b : Bool) → same_kind (first_of xs).kind kd ≡ b
    → Kept c (whether (word kd)) (record { ahead = xs; operators = o }) (Ok (b, if b then record { ahead = drop 1 xs; operators = o } else record { ahead = xs; operators = o }))
eaten_by c kd not_end xs o true is =
    let t : Took c (word kd) (record { ahead = xs; operators = o }) tt (record { ahead = drop 1 xs; operators = o }) = taken_by kd not_end xs o (same is) in
    record { prefix = t.prefix; count = t.count; joined = t.joined; budget = t.budget; said = t.said }
eaten_by c kd not_end xs o false is = record { prefix = []; count = 0; joined = refl; budget = budget_none c o; said = (refl, refl) }

-- one word, or nothing
pub eaten : {c : Mode} (kd : Kind) → is_end kd ≡ false → Sound c (eat kd) (whether (word kd))
unfolding sees after head next
eaten kd not_end = record { run = λ i whole. eaten_by _ kd not_end i.ahead i.operators (same_kind (first_of i.ahead).kind kd) refl }

two_up : (one two : Kind) (ts : List Token) (n : ℕ) (a : Bool) → sequence (word one) (λ _. sequence (word two) (λ _. says true)) ts n a
    → whether (sequence (word one) (λ _. word two)) ts n a
two_up one two ts n a s =
    let p = s.1 in
    let m = mapped_of (word two) (λ _. true) p.rest p.rest_count a p.second in
    subst (λ v. whether (sequence (word one) (λ _. word two)) ts n v) (sym m.is)
    (s.0, record { prefix = p.prefix; rest = p.rest; prefix_count = p.prefix_count; rest_count = p.rest_count; joined = p.joined; counted = p.counted; first = p.first; second = m.said })

-- two words, or nothing
pub two_words : {c : Mode} (one two : Kind) → is_end one ≡ false → is_end two ≡ false
    → Sound c (eat one >>= (λ found. if found then (expect two >> pure true) else pure false)) (whether (sequence (word one) (λ _. word two)))
two_words one two not_end none =
    if_word one false not_end (both (expected two none) (λ _. made true) (λ _. record { tokens = []; value = true; said = (refl, refl, refl) })) (two_up one two) (refl, refl)

same_some : {A : Type 0} {a b : A} → Some a ≡ Some b → a ≡ b
same_some e = cc

pub none_same : {A : Type 0} {a : A} → None ≡ Some a → ⊥
none_same e = cc

-- a form between two words, or nothing
pub bracket_up : {A : Type 0} (open_word close_word : Kind) (g : Form A) (ts : List Token) (n : ℕ) (a : Option A)
    → sequence (word open_word) (λ _. sequence g (λ x. sequence (word close_word) (λ _. says (Some x)))) ts n a
    → maybe (sequence (word open_word) (λ _. sequence g (λ x. sequence (word close_word) (λ _. says x)))) ts n a
bracket_up open_word close_word g ts n None s = absurd (none_same s.1.second.1.second.1.second.2)
bracket_up open_word close_word g ts n (Some a) s =
    then_to (word open_word) (λ _. sequence g (λ x. sequence (word close_word) (λ _. says (Some x)))) (λ _. sequence g (λ x. sequence (word close_word) (λ _. says x))) (Some a) a
    (λ _. then_to g (λ x. sequence (word close_word) (λ _. says (Some x))) (λ x. sequence (word close_word) (λ _. says x)) (Some a) a
    (λ x. then_to (word close_word) (λ _. says (Some x)) (λ _. says x) (Some a) a (λ _ ts n said. (said.0, said.1, same_some said.2)))) ts n s
