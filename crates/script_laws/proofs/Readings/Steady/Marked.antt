-- Lists with a mark between their items, and chains of operands, are read steadily where their items and operands are.
use Rattle.std.proofs.Common.{◌≡◌, ℕ, suc, ◌≤◌, ◌-◌, ◌==◌, if◌then◌else◌, Bool, true, false, List, [], ◌∷◌, ◌++◌, drop, length, Option, Some, None, Ok, Err, refl, ap, sym, subst, ◌∙◌, arith, length-drop}
use Rattle.script_lex.specs.declared.kind.Kind.{Kind}
use Rattle.script_lex.specs.declared.kind.Kind.TheVariants as k
use Rattle.script_lex.specs.declared.token.Token.{Token}
use Rattle.script_lex.specs.Lex.{same_kind}
use Rattle.script_types.specs.declared.expression.Syn.{Syn}
use Rattle.script_expr.specs.declared.expression.Joint.{Joint}
use Rattle.script_tokens.proofs.Alike.{same}
use Rattle.script_tokens.specs.declared.fault.Fault.{Fault}
use Rattle.script_tokens.specs.declared.fault.Fault.TheVariants.{At}
use Rattle.script_tokens.specs.Input.{Input, Outcome, Reader, ◌>>=◌, ◌>>◌, and_then, pure, refusal, peek, eat, head, kind, next, sees, after, first_of, operator, separated_from}
use Rattle.script_expr.specs.Expr.{join_operands, chained_by, chained_from}
use Rattle.script_laws.proofs.Readings.Steady.Settling.{closes, Settled, Taken, Refused, IsSteady}
use Rattle.script_laws.proofs.Readings.Steady.Steps.{IsSteadyAt, both, both_there, there, made, eaten, on_kind, counted, false_true}
use Rattle.script_laws.proofs.Readings.Steady.Loops.{Turn, Done, Again, after_turn, looped}

-- no tokens
abbrev pub none_left : ℕ → Input
none_left o = record { ahead = []; operators = o }

-- a reader that is refused where no tokens are left
abbrev pub IsBare : {A : Type 0} → Reader A → Type 0
IsBare p = (o : ℕ) → p (none_left o) ≡ Err (At 0)

pub bare_first : {A B : Type 0} (p : Reader A) (f : A → Reader B) → IsBare p → IsBare (p >>= f)
bare_first p f h = λ o. ap (λ out. and_then out f) (h o)

-- an outcome with this value, and the input behind it
abbrev pub Yields : {A : Type 0} → Outcome A → A → Input → Type 0
Yields {A} out a i = ◌≡◌ {A = Outcome A} out (Ok (a, i))

rest_of : {A : Type 0} → Input → Outcome A → Input
rest_of other (Ok p) = p.1
rest_of other (Err e) = other

value_of : {A : Type 0} → A → Outcome A → A
value_of other (Ok p) = p.0
value_of other (Err e) = other

pub rest_same : {A : Type 0} {a b : A} {i j : Input} → Yields (Ok (a, i)) b j → i ≡ j
unfolding rest_of
rest_same {i = i} e = ap (rest_of i) e

pub value_same : {A : Type 0} {a b : A} {i j : Input} → Yields (Ok (a, i)) b j → a ≡ b
unfolding value_of
value_same {a = a} e = ap (value_of a) e

is_again : {S A : Type 0} → Turn S A → Type 0
is_again (Done a) = Unit {0}
is_again (Again s) = ⊥

is_refused : {A : Type 0} → Outcome A → Type 0
is_refused (Ok p) = ⊥
is_refused (Err e) = Unit {0}

is_none : {A : Type 0} → Option A → Type 0
is_none None = ⊥
is_none (Some a) = Unit {0}

pub some_none : {A : Type 0} {a : A} → ◌≡◌ {A = Option A} (Some a) None → ⊥
unfolding is_none
some_none e = subst is_none e tt

pub refused_yields : {A : Type 0} {f : Fault} {a : A} {i : Input} → Yields (Err f) a i → ⊥
unfolding is_refused
refused_yields e = subst is_refused e tt

pub not_done : {S A : Type 0} {s : S} {a : A} → ◌≡◌ {A = Turn S A} (Done a) (Again s) → ⊥
unfolding is_again
not_done e = subst is_again e tt

pub len_same : {i j : Input} → i ≡ j → length i.ahead ≡ length j.ahead
len_same e = ap (λ l. length l.ahead) e

shorter_by : {A : Type 0} (p : Reader A) (i j : Input) (x : A) → Settled p i → Yields (p i) x j → length j.ahead ≤ length i.ahead
shorter_by p i j x (Taken k a o l h) e =
    let rest : record { ahead = drop k i.ahead; operators = o } ≡ j = rest_same (sym (h i.ahead refl) ∙ e) in
    let len : length i.ahead - k ≡ length j.ahead = sym (length-drop k i.ahead) ∙ len_same rest in
    omega arith
shorter_by p i j x (Refused k l h) e = absurd (refused_yields (sym (h i.ahead refl) ∙ e))

-- a reader never leaves more tokens than there were
pub never_longer : {A : Type 0} {p : Reader A} → IsSteady p → (i j : Input) (x : A) → Yields (p i) x j → length j.ahead ≤ length i.ahead
never_longer {p = p} sp i j x e = shorter_by p i j x (sp i) e

closes_by : (mark : Kind) (b : Bool) → same_kind k.LineEnd mark ≡ b → closes mark ≡ false → b ≡ false
closes_by mark true is goes = absurd (false_true (sym goes ∙ sym (ap closes (same is))))
closes_by mark false is goes = refl

unlike_end : (mark : Kind) → closes mark ≡ false → same_kind k.LineEnd mark ≡ false
unlike_end mark goes = closes_by mark (same_kind k.LineEnd mark) refl goes

seen_at : (mark : Kind) (xs : List Token) → same_kind k.LineEnd mark ≡ false → same_kind (first_of xs).kind mark ≡ true → suc (length (drop 1 xs)) ≤ length xs
seen_at mark [] ends seen = absurd (false_true (sym ends ∙ seen))
seen_at mark (x ∷ xs) ends seen = omega arith

pub mark_taken : (mark : Kind) (i : Input) → closes mark ≡ false → sees mark i ≡ true → suc (length (next i).ahead) ≤ length i.ahead
unfolding sees head next
mark_taken mark i goes seen = seen_at mark i.ahead (unlike_end mark goes) seen

module _ {S X : Type 0} (mark : Kind) (item : S → Reader X) (grow : S → X → S) (loop : ℕ → S → Reader S)
    (starts : (s : S) (i : Input) → loop 0 s i ≡ Err (refusal i))
    (goes : (n : ℕ) (s : S) (i : Input)
    → loop (suc n) s i ≡ and_then (item s i) (λ x. eat mark >>= (λ more. if more then loop n (grow s x) else pure (grow s x))))
    (marks : closes mark ≡ false)
    (steady : (s : S) → IsSteady (item s))
    (bare : (s : S) → IsBare (item s)) where
  turned : S → X → Bool → Turn S S
  turned s x more = if more then Again (grow s x) else Done (grow s x)

  turn : S → Reader (Turn S S)
  turn s = item s >>= (λ x. eat mark >>= (λ more. pure (turned s x more)))

  turn_steady : (s : S) → IsSteady (turn s)
  unfolding turn
  turn_steady s = both (steady s) (λ x. both (eaten mark marks) (λ more. made (turned s x more)))

  by_more : (n : ℕ) (s : S) (x : X) (j : Input) (b : Bool)
      → (if b then loop n (grow s x) else pure (grow s x)) j ≡ and_then (Ok (turned s x b, j)) (after_turn (loop n))
  unfolding turned
  by_more n s x j true = refl
  by_more n s x j false = refl

  by_item : (n : ℕ) (s : S) (out : Outcome X)
      → and_then out (λ x. eat mark >>= (λ more. if more then loop n (grow s x) else pure (grow s x)))
      ≡ and_then (and_then out (λ x. eat mark >>= (λ more. pure (turned s x more)))) (after_turn (loop n))
  by_item n s (Ok p) = by_more n s p.0 (after mark p.1) (sees mark p.1)
  by_item n s (Err e) = refl

  unrolls : (n : ℕ) (s : S) (i : Input) → loop (suc n) s i ≡ and_then (turn s i) (after_turn (loop n))
  unfolding turn
  unrolls n s i = goes n s i ∙ by_item n s (item s i)

  ends_bare : (s : S) (o : ℕ) → loop 0 s (none_left o) ≡ loop 1 s (none_left o)
  unfolding head
  ends_bare s o =
      starts s (none_left o) ∙ sym (goes 0 s (none_left o) ∙ ap (λ out. and_then out (λ x. eat mark >>= (λ more. if more then loop 0 (grow s x) else pure (grow s x)))) (bare s o))

  again_by : (s more : S) (x : X) (i j m : Input) (b : Bool) → sees mark j ≡ b → length j.ahead ≤ length i.ahead → Yields (Ok (turned s x b, after mark j)) (Again more) m
      → suc (length m.ahead) ≤ length i.ahead
  unfolding turned after
  again_by s more x i j m true seen fits e =
      let went : after mark j ≡ next j = ap (λ b. if b then next j else j) seen in
      let len : length (next j).ahead ≡ length m.ahead = len_same (sym went ∙ rest_same e) in
      let less : suc (length (next j).ahead) ≤ length j.ahead = mark_taken mark j marks seen in
      omega arith
  again_by s more x i j m false seen fits e = absurd (not_done (value_same e))

  shrinks_by : (s more : S) (i m : Input) (out : Outcome X) → item s i ≡ out
      → Yields (and_then out (λ x. eat mark >>= (λ b. pure (turned s x b)))) (Again more) m → suc (length m.ahead) ≤ length i.ahead
  shrinks_by s more i m (Ok p) was e = again_by s more p.0 i p.1 m (sees mark p.1) refl (never_longer (steady s) i p.1 p.0 was) e
  shrinks_by s more i m (Err f) was e = absurd (refused_yields e)

  shrinks : (s : S) (i m : Input) (more : S) → turn s i ≡ Ok (Again more, m) → suc (length m.ahead) ≤ length i.ahead
  unfolding turn
  shrinks s i m more e = shrinks_by s more i m (item s i) refl e

  pub marked : (s : S) → IsSteady (λ j. loop (length j.ahead) s j)
  marked s = looped loop turn unrolls ends_bare turn_steady shrinks s

pub listed : {A : Type 0} (mark : Kind) {item : Reader A} → closes mark ≡ false → IsSteady item → IsBare item
    → (found : List A) → IsSteady (λ j. separated_from mark item (length j.ahead) found j)
unfolding separated_from
listed mark {item = item} marks steady bare found =
    marked mark (λ s. item) (λ s x. s ++ x ∷ []) (separated_from mark item) (λ s i. refl) (λ n s i. refl) marks (λ s. steady) (λ s. bare) found

-- ---- chains

module _ (joint : Kind → Option Joint) (operand : Reader Syn) (ends : (kd : Kind) → closes kd ≡ true → joint kd ≡ None) (steady : IsSteady operand) where
  link_by : Syn → Option Joint → Reader (Turn Syn Syn)
  link_by left None = pure (Done left)
  link_by left (Some j) = operator >> operand >>= (λ right. pure (Again (join_operands j left right)))

  link : Syn → Reader (Turn Syn Syn)
  link left = peek >>= (λ kind. link_by left (joint kind))

  goes_by : (kd : Kind) (j : Joint) (b : Bool) → closes kd ≡ b → joint kd ≡ Some j → b ≡ false
  goes_by kd j true is e = absurd (some_none (sym e ∙ ends kd is))
  goes_by kd j false is e = refl

  goes : (kd : Kind) (j : Joint) → joint kd ≡ Some j → closes kd ≡ false
  goes kd j e = goes_by kd j (closes kd) refl e

  link_by_steady : (left : Syn) (kd : Kind) (o : Option Joint) → joint kd ≡ o → IsSteadyAt kd (link_by left o)
  unfolding link_by
  link_by_steady left kd None e = there (made (Done left))
  link_by_steady left kd (Some j) e = both_there (both_there (counted kd (goes kd j e)) (λ _. steady)) (λ right. made (Again (join_operands j left right)))

  link_steady : (left : Syn) → IsSteady (link left)
  unfolding link
  link_steady left = on_kind (λ kind. link_by left (joint kind)) (λ kind. link_by_steady left kind (joint kind) refl)

  out_same : (n : ℕ) (left : Syn) (j : Joint) (out : Outcome Syn)
      → and_then out (λ right. chained_from joint operand n (join_operands j left right))
      ≡ and_then (and_then out (λ right. pure (Again (join_operands j left right)))) (after_turn (chained_from joint operand n))
  out_same n left j (Ok p) = refl
  out_same n left j (Err e) = refl

  link_same : (n : ℕ) (left : Syn) (i : Input) (o : Option Joint)
      → chained_by (chained_from joint operand n) operand left o i ≡ and_then (link_by left o i) (after_turn (chained_from joint operand n))
  unfolding link_by
  link_same n left i None = refl
  link_same n left i (Some j) = out_same n left j (and_then (operator i) (λ _. operand))

  link_unrolls : (n : ℕ) (left : Syn) (i : Input)
      → chained_from joint operand (suc n) left i ≡ and_then (link left i) (after_turn (chained_from joint operand n))
  unfolding link chained_from
  link_unrolls n left i = link_same n left i (joint (kind i))

  link_ends : (left : Syn) (o : ℕ) → chained_from joint operand 0 left (none_left o) ≡ chained_from joint operand 1 left (none_left o)
  unfolding chained_from head
  link_ends left o = sym (ap (λ found. chained_by (chained_from joint operand 0) operand left found (none_left o)) (ends k.LineEnd refl))

  taken_at : (t : Token) (ts : List Token) (o : ℕ) (b : Bool) (m : Input)
      → Yields {A = Unit {0}} (if b then Err (At t.at) else Ok (tt, record { ahead = ts; operators = o - 1 })) tt m → length m.ahead ≡ length ts
  taken_at t ts o true m e = absurd (refused_yields e)
  taken_at t ts o false m e = sym (len_same (rest_same e))

  operator_takes : (t : Token) (ts : List Token) (o : ℕ) (m : Input) → Yields {A = Unit {0}} (operator (record { ahead = t ∷ ts; operators = o })) tt m → length m.ahead ≡ length ts
  unfolding operator head
  operator_takes t ts o m e = taken_at t ts o (o == 0) m e

  after_operand : (left more : Syn) (j : Joint) (i m : Input) (len : ℕ) (out : Outcome Syn) → operand i ≡ out → length i.ahead ≡ len
      → Yields {A = Turn Syn Syn} (and_then out (λ right. pure (Again (join_operands j left right)))) (Again more) m → length m.ahead ≤ len
  after_operand left more j i m len (Err f) was took e = absurd (refused_yields e)
  after_operand left more j i m len (Ok p) was took e =
      let less : length p.1.ahead ≤ length i.ahead = never_longer steady i p.1 p.0 was in
      let same : length p.1.ahead ≡ length m.ahead = len_same (rest_same e) in
      omega arith

  after_operator : (left more : Syn) (j : Joint) (m : Input) (len : ℕ) (out : Outcome (Unit {0})) → ((n : Input) → Yields {A = Unit {0}} out tt n → length n.ahead ≡ len)
      → Yields {A = Turn Syn Syn} (and_then (and_then out (λ _. operand)) (λ right. pure (Again (join_operands j left right)))) (Again more) m → length m.ahead ≤ len
  after_operator left more j m len (Err f) took e = absurd (refused_yields e)
  after_operator left more j m len (Ok p) took e = after_operand left more j p.1 m len (operand p.1) refl (took p.1 refl) e

  link_shrinks_by : (left more : Syn) (t : Token) (ts : List Token) (o : ℕ) (m : Input) (found : Option Joint)
      → Yields {A = Turn Syn Syn} (link_by left found (record { ahead = t ∷ ts; operators = o })) (Again more) m → suc (length m.ahead) ≤ suc (length ts)
  unfolding link_by
  link_shrinks_by left more t ts o m None e = absurd (not_done (value_same e))
  link_shrinks_by left more t ts o m (Some j) e =
      let less : length m.ahead ≤ length ts = after_operator left more j m (length ts) (operator (record { ahead = t ∷ ts; operators = o }))
      (λ n was. operator_takes t ts o n was) e in
      omega arith

  link_none : (left more : Syn) (o : ℕ) (m : Input) (found : Option Joint) → found ≡ None → Yields {A = Turn Syn Syn} (link_by left found (none_left o)) (Again more) m → ⊥
  unfolding link_by
  link_none left more o m None q e = not_done (value_same e)
  link_none left more o m (Some j) q e = some_none q

  link_shrinks_at : (left more : Syn) (xs : List Token) (o : ℕ) (m : Input) → Yields {A = Turn Syn Syn} (link left (record { ahead = xs; operators = o })) (Again more) m
      → suc (length m.ahead) ≤ length xs
  unfolding link head
  link_shrinks_at left more [] o m e = absurd (link_none left more o m (joint k.LineEnd) (ends k.LineEnd refl) e)
  link_shrinks_at left more (t ∷ ts) o m e = link_shrinks_by left more t ts o m (joint t.kind) e

  link_shrinks : (left : Syn) (i m : Input) (more : Syn) → link left i ≡ Ok (Again more, m) → suc (length m.ahead) ≤ length i.ahead
  link_shrinks left i m more e = link_shrinks_at left more i.ahead i.operators m e

  pub chained : (left : Syn) → IsSteady (λ j. chained_from joint operand (length j.ahead) left j)
  chained left = looped (chained_from joint operand) link link_unrolls link_ends link_steady link_shrinks left
