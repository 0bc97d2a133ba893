-- What a form says is read: operands that are grouped to the left.
use Rattle.std.proofs.Common.{◌≡◌, ℕ, zero, suc, ◌+◌, ◌-◌, ◌≤◌, Bool, true, if◌then◌else◌, List, [], ◌∷◌, ◌++◌, length, Option, Some, None, Ok, refl, ap, sym, subst, ◌∙◌, append_assoc, append-nil, length-append, arith}
use Rattle.std.proofs.Math.Dec.{eqb-suc-zero}
use Rattle.script_types.specs.declared.expression.Syn.{Syn}
use Rattle.script_lex.specs.declared.kind.Kind.{Kind}
use Rattle.script_lex.specs.declared.token.Token.{Token}
use Rattle.script_tokens.specs.Input.{Input, Outcome, Reader, refuse, ◌>>=◌, and_then, head, operator, first_of}
use Rattle.script_expr.specs.declared.expression.Joint.{Joint}
use Rattle.script_expr.specs.Expr as r
use Rattle.script_expr.specs.Expr.{chained_from}
use Rattle.script_laws.specs.Readings.Forms.Form.{Form, sequence, says}
use Rattle.script_laws.specs.Readings.Forms.Expressions as form
use Rattle.script_laws.specs.Readings.Forms.Expressions.{many}
use Rattle.script_laws.proofs.Readings.Forms.Taking.{Inside}
use Rattle.script_laws.proofs.Readings.Forms.Filling.{given, given_as, given_behind, given_then, Read, Complete, both}
use Rattle.script_laws.proofs.Readings.Expressions.FillingSteps.{Sign}

-- a joint and the operand behind it
abbrev pub linked : Form form.Joint → Form Syn → Form (form.Joint × Syn)
linked joint operand = sequence joint (λ by. sequence operand (λ right. says (by, right)))

-- The reader's joints, by the kind of the next token, are those of the form; an operand is read where it stops.
module _ (near : ℕ) (joint : Kind → Option Joint) (marks : Form form.Joint) (named : form.Joint → Joint) (operand : Reader Syn) (operands : Form Syn) (s t : Kind → Bool)
    (cp : Complete (Inside near) s operand operands) (sg : Sign marks (λ kd by. joint kd ≡ Some (named by)) 1) (before : (kd : Kind) (j : Joint) → joint kd ≡ Some j → s kd ≡ true)
    (within : (y : Kind) → t y ≡ true → s y ≡ true) (ends : (y : Kind) → t y ≡ true → joint y ≡ None)
    (alike : (by : form.Joint) (left right : Syn) → r.join_operands (named by) left right ≡ form.operation_of by left right) where
  last_read : (n : ℕ) (left : Syn) (rest : List Token) (o : ℕ) → joint (first_of rest).kind ≡ None → Read (Inside near) (chained_from joint operand n left) rest rest 0 o left
  unfolding chained_from head
  last_read zero left rest o none = record { left = o; budget = omega arith; is = given refl }
  last_read (suc n) left rest o none = record {
    left = o;
    budget = omega arith;
    is = given (ap (λ j. r.chained_by (chained_from joint operand n) operand left j (record { ahead = rest; operators = o })) none);
  }

  operator_by : (u : Token) (ts : List Token) (o : ℕ) → operator (record { ahead = u ∷ ts; operators = suc o }) ≡ Ok (tt, record { ahead = ts; operators = o })
  unfolding operator
  operator_by u ts o =
      let less : suc o - 1 ≡ o = omega arith in
      ap {A = Bool} {B = Outcome (Unit {0})} (λ b. if b then refuse (record { ahead = u ∷ ts; operators = suc o }) else Ok (tt, record { ahead = ts; operators = suc o - 1 })) (eqb-suc-zero o)
      ∙ ap (λ m. Ok (tt, record { ahead = ts; operators = m })) less

  next_read : (n : ℕ) (left right a : Syn) (j : Joint) (u : Token) (fs ys rest : List Token) (l m o : ℕ) → joint u.kind ≡ Some j → (one : Read (Inside near) operand (fs ++ ys) ys l o right)
      → Read (Inside near) (chained_from joint operand n (r.join_operands j left right)) ys rest m one.left a
      → Read (Inside near) (chained_from joint operand (suc n) left) (u ∷ (fs ++ ys)) rest (1 + (l + m)) (suc o) a
  unfolding chained_from head
  next_read n left right a j u fs ys rest l m o some one two =
      let ts = fs ++ ys in
      let i : Input = record { ahead = u ∷ ts; operators = suc o } in
      record {
        left = two.left;
        budget = omega (arith, one.budget, two.budget);
        is = given_as (ap (λ found. r.chained_by (chained_from joint operand n) operand left found i) some
            ∙ ap (λ out. and_then (and_then out (λ _. operand)) (λ x. chained_from joint operand n (r.join_operands j left x))) (operator_by u ts o))
            (given_behind (given_then fs ys (λ x. chained_from joint operand n (r.join_operands j left x)) one.is two.is));
      }

  -- there are no more operands than tokens
  links_fit : (all : List (form.Joint × Syn)) (tokens : List Token) (count : ℕ) → many (linked marks operands) tokens count all → length all ≤ length tokens
  links_fit [] tokens count said = omega arith
  links_fit (a ∷ more) tokens count said =
      let v = said.first.1 in
      let one = sg.run v.prefix v.prefix_count said.first.0 v.first in
      let rest = links_fit more said.rest said.rest_count said.second in
      let whole : length tokens ≡ length said.prefix + length said.rest = ap length said.joined ∙ length-append said.prefix said.rest in
      let part : length said.prefix ≡ length v.prefix + length v.rest = ap length v.joined ∙ length-append v.prefix v.rest in
      let single : length v.prefix ≡ 1 = ap length one.joined in
      omega arith

  links_open : (all : List (form.Joint × Syn)) (tokens rest : List Token) (count : ℕ) → many (linked marks operands) tokens count all → t (first_of rest).kind ≡ true
      → s (first_of (tokens ++ rest)).kind ≡ true
  links_open [] tokens rest count said stop = subst (λ ts. s (first_of (ts ++ rest)).kind ≡ true) (sym said.0) (within (first_of rest).kind stop)
  links_open (a ∷ more) tokens rest count said stop =
      let v = said.first.1 in
      let one = sg.run v.prefix v.prefix_count said.first.0 v.first in
      let split : tokens ≡ one.token ∷ (v.rest ++ said.rest) = said.joined ∙ ap (λ ts. ts ++ said.rest) (v.joined ∙ ap (λ ts. ts ++ v.rest) one.joined) in
      subst (λ ts. s (first_of (ts ++ rest)).kind ≡ true) (sym split) (before one.token.kind (named said.first.0) one.is)

  links_read : (n : ℕ) (all : List (form.Joint × Syn)) (left : Syn) (prefix rest : List Token) (count o : ℕ) → length all ≤ n → many (linked marks operands) prefix count all → count ≤ o
      → t (first_of rest).kind ≡ true → Read (Inside near) (chained_from joint operand n left) (prefix ++ rest) rest count o (form.left_association left all)
  links_read n [] left prefix rest count o fits said enough stop =
      subst (λ ts. Read (Inside near) (chained_from joint operand n left) (ts ++ rest) rest count o left) (sym said.0)
      (subst (λ m. Read (Inside near) (chained_from joint operand n left) rest rest m o left) (sym said.1) (last_read n left rest o (ends (first_of rest).kind stop)))
  links_read zero (a ∷ more) left prefix rest count o fits said enough stop = absurd (omega arith)
  links_read (suc n) (a ∷ more) left prefix rest count zero fits said enough stop =
      let v = said.first.1 in
      let one = sg.run v.prefix v.prefix_count said.first.0 v.first in
      absurd (omega (arith, said.counted, v.counted, one.counts))
  links_read (suc n) (a ∷ more) left prefix rest count (suc o) fits said enough stop =
      let by = said.first.0 in
      let v = said.first.1 in
      let w = v.second.1 in
      let right = v.second.0 in
      let one = sg.run v.prefix v.prefix_count by v.first in
      let pair : a ≡ (by, right) = w.second.2 in
      let operand_tokens : v.rest ≡ w.prefix = w.joined ∙ ap (λ ts. w.prefix ++ ts) w.second.0 ∙ append-nil w.prefix in
      let split : prefix ≡ one.token ∷ (w.prefix ++ said.rest) =
      said.joined ∙ ap (λ ts. ts ++ said.rest) (v.joined ∙ ap (λ ts. ts ++ v.rest) one.joined) ∙ ap (λ ts. one.token ∷ (ts ++ said.rest)) operand_tokens in
      let tokens : one.token ∷ (w.prefix ++ (said.rest ++ rest)) ≡ prefix ++ rest =
      ap (λ ts. one.token ∷ ts) (sym (append_assoc w.prefix said.rest rest)) ∙ ap (λ ts. ts ++ rest) (sym split) in
      let counts : 1 + (w.prefix_count + said.rest_count) ≡ count = omega (arith, said.counted, v.counted, w.counted, w.second.1, one.counts) in
      let first : Read (Inside near) operand (w.prefix ++ (said.rest ++ rest)) (said.rest ++ rest) w.prefix_count o right =
      cp.run w.prefix (said.rest ++ rest) w.prefix_count o right w.first (omega (arith, counts)) (links_open more said.rest rest said.rest_count said.second stop) in
      let second : Read (Inside near) (chained_from joint operand n (r.join_operands (named by) left right)) (said.rest ++ rest) rest said.rest_count first.left
      (form.left_association (r.join_operands (named by) left right) more) =
      links_read n more (r.join_operands (named by) left right) said.rest rest said.rest_count first.left (omega arith) said.second (omega (arith, counts, first.budget)) stop in
      let read = next_read n left right (form.left_association (r.join_operands (named by) left right) more) (named by) one.token w.prefix (said.rest ++ rest) rest
      w.prefix_count said.rest_count o one.is first second in
      let said_so : form.left_association (r.join_operands (named by) left right) more ≡ form.left_association left (a ∷ more) =
      ap (λ x. form.left_association x more) (alike by left right) ∙ ap (λ x. form.left_association left (x ∷ more)) (sym pair) in
      subst (λ ts. Read (Inside near) (chained_from joint operand (suc n) left) ts rest count (suc o) (form.left_association left (a ∷ more))) tokens
      (subst (λ m. Read (Inside near) (chained_from joint operand (suc n) left) (one.token ∷ (w.prefix ++ (said.rest ++ rest))) rest m (suc o) (form.left_association left (a ∷ more))) counts
      (subst (λ x. Read (Inside near) (chained_from joint operand (suc n) left) (one.token ∷ (w.prefix ++ (said.rest ++ rest))) rest (1 + (w.prefix_count + said.rest_count)) (suc o) x) said_so read))

  abbrev links : Syn → Form Syn
  links first = sequence (many (linked marks operands)) (λ more. says (form.left_association first more))

  behind_by : (first : Syn) (prefix rest : List Token) (count o : ℕ) (a : Syn) → links first prefix count a → count ≤ o → t (first_of rest).kind ≡ true
      → Read (Inside near) (λ i. chained_from joint operand (length i.ahead) first i) (prefix ++ rest) rest count o a
  behind_by first prefix rest count o a said enough stop =
      let w = said.1 in
      let tokens : w.prefix ≡ prefix = sym (w.joined ∙ ap (λ ts. w.prefix ++ ts) w.second.0 ∙ append-nil w.prefix) in
      let counts : w.prefix_count ≡ count = omega (arith, w.counted, w.second.1) in
      let all : many (linked marks operands) prefix count said.0 =
      subst (λ ts. many (linked marks operands) ts count said.0) tokens (subst (λ m. many (linked marks operands) w.prefix m said.0) counts w.first) in
      let fits = links_fit said.0 prefix count all in
      let long = length-append prefix rest in
      let read = links_read (length (prefix ++ rest)) said.0 first prefix rest count o (omega arith) all enough stop in
      subst (λ x. Read (Inside near) (λ i. chained_from joint operand (length i.ahead) first i) (prefix ++ rest) rest count o x) (sym w.second.2)
      (record { left = read.left; budget = read.budget; is = read.is })

  behind_opens : (first : Syn) (tokens rest : List Token) (count : ℕ) (a : Syn) → links first tokens count a → t (first_of rest).kind ≡ true
      → s (first_of (tokens ++ rest)).kind ≡ true
  behind_opens first tokens rest count a said stop =
      let w = said.1 in
      let same_tokens : w.prefix ≡ tokens = sym (w.joined ∙ ap (λ ts. w.prefix ++ ts) w.second.0 ∙ append-nil w.prefix) in
      subst (λ ts. s (first_of (ts ++ rest)).kind ≡ true) same_tokens (links_open said.0 w.prefix rest w.prefix_count w.first stop)

  pub chain_read : Complete (Inside near) t (operand >>= (λ first i. chained_from joint operand (length i.ahead) first i)) (form.chain marks operands)
  chain_read =
      both cp (λ first. record { run = behind_by first }) (λ first. record { run = behind_opens first })
