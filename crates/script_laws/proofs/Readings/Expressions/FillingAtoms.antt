-- What the forms of expressions say is read: from single operands to sums.
use Rattle.std.proofs.Common.{◌≡◌, ◌≢◌, ℕ, zero, suc, ◌-◌, ◌≤◌, Bool, true, false, if◌then◌else◌, ◌==◌, List, [], ◌∷◌, ◌++◌, Option, Some, None, refl, ap, sym, subst, ◌∙◌, append-nil, inl, inr, arith}
use Rattle.std.proofs.Math.Dec.{eqb-suc-zero}
use Rattle.base_core.specs.declared.value.ArithOp.TheVariants as op
use Rattle.expr_types.specs.declared.expr.Func.{Func}
use Rattle.expr_types.specs.declared.expr.Func.TheVariants as func
use Rattle.script_types.specs.declared.expression.Syn.{Syn}
use Rattle.script_types.specs.declared.expression.Syn.TheVariants as e
use Rattle.script_lex.specs.declared.kind.Kind.{Kind}
use Rattle.script_lex.specs.declared.kind.Kind.TheVariants as k
use Rattle.script_lex.specs.declared.token.Token.{Token}
use Rattle.script_lex.specs.Lex.{same_kind}
use Rattle.script_tokens.specs.Input.{Input, Reader, ◌>>=◌, ◌>>◌, pure, refuse, peek, take_token, expect, and_then, head, first_of}
use Rattle.script_tokens.specs.Names as n
use Rattle.script_tokens.specs.Names.{is_no_name}
use Rattle.script_tokens.specs.Literals as l
use Rattle.script_tokens.specs.Literals.{begins_literal}
use Rattle.script_expr.specs.declared.grammar.Level.{Level}
use Rattle.script_expr.specs.declared.grammar.Level.TheVariants as level
use Rattle.script_expr.specs.declared.expression.Joint.{Joint}
use Rattle.script_expr.specs.declared.expression.Joint.TheVariants as joint
use Rattle.script_expr.specs.Expr as r
use Rattle.script_laws.specs.Readings.Forms.Form.{Form, sequence, says, word, separated_list}
use Rattle.script_laws.specs.Readings.Forms.Basics as basic
use Rattle.script_laws.specs.Readings.Forms.Expressions as form
use Rattle.script_laws.proofs.Readings.Forms.Taking.{Inside, Enough}
use Rattle.script_laws.proofs.Readings.Opens.{opens}
use Rattle.script_laws.proofs.Readings.Forms.Filling.{given_as, Read, Complete, Opens, Begun, always, both, then_any, made, expected, taken, on_word, on_first, by_kind_read, word_begun, then_begun, either, word_opens, first_opens, either_opens}
use Rattle.script_laws.proofs.Readings.Forms.FillingBasics.{Solid, listed, named, closes}
use Rattle.script_laws.proofs.Readings.Expressions.FillingSteps.{unlike, only, onto, opens_onto, opens_less, solid_of, first_onto, separated_opens, on_opening, any_kind, seen, unseen, uneaten, eaten_then, Sign, sign, either_sign}
use Rattle.script_laws.proofs.Readings.Expressions.FillingKinds.{is_name, begins_atom, begins_sum, begins_expression, literal_begins_atom, name_begins_atom, atom_begins_sum, ends_product, ends_sum, ends_expression, sum_ends_product, closes_ends_expression, ends_product_joint, ends_sum_joint, sum_joint_ends_product}
use Rattle.script_laws.proofs.Readings.Expressions.FillingChains.{chain_read}
use Rattle.script_laws.proofs.Readings.Expressions.FillingLiterals.{literal_read, literal_opens, name_opens, source_read}

false_true : false ≡ true → ⊥
false_true e = cc

-- ---- a token that nests

deeper_by : (depth : ℕ) → depth ≢ 0 → (depth == 0) ≡ false
deeper_by zero some = absurd (some refl)
deeper_by (suc depth) some = eqb-suc-zero depth

pub nesting_begun : (depth : ℕ) (kd : Kind) (tokens : List Token) (count : ℕ) (u : Unit {0}) → form.nesting_token depth kd tokens count u → Begun kd tokens
nesting_begun depth kd tokens count u said = record { first = said.0; more = []; joined = said.1; is = said.2 }

nesting_up : (depth : ℕ) (kd : Kind) (tokens : List Token) (count : ℕ) (u : Unit {0}) → form.nesting_token depth kd tokens count u → word kd tokens count u
nesting_up depth kd tokens count u said = (said.0, said.1, said.2, said.4)

pub nesting_opens : (depth : ℕ) (kd : Kind) {next these : Kind → Bool} → these kd ≡ true → Opens (form.nesting_token depth kd) next these
nesting_opens depth kd is = opens_onto (nesting_up depth kd) (word_opens kd is)

-- A reader in which `depth` more may nest, and a form in which `room` more may: as many, or one more, where it is refused at a token behind which an expression
-- would nest.
pub data Fit (near depth room : ℕ) : Type 0 where
  Same : room ≡ depth → Fit near depth room
  OneMore : (n : ℕ) → near ≡ suc n → Fit near depth room

enter_run : (near depth room : ℕ) → depth ≢ 0 → (expr : Level → Reader Syn) (kd : Kind) (prefix rest : List Token) (count o : ℕ) (u : Unit {0})
    → form.nesting_token room kd prefix count u → Enough (Inside near) count o → Read (Inside near) (r.deeper depth expr kd) (prefix ++ rest) rest count o u
unfolding r.deeper
enter_run near depth room some expr kd prefix rest count o u said enough =
    let i : Input = record { ahead = prefix ++ rest; operators = o } in
    let read = (expected {mode = Inside near} kd).run prefix rest count o u (nesting_up room kd prefix count u said) enough refl in
    record { left = read.left; budget = read.budget; is = given_as (ap (λ b. if b then refuse i else expect kd i) (deeper_by depth some)) read.is }

enter_read : (near depth room : ℕ) → depth ≢ 0 → (expr : Level → Reader Syn) (kd : Kind) → Complete (Inside near) always (r.deeper depth expr kd) (form.nesting_token room kd)
enter_read near depth room some expr kd =
    record { run = λ prefix rest count o u said enough stop. enter_run near depth room some expr kd prefix rest count o u said enough }

-- where none may nest, this is refused
escape_by : {A : Type 0} (n : ℕ) (expr : Level → Reader Syn) (kd : Kind) → opens kd ≡ 1 → (p : Reader A) (t : Token) (ts rest : List Token) (count o : ℕ) (a : A) → t.kind ≡ kd
    → count ≤ o → Read (Inside (suc n)) (λ i. and_then (r.deeper zero expr kd i) (λ _. p)) (t ∷ ts) rest count o a
unfolding r.deeper head
escape_by n expr kd one p t ts rest count o a is few = record {
  left = o - count;
  budget = omega (arith, few);
  is = record { gives = inr (record { before = []; token = t; after = ts; joined = refl; nests = ap opens is ∙ one; is = refl }) };
}

none_run : {A : Type 0} (n room : ℕ) (expr : Level → Reader Syn) (kd : Kind) → opens kd ≡ 1 → (p : Reader A) (g : Form A) (prefix rest : List Token) (count o : ℕ) (a : A)
    → sequence (form.nesting_token room kd) (λ _. g) prefix count a → count ≤ o
    → Read (Inside (suc n)) (λ i. and_then (r.deeper zero expr kd i) (λ _. p)) (prefix ++ rest) rest count o a
none_run n room expr kd one p g prefix rest count o a said few =
    let w = said.1 in
    let t = w.first.0 in
    let tokens : prefix ≡ t ∷ w.rest = w.joined ∙ ap (λ ts. ts ++ w.rest) w.first.1 in
    subst (λ ts. Read (Inside (suc n)) (λ i. and_then (r.deeper zero expr kd i) (λ _. p)) (ts ++ rest) rest count o a) (sym tokens)
    (escape_by n expr kd one p t (w.rest ++ rest) rest count o a w.first.2 few)

nested_run : {A : Type 0} (near depth room : ℕ) → Fit near depth room → (expr : Level → Reader Syn) (kd : Kind) → opens kd ≡ 1 → (next : Kind → Bool) (p : Reader A) (g : Form A)
    → (depth ≢ 0 → Complete (Inside near) next p g) → (prefix rest : List Token) (count o : ℕ) (a : A)
    → sequence (form.nesting_token room kd) (λ _. g) prefix count a → count ≤ o → next (first_of rest).kind ≡ true
    → Read (Inside near) (λ i. and_then (r.deeper depth expr kd i) (λ _. p)) (prefix ++ rest) rest count o a
nested_run near depth room (Same is) expr kd one next p g cp prefix rest count o a said few stop =
    let some : depth ≢ 0 = λ none. said.1.first.3 (is ∙ none) in
    (then_any (enter_read near depth room some expr kd) (λ _. cp some)).run prefix rest count o a said few stop
nested_run near zero room (OneMore n is) expr kd one next p g cp prefix rest count o a said few stop =
    subst (λ m. Read (Inside m) (λ i. and_then (r.deeper zero expr kd i) (λ _. p)) (prefix ++ rest) rest count o a) (sym is)
    (none_run n room expr kd one p g prefix rest count o a said few)
nested_run near (suc depth) room (OneMore n is) expr kd one next p g cp prefix rest count o a said few stop =
    let some : suc depth ≢ 0 = omega arith in
    (then_any (enter_read near (suc depth) room some expr kd) (λ _. cp some)).run prefix rest count o a said few stop

-- a token that nests, and what stands behind it
pub nested : {A : Type 0} (near depth room : ℕ) → Fit near depth room → (expr : Level → Reader Syn) (kd : Kind) → opens kd ≡ 1 → {next : Kind → Bool} {p : Reader A} {g : Form A}
    → (depth ≢ 0 → Complete (Inside near) next p g)
    → Complete (Inside near) next (λ i. and_then (r.deeper depth expr kd i) (λ _. p)) (sequence (form.nesting_token room kd) (λ _. g))
nested near depth room fit expr kd one {next = next} {p = p} {g = g} cp =
    record { run = λ prefix rest count o a said few stop. nested_run near depth room fit expr kd one next p g cp prefix rest count o a said few stop }

-- ---- the functions

-- a name, which is that of a function
record Called (tokens : List Token) (count : ℕ) (f : Func) : Type 0 where
  first : Token
  joined : tokens ≡ first ∷ []
  is : r.function first.kind ≡ Some f
  bytes : List ℕ
  named : basic.name tokens count bytes

word_called : (kd : Kind) (called : Func) → r.function kd ≡ Some called → (tokens : List Token) (count : ℕ) (f : Func)
    → sequence (form.free_word kd) (λ _. says called) tokens count f → Called tokens count f
word_called kd called holds tokens count f said =
    let w = said.1 in
    let t = w.first.0.0 in
    let whole : w.prefix ≡ tokens = sym (w.joined ∙ ap (λ ts. w.prefix ++ ts) w.second.0 ∙ append-nil w.prefix) in
    let counts : w.prefix_count ≡ count = omega (arith, w.counted, w.second.1) in
    record {
      first = t;
      joined = sym whole ∙ w.first.0.1;
      is = subst (λ x. r.function t.kind ≡ Some x) (sym w.second.2) (ap r.function w.first.0.2 ∙ holds);
      bytes = w.first.1.0;
      named = subst (λ ts. basic.name ts count w.first.1.0) whole (subst (λ m. basic.name w.prefix m w.first.1.0) counts w.first.1.1);
    }

function_called : (tokens : List Token) (count : ℕ) (f : Func) → form.function tokens count f → Called tokens count f
function_called tokens count f (inl said) = word_called k.Count func.Count refl tokens count f said
function_called tokens count f (inr (inl said)) = word_called k.Sum func.Sum refl tokens count f said
function_called tokens count f (inr (inr (inl said))) = word_called k.Min func.Min refl tokens count f said
function_called tokens count f (inr (inr (inr (inl said)))) = word_called k.Max func.Max refl tokens count f said
function_called tokens count f (inr (inr (inr (inr (inl said))))) = word_called k.Lower func.Lower refl tokens count f said
function_called tokens count f (inr (inr (inr (inr (inr (inl said)))))) = word_called k.Upper func.Upper refl tokens count f said
function_called tokens count f (inr (inr (inr (inr (inr (inr (inl said))))))) = word_called k.Length func.Length refl tokens count f said
function_called tokens count f (inr (inr (inr (inr (inr (inr (inr said))))))) = word_called k.Coalesce func.Coalesce refl tokens count f said

function_opens : {next : Kind → Bool} → Opens form.function next is_name
function_opens {next = next} =
    record { run = λ tokens rest count f said stop. let c = function_called tokens count f said in (name_opens basic.no_words {next = next}).run tokens rest count c.bytes c.named stop }

free_opens : (kd : Kind) {next : Kind → Bool} → Opens (form.free_word kd) next is_name
free_opens kd {next = next} = record { run = λ tokens rest count u said stop. (name_opens basic.no_words {next = next}).run tokens rest count said.1.0 said.1.1 stop }

-- ---- joints

reader_joint : form.Joint → Joint
reader_joint form.Plus = joint.Arith op.Add
reader_joint form.Minus = joint.Arith op.Sub
reader_joint form.Times = joint.Arith op.Mul
reader_joint form.Beside = joint.Concat

joined_alike : (by : form.Joint) (left right : Syn) → r.join_operands (reader_joint by) left right ≡ form.operation_of by left right
unfolding reader_joint
joined_alike form.Plus left right = refl
joined_alike form.Minus left right = refl
joined_alike form.Times left right = refl
joined_alike form.Beside left right = refl

operator_sign : (kd : Kind) → Sign (form.operator kd) (λ found u. found ≡ kd) 1
operator_sign kd = record { run = λ tokens count u said. record { token = said.0; joined = said.1; counts = said.3; is = said.2 } }

product_sign : Sign form.product_joint (λ kd by. r.product_joint kd ≡ Some (reader_joint by)) 1
unfolding reader_joint
product_sign = sign k.Star (operator_sign k.Star) refl

sum_sign : Sign form.sum_joint (λ kd by. r.sum_joint kd ≡ Some (reader_joint by)) 1
unfolding reader_joint
sum_sign =
    either_sign (sign k.Plus (operator_sign k.Plus) refl)
    (either_sign (sign k.Minus (operator_sign k.Minus) refl)
    (either_sign (sign k.Signed (operator_sign k.Signed) refl) (sign k.Concat (operator_sign k.Concat) refl)))

-- ---- how operands begin

module _ (depth : ℕ) (inner : form.Place → Form Syn) where
  atom_opens : {next : Kind → Bool} → Opens (form.atom depth inner) next begins_atom
  atom_opens =
      either_opens (first_opens (opens_less literal_opens literal_begins_atom))
      (either_opens (first_opens (opens_less (name_opens basic.no_words) name_begins_atom))
      (either_opens (first_opens (opens_less (free_opens k.Count) name_begins_atom))
      (either_opens (first_opens (opens_less function_opens name_begins_atom))
      (either_opens (first_opens (word_opens k.Exists refl)) (first_opens (nesting_opens depth k.LParen refl))))))

  pub unary_opens : {next : Kind → Bool} → Opens (form.unary depth inner) next begins_sum
  unary_opens = either_opens (first_opens (nesting_opens depth k.Minus refl)) (opens_less atom_opens atom_begins_sum)

  pub sum_opens : {next : Kind → Bool} → Opens (form.sum depth inner) next begins_sum
  sum_opens = first_opens (first_opens unary_opens)

-- ---- operands. What nests in them is read where it ends, and begins as expressions do.

module _ (near depth room : ℕ) (fit : Fit near depth room) (inner : form.Place → Form Syn) (expr : Level → Reader Syn)
    (wholes : depth ≢ 0 → Complete (Inside near) ends_expression (expr level.Whole) (inner form.Anywhere))
    (unaries : depth ≢ 0 → Complete (Inside near) always (expr level.Unary) (inner form.BehindMinus)) (begins : Opens (inner form.Anywhere) always begins_expression) where
  close : {A : Type 0} (a : A) → Complete (Inside near) always (expect k.RParen >> pure a) (sequence (word k.RParen) (λ _. says a))
  close a = then_any (expected k.RParen) (λ _. made a)

  parenthesized_read : Complete (Inside near) always (r.parenthesized depth expr) (form.parenthesized room inner)
  unfolding r.parenthesized
  parenthesized_read = nested near depth room fit expr k.LParen refl (λ some. both (wholes some) (λ found. close found) (λ found. first_opens (word_opens k.RParen refl)))

  -- behind `exists`
  abbrev such : Form Syn
  such =
      sequence (form.nesting_token room k.LParen) (λ _. sequence form.source (λ from. sequence (word k.Where) (λ _. sequence (inner form.Anywhere) (λ found.
      sequence (word k.RParen) (λ _. says (e.Exists from found))))))

  such_read : Complete (Inside near) always (r.exists depth expr) such
  unfolding r.exists
  such_read =
      nested near depth room fit expr k.LParen refl (λ some. both source_read (λ from. then_any (expected k.Where) (λ _. both (wholes some) (λ found. close (e.Exists from found))
      (λ found. first_opens (word_opens k.RParen refl)))) (λ from. first_opens (word_opens k.Where refl)))

  -- ---- calls

  abbrev operands : Func → Form Syn
  operands f = sequence (separated_list k.Comma (inner form.Anywhere)) (λ found. sequence (word k.RParen) (λ _. says (e.Call f found)))

  abbrev all_rows : Form Syn
  all_rows = sequence (form.nesting_token room k.LParen) (λ _. sequence (word k.Star) (λ _. sequence (word k.RParen) (λ _. says e.CountAll)))

  inner_solid : Solid (inner form.Anywhere)
  unfolding is_no_name
  inner_solid = solid_of begins_expression begins refl

  operands_read : depth ≢ 0 → (f : Func) → Complete (Inside near) always (r.arguments depth expr >>= (λ found. expect k.RParen >> pure (e.Call f found))) (operands f)
  unfolding r.arguments
  operands_read some f =
      both (listed k.Comma ends_expression closes (wholes some) inner_solid refl closes_ends_expression (λ y e. unlike closes k.Comma refl y e)) (λ found. close (e.Call f found))
      (λ found. first_opens (word_opens k.RParen refl))

  operands_open : (f : Func) → Opens (operands f) always begins_expression
  operands_open f = first_opens (separated_opens k.Comma begins)

  abbrev star_or_operands : Func → Bool → Reader Syn
  star_or_operands f is_all = if is_all then expect k.RParen >> pure e.CountAll else (r.arguments depth expr >>= (λ found. expect k.RParen >> pure (e.Call f found)))

  inside_read : depth ≢ 0 → (f : Func) → Complete (Inside near) always (r.takes_all f >>= star_or_operands f) (operands f)
  unfolding r.takes_all is_no_name
  inside_read some func.Count = uneaten begins_expression k.Star (star_or_operands func.Count) (operands_open func.Count) refl (operands_read some func.Count)
  inside_read some func.Sum = operands_read some func.Sum
  inside_read some func.Min = operands_read some func.Min
  inside_read some func.Max = operands_read some func.Max
  inside_read some func.Lower = operands_read some func.Lower
  inside_read some func.Upper = operands_read some func.Upper
  inside_read some func.Length = operands_read some func.Length
  inside_read some func.Coalesce = operands_read some func.Coalesce

  operands_called : (f : Func) → Complete (Inside near) always (r.call depth expr f) (sequence (form.nesting_token room k.LParen) (λ _. operands f))
  unfolding r.call
  operands_called f = nested near depth room fit expr k.LParen refl (λ some. inside_read some f)

  all_called : Complete (Inside near) always (r.call depth expr func.Count) all_rows
  unfolding r.call r.takes_all
  all_called = nested near depth room fit expr k.LParen refl (λ some. eaten_then k.Star (star_or_operands func.Count) (close e.CountAll))

  called_read : (f : Func) (bytes : List ℕ) (g : Form Syn) → Opens g always (only k.LParen) → Complete (Inside near) always (r.call depth expr f) g
      → Complete (Inside near) always (r.called depth expr f bytes) g
  unfolding r.called
  called_read f bytes g og cp = seen k.LParen (r.call depth expr f) (r.path bytes) og cp

  abbrev named_at : Kind → Reader Syn
  named_at kd = n.name >>= (λ first. r.named_by depth expr first (r.function kd))

  -- ---- names

  dotted_read : (first : List ℕ) → Complete (Inside near) always (r.path first) (sequence (word k.Dot) (λ _. sequence basic.name (λ second. says (e.Path first second))))
  dotted_read first = then_any (expected k.Dot) (λ _. then_any named (λ second. made (e.Path first second)))

  path_by : (first : List ℕ) (f : Option Func)
      → Complete (Inside near) always (r.named_by depth expr first f) (sequence (word k.Dot) (λ _. sequence basic.name (λ second. says (e.Path first second))))
  unfolding r.called same_kind
  path_by first None = dotted_read first
  path_by first (Some f) = unseen (only k.Dot) k.LParen (r.call depth expr f) (r.path first) (first_opens (word_opens k.Dot refl)) refl (dotted_read first)

  path_read : Complete (Inside near) always (r.named depth expr) (form.path room inner)
  unfolding r.named
  path_read = any_kind named_at (λ kd. then_any named (λ first. path_by first (r.function kd)))

  count_all_read : Complete (Inside near) always (r.named depth expr) (form.count_all room inner)
  unfolding r.named same_kind
  count_all_read =
      on_first named_at k.Count (then_begun k.Count (form.free_word k.Count) (λ _. all_rows) (λ ts m u said. word_begun k.Count ts m u said.0))
      (onto (first_onto (form.free_word k.Count) basic.name all_rows (λ ts m u said. said.1))
      (then_any named (λ first. called_read func.Count first all_rows (first_opens (nesting_opens room k.LParen refl)) all_called)))

  call_by : (f : Func) → Complete (Inside near) always (n.name >>= (λ first. r.called depth expr f first)) (sequence basic.name (λ _. sequence (form.nesting_token room k.LParen) (λ _. operands f)))
  unfolding same_kind
  call_by f =
      then_any named (λ first. called_read f first (sequence (form.nesting_token room k.LParen) (λ _. operands f)) (first_opens (nesting_opens room k.LParen refl)) (operands_called f))

  call_run : (prefix rest : List Token) (count o : ℕ) (a : Syn) → form.call room inner prefix count a → Enough (Inside near) count o
      → Read (Inside near) (peek >>= named_at) (prefix ++ rest) rest count o a
  call_run prefix rest count o a said enough =
      let f = said.0 in
      let w = said.1 in
      let c = function_called w.prefix w.prefix_count f w.first in
      let tokens : prefix ≡ c.first ∷ w.rest = w.joined ∙ ap (λ ts. ts ++ w.rest) c.joined in
      let found : sequence basic.name (λ _. sequence (form.nesting_token room k.LParen) (λ _. operands f)) prefix count a =
      (c.bytes, record { prefix = w.prefix; rest = w.rest; prefix_count = w.prefix_count; rest_count = w.rest_count; joined = w.joined; counted = w.counted; first = c.named; second = w.second }) in
      let known : Read (Inside near) (n.name >>= (λ first. r.called depth expr f first)) (prefix ++ rest) rest count o a = (call_by f).run prefix rest count o a found enough refl in
      let read : Read (Inside near) (named_at c.first.kind) (prefix ++ rest) rest count o a =
      subst (λ x. Read (Inside near) (n.name >>= (λ first. r.named_by depth expr first x)) (prefix ++ rest) rest count o a) (sym c.is) known in
      subst (λ ts. Read (Inside near) (peek >>= named_at) (ts ++ rest) rest count o a) (sym tokens)
      (by_kind_read (Inside near) named_at c.first.kind c.first (w.rest ++ rest) rest count o a refl (subst (λ ts. Read (Inside near) (named_at c.first.kind) (ts ++ rest) rest count o a) tokens read))

  call_read : Complete (Inside near) always (r.named depth expr) (form.call room inner)
  unfolding r.named
  call_read = record { run = λ prefix rest count o a said enough stop. call_run prefix rest count o a said enough }

  -- ---- ATOM

  literal_kinds : (kd : Kind) → begins_literal kd ≡ true → r.atom_by depth expr kd ≡ (l.literal >>= (λ x. pure (e.Lit x)))
  literal_kinds k.Number e = refl
  literal_kinds k.Signed e = refl
  literal_kinds k.TextLiteral e = refl
  literal_kinds k.BytesLiteral e = refl
  literal_kinds k.True e = refl
  literal_kinds k.False e = refl
  literal_kinds _ e = absurd (false_true e)

  name_kinds : (kd : Kind) → is_name kd ≡ true → r.atom_by depth expr kd ≡ r.named depth expr
  unfolding is_no_name
  name_kinds k.LParen e = absurd (false_true e)
  name_kinds k.Exists e = absurd (false_true e)
  name_kinds k.Number e = absurd (false_true e)
  name_kinds k.Signed e = absurd (false_true e)
  name_kinds k.TextLiteral e = absurd (false_true e)
  name_kinds k.BytesLiteral e = absurd (false_true e)
  name_kinds k.True e = absurd (false_true e)
  name_kinds k.False e = absurd (false_true e)
  name_kinds _ e = refl

  existence_read : Complete (Inside near) always (take_token >> r.exists depth expr) (form.existence room inner)
  existence_read = then_any (taken k.Exists) (λ _. such_read)

  atom_read : Complete (Inside near) always (r.atom depth expr) (form.atom room inner)
  unfolding r.atom
  atom_read =
      either (on_opening begins_literal (r.atom_by depth expr) (first_opens literal_opens) literal_kinds (then_any literal_read (λ x. made (e.Lit x))))
      (either (on_opening is_name (r.atom_by depth expr) (first_opens (name_opens basic.no_words)) name_kinds path_read)
      (either (on_opening is_name (r.atom_by depth expr) (first_opens (free_opens k.Count)) name_kinds count_all_read)
      (either (on_opening is_name (r.atom_by depth expr) (first_opens function_opens) name_kinds call_read)
      (either (on_word (r.atom_by depth expr) k.Exists existence_read)
      (on_first (r.atom_by depth expr) k.LParen (then_begun k.LParen (form.nesting_token room k.LParen) _ (nesting_begun room k.LParen)) parenthesized_read)))))

  -- ---- UN, PROD, SUM

  atom_kinds : (kd : Kind) → begins_atom kd ≡ true → r.unary_by depth expr kd ≡ r.atom depth expr
  unfolding is_no_name
  atom_kinds k.Minus e = absurd (false_true e)
  atom_kinds _ e = refl

  pub unary_read : Complete (Inside near) always (r.unary depth expr) (form.unary room inner)
  unfolding r.unary
  unary_read =
      either (on_first (r.unary_by depth expr) k.Minus (then_begun k.Minus (form.nesting_token room k.Minus) _ (nesting_begun room k.Minus))
      (nested near depth room fit expr k.Minus refl (λ some. then_any (unaries some) (λ x. made (e.Neg x)))))
      (on_opening begins_atom (r.unary_by depth expr) (atom_opens room inner) atom_kinds atom_read)

  product_read : Complete (Inside near) ends_product (r.product depth expr) (form.product room inner)
  unfolding r.product r.factors
  product_read =
      chain_read near r.product_joint form.product_joint reader_joint (r.unary depth expr) (form.unary room inner) always ends_product unary_read product_sign (λ kd j is. refl)
      (λ y e. refl) ends_product_joint joined_alike

  pub sum_read : Complete (Inside near) ends_sum (r.sum depth expr) (form.sum room inner)
  unfolding r.sum r.summands
  sum_read =
      chain_read near r.sum_joint form.sum_joint reader_joint (r.product depth expr) (form.product room inner) ends_product ends_sum product_read sum_sign sum_joint_ends_product
      sum_ends_product ends_sum_joint joined_alike
