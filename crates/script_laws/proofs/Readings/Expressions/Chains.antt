-- Operands with joints between, and lists of operands, are read as their forms say.
use Rattle.std.proofs.Common.{◌≡◌, ◌≢◌, ℕ, zero, suc, ◌+◌, ◌-◌, Bool, true, false, if◌then◌else◌, ◌==◌, List, [], ◌∷◌, ◌++◌, drop, length, Option, Some, None, Ok, Err, refl, ap, sym, subst, ◌∙◌, append-nil, append_assoc, inl, inr, arith}
use Rattle.std.proofs.lemmas.Bool.{eqb-false}
use Rattle.script_types.specs.declared.expression.Syn.{Syn}
use Rattle.script_lex.specs.declared.kind.Kind.{Kind}
use Rattle.script_lex.specs.declared.token.Token.{Token}
use Rattle.script_tokens.specs.declared.fault.Fault.TheVariants.{At}
use Rattle.script_tokens.specs.Input.{Input, Reader, ◌>>=◌, and_then, pure, eat, head, kind, first_of, operator, separated_from}
use Rattle.script_expr.specs.declared.expression.Joint.{Joint}
use Rattle.script_expr.specs.Expr as r
use Rattle.script_laws.specs.Readings.Forms.Form.{Form, sequence, says, word, separated_list, ◌or◌}
use Rattle.script_laws.specs.Readings.Forms.Expressions as form
use Rattle.script_laws.specs.Readings.Forms.Expressions.{many, one_or_list}
use Rattle.script_laws.proofs.Readings.Forms.Taking.{Inside, Took, Kept, Whole, Sound, Inhabited}
use Rattle.script_laws.proofs.Readings.Forms.Steps.{budget_none, is_end, whole_next, both, both_taken, made, some_made, some_both, some_left, some_right, within_out, refused_here}
use Rattle.script_laws.proofs.Readings.Forms.Options.{if_word}
use Rattle.script_laws.proofs.Readings.Forms.Lists.{joined_three, listed_behind}
use Rattle.script_laws.proofs.Readings.Forms.Sequences.{paired, then_value}
use Rattle.script_laws.proofs.Readings.Expressions.Steps.{Within, within, grouped_left, none_before, mapped}

pub some_many : {A : Type 0} (item : Form A) → Inhabited (many item)
some_many item = record { tokens = []; value = []; said = (refl, refl) }

-- ---- operands with joints between

-- a token of this kind is the joint of the form
pub record Joins (joint : Form form.Joint) (kd : Kind) (j : Joint) : Type 0 where
  pub by : form.Joint
  pub not_end : is_end kd ≡ false
  pub said : (t : Token) → t.kind ≡ kd → joint (t ∷ []) 1 by
  pub joined : (left right : Syn) → r.join_operands j left right ≡ form.operation_of by left right

abbrev pub JoinsBy : Form form.Joint → Kind → Option Joint → Type 0
JoinsBy joint kd None = Unit {0}
JoinsBy joint kd (Some j) = Joins joint kd j

-- a joint and an operand
abbrev pub step : Form form.Joint → Form Syn → Form (form.Joint × Syn)
step joint operand = sequence joint (λ by. sequence operand (λ right. says (by, right)))

-- what stands behind an operand
abbrev pub rest : Form form.Joint → Form Syn → Syn → Form Syn
rest joint operand left = sequence (many (step joint operand)) (λ more. says (form.left_association left more))

some_rest : (joint : Form form.Joint) (operand : Form Syn) (left : Syn) → Inhabited (rest joint operand left)
some_rest joint operand left = some_both (some_many (step joint operand)) (λ more. some_made (form.left_association left more))

no_more : (joint : Form form.Joint) (operand : Form Syn) (left : Syn) → Within (says left) (rest joint operand left)
no_more joint operand left ts n a s = none_before (many (step joint operand)) (λ more. says (form.left_association left more)) [] (refl, refl) ts n a s

one_more : (joint : Form form.Joint) (operand : Form Syn) (left : Syn)
    → Within (sequence joint (λ by. sequence operand (λ right. rest joint operand (form.operation_of by left right)))) (rest joint operand left)
one_more joint operand left ts n b s =
    let one = s.1 in
    let two = one.second.1 in
    let three = two.second.1 in (
      (s.0, one.second.0) ∷ two.second.0,
      record {
        prefix = one.prefix ++ (two.prefix ++ three.prefix);
        rest = three.rest;
        prefix_count = one.prefix_count + (two.prefix_count + three.prefix_count);
        rest_count = three.rest_count;
        joined = one.joined ∙ ap (λ us. one.prefix ++ us) (two.joined ∙ ap (λ us. two.prefix ++ us) three.joined) ∙ joined_three one.prefix two.prefix three.prefix three.rest;
        counted = omega (arith, one.counted, two.counted, three.counted);
        first = record {
          prefix = one.prefix ++ two.prefix;
          rest = three.prefix;
          prefix_count = one.prefix_count + two.prefix_count;
          rest_count = three.prefix_count;
          joined = sym (append_assoc one.prefix two.prefix three.prefix);
          counted = omega arith;
          first = paired joint (λ by. sequence operand (λ right. says (by, right))) s.0 (s.0, one.second.0) one.prefix two.prefix one.prefix_count two.prefix_count one.first
              (then_value operand (λ right. (s.0, right)) two.prefix two.prefix_count one.second.0 two.first);
          second = three.first;
        };
        second = three.second;
      },
    )

module _ (depth : ℕ) (joints : Kind → Option Joint) (joint : Form form.Joint) (joins : (kd : Kind) → JoinsBy joint kd (joints kd)) (p : Reader Syn) (operand : Form Syn)
    (operand_read : Sound (Inside depth) p operand) where
  -- behind the joint
  behind : (left : Syn) (j : Joint) (kd : Kind) → Joins joint kd j → (more : Syn → Reader Syn) → ((left : Syn) → Sound (Inside depth) (more left) (rest joint operand left))
      → (xs : List Token) (o : ℕ) → (first_of xs).kind ≡ kd → o ≢ 0 → Whole xs
      → Kept (Inside depth) (rest joint operand left) (record { ahead = xs; operators = o })
      (and_then (p (record { ahead = drop 1 xs; operators = o - 1 })) (λ right. more (r.join_operands j left right)))
  behind left j kd joins more rec [] o is some whole = absurd (true_false (ap is_end is ∙ joins.not_end))
    where
      true_false : true ≡ false → ⊥
      true_false e = cc
  behind left j kd joins more rec (t ∷ ts) o is some whole =
      let i : Input = record { ahead = t ∷ ts; operators = o } in
      let m : Input = record { ahead = ts; operators = o - 1 } in
      let out = and_then (p m) (λ right. more (r.join_operands j left right)) in
      let took : Took (Inside depth) joint i joins.by m = record { prefix = t ∷ []; count = 1; joined = refl; budget = omega (arith, some); said = joins.said t is } in
      let turn : Sound (Inside depth) (p >>= (λ right. more (r.join_operands j left right))) (sequence operand (λ right. rest joint operand (form.operation_of joins.by left right))) =
      both operand_read (λ right. subst (λ x. Sound (Inside depth) (more (r.join_operands j left right)) (rest joint operand x)) (joins.joined left right) (rec (r.join_operands j left right)))
      (λ right. some_rest joint operand (form.operation_of joins.by left right)) in
      within_out (Inside depth) (sequence joint (λ by. sequence operand (λ right. rest joint operand (form.operation_of by left right)))) (rest joint operand left) i
      (one_more joint operand left) out
      (both_taken (Inside depth) joint (λ by. sequence operand (λ right. rest joint operand (form.operation_of by left right))) i joins.by m took out (turn.run m (whole_next (t ∷ ts) whole)))

  counted_by : (left : Syn) (j : Joint) (kd : Kind) → Joins joint kd j → (more : Syn → Reader Syn) → ((left : Syn) → Sound (Inside depth) (more left) (rest joint operand left))
      → (xs : List Token) (o : ℕ) → (first_of xs).kind ≡ kd → Whole xs → (b : Bool) → (o == 0) ≡ b
      → Kept (Inside depth) (rest joint operand left) (record { ahead = xs; operators = o })
      (and_then (and_then {A = Unit {0}} (if b then Err (At (first_of xs).at) else Ok (tt, record { ahead = drop 1 xs; operators = o - 1 })) (λ _. p)) (λ right. more (r.join_operands j left right)))
  unfolding head
  counted_by left j kd joins more rec xs o is whole true none = refused_here (Inside depth) (record { ahead = xs; operators = o }) (some_rest joint operand left)
  counted_by left j kd joins more rec xs o is whole false some = behind left j kd joins more rec xs o is (eqb-false o 0 some) whole

  by_joint : (left : Syn) (more : Syn → Reader Syn) → ((left : Syn) → Sound (Inside depth) (more left) (rest joint operand left))
      → (i : Input) → Whole i.ahead → (found : Option Joint) → JoinsBy joint (kind i) found
      → Kept (Inside depth) (rest joint operand left) i (r.chained_by more p left found i)
  unfolding operator head
  by_joint left more rec i whole None joins = record {
    prefix = [];
    count = 0;
    joined = refl;
    budget = budget_none (Inside depth) i.operators;
    said = ([], record { prefix = []; rest = []; prefix_count = 0; rest_count = 0; joined = refl; counted = refl; first = (refl, refl); second = (refl, refl, refl) });
  }
  by_joint left more rec i whole (Some j) joins = counted_by left j (first_of i.ahead).kind joins more rec i.ahead i.operators refl whole (i.operators == 0) refl

  turns_read : (n : ℕ) (left : Syn) → Sound (Inside depth) (r.chained_from joints p n left) (rest joint operand left)
  unfolding r.chained_from
  turns_read zero left = within (made left) (no_more joint operand left)
  turns_read (suc n) left = record {
    run = λ i whole. by_joint left (r.chained_from joints p n) (turns_read n) i whole (joints (kind i)) (joins (kind i));
  }

  -- an operand, and those that joints put behind it
  pub chain_read : Sound (Inside depth) (p >>= (λ first i. r.chained_from joints p (length i.ahead) first i)) (form.chain joint operand)
  chain_read =
      both operand_read (λ first. record { run = λ i whole. (turns_read (length i.ahead) first).run i whole }) (λ first. some_rest joint operand first)

pub some_chain : (joint : Form form.Joint) {operand : Form Syn} → Inhabited operand → Inhabited (form.chain joint operand)
some_chain joint {operand = operand} any = some_both any (λ first. some_rest joint operand first)

-- ---- lists of operands

-- what stands behind the first operand
abbrev pub behind_first : Kind → (List Syn → Syn) → Form Syn → Syn → Form Syn
behind_first mark list g first = sequence (word mark) (λ _. sequence (sequence (separated_list mark g) (λ more. says (first ∷ more))) (λ all. says (list all))) or says first

list_by : (mark : Kind) (list : List Syn → Syn) (g : Form Syn) (first : Syn) (ts prefix rest : List Token) (n m l : ℕ) (a : Syn) → ts ≡ prefix ++ rest → n ≡ m + l → g prefix m first
    → behind_first mark list g first rest l a → one_or_list mark list g ts n a
list_by mark list g first ts prefix rest n m l a joined counted said (inl more) =
    let items : Syn → Form (List Syn) = λ x. sequence (separated_list mark g) (λ xs. says (x ∷ xs)) in
    let made_of : List Syn → Form Syn = λ all. says (list all) in
    inr (grouped_left g (λ x. sequence (word mark) (λ _. items x)) made_of ts n a (
      first,
      record {
        prefix = prefix;
        rest = rest;
        prefix_count = m;
        rest_count = l;
        joined = joined;
        counted = counted;
        first = said;
        second = grouped_left (word mark) (λ _. items first) made_of rest l a more;
      },
    ))
list_by mark list g first ts prefix rest n m l a joined counted said (inr only) =
    let tokens : prefix ≡ ts = sym (joined ∙ ap (λ us. prefix ++ us) only.0 ∙ append-nil prefix) in
    let counts : m ≡ n = omega (arith, counted, only.1) in
    inl (subst (λ x. g ts n x) (sym only.2) (subst (λ k. g ts k first) counts (subst (λ us. g us m first) tokens said)))

list_up : (mark : Kind) (list : List Syn → Syn) (g : Form Syn) → Within (sequence g (behind_first mark list g)) (one_or_list mark list g)
list_up mark list g ts n a s =
    let w = s.1 in
    list_by mark list g s.0 ts w.prefix w.rest n w.prefix_count w.rest_count a w.joined w.counted w.first w.second

-- one operand, or a list of them
pub one_or_list_read : {depth : ℕ} (mark : Kind) (list : List Syn → Syn) {p : Reader Syn} {g : Form Syn} → is_end mark ≡ false → Sound (Inside depth) p g → Inhabited g
    → Sound (Inside depth)
    (p >>= (λ first. eat mark >>= (λ more. if more then ((λ i. separated_from mark p (length i.ahead) (first ∷ []) i) >>= (λ all. pure (list all))) else pure first)))
    (one_or_list mark list g)
one_or_list_read {depth = depth} mark list {p = p} {g = g} not_end sp any =
    within
    (both sp (λ first. if_word mark first {h = behind_first mark list g first} not_end (mapped list (listed_behind mark not_end sp any first)) (λ ts n a s. inl s) (inr (refl, refl, refl)))
    (λ first. some_right (some_made first)))
    (list_up mark list g)

pub some_one_or_list : (mark : Kind) (list : List Syn → Syn) {g : Form Syn} → Inhabited g → Inhabited (one_or_list mark list g)
some_one_or_list mark list any = some_left any
