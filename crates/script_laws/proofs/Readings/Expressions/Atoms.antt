-- Atoms and unary minus are read as their forms say.
use Rattle.std.proofs.Common.{◌≡◌, ◌≢◌, ℕ, Bool, true, false, if◌then◌else◌, List, [], ◌∷◌, ◌++◌, Option, Some, None, Ok, Err, refl, ap, sym, subst, ◌∙◌, inl, inr}
use Rattle.expr_types.specs.declared.expr.Func.{Func}
use Rattle.expr_types.specs.declared.expr.Func.TheVariants as func
use Rattle.script_types.specs.declared.expression.Syn.{Syn}
use Rattle.script_types.specs.declared.expression.Syn.TheVariants as e
use Rattle.script_lex.specs.declared.kind.Kind.{Kind}
use Rattle.script_lex.specs.declared.kind.Kind.TheVariants as k
use Rattle.script_lex.specs.declared.token.Token.{Token}
use Rattle.script_tokens.specs.declared.fault.Fault.TheVariants.{At}
use Rattle.script_tokens.specs.Input.{Input, Outcome, Reader, ◌>>=◌, ◌>>◌, and_then, pure, expect, head, kind, sees, first_of}
use Rattle.script_tokens.specs.Names as n
use Rattle.script_tokens.specs.Literals as l
use Rattle.script_expr.specs.declared.grammar.Level.{Level}
use Rattle.script_expr.specs.declared.grammar.Level.TheVariants as level
use Rattle.script_expr.specs.Expr as r
use Rattle.script_laws.specs.Readings.Forms.Form.{Form, sequence, says, word, maybe, separated_list, ◌or◌}
use Rattle.script_laws.specs.Readings.Forms.Basics as basic
use Rattle.script_laws.specs.Readings.Forms.Expressions as form
use Rattle.script_laws.specs.Readings.Forms.Expressions.{Place, Anywhere, BehindMinus}
use Rattle.script_laws.proofs.Readings.Forms.Taking.{Mode, Inside, Budget, Took, Kept, Out, Whole, Sound, Inhabited}
use Rattle.script_laws.proofs.Readings.Forms.Steps.{whole_rest, both, both_taken, both_refused, at, made, some_made, some_both, some_left, some_right, some_word, right_of, within_out, refused_here, expected, on_kind}
use Rattle.script_laws.proofs.Readings.Forms.Options.{introduced}
use Rattle.script_laws.proofs.Readings.Forms.Lists.{listed, some_list}
use Rattle.script_laws.proofs.Readings.Forms.Basics.{named, some_name, literal_read, some_literal}
use Rattle.script_laws.proofs.Readings.Forms.Sequences.{then_says}
use Rattle.script_laws.proofs.Readings.Expressions.Steps.{Within, within, first_as, either_up, either_second, then_within, either_word, mapped}
use Rattle.script_laws.proofs.Readings.Expressions.Nesting.{Fits, place, nested_form, entered, by_depth, deeper_read, behind_nesting}

-- ---- sources

some_alias : Inhabited (maybe (sequence (word k.As) (λ _. basic.name)))
some_alias = record { tokens = []; value = None; said = (refl, refl) }

pub some_source : Inhabited form.source
some_source = some_both some_name (λ table. some_both some_alias (λ alias. some_made _))

pub source_read : {c : Mode} → Sound c r.source form.source
unfolding r.source
source_read = both named (λ table. both (introduced k.As refl named) (λ alias. made _) (λ alias. some_made _)) (λ table. some_both some_alias (λ alias. some_made _))

-- ---- names of functions

-- only `count` may stand before `(*)`
CountAt : Kind → Func → Type 0
CountAt kd func.Count = kd ≡ k.Count
CountAt kd _ = Unit {0}

-- a name of this kind names the function
record Calls (kd : Kind) (f : Func) : Type 0 where
  said : (t : Token) (bytes : List ℕ) → t.kind ≡ kd → basic.name (t ∷ []) 0 bytes → form.function (t ∷ []) 0 f
  count : CountAt kd f

CallsBy : Kind → Option Func → Type 0
CallsBy kd None = Unit {0}
CallsBy kd (Some f) = Calls kd f

calls : (kd : Kind) → CallsBy kd (r.function kd)
unfolding CallsBy CountAt
calls k.Count = record {
  said = λ t bytes is name. inl (then_says (form.free_word k.Count) func.Count (t ∷ []) 0 tt ((t, refl, is, refl), (bytes, name)));
  count = refl;
}
calls k.Sum = record {
  said = λ t bytes is name. inr (inl (then_says (form.free_word k.Sum) func.Sum (t ∷ []) 0 tt ((t, refl, is, refl), (bytes, name))));
  count = tt;
}
calls k.Min = record {
  said = λ t bytes is name. inr (inr (inl (then_says (form.free_word k.Min) func.Min (t ∷ []) 0 tt ((t, refl, is, refl), (bytes, name)))));
  count = tt;
}
calls k.Max = record {
  said = λ t bytes is name. inr (inr (inr (inl (then_says (form.free_word k.Max) func.Max (t ∷ []) 0 tt ((t, refl, is, refl), (bytes, name))))));
  count = tt;
}
calls k.Lower = record {
  said = λ t bytes is name. inr (inr (inr (inr (inl (then_says (form.free_word k.Lower) func.Lower (t ∷ []) 0 tt ((t, refl, is, refl), (bytes, name)))))));
  count = tt;
}
calls k.Upper = record {
  said = λ t bytes is name. inr (inr (inr (inr (inr (inl (then_says (form.free_word k.Upper) func.Upper (t ∷ []) 0 tt ((t, refl, is, refl), (bytes, name))))))));
  count = tt;
}
calls k.Length = record {
  said = λ t bytes is name. inr (inr (inr (inr (inr (inr (inl (then_says (form.free_word k.Length) func.Length (t ∷ []) 0 tt ((t, refl, is, refl), (bytes, name)))))))));
  count = tt;
}
calls k.Coalesce = record {
  said = λ t bytes is name. inr (inr (inr (inr (inr (inr (inr (then_says (form.free_word k.Coalesce) func.Coalesce (t ∷ []) 0 tt ((t, refl, is, refl), (bytes, name)))))))));
  count = tt;
}
calls _ = tt

-- ---- the two names of a path

path_rest : List ℕ → Form Syn
path_rest first = sequence (word k.Dot) (λ _. sequence basic.name (λ second. says (e.Path first second)))

some_path_rest : (first : List ℕ) → Inhabited (path_rest first)
unfolding path_rest
some_path_rest first = some_both (some_word k.Dot) (λ _. some_both some_name (λ second. some_made (e.Path first second)))

path_rest_read : {c : Mode} (first : List ℕ) → Sound c (r.path first) (path_rest first)
unfolding path_rest
path_rest_read first =
    both (expected k.Dot refl) (λ _. both named (λ second. made (e.Path first second)) (λ second. some_made (e.Path first second)))
    (λ _. some_both some_name (λ second. some_made (e.Path first second)))

-- the name that was read is that of a kind
taken_as : {B : Type 0} (c : Mode) (q : Form B) (b : B) (kd : Kind) (i j : Input) (first : List ℕ) → Took c basic.name i first j → kind i ≡ kd
    → ((t : Token) (bytes : List ℕ) → t.kind ≡ kd → basic.name (t ∷ []) 0 bytes → q (t ∷ []) 0 b) → Took c q i b j
unfolding head
taken_as c q b kd i j first took is up =
    let s = took.said in
    let t = s.0 in
    let tokens : i.ahead ≡ t ∷ j.ahead = took.joined ∙ ap (λ us. us ++ j.ahead) s.1 in
    record {
      prefix = t ∷ [];
      count = 0;
      joined = tokens;
      budget = subst (λ m. Budget c m i.operators j.operators) s.6 took.budget;
      said = up t first (sym (ap (λ us. (first_of us).kind) tokens) ∙ is) (t, refl, s.2, s.3, s.4, s.5, refl);
    }

-- what stands in the parentheses behind a function
arguments : Form Syn → Func → Form Syn
arguments argument f = sequence (separated_list k.Comma argument) (λ found. sequence (word k.RParen) (λ _. says (e.Call f found)))

star : Form Syn
star = sequence (word k.Star) (λ _. sequence (word k.RParen) (λ _. says e.CountAll))

inside_form : Form Syn → Func → Form Syn
inside_form argument func.Count = star or arguments argument func.Count
inside_form argument f = arguments argument f

-- what is read behind a function and its parenthesis
inside : ℕ → (Level → Reader Syn) → Func → Reader Syn
inside depth expr f = r.takes_all f >>= (λ is_all. if is_all then (expect k.RParen >> pure e.CountAll)
    else (r.arguments depth expr >>= (λ found. expect k.RParen >> pure (e.Call f found))))

module _ (depth : ℕ) (inner : Place → Form Syn) where
  literal_up : Within (sequence basic.literal (λ x. says (e.Lit x))) (form.atom depth inner)
  literal_up ts m a s = inl s

  path_up : Within (sequence basic.name path_rest) (form.atom depth inner)
  unfolding path_rest
  path_up ts m a s = inr (inl s)

  call_up : Within (sequence form.function (λ f. nested_form depth k.LParen (arguments (inner Anywhere) f))) (form.atom depth inner)
  unfolding arguments
  call_up ts m a s = inr (inr (inr (inl s)))

  count_all_up : Within (sequence (form.free_word k.Count) (λ _. nested_form depth k.LParen star)) (form.atom depth inner)
  unfolding star
  count_all_up ts m a s = inr (inr (inl s))

  count_call_up : Within (sequence (form.free_word k.Count) (λ _. nested_form depth k.LParen (arguments (inner Anywhere) func.Count))) (form.atom depth inner)
  count_call_up ts m a s =
      call_up ts m a (first_as (form.free_word k.Count) form.function func.Count (nested_form depth k.LParen (arguments (inner Anywhere) func.Count))
      (λ f. nested_form depth k.LParen (arguments (inner Anywhere) f)) (λ us l x said. inl (then_says (form.free_word k.Count) func.Count us l x said)) (λ us l x said. said) ts m a s)

  count_up : Within (sequence (form.free_word k.Count) (λ _. nested_form depth k.LParen (star or arguments (inner Anywhere) func.Count))) (form.atom depth inner)
  count_up ts m a s =
      either_up (sequence (form.free_word k.Count) (λ _. nested_form depth k.LParen star))
      (sequence (form.free_word k.Count) (λ _. nested_form depth k.LParen (arguments (inner Anywhere) func.Count))) (form.atom depth inner) count_all_up count_call_up ts m a
      (either_second (form.free_word k.Count) (λ _. nested_form depth k.LParen star) (λ _. nested_form depth k.LParen (arguments (inner Anywhere) func.Count)) ts m a
      (then_within (form.free_word k.Count) (λ _. nested_form depth k.LParen (star or arguments (inner Anywhere) func.Count))
      (λ _. nested_form depth k.LParen star or nested_form depth k.LParen (arguments (inner Anywhere) func.Count))
      (λ _. either_second (form.nesting_token depth k.LParen) (λ _. star) (λ _. arguments (inner Anywhere) func.Count)) ts m a s))

  existence_up : Within (sequence (word k.Exists) (λ _. nested_form depth k.LParen (sequence form.source (λ from. sequence (word k.Where) (λ _. sequence (inner Anywhere) (λ found.
      sequence (word k.RParen) (λ _. says (e.Exists from found)))))))) (form.atom depth inner)
  existence_up ts m a s = inr (inr (inr (inr (inl s))))

  parenthesized_up : Within (nested_form depth k.LParen (sequence (inner Anywhere) (λ found. sequence (word k.RParen) (λ _. says found)))) (form.atom depth inner)
  parenthesized_up ts m a s = inr (inr (inr (inr (inr s))))

  pub some_atom : Inhabited (form.atom depth inner)
  some_atom = some_left (some_both some_literal (λ x. some_made (e.Lit x)))

  pub some_unary : Inhabited (form.unary depth inner)
  some_unary = some_right some_atom

  minus_up : Within (nested_form depth k.Minus (sequence (inner BehindMinus) (λ x. says (e.Neg x)))) (form.unary depth inner)
  minus_up ts m a s = inl s

module _ (depth room near : ℕ) (fits : Fits depth room near) (expr : Level → Reader Syn) (inner : Place → Form Syn)
    (reads : depth ≢ 0 → (l : Level) → Sound (Inside near) (expr l) (inner (place l))) (somes : room ≢ 0 → (stands : Place) → Inhabited (inner stands)) where
  some_arguments : room ≢ 0 → (f : Func) → Inhabited (arguments (inner Anywhere) f)
  unfolding arguments
  some_arguments some f = some_both (some_list k.Comma (somes some Anywhere)) (λ found. some_both (some_word k.RParen) (λ _. some_made (e.Call f found)))

  arguments_read : depth ≢ 0 → (f : Func) → Sound (Inside near) (r.arguments depth expr >>= (λ found. expect k.RParen >> pure (e.Call f found))) (arguments (inner Anywhere) f)
  unfolding r.arguments arguments
  arguments_read some f =
      both (listed k.Comma refl (reads some level.Whole) (somes (fits.roomy some) Anywhere)) (λ found. both (expected k.RParen refl) (λ _. made (e.Call f found)) (λ _. some_made (e.Call f found)))
      (λ found. some_both (some_word k.RParen) (λ _. some_made (e.Call f found)))

  inside_read : depth ≢ 0 → (f : Func) → Sound (Inside near) (inside depth expr f) (inside_form (inner Anywhere) f)
  unfolding inside inside_form star r.takes_all
  inside_read some func.Count =
      either_word k.Star refl (both (expected k.RParen refl) (λ _. made e.CountAll) (λ _. some_made e.CountAll)) (arguments_read some func.Count)
  inside_read some f = arguments_read some f

  some_inside : room ≢ 0 → (f : Func) → Inhabited (inside_form (inner Anywhere) f)
  unfolding inside_form
  some_inside some func.Count = some_right (some_arguments some func.Count)
  some_inside some f = some_arguments some f

  -- what is read behind a function is behind its name
  called_up : (f : Func) (kd : Kind) → Calls kd f → (i j : Input) (first : List ℕ) → Took (Inside near) basic.name i first j → kind i ≡ kd → (out : Outcome Syn)
      → Kept (Inside near) (nested_form room k.LParen (inside_form (inner Anywhere) f)) j out → Kept (Inside near) (form.atom room inner) i out
  unfolding inside_form CountAt
  called_up func.Count kd calls i j first took is out kept =
      within_out (Inside near) (sequence (form.free_word k.Count) (λ _. nested_form room k.LParen (star or arguments (inner Anywhere) func.Count))) (form.atom room inner) i (count_up room inner) out
      (both_taken (Inside near) (form.free_word k.Count) (λ _. nested_form room k.LParen (star or arguments (inner Anywhere) func.Count)) i tt j
      (taken_as (Inside near) (form.free_word k.Count) tt kd i j first took is (λ t bytes same named. ((t, refl, same ∙ calls.count, refl), (bytes, named)))) out kept)
  called_up f kd calls i j first took is out kept =
      within_out (Inside near) (sequence form.function (λ f. nested_form room k.LParen (arguments (inner Anywhere) f))) (form.atom room inner) i (call_up room inner) out
      (both_taken (Inside near) form.function (λ f. nested_form room k.LParen (arguments (inner Anywhere) f)) i f j (taken_as (Inside near) form.function f kd i j first took is calls.said) out kept)

  -- behind a name
  path_at : (i j : Input) (first : List ℕ) → Took (Inside near) basic.name i first j → (out : Outcome Syn) → Kept (Inside near) (path_rest first) j out
      → Kept (Inside near) (form.atom room inner) i out
  path_at i j first took out kept =
      within_out (Inside near) (sequence basic.name path_rest) (form.atom room inner) i (path_up room inner) out (both_taken (Inside near) basic.name path_rest i first j took out kept)

  call_at : (f : Func) (kd : Kind) → Calls kd f → (i j : Input) (first : List ℕ) → Took (Inside near) basic.name i first j → kind i ≡ kd → Whole j.ahead
      → Kept (Inside near) (form.atom room inner) i (r.call depth expr f j)
  unfolding r.call inside
  call_at f kd calls i j first took is whole =
      by_depth depth room near fits expr (inside depth expr f) k.LParen j (Kept (Inside near) (form.atom room inner) i)
      (λ none. path_at i j first took (Err (At (head j).at)) (refused_here (Inside near) j (some_path_rest first)))
      (λ some. called_up f kd calls i j first took is (and_then (expect k.LParen j) (λ _. inside depth expr f))
      (entered depth room near fits expr k.LParen refl (fits.roomy some) (inside_read some f) (some_inside (fits.roomy some) f) j whole))

  called_by : (f : Func) (kd : Kind) → Calls kd f → (i j : Input) (first : List ℕ) → Took (Inside near) basic.name i first j → kind i ≡ kd → Whole j.ahead
      → (b : Bool) → Kept (Inside near) (form.atom room inner) i (if b then r.call depth expr f j else r.path first j)
  called_by f kd calls i j first took is whole true = call_at f kd calls i j first took is whole
  called_by f kd calls i j first took is whole false = path_at i j first took (r.path first j) ((path_rest_read first).run j whole)

  by_function : (found : Option Func) (kd : Kind) → CallsBy kd found → (i j : Input) (first : List ℕ) → Took (Inside near) basic.name i first j → kind i ≡ kd → Whole j.ahead
      → Kept (Inside near) (form.atom room inner) i (r.named_by depth expr first found j)
  unfolding CallsBy r.called
  by_function None kd calls i j first took is whole = path_at i j first took (r.path first j) ((path_rest_read first).run j whole)
  by_function (Some f) kd calls i j first took is whole = called_by f kd calls i j first took is whole (sees k.LParen j)

  named_by : (kd : Kind) (i : Input) → Whole i.ahead → kind i ≡ kd → (out : Outcome (List ℕ)) → Kept (Inside near) basic.name i out
      → Kept (Inside near) (form.atom room inner) i (and_then out (λ first. r.named_by depth expr first (r.function kd)))
  named_by kd i whole is (Ok p) took =
      by_function (r.function kd) kd (calls kd) i p.1 p.0 took is (whole_rest took.prefix p.1.ahead (subst Whole took.joined whole))
  named_by kd i whole is (Err f) refused =
      within_out (Inside near) (sequence basic.name path_rest) (form.atom room inner) i (path_up room inner) (Err f) (both_refused (Inside near) basic.name path_rest i f some_path_rest refused)

  -- a call of a function, or a source and its column
  named_read : Sound (Inside near) (r.named depth expr) (form.atom room inner)
  unfolding r.named
  named_read =
      on_kind (λ kd. n.name >>= (λ first. r.named_by depth expr first (r.function kd)))
      (λ kd i whole is. record { kept = named_by kd i whole is (n.name i) (named.run i whole) })

  -- ---- atoms

  literal_atom : Sound (Inside near) (l.literal >>= (λ x. pure (e.Lit x))) (form.atom room inner)
  literal_atom = within (mapped e.Lit literal_read) (literal_up room inner)

  parenthesized_read : Sound (Inside near) (r.parenthesized depth expr) (form.atom room inner)
  unfolding r.parenthesized
  parenthesized_read =
      deeper_read depth room near fits expr k.LParen refl
      (λ some. both (reads some level.Whole) (λ found. both (expected k.RParen refl) (λ _. made found) (λ _. some_made found)) (λ found. some_both (some_word k.RParen) (λ _. some_made found)))
      (λ some. some_both (somes some Anywhere) (λ found. some_both (some_word k.RParen) (λ _. some_made found))) (some_atom room inner) (parenthesized_up room inner)

  existence_at : (i : Input) → Whole i.ahead → kind i ≡ k.Exists → Out (Inside near) (form.atom room inner) i (r.atom_by depth expr k.Exists i)
  unfolding r.exists
  existence_at i whole is =
      behind_nesting depth room near fits expr k.Exists refl refl
      (λ some. both source_read (λ from. both (expected k.Where refl) (λ _. both (reads some level.Whole) (λ found. both (expected k.RParen refl) (λ _. made (e.Exists from found))
      (λ _. some_made (e.Exists from found)))
      (λ found. some_both (some_word k.RParen) (λ _. some_made (e.Exists from found))))
      (λ _. some_both (somes (fits.roomy some) Anywhere) (λ found. some_both (some_word k.RParen) (λ _. some_made (e.Exists from found)))))
      (λ from. some_both (some_word k.Where) (λ _. some_both (somes (fits.roomy some) Anywhere) (λ found. some_both (some_word k.RParen) (λ _. some_made (e.Exists from found))))))
      (λ some. some_both some_source (λ from. some_both (some_word k.Where) (λ _. some_both (somes some Anywhere) (λ found. some_both (some_word k.RParen)
      (λ _. some_made (e.Exists from found)))))) (some_atom room inner) (existence_up room inner) i whole is

  atom_at : (kd : Kind) (i : Input) → Whole i.ahead → kind i ≡ kd → Out (Inside near) (form.atom room inner) i (r.atom_by depth expr kd i)
  atom_at k.LParen i whole is = at parenthesized_read i whole
  atom_at k.Exists i whole is = existence_at i whole is
  atom_at k.Number i whole is = at literal_atom i whole
  atom_at k.Signed i whole is = at literal_atom i whole
  atom_at k.TextLiteral i whole is = at literal_atom i whole
  atom_at k.BytesLiteral i whole is = at literal_atom i whole
  atom_at k.True i whole is = at literal_atom i whole
  atom_at k.False i whole is = at literal_atom i whole
  atom_at _ i whole is = at named_read i whole

  pub atom_read : Sound (Inside near) (r.atom depth expr) (form.atom room inner)
  unfolding r.atom
  atom_read = on_kind (r.atom_by depth expr) atom_at

  -- ---- unary minus

  minus_read : Sound (Inside near) (λ i. and_then (r.deeper depth expr k.Minus i) (λ _. expr level.Unary >>= (λ x. pure (e.Neg x)))) (form.unary room inner)
  minus_read =
      deeper_read depth room near fits expr k.Minus refl (λ some. mapped e.Neg (reads some level.Unary)) (λ some. some_both (somes some BehindMinus) (λ x. some_made (e.Neg x))) (some_unary room inner) (minus_up room inner)

  unary_at : (kd : Kind) (i : Input) → Whole i.ahead → kind i ≡ kd → Out (Inside near) (form.unary room inner) i (r.unary_by depth expr kd i)
  unary_at k.Minus i whole is = at minus_read i whole
  unary_at _ i whole is = right_of (at atom_read i whole)

  pub unary_read : Sound (Inside near) (r.unary depth expr) (form.unary room inner)
  unfolding r.unary
  unary_read = on_kind (r.unary_by depth expr) unary_at
