-- Lines of the block of a table are read as their forms say.
use Rattle.std.proofs.Common.{◌≡◌, ℕ, nat_le, Bool, true, false, if◌then◌else◌, List, [], ◌∷◌, Some, None, refl, ap}
use Rattle.schema_core.specs.declared.table.ColumnKind.TheVariants as column
use Rattle.script_types.specs.declared.command.Command.TheVariants as c
use Rattle.script_lex.specs.declared.kind.Kind.{Kind}
use Rattle.script_lex.specs.declared.kind.Kind.TheVariants as k
use Rattle.script_lex.specs.declared.token.Content.{Content}
use Rattle.script_lex.specs.declared.token.Content.TheVariants as content
use Rattle.script_lex.specs.declared.token.Token.{Token}
use Rattle.script_tokens.specs.Input.{Input, head, kind, next, first_of}
use Rattle.script_tokens.specs.Names as n
use Rattle.script_tokens.specs.Literals.{int_by}
use Rattle.script_blocks.specs.Blocks as r
use Rattle.script_laws.specs.Readings.Forms.Form.{Form, sequence, says, word, maybe, whether}
use Rattle.script_laws.specs.Readings.Forms.TableLines as form
use Rattle.script_laws.proofs.Readings.Forms.Taking.{Mode, Kept, Out, Whole, Sound, Inhabited}
use Rattle.script_laws.proofs.Readings.Forms.Steps.{budget_none, both, both_at, made, some_both, some_made, some_left, some_word, left_of, right_of, refused_here, refused_at, expected, behind_word, on_kind}
use Rattle.script_laws.proofs.Readings.Forms.Options.{if_word, bracket_up, two_words}
use Rattle.script_laws.proofs.Readings.Forms.Basics.{name_at, named, number, some_name, names_read, some_names}

-- ---- lengths

some_length : Inhabited form.length
some_length = record { tokens = number ∷ []; value = 0; said = (number, refl, refl, refl, refl, refl) }

length_within : (c : Mode) (t : Token) (ts : List Token) (o : ℕ) (m : ℕ) → t.kind ≡ k.Number → t.content ≡ content.Number m → (fits : Bool)
    → nat_le m 4294967295 ≡ fits
    → Kept c form.length (record { ahead = t ∷ ts; operators = o }) (int_by (if fits then Some m else None) (record { ahead = t ∷ ts; operators = o }))
unfolding next head
length_within c t ts o m is holds true fits = record { prefix = t ∷ []; count = 0; joined = refl; budget = budget_none c o; said = (t, refl, is, holds, fits, refl) }
length_within c t ts o m is holds false fits = refused_here _ (record { ahead = t ∷ ts; operators = o }) some_length

length_by : (c : Mode) (t : Token) (ts : List Token) (o : ℕ) (kd : Kind) → t.kind ≡ kd → (held : Content) → t.content ≡ held
    → Kept c form.length (record { ahead = t ∷ ts; operators = o }) (int_by (r.length_in kd held) (record { ahead = t ∷ ts; operators = o }))
length_by c t ts o k.Number is (content.Number m) holds = length_within _ t ts o m is holds (nat_le m 4294967295) refl
length_by c t ts o _ is _ holds = refused_here _ (record { ahead = t ∷ ts; operators = o }) some_length

length_at : (c : Mode) (xs : List Token) (o : ℕ)
    → Kept c form.length (record { ahead = xs; operators = o }) (int_by (r.length_in (first_of xs).kind (first_of xs).content) (record { ahead = xs; operators = o }))
length_at c [] o = refused_here _ (record { ahead = []; operators = o }) some_length
length_at c (t ∷ ts) o = length_by _ t ts o t.kind refl t.content refl

length_read : {c : Mode} → Sound c r.text_length form.length
unfolding r.text_length head
length_read = record { run = λ i whole. length_at _ i.ahead i.operators }

-- ---- types

length_if_any_read : {c : Mode} → Sound c r.length_if_any (maybe (sequence (word k.LParen) (λ _. sequence form.length (λ n. sequence (word k.RParen) (λ _. says n)))))
unfolding r.length_if_any
length_if_any_read =
    if_word k.LParen None refl
    (both length_read (λ n. both (expected k.RParen refl) (λ _. made (Some n)) (λ _. some_made (Some n))) (λ n. some_both (some_word k.RParen) (λ _. some_made (Some n))))
    (bracket_up k.LParen k.RParen form.length) (refl, refl)

some_type : Inhabited form.column_type
some_type = some_left (some_both (some_word k.Integer) (λ _. some_made column.Integer))

no_length : Inhabited (maybe (sequence (word k.LParen) (λ _. sequence form.length (λ n. sequence (word k.RParen) (λ _. says n)))))
no_length = record { tokens = []; value = None; said = (refl, refl) }

type_by : {c : Mode} (kd : Kind) (i : Input) → Whole i.ahead → kind i ≡ kd → Out c form.column_type i (r.column_kind_by kd i)
type_by k.Integer i whole is = left_of (behind_word k.Integer refl (made column.Integer) (some_made column.Integer) i whole is)
type_by k.Varchar i whole is =
    right_of (left_of (behind_word k.Varchar refl (both length_if_any_read (λ n. made (column.Varchar n)) (λ n. some_made (column.Varchar n)))
    (some_both no_length (λ n. some_made (column.Varchar n))) i whole is))
type_by k.Text i whole is = right_of (right_of (left_of (behind_word k.Text refl (made column.Text) (some_made column.Text) i whole is)))
type_by k.Boolean i whole is = right_of (right_of (right_of (left_of (behind_word k.Boolean refl (made column.Boolean) (some_made column.Boolean) i whole is))))
type_by k.Bytes i whole is = right_of (right_of (right_of (right_of (behind_word k.Bytes refl (made column.Bytes) (some_made column.Bytes) i whole is))))
type_by _ i whole is = refused_at some_type i

type_read : {c : Mode} → Sound c r.column_kind form.column_type
unfolding r.column_kind
type_read = on_kind r.column_kind_by type_by

-- ---- the lines

some_whether : (p : Form (Unit {0})) → Inhabited (whether p)
some_whether p = record { tokens = []; value = false; said = (refl, refl) }

no_key : Inhabited (whether (sequence (word k.Primary) (λ _. word k.Key)))
no_key = some_whether (sequence (word k.Primary) (λ _. word k.Key))

no_null : Inhabited (whether (sequence (word k.Not) (λ _. word k.Null)))
no_null = some_whether (sequence (word k.Not) (λ _. word k.Null))

column_at : {c : Mode} (i : Input) → Whole i.ahead → form.is_line_word (kind i) ≡ false → Out c form.column_line i (r.column i)
unfolding r.column
column_at i whole other =
    both_at n.name i whole (name_at _ form.is_line_word refl i other)
    (λ called. both type_read (λ type. both (two_words k.Primary k.Key refl refl) (λ key. both (two_words k.Not k.Null refl refl) (λ nn. made _) (λ nn. some_made _))
    (λ key. some_both no_null (λ nn. some_made _)))
    (λ type. some_both no_key (λ key. some_both no_null (λ nn. some_made _))))
    (λ called. some_both some_type (λ type. some_both no_key (λ key. some_both no_null (λ nn. some_made _))))

line_by : {c : Mode} (kd : Kind) (i : Input) → Whole i.ahead → kind i ≡ kd → Out c form.table_line i (r.table_line_by kd i)
unfolding r.foreign
line_by k.End i whole is = right_of (right_of (right_of (behind_word k.End refl (made c.End) (some_made c.End) i whole is)))
line_by k.Unique i whole is =
    right_of (left_of (behind_word k.Unique refl (both names_read (λ found. made (c.UniqueLine found)) (λ found. some_made (c.UniqueLine found)))
    (some_both some_names (λ found. some_made (c.UniqueLine found))) i whole is))
line_by k.Foreign i whole is =
    right_of (right_of (left_of (behind_word k.Foreign refl
    (both (expected k.Key refl) (λ _. both names_read (λ columns. both (expected k.References refl) (λ _. both named (λ target. made _) (λ target. some_made _))
    (λ _. some_both some_name (λ target. some_made _)))
    (λ columns. some_both (some_word k.References) (λ _. some_both some_name (λ target. some_made _))))
    (λ _. some_both some_names (λ columns. some_both (some_word k.References) (λ _. some_both some_name (λ target. some_made _)))))
    (some_both (some_word k.Key) (λ _. some_both some_names (λ columns. some_both (some_word k.References) (λ _. some_both some_name (λ target. some_made _))))) i whole is)))
line_by kd i whole is = left_of (column_at i whole (ap form.is_line_word is))

pub table_line_read : {c : Mode} → Sound c r.table_line form.table_line
unfolding r.table_line
table_line_read = on_kind r.table_line_by line_by
