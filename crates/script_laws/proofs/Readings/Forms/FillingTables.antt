-- What the forms of the lines of a table's block say is read.
use Rattle.std.proofs.Common.{◌≡◌, ℕ, nat_le, Bool, true, false, if◌then◌else◌, List, ◌∷◌, ◌++◌, Option, Some, None, refl, ap, sym, subst, ◌∙◌, arith}
use Rattle.schema_core.specs.declared.table.ColumnKind.TheVariants as column
use Rattle.script_types.specs.declared.command.Command.{Command}
use Rattle.script_types.specs.declared.command.Command.TheVariants as c
use Rattle.script_lex.specs.declared.kind.Kind.{Kind}
use Rattle.script_lex.specs.declared.kind.Kind.TheVariants as k
use Rattle.script_lex.specs.declared.token.Content.TheVariants as content
use Rattle.script_lex.specs.declared.token.Token.{Token}
use Rattle.script_lex.specs.Lex.{same_kind}
use Rattle.script_tokens.specs.Input.{Input, Reader, ◌>>=◌, ◌>>◌, pure, eat, expect, peek, take_token, head, next, first_of}
use Rattle.script_tokens.specs.Literals.{int_by}
use Rattle.script_blocks.specs.Blocks as r
use Rattle.script_laws.specs.Readings.Forms.Form.{Form, sequence, says, word, maybe, whether}
use Rattle.script_laws.specs.Readings.Forms.TableLines as form
use Rattle.script_laws.proofs.Readings.Forms.Taking.{Mode, Enough}
use Rattle.script_laws.proofs.Readings.Forms.Steps.{budget_none, is_end}
use Rattle.script_laws.proofs.Readings.Forms.Sequences.{then_to, says_to}
use Rattle.script_laws.proofs.Readings.Forms.Filling.{given, Read, Complete, always, both, then_any, less, made, expected, taken, on_word, either, two_words, present_by, absent, made_opens, word_opens, then_opens, first_opens, whether_opens, by_kind_read}
use Rattle.script_laws.proofs.Readings.Forms.FillingBasics.{name_but_read, named, names_read}

false_true : false ≡ true → ⊥
false_true e = cc

-- ---- lengths

length_by : (mode : Mode) (t : Token) (rest : List Token) (o m : ℕ) → t.kind ≡ k.Number → t.content ≡ content.Number m → nat_le m 4294967295 ≡ true
    → Read mode r.text_length (t ∷ rest) rest 0 o m
unfolding r.text_length head next
length_by mode t rest o m is holds fits =
    let i : Input = record { ahead = t ∷ rest; operators = o } in
    record {
      left = o;
      budget = budget_none mode o;
      is = given (ap (λ x. int_by (r.length_in x t.content) i) is ∙ ap (λ x. int_by (r.length_in k.Number x) i) holds ∙ ap (λ b. int_by (if b then Some m else None) i) fits);
    }

length_run : (mode : Mode) (prefix rest : List Token) (count o m : ℕ) → form.length prefix count m → Read mode r.text_length (prefix ++ rest) rest count o m
length_run mode prefix rest count o m said =
    subst (λ ts. Read mode r.text_length (ts ++ rest) rest count o m) (sym said.1)
    (subst (λ x. Read mode r.text_length (said.0 ∷ rest) rest x o m) (sym said.5) (length_by mode said.0 rest o m said.2 said.3 said.4))

length_read : {mode : Mode} → Complete mode always r.text_length form.length
length_read {mode = mode} = record { run = λ prefix rest count o m said enough stop. length_run mode prefix rest count o m said }

-- ---- types

abbrev no_paren : Kind → Bool
no_paren k.LParen = false
no_paren _ = true

not_paren : (y : Kind) → no_paren y ≡ true → same_kind y k.LParen ≡ false
unfolding same_kind
not_paren k.LParen e = absurd (false_true e)
not_paren _ e = refl

abbrev in_parens : Form ℕ
in_parens = sequence form.length (λ m. sequence (word k.RParen) (λ _. says m))

abbrev parens_reader : Reader (Option ℕ)
parens_reader = r.text_length >>= (λ m. expect k.RParen >> pure (Some m))

parens_some : {mode : Mode} → Complete mode always parens_reader (sequence form.length (λ m. sequence (word k.RParen) (λ _. says (Some m))))
parens_some = then_any length_read (λ m. then_any (expected k.RParen) (λ _. made (Some m)))

some_parens : (ts : List Token) (count m : ℕ) → in_parens ts count m → sequence form.length (λ m. sequence (word k.RParen) (λ _. says (Some m))) ts count (Some m)
some_parens ts count m said =
    then_to form.length (λ x. sequence (word k.RParen) (λ _. says x)) (λ x. sequence (word k.RParen) (λ _. says (Some x))) m (Some m)
    (λ x. then_to (word k.RParen) (λ _. says x) (λ _. says (Some x)) m (Some m) (λ _. says_to Some)) ts count said

parens_run : (mode : Mode) (prefix rest : List Token) (count o : ℕ) (a : Option ℕ) → maybe (sequence (word k.LParen) (λ _. in_parens)) prefix count a → Enough mode count o
    → no_paren (first_of rest).kind ≡ true → Read mode (eat k.LParen >>= (λ found. if found then parens_reader else pure None)) (prefix ++ rest) rest count o a
parens_run mode prefix rest count o None said enough stop =
    absent mode k.LParen parens_reader None prefix rest count o said.0 said.1 (not_paren (first_of rest).kind stop)
parens_run mode prefix rest count o (Some m) said enough stop =
    let w = said.1 in
    let t = w.first.0 in
    let tokens : prefix ≡ t ∷ w.rest = w.joined ∙ ap (λ ts. ts ++ w.rest) w.first.1 in
    let counts : w.rest_count ≡ count = omega (arith, w.counted, w.first.3) in
    let read : Read mode parens_reader (w.rest ++ rest) rest w.rest_count o (Some m) =
    parens_some.run w.rest rest w.rest_count o (Some m) (some_parens w.rest w.rest_count m w.second) (subst (λ x. Enough mode x o) (sym counts) enough) refl in
    subst (λ ts. Read mode (eat k.LParen >>= (λ found. if found then parens_reader else pure None)) (ts ++ rest) rest count o (Some m)) (sym tokens)
    (present_by mode k.LParen parens_reader None t (w.rest ++ rest) rest count o (Some m) w.first.2
    (subst (λ x. Read mode parens_reader (w.rest ++ rest) rest x o (Some m)) counts read))

length_if_any_read : {mode : Mode} → Complete mode no_paren r.length_if_any (maybe (sequence (word k.LParen) (λ _. in_parens)))
unfolding r.length_if_any
length_if_any_read {mode = mode} = record { run = parens_run mode }

type_read : {mode : Mode} → Complete mode no_paren r.column_kind form.column_type
unfolding r.column_kind
type_read =
    either (on_word r.column_kind_by k.Integer (less (then_any (taken k.Integer) (λ _. made column.Integer)) (λ y e. refl)))
    (either (on_word r.column_kind_by k.Varchar (then_any (taken k.Varchar) (λ _. both length_if_any_read (λ m. less (made (column.Varchar m)) (λ y e. refl)) (λ m. made_opens (column.Varchar m) (λ y e. e)))))
    (either (on_word r.column_kind_by k.Text (less (then_any (taken k.Text) (λ _. made column.Text)) (λ y e. refl)))
    (either (on_word r.column_kind_by k.Boolean (less (then_any (taken k.Boolean) (λ _. made column.Boolean)) (λ y e. refl)))
    (on_word r.column_kind_by k.Bytes (less (then_any (taken k.Bytes) (λ _. made column.Bytes)) (λ y e. refl))))))

-- ---- the lines

end_no_not : (y : Kind) → is_end y ≡ true → same_kind y k.Not ≡ false
unfolding same_kind
end_no_not k.LineEnd e = refl
end_no_not _ e = absurd (false_true e)

-- before the last flag
abbrev flags : Kind → Bool
flags k.LineEnd = true
flags k.Not = true
flags _ = false

flags_no_primary : (y : Kind) → flags y ≡ true → same_kind y k.Primary ≡ false
unfolding same_kind
flags_no_primary k.LineEnd e = refl
flags_no_primary k.Not e = refl
flags_no_primary _ e = absurd (false_true e)

end_flags : (y : Kind) → is_end y ≡ true → flags y ≡ true
end_flags k.LineEnd e = refl
end_flags _ e = absurd (false_true e)

flags_no_paren : (y : Kind) → flags y ≡ true → no_paren y ≡ true
flags_no_paren k.LParen e = absurd (false_true e)
flags_no_paren _ e = refl

column_rest : {mode : Mode} (called : List ℕ)
    → Complete mode is_end (r.column_kind >>= (λ type. r.both_words k.Primary k.Key >>= (λ key. r.both_words k.Not k.Null >>= (λ not_null.
    pure (c.ColumnLine (record { name = called; kind = type; key = key; not_null = not_null }))))))
    (sequence form.column_type (λ type. sequence (whether (sequence (word k.Primary) (λ _. word k.Key))) (λ key. sequence (whether (sequence (word k.Not) (λ _. word k.Null))) (λ not_null.
    says (c.ColumnLine (record { name = called; kind = type; key = key; not_null = not_null }))))))
column_rest called =
    both type_read (λ type. both (two_words {next = flags} k.Primary k.Key flags_no_primary) (λ key. both (two_words {next = is_end} k.Not k.Null end_no_not)
    (λ nn. less (made _) (λ y e. refl)) (λ nn. made_opens _ (λ y e. e)))
    (λ key. then_opens is_end (whether_opens (first_opens {h = λ _. word k.Null} (word_opens k.Not refl)) end_flags) (λ nn. made_opens _ (λ y e. e))))
    (λ type. then_opens flags (whether_opens (first_opens {h = λ _. word k.Key} (word_opens k.Primary refl)) flags_no_paren)
    (λ key. then_opens is_end (whether_opens (first_opens {h = λ _. word k.Null} (word_opens k.Not refl)) end_flags) (λ nn. made_opens _ (λ y e. e))))

column_read : {mode : Mode} → Complete mode is_end r.column form.column_line
unfolding r.column
column_read = then_any (name_but_read form.is_line_word) column_rest

others : (kd : Kind) → form.is_line_word kd ≡ false → r.column ≡ r.table_line_by kd
others k.End e = absurd (false_true (sym e))
others k.Unique e = absurd (false_true (sym e))
others k.Foreign e = absurd (false_true (sym e))
others _ e = refl

column_run : (mode : Mode) (prefix rest : List Token) (count o : ℕ) (a : Command) → form.column_line prefix count a → Enough mode count o → is_end (first_of rest).kind ≡ true
    → Read mode (peek >>= r.table_line_by) (prefix ++ rest) rest count o a
column_run mode prefix rest count o a said enough stop =
    let w = said.1 in
    let t = w.first.0 in
    let tokens : prefix ≡ t ∷ w.rest = w.joined ∙ ap (λ ts. ts ++ w.rest) w.first.1 in
    let read : Read mode r.column (t ∷ (w.rest ++ rest)) rest count o a =
    subst (λ ts. Read mode r.column (ts ++ rest) rest count o a) tokens (column_read.run prefix rest count o a said enough stop) in
    let by : Read mode (r.table_line_by t.kind) (t ∷ (w.rest ++ rest)) rest count o a =
    subst (λ p. Read mode p (t ∷ (w.rest ++ rest)) rest count o a) (others t.kind w.first.2) read in
    subst (λ ts. Read mode (peek >>= r.table_line_by) (ts ++ rest) rest count o a) (sym tokens)
    (by_kind_read mode r.table_line_by t.kind t (w.rest ++ rest) rest count o a refl by)

foreign_read : {mode : Mode} → Complete mode is_end (take_token >> r.foreign) form.foreign_line
unfolding r.foreign
foreign_read =
    less (then_any (taken k.Foreign) (λ _. then_any (expected k.Key) (λ _. then_any names_read (λ columns. then_any (expected k.References) (λ _. then_any named (λ target. made _))))))
    (λ y e. refl)

pub table_line_read : {mode : Mode} → Complete mode is_end r.table_line form.table_line
unfolding r.table_line
table_line_read {mode = mode} =
    either (record { run = column_run mode })
    (either (on_word r.table_line_by k.Unique (less (then_any (taken k.Unique) (λ _. then_any names_read (λ found. made (c.UniqueLine found)))) (λ y e. refl)))
    (either (on_word r.table_line_by k.Foreign foreign_read)
    (on_word r.table_line_by k.End (less (then_any (taken k.End) (λ _. made c.End)) (λ y e. refl)))))
