-- A text with its values is one bulk statement at most.
use Rattle.std.proofs.Common.{◌≡◌, ℕ, ◌++◌, true, List, [], Option, codes, refl, sym, ap, ◌∙◌, append-nil}
use Rattle.base_core.specs.declared.value.Value.{Value}
use Rattle.base_core.specs.declared.dialect.Dialect.{Dialect}
use Rattle.base_core.specs.declared.dialect.Dialect.TheVariants.{Sqlite, Postgresql, Mysql}
use Rattle.script_laws.specs.Texts.Grammar.Trees.{Sql}
use Rattle.script_laws.specs.Texts.Grammar.Reads.{Reads, Either}
use Rattle.script_laws.proofs.Texts.Grammar.Reader.{ends_name}
use Rattle.script_laws.proofs.Texts.Grammar.Finding.{ended, either_comma}
use Rattle.script_laws.proofs.Texts.Grammar.Naming.{Begins, starts_name, name_begins}
use Rattle.script_laws.proofs.Texts.Grammar.Found.{begins_on}
use Rattle.script_laws.specs.Texts.Forms.Forms.{BulkForm, insert, update, delete}
use Rattle.script_laws.specs.Texts.Forms.Clauses.{Items, Clause, no_clause, clause, Set, set, ReadsBulk, insert_nothing, insert_row, update_rows, delete_rows, default_word}
use Rattle.script_laws.proofs.Texts.Forms.Bulks.{bulks_are_read}
use Rattle.script_laws.specs.Texts.Readings.OneForm.{IsOneBulkForm, BulkTextsTellForms}
use Rattle.script_laws.proofs.Texts.Readings.Agreeing.{Agreeing, IsOne, EndsItems, EndsClause, name_one, items_one, clause_one, one_text, cut_word, lacking}
use Rattle.script_laws.proofs.Texts.Readings.Names.{pair_same, names_one, not_default}
use Rattle.script_laws.proofs.Texts.Readings.Trees.{EndsTree, tree_one, where_ends}

-- ---- cells

set_begins : {q : Dialect} {a : List ℕ} {v : List Value} {x : List ℕ × Sql} → Set q a v x → Begins starts_name a
set_begins (set {b = b} n r) = begins_on (name_begins n) (codes "=" ++ b)

set_agree : {q : Dialect} {a b : List ℕ} {v w : List Value} {x y : List ℕ × Sql} → Set q a v x → Set q b w y → Agreeing (EndsTree q) a b v w x y
set_agree {q} (set {a = a} {b = c} n r) (set {a = b} {b = d} m s) rest past left over e f texts values =
    let names = name_one n m (codes "=" ++ (c ++ rest)) (codes "=" ++ (d ++ past)) refl refl (sym (one_text a (codes "=") c rest) ∙ (texts ∙ one_text b (codes "=") d past)) in
    let trees = (tree_one q).agree r s rest past left over e f (cut_word (codes "=") names.rests) values in
    record { same = pair_same names.same trees.same; rests = trees.rests; lefts = trees.lefts }

sets_one : (q : Dialect) → IsOne (Items (Set q) (codes ", ")) (EndsItems starts_name (codes ", ") (EndsTree q))
sets_one q = items_one (Set q) starts_name (EndsTree q) (record { begins = set_begins; one = record { agree = set_agree } }) (codes ", ") (either_comma q)

-- ---- filters

filter_ends : (q : Dialect) {a : List ℕ} {v : List Value} {x : Option Sql} → Clause (Reads q Either) (codes " WHERE ") a v x → EndsItems starts_name (codes ", ") (EndsTree q) a
filter_ends q no_clause = record { ends = ended q Either; no_word = refl; no_start = tt }
filter_ends q (clause {a = a} r) = record { ends = where_ends q a; no_word = refl; no_start = refl }

filter_ends_name : {q : Dialect} {a : List ℕ} {v : List Value} {x : Option Sql} → Clause (Reads q Either) (codes " WHERE ") a v x → ends_name a ≡ true
filter_ends_name no_clause = refl
filter_ends_name (clause r) = refl

-- a filter that ends a text
filter_last : (q : Dialect) {a b : List ℕ} {v w : List Value} {x y : Option Sql} → Clause (Reads q Either) (codes " WHERE ") a v x → Clause (Reads q Either) (codes " WHERE ") b w y → a ≡ b → v ≡ w → x ≡ y
filter_last q r s texts values =
    let ends : EndsClause (codes " WHERE ") (EndsTree q) [] = record { ends = ended q Either; no_word = refl } in
    ((clause_one (Reads q Either) (EndsTree q) (tree_one q) (codes " WHERE ")).agree r s [] [] [] [] ends ends (ap (λ (text : List ℕ). text ++ []) texts) (ap (λ (u : List Value). u ++ []) values)).same

-- ---- statements

insert_same : {t u : List ℕ} {c d : List (List ℕ)} {v w : List Value} → t ≡ u → c ≡ d → v ≡ w → insert t c v ≡ insert u d w
insert_same {t} {u} {c} {d} {v} {w} e f g = ap (λ (n : List ℕ). insert n c v) e ∙ (ap (λ (ns : List (List ℕ)). insert u ns v) f ∙ ap (insert u d) g)

update_same : {t u : List ℕ} {c d : List (List ℕ × Sql)} {x y : Option Sql} → t ≡ u → c ≡ d → x ≡ y → update t c x ≡ update u d y
update_same {t} {u} {c} {d} {x} {y} e f g = ap (λ (n : List ℕ). update n c x) e ∙ (ap (λ (cs : List (List ℕ × Sql)). update u cs x) f ∙ ap (update u d) g)

delete_same : {t u : List ℕ} {x y : Option Sql} → t ≡ u → x ≡ y → delete t x ≡ delete u y
delete_same {t} {u} {x} {y} e f = ap (λ (n : List ℕ). delete n x) e ∙ ap (delete u) f

default_ends_name : (q : Dialect) → ends_name (default_word q) ≡ true
default_ends_name Sqlite = refl
default_ends_name Postgresql = refl
default_ends_name Mysql = refl

statements_agree : (q : Dialect) {a b : List ℕ} {v w : List Value} {x y : BulkForm} → ReadsBulk q a v x → ReadsBulk q b w y → a ≡ b → v ≡ w → x ≡ y
statements_agree q (insert_nothing n) (insert_nothing m) texts values =
    insert_same (name_one n m (default_word q) (default_word q) (default_ends_name q) (default_ends_name q) (cut_word (codes "INSERT INTO ") texts)).same refl refl
statements_agree q (insert_nothing n) (insert_row {b = d} {c = e} m columns marks) texts values =
    let names = name_one n m (default_word q) (codes " (" ++ (d ++ (codes ") VALUES (" ++ (e ++ codes ")")))) (default_ends_name q) refl (cut_word (codes "INSERT INTO ") texts) in
    not_default q columns [] (codes ") VALUES (" ++ (e ++ codes ")")) (append-nil (default_word q) ∙ names.rests)
statements_agree q (insert_nothing n) (update_rows m cells filter) texts values = lacking (codes "UPDATE ") _ refl texts
statements_agree q (insert_nothing n) (delete_rows m filter) texts values = lacking (codes "DELETE FROM ") _ refl texts
statements_agree q (insert_row {b = d} {c = e} m columns marks) (insert_nothing n) texts values =
    let names = name_one n m (default_word q) (codes " (" ++ (d ++ (codes ") VALUES (" ++ (e ++ codes ")")))) (default_ends_name q) refl (cut_word (codes "INSERT INTO ") (sym texts)) in
    not_default q columns [] (codes ") VALUES (" ++ (e ++ codes ")")) (append-nil (default_word q) ∙ names.rests)
statements_agree q (insert_row {b = b} {c = c} n columns marks) (insert_row {b = d} {c = e} m others more) texts values =
    let names = name_one n m (codes " (" ++ (b ++ (codes ") VALUES (" ++ (c ++ codes ")")))) (codes " (" ++ (d ++ (codes ") VALUES (" ++ (e ++ codes ")")))) refl refl (cut_word (codes "INSERT INTO ") texts) in
    let lists = (names_one q).agree columns others (codes ") VALUES (" ++ (c ++ codes ")")) (codes ") VALUES (" ++ (e ++ codes ")")) [] [] (record { ends = refl; no_word = refl; no_start = refl })
    (record { ends = refl; no_word = refl; no_start = refl }) (cut_word (codes " (") names.rests) refl in
    insert_same names.same lists.same values
statements_agree q (insert_row n columns marks) (update_rows m cells filter) texts values = lacking (codes "UPDATE ") _ refl texts
statements_agree q (insert_row n columns marks) (delete_rows m filter) texts values = lacking (codes "DELETE FROM ") _ refl texts
statements_agree q (update_rows n cells filter) (insert_nothing m) texts values = lacking (codes "INSERT INTO ") _ refl texts
statements_agree q (update_rows n cells filter) (insert_row m columns marks) texts values = lacking (codes "INSERT INTO ") _ refl texts
statements_agree q (update_rows {b = b} {c = c} {w = w} n cells filter) (update_rows {b = d} {c = e} {w = y} m others last) texts values =
    let names = name_one n m (codes " SET " ++ (b ++ c)) (codes " SET " ++ (d ++ e)) refl refl (cut_word (codes "UPDATE ") texts) in
    let sets = (sets_one q).agree cells others c e w y (filter_ends q filter) (filter_ends q last) (cut_word (codes " SET ") names.rests) values in
    update_same names.same sets.same (filter_last q filter last sets.rests sets.lefts)
statements_agree q (update_rows n cells filter) (delete_rows m last) texts values = lacking (codes "DELETE FROM ") _ refl texts
statements_agree q (delete_rows n filter) (insert_nothing m) texts values = lacking (codes "INSERT INTO ") _ refl texts
statements_agree q (delete_rows n filter) (insert_row m columns marks) texts values = lacking (codes "INSERT INTO ") _ refl texts
statements_agree q (delete_rows n filter) (update_rows m cells last) texts values = lacking (codes "UPDATE ") _ refl texts
statements_agree q (delete_rows {c = c} n filter) (delete_rows {c = d} m last) texts values =
    let names = name_one n m c d (filter_ends_name filter) (filter_ends_name last) (cut_word (codes "DELETE FROM ") texts) in
    delete_same names.same (filter_last q filter last names.rests values)

pub one_bulk_form : IsOneBulkForm
one_bulk_form dialect text values x y r s = statements_agree dialect r s refl refl

pub bulk_texts_tell_forms : BulkTextsTellForms
bulk_texts_tell_forms dialect schema other_schema it other h g texts values = statements_agree dialect (bulks_are_read dialect schema it h) (bulks_are_read dialect other_schema other g) texts values
