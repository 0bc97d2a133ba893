-- A text with its values is one statement on rows at most.
use Rattle.std.proofs.Common.{◌≡◌, ℕ, ◌++◌, ◌==◌, Bool, true, List, [], ◌∷◌, codes, refl, sym, ap, ◌∙◌, append_assoc}
use Rattle.base_core.specs.declared.value.Value.{Value}
use Rattle.base_core.specs.declared.dialect.Dialect.{Dialect}
use Rattle.script_laws.proofs.Texts.Grammar.Reader.{ends_name}
use Rattle.script_laws.proofs.Texts.Grammar.Naming.{Begins, starts_name, name_begins}
use Rattle.script_laws.proofs.Texts.Grammar.Found.{begins_on, begins_so}
use Rattle.script_laws.specs.Texts.Forms.Forms.{RowForm, fill, add, change, remove}
use Rattle.script_laws.specs.Texts.Forms.Clauses.{Items, Series, no_series, series, Row, row, Cell, cell, KeyCell, key_cell, Returned, none_returned, returned, ReadsRow, fill_row, add_rows, change_row, remove_row, default_word}
use Rattle.script_laws.proofs.Texts.Forms.Rows.{rows_are_read}
use Rattle.script_laws.specs.Texts.Readings.OneForm.{IsOneRowForm, RowTextsTellForms}
use Rattle.script_laws.proofs.Texts.Readings.Agreeing.{Agreeing, IsOne, EndsItems, EndsClause, name_one, mark_one, marks_one, items_one, series_one, one_text, cut_word, lacking}
use Rattle.script_laws.proofs.Texts.Readings.Names.{pair_same, triple_same, first_same, others_same, Anywhere, names_one, not_default, default_ends}

-- ---- rows and cells

abbrev opens : ℕ → Bool
opens c = c == 40

row_begins : {q : Dialect} {a : List ℕ} {v x : List Value} → Row q a v x → Begins opens a
row_begins (row {a = a} ms) = begins_so opens 40 (a ++ codes ")") refl

row_agree : {q : Dialect} {a b : List ℕ} {v w : List Value} {x y : List Value} → Row q a v x → Row q b w y → Agreeing Anywhere a b v w x y
row_agree (row {a = a} r) (row {a = b} s) rest past left over e f texts values =
    let inner = cut_word (codes "(") {rest = (a ++ codes ")") ++ rest} {past = (b ++ codes ")") ++ past} texts in
    let it = marks_one r s (codes ")" ++ rest) (codes ")" ++ past) left over refl refl (sym (append_assoc a (codes ")") rest) ∙ (inner ∙ append_assoc b (codes ")") past)) values in
    record { same = it.same; rests = cut_word (codes ")") it.rests; lefts = it.lefts }

rows_one : (q : Dialect) → IsOne (Items (Row q) (codes ", ")) (EndsItems opens (codes ", ") Anywhere)
rows_one q = items_one (Row q) opens Anywhere (record { begins = row_begins; one = record { agree = row_agree } }) (codes ", ") (λ text. tt)

cell_begins : {q : Dialect} {a : List ℕ} {v : List Value} {x : List ℕ × Value} → Cell q a v x → Begins starts_name a
cell_begins (cell {m = m} x n k) = begins_on (name_begins n) (codes "=" ++ m)

cell_agree : {q : Dialect} {a b : List ℕ} {v w : List Value} {x y : List ℕ × Value} → Cell q a v x → Cell q b w y → Agreeing Anywhere a b v w x y
cell_agree (cell {a = a} {m = m} x n r) (cell {a = b} {m = k} y o s) rest past left over e f texts values =
    let names = name_one n o (codes "=" ++ (m ++ rest)) (codes "=" ++ (k ++ past)) refl refl (sym (one_text a (codes "=") m rest) ∙ (texts ∙ one_text b (codes "=") k past)) in
    record { same = pair_same names.same (first_same values); rests = mark_one r s rest past (cut_word (codes "=") names.rests); lefts = others_same values }

cells_one : (q : Dialect) → IsOne (Items (Cell q) (codes ", ")) (EndsItems starts_name (codes ", ") Anywhere)
cells_one q = items_one (Cell q) starts_name Anywhere (record { begins = cell_begins; one = record { agree = cell_agree } }) (codes ", ") (λ text. tt)

-- ---- keys

key_begins : {q : Dialect} {a : List ℕ} {v : List Value} {x : List ℕ × List ℕ × Value} → KeyCell q a v x → Begins starts_name a
key_begins (key_cell {b = b} {m = m} x n o k) = begins_on (name_begins n) (codes "." ++ (b ++ (codes " = " ++ m)))

key_agree : {q : Dialect} {a b : List ℕ} {v w : List Value} {x y : List ℕ × List ℕ × Value} → KeyCell q a v x → KeyCell q b w y → Agreeing Anywhere a b v w x y
key_agree (key_cell {a = a} {b = c} {m = m} x t n r) (key_cell {a = b} {b = d} {m = k} y u o s) rest past left over e f texts values =
    let tables = name_one t u (codes "." ++ ((c ++ (codes " = " ++ m)) ++ rest)) (codes "." ++ ((d ++ (codes " = " ++ k)) ++ past)) refl refl
    (sym (one_text a (codes ".") (c ++ (codes " = " ++ m)) rest) ∙ (texts ∙ one_text b (codes ".") (d ++ (codes " = " ++ k)) past)) in
    let names = name_one n o (codes " = " ++ (m ++ rest)) (codes " = " ++ (k ++ past)) refl refl
    (sym (one_text c (codes " = ") m rest) ∙ (cut_word (codes ".") tables.rests ∙ one_text d (codes " = ") k past)) in
    record { same = triple_same tables.same names.same (first_same values); rests = mark_one r s rest past (cut_word (codes " = ") names.rests); lefts = others_same values }

keys_one : (q : Dialect) → IsOne (Series (KeyCell q) (codes " WHERE ") (codes " AND ")) (EndsClause (codes " WHERE ") (EndsItems starts_name (codes " AND ") Anywhere))
keys_one q =
    series_one (KeyCell q) (codes " WHERE ") (codes " AND ") (EndsItems starts_name (codes " AND ") Anywhere)
    (items_one (KeyCell q) starts_name Anywhere (record { begins = key_begins; one = record { agree = key_agree } }) (codes " AND ") (λ text. tt))

-- a key that ends a text
pub keys_last : {q : Dialect} {a b : List ℕ} {v w : List Value} {x y : List (List ℕ × List ℕ × Value)} → Series (KeyCell q) (codes " WHERE ") (codes " AND ") a v x
    → Series (KeyCell q) (codes " WHERE ") (codes " AND ") b w y → a ≡ b → v ≡ w → x ≡ y
keys_last {q} r s texts values =
    let ends : EndsClause (codes " WHERE ") (EndsItems starts_name (codes " AND ") Anywhere) [] = record { ends = record { ends = tt; no_word = refl; no_start = tt }; no_word = refl } in
    ((keys_one q).agree r s [] [] [] [] ends ends (ap (λ (text : List ℕ). text ++ []) texts) (ap (λ (u : List Value). u ++ []) values)).same

-- a key or nothing ends the cells
key_ends : {q : Dialect} {a : List ℕ} {v : List Value} {x : List (List ℕ × List ℕ × Value)} → Series (KeyCell q) (codes " WHERE ") (codes " AND ") a v x → EndsItems starts_name (codes ", ") Anywhere a
key_ends no_series = record { ends = tt; no_word = refl; no_start = tt }
key_ends (series r) = record { ends = tt; no_word = refl; no_start = refl }

key_ends_name : {q : Dialect} {a : List ℕ} {v : List Value} {x : List (List ℕ × List ℕ × Value)} → Series (KeyCell q) (codes " WHERE ") (codes " AND ") a v x → ends_name a ≡ true
key_ends_name no_series = refl
key_ends_name (series r) = refl

-- ---- what is told

told_ends_name : {q : Dialect} {a : List ℕ} {x : List (List ℕ × List ℕ)} → Returned q a x → ends_name a ≡ true
told_ends_name none_returned = refl
told_ends_name (returned t n r) = refl

told_ends : {q : Dialect} {a : List ℕ} {x : List (List ℕ × List ℕ)} → Returned q a x → EndsItems opens (codes ", ") Anywhere a
told_ends none_returned = record { ends = tt; no_word = refl; no_start = tt }
told_ends (returned t n r) = record { ends = tt; no_word = refl; no_start = refl }

told_one : {q : Dialect} {a b : List ℕ} {x y : List (List ℕ × List ℕ)} → Returned q a x → Returned q b y → a ≡ b → x ≡ y
told_one none_returned none_returned e = refl
told_one none_returned (returned u o s) e = lacking (codes " RETURNING ") _ refl e
told_one (returned t n r) none_returned e = lacking (codes " RETURNING ") _ refl (sym e)
told_one (returned {a = a} {b = b} {c = c} t n r) (returned {a = d} {b = f} {c = g} u o s) e =
    let tables = name_one t u (codes "." ++ (b ++ c)) (codes "." ++ (f ++ g)) refl refl (cut_word (codes " RETURNING ") e) in
    let names = name_one n o c g (told_ends_name r) (told_ends_name s) (cut_word (codes ".") tables.rests) in
    told_same (pair_same tables.same names.same) (told_one r s names.rests)
  where
    told_same : {x y : List ℕ × List ℕ} {xs ys : List (List ℕ × List ℕ)} → x ≡ y → xs ≡ ys → x ∷ xs ≡ y ∷ ys
    told_same {x} {y} {xs} {ys} e f = ap (λ (z : List ℕ × List ℕ). z ∷ xs) e ∙ ap (λ (zs : List (List ℕ × List ℕ)). y ∷ zs) f

-- ---- statements

fill_same : {t u : List ℕ} {x y : List (List ℕ × List ℕ)} → t ≡ u → x ≡ y → fill t x ≡ fill u y
fill_same {t} {u} {x} {y} e f = ap (λ (n : List ℕ). fill n x) e ∙ ap (fill u) f

add_same : {t u : List ℕ} {c d : List (List ℕ)} {r s : List (List Value)} {x y : List (List ℕ × List ℕ)} → t ≡ u → c ≡ d → r ≡ s → x ≡ y → add t c r x ≡ add u d s y
add_same {t} {u} {c} {d} {r} {s} {x} {y} e f g h =
    ap (λ (n : List ℕ). add n c r x) e ∙ (ap (λ (ns : List (List ℕ)). add u ns r x) f ∙ (ap (λ (rows : List (List Value)). add u d rows x) g ∙ ap (add u d s) h))

change_same : {t u : List ℕ} {c d : List (List ℕ × Value)} {x y : List (List ℕ × List ℕ × Value)} → t ≡ u → c ≡ d → x ≡ y → change t c x ≡ change u d y
change_same {t} {u} {c} {d} {x} {y} e f g = ap (λ (n : List ℕ). change n c x) e ∙ (ap (λ (cs : List (List ℕ × Value)). change u cs x) f ∙ ap (change u d) g)

remove_same : {t u : List ℕ} {x y : List (List ℕ × List ℕ × Value)} → t ≡ u → x ≡ y → remove t x ≡ remove u y
remove_same {t} {u} {x} {y} e f = ap (λ (n : List ℕ). remove n x) e ∙ ap (remove u) f

statements_agree : (q : Dialect) {a b : List ℕ} {v w : List Value} {x y : RowForm} → ReadsRow q a v x → ReadsRow q b w y → a ≡ b → v ≡ w → x ≡ y
statements_agree q (fill_row {a = a} {b = b} n r) (fill_row {a = c} {b = d} m s) texts values =
    let names = name_one n m (default_word q ++ b) (default_word q ++ d) (default_ends q b) (default_ends q d) (cut_word (codes "INSERT INTO ") texts) in
    fill_same names.same (told_one r s (cut_word (default_word q) names.rests))
statements_agree q (fill_row {a = a} {b = b} n r) (add_rows {b = d} {c = e} {d = f} m columns rows s) texts values =
    let names = name_one n m (default_word q ++ b) (codes " (" ++ (d ++ (codes ") VALUES " ++ (e ++ f)))) (default_ends q b) refl (cut_word (codes "INSERT INTO ") texts) in
    not_default q columns b (codes ") VALUES " ++ (e ++ f)) names.rests
statements_agree q (fill_row n r) (change_row m cells key) texts values = lacking (codes "UPDATE ") _ refl texts
statements_agree q (fill_row n r) (remove_row m key) texts values = lacking (codes "DELETE FROM ") _ refl texts
statements_agree q (add_rows {b = d} {c = e} {d = f} m columns rows s) (fill_row {a = a} {b = b} n r) texts values =
    let names = name_one n m (default_word q ++ b) (codes " (" ++ (d ++ (codes ") VALUES " ++ (e ++ f)))) (default_ends q b) refl (cut_word (codes "INSERT INTO ") (sym texts)) in
    not_default q columns b (codes ") VALUES " ++ (e ++ f)) names.rests
statements_agree q (add_rows {b = b} {c = c} {d = d} {v = v} n columns rows r) (add_rows {b = f} {c = g} {d = h} {v = w} m others more s) texts values =
    let names = name_one n m (codes " (" ++ (b ++ (codes ") VALUES " ++ (c ++ d)))) (codes " (" ++ (f ++ (codes ") VALUES " ++ (g ++ h)))) refl refl (cut_word (codes "INSERT INTO ") texts) in
    let lists = (names_one q).agree columns others (codes ") VALUES " ++ (c ++ d)) (codes ") VALUES " ++ (g ++ h)) [] [] (record { ends = refl; no_word = refl; no_start = refl })
    (record { ends = refl; no_word = refl; no_start = refl }) (cut_word (codes " (") names.rests) refl in
    let all = (rows_one q).agree rows more d h [] [] (told_ends r) (told_ends s) (cut_word (codes ") VALUES ") lists.rests) (ap (λ (u : List Value). u ++ []) values) in
    add_same names.same lists.same all.same (told_one r s all.rests)
statements_agree q (add_rows n columns rows r) (change_row m cells key) texts values = lacking (codes "UPDATE ") _ refl texts
statements_agree q (add_rows n columns rows r) (remove_row m key) texts values = lacking (codes "DELETE FROM ") _ refl texts
statements_agree q (change_row n cells key) (fill_row m r) texts values = lacking (codes "INSERT INTO ") _ refl texts
statements_agree q (change_row n cells key) (add_rows m columns rows r) texts values = lacking (codes "INSERT INTO ") _ refl texts
statements_agree q (change_row {b = b} {c = c} {v = v} {w = w} n cells key) (change_row {b = d} {c = e} {v = x} {w = y} m others last) texts values =
    let names = name_one n m (codes " SET " ++ (b ++ c)) (codes " SET " ++ (d ++ e)) refl refl (cut_word (codes "UPDATE ") texts) in
    let sets = (cells_one q).agree cells others c e w y (key_ends key) (key_ends last) (cut_word (codes " SET ") names.rests) values in
    change_same names.same sets.same (keys_last key last sets.rests sets.lefts)
statements_agree q (change_row n cells key) (remove_row m last) texts values = lacking (codes "DELETE FROM ") _ refl texts
statements_agree q (remove_row n key) (fill_row m r) texts values = lacking (codes "INSERT INTO ") _ refl texts
statements_agree q (remove_row n key) (add_rows m columns rows r) texts values = lacking (codes "INSERT INTO ") _ refl texts
statements_agree q (remove_row n key) (change_row m cells last) texts values = lacking (codes "UPDATE ") _ refl texts
statements_agree q (remove_row {c = c} n key) (remove_row {c = d} m last) texts values =
    let names = name_one n m c d (key_ends_name key) (key_ends_name last) (cut_word (codes "DELETE FROM ") texts) in
    remove_same names.same (keys_last key last names.rests values)

pub one_row_form : IsOneRowForm
one_row_form dialect text values x y r s = statements_agree dialect r s refl refl

pub row_texts_tell_forms : RowTextsTellForms
row_texts_tell_forms dialect schema other_schema it other h g texts values = statements_agree dialect (rows_are_read dialect schema it h) (rows_are_read dialect other_schema other g) texts values
