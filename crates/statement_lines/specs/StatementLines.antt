-- What is written of a statement: its text, and in a second line the values of its marks.
use Rattle.std.specs.Prelude.{ℕ, List, [], ◌∷◌, ◌++◌, codes}
use Rattle.std.specs.List.{zip}
use Rattle.base_core.specs.declared.value.Value.{Value}
use Rattle.printing.specs.Texts.{row_text, value_text, with_separators}
use Rattle.base_core.specs.declared.dialect.Dialect.{Dialect}
use Rattle.base_core.specs.declared.dialect.Dialect.TheVariants.{Postgresql}
use Rattle.sql_text.specs.declared.writer.Compiled.{Compiled}

-- a mark's name and its value
abbrev pub named_value : List ℕ × Value → List ℕ
named_value p = p.0 ++ codes "=" ++ value_text p.1

abbrev pub named_values : List (List ℕ) → List Value → List ℕ
named_values names values = 40 ∷ with_separators (codes ", ") named_value (zip names values) ++ 41 ∷ []

-- the values of a text's marks in parentheses; PostgreSQL's marks have names
abbrev pub values_text : Dialect → Compiled → List ℕ
values_text Postgresql it = named_values it.names it.values
values_text dialect it = row_text it.values

abbrev pub values_line : Dialect → Compiled → List Value → List ℕ
values_line dialect it [] = []
values_line dialect it (value ∷ values) = 10 ∷ codes "par> " ++ values_text dialect it

-- the text, and the line of the values, if there are any
abbrev pub statement_text : Dialect → Compiled → List ℕ
statement_text dialect it = it.text ++ values_line dialect it it.values
