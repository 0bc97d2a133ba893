-- Operands of a list that a loop writes.
use Rattle.std.proofs.Common.{◌≡◌, ℕ, true, List, [], ◌∷◌, map, ap, ◌∙◌}
use Rattle.schema_core.specs.Catalog.{Catalog}
use Rattle.expr_types.specs.declared.expr.Expr.{Expr}
use Rattle.expr_types.specs.declared.expr.Origin.{Origin}
use Rattle.base_core.specs.declared.dialect.Dialect.{Dialect}
use Rattle.sql_text.specs.Pages.{Paged, WroteOn, put_on}
use Rattle.sql_text.specs.Written.{words, with_leading_separators}
use Rattle.sql_text.proofs.Pages.{dialect_on, led_on, whole_before}
use Rattle.sql_expressions.specs.Laid.{laid, part}

-- one more operand, laid out in the dialect of the text
pub part_next : (least : ℕ) (scope : List Origin) (schema : Catalog) (word : List ℕ) (start old mid new : Paged) (e : Expr) (rest xs all : List Expr) → xs ≡ e ∷ rest
    → (old.is_whole ≡ true → (old.written.dialect ≡ start.written.dialect)
    × (put_on old (with_leading_separators word (part least scope) (map (laid start.written.dialect schema) xs)) ≡ put_on start (with_leading_separators word (part least scope) (map (laid start.written.dialect schema) all))))
    → WroteOn (words word ∷ []) old mid → WroteOn (part least scope (laid mid.written.dialect schema e)) mid new
    → new.is_whole ≡ true → (new.written.dialect ≡ start.written.dialect)
    × (put_on new (with_leading_separators word (part least scope) (map (laid start.written.dialect schema) rest)) ≡ put_on start (with_leading_separators word (part least scope) (map (laid start.written.dialect schema) all)))
part_next least scope schema word start old mid new e rest xs all xs-is so-far first second whole =
    let new-is = second whole in
    let mid-whole = whole_before (part least scope (laid mid.written.dialect schema e)) mid new whole new-is in
    let mid-is = first mid-whole in
    let before = so-far (whole_before (words word ∷ []) old mid mid-whole mid-is) in
    let there : mid.written.dialect ≡ start.written.dialect = ap (λ (p : Paged). p.written.dialect) mid-is ∙ (dialect_on old (words word ∷ []) ∙ before.0) in
    let after : new.written.dialect ≡ start.written.dialect = ap (λ (p : Paged). p.written.dialect) new-is ∙ (dialect_on mid (part least scope (laid mid.written.dialect schema e)) ∙ there) in
    let here : WroteOn (part least scope (laid start.written.dialect schema e)) mid new = λ h. new-is ∙ ap (λ (q : Dialect). put_on mid (part least scope (laid q schema e))) there in
    let listed : map (laid start.written.dialect schema) xs ≡ laid start.written.dialect schema e ∷ map (laid start.written.dialect schema) rest = ap (map (laid start.written.dialect schema)) xs-is in
    (after, led_on word (part least scope) (laid start.written.dialect schema e) (map (laid start.written.dialect schema) rest) (map (laid start.written.dialect schema) xs) old mid new _ listed (λ h. before.1) first here whole)
