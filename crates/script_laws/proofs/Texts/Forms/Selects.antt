-- A plain select's text is read as its form.
use Rattle.std.proofs.Common.{◌≡◌, ℕ, ◌++◌, List, [], ◌∷◌, map, Option, Some, None, codes, refl, ap}
use Rattle.std.specs.Option.{option_map}
use Rattle.base_core.specs.declared.value.Value.{Value}
use Rattle.schema_core.specs.Catalog.{Catalog}
use Rattle.expr_types.specs.declared.expr.Expr.{Expr}
use Rattle.expr_types.specs.declared.expr.Origin.{Origin}
use Rattle.expr_types.specs.declared.select.Select.{Select}
use Rattle.expr_types.specs.declared.select.Statement.TheVariants.{Select as of_select}
use Rattle.sql_semantics.specs.Plain.{StandsIn, IsCondition, IsFilter, IsPlainSelect, IfSet, sources_of}
use Rattle.base_core.specs.declared.dialect.Dialect.{Dialect}
use Rattle.sql_text.specs.Words.{select_word}
use Rattle.sql_text.specs.Written.{Piece, words, nothing_written}
use Rattle.sql_expressions.specs.Laid.{source_pieces}
use Rattle.sql_rows.specs.Cuts as cuts
use Rattle.sql_statements.specs.Selects as s
use Rattle.sql_statements.specs.Selects.{select_pieces}
use Rattle.sql_statements.specs.Texts.{text_of, statement_pieces}
use Rattle.script_laws.specs.Texts.Grammar.Reads.{Reads, Either}
use Rattle.script_laws.specs.Texts.Expressions.Tree.{tree}
use Rattle.script_laws.proofs.Texts.Expressions.Pieces.{Writes, after_words, split, all_written}
use Rattle.script_laws.proofs.Texts.Expressions.Forms.{source_read}
use Rattle.script_laws.specs.Texts.Forms.Forms.{SelectForm}
use Rattle.script_laws.specs.Texts.Forms.Clauses.{Clause, Series, Item, Order, Cut, ReadsSelect}
use Rattle.script_laws.specs.Texts.Forms.Form.{number, select_form}
use Rattle.script_laws.specs.Texts.Forms.Read.{SelectsAreRead}
use Rattle.script_laws.proofs.Texts.Forms.Parts.{items_read, all_items, clause_read, groups_read, order_read, joins_read, cut_read}

module _ (q : Dialect) (schema : Catalog) where
  filter_stands : (scope : List Origin) (e : Option Expr) → IfSet (IsFilter schema scope) e → IfSet (StandsIn schema scope) e
  filter_stands scope None h = tt
  filter_stands scope (Some e) h = h.condition.stands

  having_stands : (scope : List Origin) (e : Option Expr) → IfSet (IsCondition schema scope) e → IfSet (StandsIn schema scope) e
  having_stands scope None h = tt
  having_stands scope (Some e) h = h.stands

  -- the clauses behind the sources
  record ReadsTail (scope : List Origin) (it : Select) (text : List ℕ) (values : List Value) : Type 0 where
    filter_text : List ℕ
    groups_text : List ℕ
    having_text : List ℕ
    order_text : List ℕ
    cut_text : List ℕ
    filter_values : List Value
    groups_values : List Value
    having_values : List Value
    order_values : List Value
    cut_values : List Value
    filter : Clause (Reads q Either) (codes " WHERE ") filter_text filter_values (option_map (λ e. tree q schema e scope) it.filter)
    groups : Series (Reads q Either) (codes " GROUP BY ") (codes ", ") groups_text groups_values (map (λ e. tree q schema e scope) it.groups)
    having : Clause (Reads q Either) (codes " HAVING ") having_text having_values (option_map (λ e. tree q schema e scope) it.having)
    order : Series (Order q) (codes " ORDER BY ") (codes ", ") order_text order_values (map (λ key. (tree q schema key.0 scope, key.1)) it.order)
    cut : Cut q cut_text cut_values (option_map number it.limit, option_map number it.offset)
    text_is : text ≡ filter_text ++ groups_text ++ having_text ++ order_text ++ cut_text
    values_are : values ≡ filter_values ++ groups_values ++ having_values ++ order_values ++ cut_values

  tail_read : (it : Select) → IsPlainSelect schema it → (t : List ℕ) (v : List Value) → Writes q (s.tail_pieces q schema (sources_of it) it) t v → ReadsTail (sources_of it) it t v
  tail_read it h t v w =
      let scope : List Origin = sources_of it in
      let filter : List Piece = s.clause_pieces q schema scope (codes " WHERE ") it.filter in
      let groups : List Piece = s.groups_pieces q schema scope it.groups in
      let having : List Piece = s.clause_pieces q schema scope (codes " HAVING ") it.having in
      let order : List Piece = s.order_pieces q schema scope it.order in
      let cut : List Piece = cuts.cut_pieces q it.limit it.offset in
      split (λ p u. ReadsTail scope it p u) (filter ++ groups ++ having ++ order) cut w
      (λ p5 c u5 cv w5 cutw. split (λ p u. ReadsTail scope it (p ++ c) (u ++ cv)) (filter ++ groups ++ having) order w5
      (λ p4 o u4 ov w4 orderw. split (λ p u. ReadsTail scope it ((p ++ o) ++ c) ((u ++ ov) ++ cv)) (filter ++ groups) having w4
      (λ p3 x u3 xv w3 havingw. split (λ p u. ReadsTail scope it (((p ++ x) ++ o) ++ c) (((u ++ xv) ++ ov) ++ cv)) filter groups w3
      (λ f g fv gv filterw groupsw. record {
        filter_text = f;
        groups_text = g;
        having_text = x;
        order_text = o;
        cut_text = c;
        filter_values = fv;
        groups_values = gv;
        having_values = xv;
        order_values = ov;
        cut_values = cv;
        filter = clause_read q schema scope (codes " WHERE ") it.filter (filter_stands scope it.filter h.filter_stands) f fv filterw;
        groups = groups_read q schema scope it.groups h.groups_stand g gv groupsw;
        having = clause_read q schema scope (codes " HAVING ") it.having (having_stands scope it.having h.having_stands) x xv havingw;
        order = order_read q schema scope it.order h.order_stands o ov orderw;
        cut = cut_read q it.limit it.offset c cv cutw;
        text_is = refl;
        values_are = refl;
      }))))

  select_read : (it : Select) → IsPlainSelect schema it → (t : List ℕ) (v : List Value) → Writes q (select_pieces q schema it) t v → ReadsSelect q t v (select_form q schema it)
  unfolding select_pieces
  select_read it h t v w =
      let form : SelectForm = select_form q schema it in
      let scope : List Origin = sources_of it in
      split (λ p u. ReadsSelect q p u form) (s.head_pieces q schema it ++ s.from_pieces q schema it) (s.tail_pieces q schema scope it) w
      (λ p b u z one tailw. split (λ p u. ReadsSelect q (p ++ b) (u ++ z) form) (s.head_pieces q schema it) (s.from_pieces q schema it) one
      (λ c d x y headw fromw. after_words (λ c x. ReadsSelect q ((c ++ d) ++ b) ((x ++ y) ++ z) form) headw
      (λ items itemsw. split (λ d y. ReadsSelect q (((select_word it.distinct ++ items) ++ d) ++ b) ((x ++ y) ++ z) form) (words (codes " FROM ") ∷ source_pieces schema it.first) (s.joins_pieces q schema (it.first ∷ []) it.joins) fromw
      (λ e joins sv jv firstw joinsw. after_words (λ e sv. ReadsSelect q (((select_word it.distinct ++ items) ++ (e ++ joins)) ++ b) ((x ++ (sv ++ jv)) ++ z) form) firstw
      (λ e sourcew. source_read q (λ e sv. ReadsSelect q (((select_word it.distinct ++ items) ++ ((codes " FROM " ++ e) ++ joins)) ++ b) ((x ++ (sv ++ jv)) ++ z) form) schema it.first e sv sourcew
      (λ e is.
      let tail : ReadsTail scope it b z = tail_read it h b z tailw in
      record {
        items_text = items;
        source_text = e;
        joins_text = joins;
        filter_text = tail.filter_text;
        groups_text = tail.groups_text;
        having_text = tail.having_text;
        order_text = tail.order_text;
        cut_text = tail.cut_text;
        items_values = x;
        joins_values = jv;
        filter_values = tail.filter_values;
        groups_values = tail.groups_values;
        having_values = tail.having_values;
        order_values = tail.order_values;
        cut_values = tail.cut_values;
        items = items_read q (s.item_pieces q schema scope) (Item q) (λ item. (tree q schema item.0 scope, item.1)) (codes ", ") it.items (all_items q schema scope it.items h.items_stand) items x itemsw;
        first = is;
        joins = joins_read q schema (it.first ∷ []) it.joins h.joins_stand joins jv joinsw;
        filter = tail.filter;
        groups = tail.groups;
        having = tail.having;
        order = tail.order;
        cut = tail.cut;
        text_is = ap (λ (rest : List ℕ). ((select_word it.distinct ++ items) ++ ((codes " FROM " ++ e) ++ joins)) ++ rest) tail.text_is;
        values_are = ap (λ (rest : List Value). (x ++ jv) ++ rest) tail.values_are;
      }))))))

pub selects_are_read : SelectsAreRead
unfolding text_of
selects_are_read dialect schema it h =
    all_written (λ t v. ReadsSelect dialect t v (select_form dialect schema it)) (nothing_written dialect) (statement_pieces dialect schema (of_select it)) (λ t v w. select_read dialect schema it h t v w)
