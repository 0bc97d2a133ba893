-- A text of a level and its values are one tree.
use Rattle.std.proofs.Common.{◌≡◌, ℕ, ◌+◌, ◌≤◌, ◌++◌, List, [], Some, None, refl, sym, ap, ◌∙◌, append-nil, codes, arith}
use Rattle.base_core.specs.declared.value.Value.{Value}
use Rattle.base_core.specs.declared.dialect.Dialect.{Dialect}
use Rattle.script_laws.specs.Texts.Grammar.Trees.{Sql, Sqls, more, all_of, any_of}
use Rattle.script_laws.specs.Texts.Grammar.Reads.{Reads, as_tighter, either, both, negated, tested, null_tested, listed, ranged, added, multiplied, signed, in_parentheses, marked, of_source, in_nothing, called, counted, existing, Parts, one_part, more_parts, Level, Either, Both, Opposite, Tested, Added, Multiplied, Signed, Operand, tighter}
use Rattle.script_laws.specs.Texts.Grammar.OneTree.{IsOneTree}
use Rattle.script_laws.proofs.Texts.Grammar.Reader.{Out, one_or, read}
use Rattle.script_laws.proofs.Texts.Grammar.Finding.{ended, opposite_and, both_or, either_comma}
use Rattle.script_laws.proofs.Texts.Grammar.Found.{Found, FoundParts, Parsed}
use Rattle.script_laws.proofs.Texts.Grammar.Chains.{signed_found, negative_found, first_product, next_product, product_found, first_sum, next_sum, sum_found}
use Rattle.script_laws.proofs.Texts.Grammar.Tests.{Separates, tested_found, two_tested, nulls_tested, empty_tested, list_tested, range_tested, opposite_found, not_found, one_found, more_found, both_found, all_found, either_found, any_found}
use Rattle.script_laws.proofs.Texts.Grammar.Operands.{enclosed_found, mark_found, column_found, exists_found, call_found, count_found}
use Rattle.script_laws.proofs.Texts.Grammar.Found.{begins_on}

-- at the next looser level
lifted : (q : Dialect) (l : Level) {a : List ℕ} {v : List Value} {x : Sql} → Found q (tighter l) a v x → Parsed q l a v x
lifted q Operand f = record { found = f; chain = tt }
lifted q Signed f = record { found = signed_found q f; chain = tt }
lifted q Multiplied f = let c = first_product q f in record { found = product_found q f.begins c; chain = c }
lifted q Added f = let c = first_sum q f in record { found = sum_found q f.begins c; chain = c }
lifted q Tested f = record { found = tested_found q f; chain = tt }
lifted q Opposite f = record { found = opposite_found q f; chain = tt }
lifted q Both f = record { found = both_found q f; chain = tt }
lifted q Either f = record { found = either_found q f; chain = tt }

-- behind a word stands one part at least
several : {q : Dialect} {l : Level} {word a : List ℕ} {v : List Value} {ys : Sqls} (list : Sqls → Sql) (x : Sql) → Parts q l word a v ys → one_or list (more x ys) ≡ list (more x ys)
several list x (one_part r) = refl
several list x (more_parts r p) = refl

mutual
  pub parsed : {q : Dialect} {l : Level} {a : List ℕ} {v : List Value} {x : Sql} → Reads q l a v x → Parsed q l a v x
  parsed {q} (as_tighter {l = l} r) = lifted q l (parsed r).found
  parsed {q} (either r p) = record { found = any_found q (several any_of _ p) (more_found q (record { ends_text = both_or q }) (parsed r).found (parts_parsed p (record { ends_text = both_or q }))); chain = tt }
  parsed {q} (both r p) = record { found = all_found q (several all_of _ p) (more_found q (record { ends_text = opposite_and q }) (parsed r).found (parts_parsed p (record { ends_text = opposite_and q }))); chain = tt }
  parsed {q} (negated r) = record { found = not_found q (parsed r).found; chain = tt }
  parsed {q} (tested by is r s) = record { found = two_tested q by is (parsed r).found (parsed s).found; chain = tt }
  parsed {q} (null_tested n r) = record { found = nulls_tested q n (parsed r).found; chain = tt }
  parsed {q} (listed n r ms) = record { found = list_tested q n (parsed r).found ms; chain = tt }
  parsed {q} (ranged n r s t) = record { found = range_tested q n (parsed r).found (parsed s).found (parsed t).found; chain = tt }
  parsed {q} (added {a = a} {b = b} {word = word} by is r s) =
      let p = parsed r in
      let c = next_sum q by is p.chain (parsed s).found in
      record { found = sum_found q (begins_on p.found.begins (word ++ b)) c; chain = c }
  parsed {q} (multiplied {a = a} {b = b} r s) =
      let p = parsed r in
      let c = next_product q p.chain (parsed s).found in
      record { found = product_found q (begins_on p.found.begins (codes " * " ++ b)) c; chain = c }
  parsed {q} (signed r) = record { found = negative_found q (parsed r).found; chain = tt }
  parsed {q} (in_parentheses r) = record { found = enclosed_found q (parsed r).found; chain = tt }
  parsed {q} (marked v m) = record { found = mark_found q v m; chain = tt }
  parsed {q} (of_source n m) = record { found = column_found q n m; chain = tt }
  parsed {q} (in_nothing n r) =
      record { found = enclosed_found q (lifted q Either (lifted q Both (lifted q Opposite (empty_tested q n (parsed r).found)).found).found).found; chain = tt }
  parsed {q} (called by is p) = record { found = call_found q by is (parts_parsed p (record { ends_text = either_comma q })); chain = tt }
  parsed {q} counted = record { found = count_found q; chain = tt }
  parsed {q} (existing n r) = record { found = exists_found q n (parsed r).found; chain = tt }

  parts_parsed : {q : Dialect} {l : Level} {word a : List ℕ} {v : List Value} {xs : Sqls} → Parts q l word a v xs → Separates q l word → FoundParts q l word a v xs
  parts_parsed {q} (one_part {word = word} r) sep = one_found q word (parsed r).found
  parts_parsed {q} (more_parts r p) sep = more_found q sep (parsed r).found (parts_parsed p sep)

-- the tree to which a text is read
read_to : {q : Dialect} {l : Level} {a : List ℕ} {v : List Value} {x : Sql} (f : Found q l a v x) (k : ℕ) → f.bound ≤ k → (read q k).tree l a v ≡ Some (x, [], [])
read_to {q} {l} {a} {v} {x} f k h =
    ap (λ (text : List ℕ). (read q k).tree l text v) (sym (append-nil a)) ∙ (ap (λ (values : List Value). (read q k).tree l (a ++ []) values) (sym (append-nil v)) ∙ f.gives k h [] [] (ended q l))

tree_of : Sql → Out Sql → Sql
tree_of x None = x
tree_of x (Some out) = out.0

pub one_tree : IsOneTree
unfolding tree_of
one_tree dialect level text values x y r s =
    let f = (parsed r).found in
    let g = (parsed s).found in
    ap (tree_of x) (sym (read_to f (f.bound + g.bound) (omega arith)) ∙ read_to g (f.bound + g.bound) (omega arith))
