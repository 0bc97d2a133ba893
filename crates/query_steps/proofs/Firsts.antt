-- One more row among those that were seen.
use Rattle.std.proofs.Common.{◌≡◌, Bool, true, false, not, List, [], ◌∷◌, ◌++◌, ◌||◌, cond, refl, ap, sym, ◌∙◌}
use Rattle.std.proofs.Math.Bool.{or-false, or_comm}
use Rattle.std.proofs.lemmas.List.Folds.{list_any-append}
use Rattle.std.proofs.lemmas.Map.Steps.{list_any_congr}
use Rattle.std.specs.List.{list_any}
use Rattle.std.specs.BTreeSet.{BTreeSet, contains}
use Rattle.std.specs.Cmp.{IsEquivalence, eq_by_cmp_equiv}
use Rattle.std.specs.Cmp.Lexicographic.{lists_total}
use Rattle.base_core.specs.Order.{values_cmp}
use Rattle.base_core.specs.OrderLaws.{value_cmp_total}
use Rattle.sql_semantics.specs.Eval.{Row}
use Rattle.sql_semantics.specs.Order.{same_row}
use Rattle.query_steps.specs.Seen.{HasSeen}

same_row_equiv : IsEquivalence same_row
same_row_equiv = eq_by_cmp_equiv (lists_total value_cmp_total)

seen_before : (done : List Row) (r q : Row) (s : Bool) → list_any (same_row r) done ≡ true → same_row r q ≡ s → (s || list_any (same_row q) done) ≡ list_any (same_row q) done
seen_before done r q true h e = sym h ∙ list_any_congr same_row_equiv r q done e
seen_before done r q false h e = refl

seen_by : (done : List Row) (r q : Row) (b : Bool) → list_any (same_row r) done ≡ b → (same_row r q || list_any (same_row q) done) ≡ list_any (same_row q) (cond b done (done ++ r ∷ []))
seen_by done r q true h = seen_before done r q (same_row r q) h refl
seen_by done r q false h =
    or_comm (same_row r q) (list_any (same_row q) done) ∙ ap (λ b. list_any (same_row q) done || b) (same_row_equiv.symm r q ∙ sym (or-false (same_row q r)))
    ∙ sym (list_any-append (same_row q) done (r ∷ []))

put_in : (b c : Bool) → cond b true c ≡ (b || c)
put_in true c = refl
put_in false c = refl

turned : {A : Type 0} (b : Bool) (x y : A) → cond (not b) x y ≡ cond b y x
turned true x y = refl
turned false x y = refl

-- a row goes to the end where the set did not have it
pub kept_more : (seen : BTreeSet Row) (kept more : List Row) (key r : Row) (added : Bool) → key ≡ r → HasSeen seen kept → added ≡ not (contains values_cmp seen key) → more ≡ cond added (kept ++ r ∷ []) kept →
    more ≡ cond (list_any (same_row r) kept) kept (kept ++ r ∷ [])
kept_more seen kept more key r added is h e m =
    m ∙ ap (λ b. cond b (kept ++ r ∷ []) kept) (e ∙ ap (λ k. not (contains values_cmp seen k)) is ∙ ap not (h.same r)) ∙ turned (list_any (same_row r) kept) (kept ++ r ∷ []) kept

pub seen_more : (seen new : BTreeSet Row) (kept more : List Row) (key r : Row) → key ≡ r → HasSeen seen kept → ((q : Row) → contains values_cmp new q ≡ cond (same_row key q) true (contains values_cmp seen q)) →
    more ≡ cond (list_any (same_row r) kept) kept (kept ++ r ∷ []) → HasSeen new more
seen_more seen new kept more key r is h n m = record {
  same = λ q. n q ∙ ap (λ k. cond (same_row k q) true (contains values_cmp seen q)) is ∙ put_in (same_row r q) (contains values_cmp seen q) ∙ ap (λ b. same_row r q || b) (h.same q) ∙ seen_by kept r q (list_any (same_row r) kept) refl ∙ ap (λ rows. list_any (same_row q) rows) (sym m);
}
