-- What is read of a bulk statement, lines can say.
use Rattle.std.proofs.Common.{◌≡◌, ℕ, true, List, Option, Some, None, refl}
use Rattle.std.proofs.lemmas.Bool.{and_from}
use Rattle.std.specs.List.{AllByRecursion, list_all}
use Rattle.script_types.specs.declared.expression.Syn.{Syn}
use Rattle.script_types.specs.declared.select.SynBulk.{SynBulk}
use Rattle.script_types.specs.declared.select.SynBulk.TheVariants.{Insert, Update, Delete}
use Rattle.script_lex.specs.declared.kind.Kind.{Kind}
use Rattle.script_lex.specs.declared.kind.Kind.TheVariants as k
use Rattle.script_select.specs.Bulk as b
use Rattle.script_resolve.specs.Sayable.{is_sayable_bulk, is_sayable_if_given}
use Rattle.sayable_lines.proofs.Yields.{Any, IfAny, Yields, link, made, refused, mapped, chosen, peeked, taken, eaten, expected, listed}
use Rattle.sayable_lines.proofs.Words.{named, names, values}
use Rattle.sayable_lines.proofs.Said.{Said}
use Rattle.sayable_lines.proofs.Expressions.{whole}
use Rattle.sayable_lines.proofs.Selects.{condition, each_holds, given_says}

abbrev SaidCell : List ℕ × Option Syn → Type 0
SaidCell cell = IfAny Said cell.1

pub record SaidBulk (w : SynBulk) : Type 0 where
  pub says : is_sayable_bulk w ≡ true

null_or_expression : Yields (IfAny Said) b.null_or_expression
unfolding b.null_or_expression
null_or_expression = link (eaten k.Null) (λ null _. chosen null (made None tt) (mapped Some whole (λ e is. is)))

cell : Yields SaidCell b.cell
unfolding b.cell
cell = link named (λ column _. link (expected k.Assign) (λ _ _. link null_or_expression (λ value is. made (column, value) is)))

cells : Yields (AllByRecursion SaidCell) b.cells
unfolding b.cells
cells = listed cell

row : Yields Any b.row
unfolding b.row
row = link (expected k.LParen) (λ _ _. link values (λ found _. link (expected k.RParen) (λ _ _. made found tt)))

insert : Yields SaidBulk b.insert
unfolding b.insert
insert =
    link named (λ table _. link names (λ columns _. link (expected k.Values) (λ _ _. link row (λ found _.
    made (Insert table columns found) (record { says = refl })))))

update_said : (table : List ℕ) (found : List (List ℕ × Option Syn)) (filter : Option Syn) → AllByRecursion SaidCell found → IfAny Said filter → SaidBulk (Update table found filter)
update_said table found filter all is = record {
  says = and_from (list_all (λ (c : List ℕ × Option Syn). is_sayable_if_given c.1) found) (is_sayable_if_given filter)
      (each_holds {P = SaidCell} (λ (c : List ℕ × Option Syn). is_sayable_if_given c.1) (λ c said. given_says c.1 said) found all) (given_says filter is);
}

update : Yields SaidBulk b.update
unfolding b.update
update =
    link named (λ table _. link (expected k.Set) (λ _ _. link cells (λ found all. link (condition k.Where) (λ filter is.
    made (Update table found filter) (update_said table found filter all is)))))

delete : Yields SaidBulk b.delete
unfolding b.delete
delete = link named (λ table _. link (condition k.Where) (λ filter is. made (Delete table filter) (record { says = given_says filter is })))

bulk_by : (kd : Kind) → Yields SaidBulk (b.bulk_by kd)
bulk_by k.Insert = link taken (λ _ _. insert)
bulk_by k.Update = link taken (λ _ _. update)
bulk_by k.Delete = link taken (λ _ _. delete)
bulk_by _ = refused

pub bulk : Yields SaidBulk b.bulk
unfolding b.bulk
bulk = link peeked (λ kind _. bulk_by kind)
