use Rattle.std.proofs.Common.{◌≡◌, ℕ, ◌<◌, ◌≤◌, ◌+◌, ◌∙◌, List, Option, None, length, get_or, refl, ap, subst, sym, arith}
use Rattle.std.specs.Option.{unwrap_or}
use Rattle.std.proofs.lemmas.List.{length-set}
use Rattle.base_core.specs.declared.ids.ClassId.{ClassId}
use Rattle.base_core.specs.declared.ids.ObjId.{ObjId}
use Rattle.object_arena.specs.declared.object.Object.{Object}
use Rattle.object_arena.specs.Graph.{Graph, no_object, object_at}
use Rattle.object_arena.specs.Identity.{IsOne}
use Rattle.object_records.specs.Records.{CanReplace, with_records}
use Rattle.object_records.proofs.FreeSteps.{free_record, held_more}
use Rattle.object_records.proofs.PutSteps.{left_more, left_taken, record_left, record_taken, records_all, records_long, records_more}
use Rattle.object_records.proofs.puts.put_all.Goals as goal

pub replace-given-requires : goal.replace-given-requires
replace-given-requires c =
    let less : c.loop-number.number < length c.args.arena.now.objects = subst (λ (n : ℕ). c.loop-number.number < n) c.count-number-end.ensures.count c.loop-number-test.true in
    omega (arith, less, c.requires.long, c.loop-number.invariant.2)

pub put_one-requires-clause-object : goal.put_one-requires-clause-object
put_one-requires-clause-object c =
    let less : c.loop-number.number < length c.args.arena.now.objects = subst (λ (n : ℕ). c.loop-number.number < n) c.count-number-end.ensures.count c.loop-number-test.true in
    let long = records_long c.args.records c.args.arena.now c.loop-number.arena c.loop-number.number c.loop-number.invariant.0 in
    (omega arith, omega (arith, less, long))

pub put_one-requires-clause-replaces : goal.put_one-requires-clause-replaces
put_one-requires-clause-replaces c =
    let object : ObjId = record { 0 = c.loop-number.number + 1 } in
    let less : c.loop-number.number < length c.args.arena.now.objects = subst (λ (n : ℕ). c.loop-number.number < n) c.count-number-end.ensures.count c.loop-number-test.true in
    let taken = left_taken None c.replace-given.result c.args.records c.loop-number.records c.loop-number.number c.replace-given.ensures.before c.loop-number.invariant.1 in
    let new = record_taken c.args.records c.args.arena.now c.loop-number.arena c.loop-number.number c.replace-given.result less taken c.loop-number.invariant.0 in
    let here = record_left c.args.records c.args.arena.now c.loop-number.arena c.loop-number.number c.loop-number.invariant.0 in
    subst (CanReplace (object_at c.loop-number.arena object)) (sym new)
    (subst (λ (o : Object). CanReplace o (get_or (with_records c.args.arena.now c.args.records).objects c.loop-number.number no_object)) (sym here) (c.requires.puttable.each c.loop-number.number less))

pub put_one-requires-clause-free : goal.put_one-requires-clause-free
put_one-requires-clause-free c =
    let object : ObjId = record { 0 = c.loop-number.number + 1 } in
    let objects : List Object = (with_records c.args.arena.now c.args.records).objects in
    let less : c.loop-number.number < length c.args.arena.now.objects = subst (λ (n : ℕ). c.loop-number.number < n) c.count-number-end.ensures.count c.loop-number-test.true in
    let taken = left_taken None c.replace-given.result c.args.records c.loop-number.records c.loop-number.number c.replace-given.ensures.before c.loop-number.invariant.1 in
    let new = record_taken c.args.records c.args.arena.now c.loop-number.arena c.loop-number.number c.replace-given.result less taken c.loop-number.invariant.0 in
    let long = records_long c.args.records c.args.arena.now c.loop-number.arena c.loop-number.number c.loop-number.invariant.0 in
    let roots : c.loop-number.arena.roots ≡ c.args.arena.now.roots = ap (λ (g : Graph). g.roots) c.loop-number.invariant.0 in
    let rooted : length c.loop-number.arena.roots ≡ length c.loop-number.arena.objects = ap (λ (rs : List ClassId). length rs) roots ∙ c.requires.puttable.rooted ∙ sym long in
    let one : IsOne objects c.loop-number.arena.roots = subst (λ (rs : List ClassId). IsOne objects rs) (sym roots) c.requires.puttable.one in
    λ is. free_record c.loop-number.arena objects c.loop-number.number (unwrap_or c.replace-given.result (object_at c.loop-number.arena object)) new rooted c.loop-number.invariant.3 one is

pub loop-number-preserved : goal.loop-number-preserved
loop-number-preserved c =
    let object : ObjId = record { 0 = c.loop-number.number + 1 } in
    let none : Option Object = None in
    let less : c.loop-number.number < length c.args.arena.now.objects = subst (λ (n : ℕ). c.loop-number.number < n) c.count-number-end.ensures.count c.loop-number-test.true in
    let taken = left_taken None c.replace-given.result c.args.records c.loop-number.records c.loop-number.number c.replace-given.ensures.before c.loop-number.invariant.1 in
    let new = record_taken c.args.records c.args.arena.now c.loop-number.arena c.loop-number.number c.replace-given.result less taken c.loop-number.invariant.0 in
    let long = records_long c.args.records c.args.arena.now c.loop-number.arena c.loop-number.number c.loop-number.invariant.0 in
    let within : c.loop-number.number < length c.loop-number.arena.objects = omega (arith, less, long) in (
      records_more c.args.records c.args.arena.now c.loop-number.arena c.put_one.new.arena c.loop-number.number c.replace-given.result less taken c.loop-number.invariant.0 c.put_one.ensures,
      left_more None none c.args.records c.loop-number.records c.replace-given.new.self c.loop-number.number c.replace-given.ensures.list c.loop-number.invariant.1,
      ap (λ (xs : List (Option Object)). length xs) c.replace-given.ensures.list ∙ length-set c.loop-number.records c.loop-number.number none ∙ c.loop-number.invariant.2,
      held_more c.loop-number.arena c.put_one.new.arena (with_records c.args.arena.now c.args.records).objects c.loop-number.number (unwrap_or c.replace-given.result (object_at c.loop-number.arena object)) within new c.put_one.ensures c.loop-number.invariant.3,
    )

pub loop-number-init : goal.loop-number-init
loop-number-init c = (refl, λ k past. refl, refl, c.requires.puttable.held)

pub returns : goal.returns
returns c =
    records_all c.args.records c.args.arena.now c.loop-number.arena c.loop-number.number
    (subst (λ (n : ℕ). n ≤ c.loop-number.number) c.count-number-end.ensures.count c.loop-number-test.false) c.loop-number.invariant.0
