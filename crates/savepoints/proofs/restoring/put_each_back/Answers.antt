use Rattle.std.proofs.Common.{◌≡◌, ◌≢◌, ℕ, ◌<◌, ◌≤◌, ◌∙◌, ◌+◌, ◌-◌, length, refl, subst, sym, arith}
use Rattle.base_core.specs.declared.ids.ObjId.{ObjId}
use Rattle.object_arena.specs.Graph.{object_at}
use Rattle.object_arena.proofs.ClassLemmas.{classes_long}
use Rattle.savepoints.specs.Scopes.{wanted_standing}
use Rattle.savepoints.proofs.BackLemmas.{back_all, back_more, wanted_same}
use Rattle.savepoints.proofs.KeyLemmas.{key_then}
use Rattle.savepoints.proofs.restoring.put_each_back.Goals as goal

pub loop-number-preserved : goal.loop-number-preserved
loop-number-preserved c =
    let number : ℕ = c.loop-number.number in
    let object : ObjId = record { 0 = number + 1 } in
    let place : number + 1 - 1 ≡ number = omega arith in
    let less : number < length c.args.arena.now.objects = subst (λ (n : ℕ). number < n) c.count-number-end.ensures.count c.loop-number-test.true in
    let inv = c.loop-number.invariant in
    let is : wanted_standing c.loop-number.scope c.args.traces.now (number + 1 - 1) (object_at c.loop-number.arena object) ≡ wanted_standing c.args.scope c.args.traces.now number (object_at c.loop-number.arena object) =
    wanted_same c.args.scope c.loop-number.scope c.args.traces.now number (number + 1 - 1) (object_at c.loop-number.arena object) place (inv.2 number (omega arith)) inv.3 in (
      back_more c.args.scope c.args.traces.now c.args.arena.now c.loop-number.arena c.put_one_back.new.arena number (number + 1) (wanted_standing c.loop-number.scope c.args.traces.now (number + 1 - 1) (object_at c.loop-number.arena object))
          less c.count-number-end.ensures.graph.rooted c.requires.free inv.0 refl is c.put_one_back.ensures.back,
      classes_long c.loop-number.arena c.put_one_back.new.arena c.put_one_back.ensures.keeps.classes ∙ inv.1,
      λ other past.
          let apart : other ≢ number + 1 - 1 = omega arith in
          c.put_one_back.ensures.others other apart ∙ inv.2 other (omega arith),
      c.put_one_back.ensures.long ∙ inv.3,
      c.put_one_back.ensures.sound,
      record {
        fits = λ mapped has fit.
            c.put_one_back.ensures.keeps.fits mapped
            (key_then mapped c.args.arena.now c.loop-number.arena c.args.scope c.loop-number.scope number (number + 1 - 1) place less inv.5.classes (inv.2 number (omega arith)) has)
            (inv.5.fits mapped has fit);
        classes = c.put_one_back.ensures.keeps.classes ∙ inv.5.classes;
      },
    )

pub returns-clause-back : goal.returns-clause-back
returns-clause-back c =
    back_all c.args.scope c.args.traces.now c.args.arena.now c.loop-number.arena c.loop-number.number
    (subst (λ (n : ℕ). n ≤ c.loop-number.number) c.count-number-end.ensures.count c.loop-number-test.false) c.loop-number.invariant.0
