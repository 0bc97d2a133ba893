use Rattle.std.proofs.Common.{◌≡◌, ℕ, ◌≤◌, ◌∙◌, List, length, map, take, ap, sym, subst}
use Rattle.std.specs.List.{All}
use Rattle.std.proofs.lemmas.List.{take_all}
use Rattle.object_arena.specs.declared.object.Object.{Object}
use Rattle.object_arena.specs.Graph.{Graph}
use Rattle.savepoints.specs.declared.scope.Scope.{Scope}
use Rattle.savepoints.specs.declared.scope.Standing.{Standing}
use Rattle.savepoints.specs.Scopes.{HasKeys, IsStanding, begun_at, standing_of}
use Rattle.savepoints.proofs.KeyLemmas.{keys_begun, sound_begun}
use Rattle.savepoints.proofs.scope.begun_at.Goals as goal

begun_is : (standings : List Standing) (graph : Graph) (i : ℕ) → standings ≡ map (λ object. standing_of object) (take i graph.objects) → length graph.objects ≤ i → (let scope : Scope = record { standings = standings } in scope ≡ begun_at graph)
begun_is standings graph i so_far ended =
    let begun : List Standing → Scope = λ all. record { standings = all } in
    ap begun (so_far ∙ ap (λ (objects : List Object). map (λ object. standing_of object) objects) (take_all i graph.objects ended))

pub returns-clause-sound : goal.returns-clause-sound
returns-clause-sound c =
    let ended = subst (λ (n : ℕ). n ≤ c.loop-number.number) c.count-number-end.ensures.count c.loop-number-test.false in
    subst (λ (s : Scope). All IsStanding s.standings) (sym (begun_is c.loop-number.standings c.args.arena.now c.loop-number.number c.loop-number.invariant ended)) (sound_begun c.args.arena.now c.count-number-end.ensures.graph)

pub returns-clause-keys : goal.returns-clause-keys
returns-clause-keys c = λ mapped fit.
    let ended = subst (λ (n : ℕ). n ≤ c.loop-number.number) c.count-number-end.ensures.count c.loop-number-test.false in
    subst (λ (s : Scope). HasKeys mapped c.args.arena.now s) (sym (begun_is c.loop-number.standings c.args.arena.now c.loop-number.number c.loop-number.invariant ended)) (keys_begun mapped c.args.arena.now fit)
