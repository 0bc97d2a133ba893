use Rattle.std.proofs.Common.{◌≡◌, ℕ, ◌<◌, ◌∙◌, List, length, get_or, ap, subst}
use Rattle.std.proofs.lemmas.List.{length-set}
use Rattle.object_arena.specs.declared.object.Link.{Link}
use Rattle.object_arena.specs.declared.object.Link.TheVariants.{Unset}
use Rattle.object_arena.specs.Graph.{object_at}
use Rattle.object_records.proofs.PutSteps.{links_more, links_there, left_more, left_taken, made_after, mixed, with_links}
use Rattle.object_records.proofs.puts.put_links.Goals as goal

pub put_link-requires-clause-object : goal.put_link-requires-clause-object
put_link-requires-clause-object c =
    made_after c.args.arena.now c.loop-place.arena c.args.object (with_links (object_at c.args.arena.now c.args.object) (mixed c.args.links (object_at c.args.arena.now c.args.object).links c.loop-place.place)) c.loop-place.invariant.0 c.requires.object

pub put_link-requires-clause-within : goal.put_link-requires-clause-within
put_link-requires-clause-within c =
    let less : c.loop-place.place < length c.args.links = subst (λ (n : ℕ). c.loop-place.place < n) c.len-place-end.ensures c.loop-place-test.true in
    let there = links_there c.args.arena.now c.loop-place.arena c.args.object c.args.links c.loop-place.place c.requires.object c.requires.long c.loop-place.invariant.0 in
    rw there less

pub loop-place-preserved : goal.loop-place-preserved
loop-place-preserved c =
    let hole : Link = Unset in
    let less : c.loop-place.place < length c.args.links = subst (λ (n : ℕ). c.loop-place.place < n) c.len-place-end.ensures c.loop-place-test.true in
    let taken : c.replace-link.result ≡ get_or c.args.links c.loop-place.place Unset = left_taken Unset c.replace-link.result c.args.links c.loop-place.links c.loop-place.place c.replace-link.ensures.before c.loop-place.invariant.1 in (
      links_more c.args.arena.now c.loop-place.arena c.put_link.new.arena c.args.object c.args.links c.replace-link.result Unset c.loop-place.place c.requires.object c.requires.long less taken c.loop-place.invariant.0 c.put_link.ensures,
      left_more Unset hole c.args.links c.loop-place.links c.replace-link.new.self c.loop-place.place c.replace-link.ensures.list c.loop-place.invariant.1,
      ap (λ (xs : List Link). length xs) c.replace-link.ensures.list ∙ length-set c.loop-place.links c.loop-place.place hole ∙ c.loop-place.invariant.2,
    )
