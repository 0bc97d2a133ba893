use Rattle.std.proofs.Common.{◌≡◌, ◌<◌, ◌≤◌, ◌++◌, [], length, get_or, sym, ap, ◌∙◌, subst, arith}
use Rattle.std.proofs.lemmas.List.{get_or_read}
use Rattle.std.specs.List.{All}
use Rattle.std.specs.Option.{option_to_list}
use Rattle.row_order.specs.Lists.{list_at, times}
use Rattle.row_order.proofs.SearchLemmas.{next_is, next_none, nothing_more, placed_then, room, row_within}
use Rattle.row_order.proofs.search.place_next.Goals as goal

pub release_all-requires-clause-within : goal.release_all-requires-clause-within
release_all-requires-clause-within c =
    let now = c.args.search.now in
    let lists = c.args.rows.now.lists.now in
    let waiting = c.args.rows.now.waiting.now in
    let less : c.in-Some.row < length lists = row_within lists now.placed.items now.counts.items now.left.items now.ready c.in-Some.row c.requires.stands c.in-Some.ensures.here in
    let is : c.as_slice-waiting.result.now ≡ list_at waiting c.in-Some.row = c.as_slice-waiting.ensures ∙ sym c.index-rows-row.is ∙ get_or_read waiting c.in-Some.row _ (omega (arith, less, c.requires.mirrored.size)) c.index-rows-row.is [] in
    let size : length waiting ≡ length now.counts.items = c.requires.mirrored.size ∙ sym c.requires.stands.counted in
    subst (λ n. All (λ r. r < n) c.as_slice-waiting.result.now) size (subst (All (λ r. r < length waiting)) (sym is) (c.requires.mirrored.rows c.in-Some.row))

pub release_all-requires-clause-enough : goal.release_all-requires-clause-enough
release_all-requires-clause-enough c = λ o.
    let now = c.args.search.now in
    let lists = c.args.rows.now.lists.now in
    let waiting = c.args.rows.now.waiting.now in
    let less : c.in-Some.row < length lists = row_within lists now.placed.items now.counts.items now.left.items now.ready c.in-Some.row c.requires.stands c.in-Some.ensures.here in
    let is : c.as_slice-waiting.result.now ≡ list_at waiting c.in-Some.row = c.as_slice-waiting.ensures ∙ sym c.index-rows-row.is ∙ get_or_read waiting c.in-Some.row _ (omega (arith, less, c.requires.mirrored.size)) c.index-rows-row.is [] in
    subst (λ xs. times o xs ≤ get_or now.counts.items o 0) (sym is) (room lists waiting now.placed.items now.counts.items now.left.items now.ready c.in-Some.row c.requires.mirrored c.requires.stands c.in-Some.ensures.here o)

pub returns-in-None-clause-placed : goal.returns-in-None-clause-placed
returns-in-None-clause-placed c =
    let now = c.args.search.now in
    nothing_more now.placed.items _ (next_none c.args.rows.now.lists.now now.placed.items now.counts.items now.left.items now.ready c.requires.rows c.requires.stands c.in-None.ensures.none)

pub returns-in_ok-release_all-in-Some-clause-stands : goal.returns-in_ok-release_all-in-Some-clause-stands
returns-in_ok-release_all-in-Some-clause-stands c =
    let now = c.args.search.now in
    let lists = c.args.rows.now.lists.now in
    let waiting = c.args.rows.now.waiting.now in
    let less : c.in-Some.row < length lists = row_within lists now.placed.items now.counts.items now.left.items now.ready c.in-Some.row c.requires.stands c.in-Some.ensures.here in
    let is : c.as_slice-waiting.result.now ≡ list_at waiting c.in-Some.row = c.as_slice-waiting.ensures ∙ sym c.index-rows-row.is ∙ get_or_read waiting c.in-Some.row _ (omega (arith, less, c.requires.mirrored.size)) c.index-rows-row.is [] in
    placed_then lists waiting now.placed.items c.push.new.self.items now.counts.items c.release_all.new.counts.items now.left.items now.ready c.take_first.new.ready c.release_all.new.ready c.in-Some.row c.as_slice-waiting.result.now
    c.requires.rows c.requires.mirrored c.requires.stands c.in-Some.ensures.here c.in-Some.ensures.others is c.in_ok-push-in-Some.ensures.items c.in_ok-release_all-in-Some.ensures.size c.in_ok-release_all-in-Some.ensures.counts c.in_ok-release_all-in-Some.ensures.ready

pub returns-in_ok-release_all-in-Some-clause-placed : goal.returns-in_ok-release_all-in-Some-clause-placed
returns-in_ok-release_all-in-Some-clause-placed c =
    let now = c.args.search.now in
    c.in_ok-push-in-Some.ensures.items
    ∙ ap (λ o. now.placed.items ++ option_to_list o) (sym (next_is c.args.rows.now.lists.now now.placed.items now.counts.items now.left.items now.ready c.in-Some.row c.requires.rows c.requires.stands c.in-Some.ensures.here c.in-Some.ensures.first))
