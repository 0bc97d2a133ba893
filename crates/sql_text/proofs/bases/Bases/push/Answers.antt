use Rattle.std.proofs.Common.{◌≡◌, ℕ, ◌+◌, List, [], ◌∷◌, ◌++◌, Some, string_bytes, rules}
use Rattle.std.specs.BTreeMap.{get_by_text}
use Rattle.std.specs.Map.{update}
use Rattle.std.specs.Str.{bytes_eq}
use Rattle.std.proofs.lemmas.Map.Text.{btree_map_updates_text}
use Rattle.sql_text.specs.Written.{uses_of}
use Rattle.sql_text.proofs.Uses.{used_once_more}
use Rattle.sql_text.proofs.bases.Bases.push.Goals as goal

pub invariant_of-self-2 : goal.invariant_of-self-2
invariant_of-self-2 c =
    let same : string_bytes c.in_ok-key.key ≡ string_bytes c.args.base = search rules in
    let sets : (q : List ℕ) → get_by_text c.insert.new.self q ≡ update bytes_eq (get_by_text c.self.inside.uses) (string_bytes c.in_ok-key.key) (Some c.args.number) q = λ q. btree_map_updates_text (string_bytes c.in_ok-key.key) c.self.inside.uses c.insert.new.self (Some c.args.number) c.in_ok-insert.ensures.updates q in
    let all : c.push_reserved.new.self.items ≡ c.self.inside.bases.items ++ string_bytes c.in_ok-key.key ∷ [] = cc (c.in_ok-reserve.ensures.items, c.push_reserved.ensures.items, c.new.ensures, same) in
    let next : c.args.number ≡ uses_of c.self.inside.bases.items (string_bytes c.in_ok-key.key) + 1 = cc (c.requires, c.self.view_is, same) in
    λ q. rw all (used_once_more c.self.inside.uses c.insert.new.self c.self.inside.bases.items (string_bytes c.in_ok-key.key) c.args.number next c.self.invariant sets q)
