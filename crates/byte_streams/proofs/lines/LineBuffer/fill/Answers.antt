use Rattle.std.proofs.Common.{◌≡◌, ℕ, ◌<◌, List, ◌++◌, length, take, ap, ◌∙◌, eqb, arith}
use Rattle.byte_streams.specs.Cutting.{Pending}
use Rattle.std.proofs.lemmas.Grind.{common_steps}
use Rattle.byte_streams.proofs.Reading.{read_behind, filled}
use Rattle.byte_streams.proofs.lines.LineBuffer.fill.Goals as goal

pub returns-clause-read : goal.returns-clause-read
returns-clause-read g c =
    let old = c.args.self.now in
    let buffer : List ℕ = c.read.new.buffer in
    let n : ℕ = c.in-Ok.count in
    let copied : c.in_ok-bytes.bytes.items ≡ old.bytes = grind (arith, common_steps) in
    let room : 0 < length buffer = grind (arith, common_steps) in
    let items : c.truncate.new.self.items ≡ old.bytes ++ take n buffer = grind (arith, common_steps, read_behind) in
    let now : Pending = record { bytes = c.truncate.new.self.items; taken = c.self.inside.taken; ended = eqb n 0 } in
    filled old now (g.S.Source.left c.args.source.now) (g.S.Source.left c.read.new.self) (take n buffer) (ap (λ (p : Pending). p.taken) c.self.view_is) items (ap (λ (k : ℕ). eqb k 0) c.in-Ok.ensures.bound.1) c.in-Ok.ensures.bytes.0 (λ none. c.in-Ok.ensures.bytes.1 (c.in-Ok.ensures.bound.1 ∙ none) room)
