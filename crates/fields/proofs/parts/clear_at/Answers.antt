-- `fields::parts::clear_at` meets its contract: the lent part comes back as zeros.
use mathlib.Core.Path.{ap, ◌∙◌}
use Prim.Native.Nat.{ℕ}
use lib.ListN.{length, replicate, length-replicate}
use Rattle.model.specs.Records.{put}
use Rattle.fields.proofs.PartsOf.{lent_length}
use Rattle.fields.proofs.Puts.{lent_back}
use Rattle.fields.proofs.parts.clear_at.Goals as goal

pub returns : goal.returns
returns c =
    let a = c.args in
    let n = lent_length a.room.now a.at a.n c.requires in
    let e = c.fill.ensures.after (λ y h. h) ∙ ap (λ (k : ℕ). replicate k 0) n in
    lent_back a.room.now a.at a.n _ (ap length e ∙ length-replicate a.n 0) ∙ ap (λ p. put a.room.now a.at p) e
