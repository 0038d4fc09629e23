-- `printing::text::Line::put_word` meets its contract: the word is copied to where the line ends.
use mathlib.Core.List.{◌++◌}
use mathlib.Core.Path.{ap, ◌∙◌}
use native.Mathlib.Omega.{arith}
use lib.ListN.{length, take}
use Prim.Native.Nat.{◌+◌, ◌≤◌}
use Rattle.printing.proofs.Texts.{put_at_end}
use Rattle.printing.proofs.Padded.{within, put_filled}
use Rattle.printing.proofs.text.Line.put_word.Goals as goal

pub returns-clause-value : goal.returns-clause-value
returns-clause-value c =
    let word = c.args.word.now in
    let room = c.self.inside.room in
    let len = c.self.inside.len in
    ap (take (len + length word)) c.copy_at.ensures ∙ put_at_end room len word (within room len c.self.invariant) ∙ ap (λ t. t ++ word) c.self.view_is

pub invariant_of-self : goal.invariant_of-self
invariant_of-self c =
    let word = c.args.word.now in
    let room = c.self.inside.room in
    let len = c.self.inside.len in
    let h = c.self.invariant in
    let fits : len + length word ≤ 128 = omega (arith, h.held, ap length c.self.view_is, c.requires) in
    rw c.copy_at.ensures (put_filled room len word h fits)
