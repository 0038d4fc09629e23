-- `run_bytes::put_run` meets its contract: eight fields, one after another, and none changes the length.
use borrow.Author.Rules.{rules}
use native.Mathlib.Omega.{arith}
use mathlib.Core.Path.{◌≡◌, ap, ◌∙◌}
use mathlib.Core.List.{List}
use Prim.Native.Nat.{ℕ}
use lib.IntN.{ℤ}
use mir.Syntax.{w32}
use mir.ValLaws.{to_z-of_z}
use mir.Val.{SFits, to_z, of_z}
use Rattle.model.specs.Records.{u16_bytes, put, put_all, i32_bytes}
use Rattle.model.specs.Run.{run_bytes}
use Rattle.run_bytes.proofs.put_run.Goals as goal

then_put : {l k m : List ℕ} (at : ℕ) (bytes : List ℕ) → l ≡ k → m ≡ put l at bytes → m ≡ put k at bytes
then_put at bytes e f = f ∙ ap (λ (x : List ℕ). put x at bytes) e

then_value : {l k m : List ℕ} (at : ℕ) (z : ℤ) → SFits w32 z → l ≡ k → m ≡ put l at (i32_bytes (to_z w32 (of_z w32 z))) → m ≡ put k at (i32_bytes z)
then_value {l} at z s e f = then_put at (i32_bytes z) e (f ∙ ap (λ (y : ℤ). put l at (i32_bytes y)) (to_z-of_z w32 z s))

pub put_i32-requires-3 : goal.put_i32-requires-3
put_i32-requires-3 c =
    omega (arith, c.put_i32-2.auto.s, c.put_i32.auto.s, c.put_u16-5.auto.s, c.put_u16-4.auto.s, c.put_u16-3.auto.s, c.put_u16-2.auto.s, c.put_u16.auto.s, c.requires)

pub shape_of-bytes : goal.shape_of-bytes
shape_of-bytes c =
    c.put_i32-3.auto.s ∙ c.put_i32-2.auto.s ∙ c.put_i32.auto.s ∙ c.put_u16-5.auto.s ∙ c.put_u16-4.auto.s ∙ c.put_u16-3.auto.s ∙ c.put_u16-2.auto.s ∙ c.put_u16.auto.s

pub returns : goal.returns
unfolding run_bytes put_all
returns c =
    let run = c.args.run in
    then_value 20 run.three (search rules)
    (then_value 16 run.two (search rules)
    (then_value 12 run.one (search rules)
    (then_put 8 (u16_bytes run.reading)
    (then_put 6 (u16_bytes run.first)
    (then_put 4 (u16_bytes run.latest)
    (then_put 2 (u16_bytes run.refused) c.put_u16.ensures c.put_u16-2.ensures)
    c.put_u16-3.ensures)
    c.put_u16-4.ensures)
    c.put_u16-5.ensures)
    c.put_i32.ensures)
    c.put_i32-2.ensures)
    c.put_i32-3.ensures
