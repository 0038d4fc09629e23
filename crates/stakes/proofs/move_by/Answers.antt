-- `stakes::move_by` meets its contract: the difference of the two points, along the heading and to its left.
use Prim.Native.Nat.{◌*◌}
use mathlib.Core.List.{[], ◌∷◌}
use mathlib.Core.Path.{◌≡◌, ap, ◌∙◌}
use lib.IntN.{ℤ, pos, neg_ℤ, ◌+ℤ◌, ◌-ℤ◌, ◌*ℤ◌}
use mir.Facts.{to_z-of_z}
use mir.Syntax.{w64}
use Rattle.integers.proofs.Machine.{Env, env, machine, by_machine}
use Rattle.integers.proofs.Held.{held}
use Rattle.model.specs.Rounding.{ONE, near}
use Rattle.model.specs.Acceptance.{frame}
use Rattle.model.specs.Judged.{minus}
use Rattle.model.specs.Answers.{forward_of, left_of}
use Rattle.stakes.proofs.move_by.Goals.{Start}
use Rattle.stakes.proofs.move_by.Goals as goal

module _ (c : Start) where
  abbrev Γ : Env
  Γ =
      env (c.args.own.x ∷ c.args.own.y ∷ c.args.target.x ∷ c.args.target.y ∷ c.args.c ∷ c.args.s ∷ [])
      (frame ∷ frame ∷ frame ∷ frame ∷ 2 * ONE ∷ 2 * ONE ∷ [])
      (c.requires.from.x, (c.requires.from.y, (c.requires.to.x, (c.requires.to.y, (c.requires.first, (c.requires.second, tt))))))

  abbrev dx : ℤ
  dx = c.args.target.x -ℤ c.args.own.x

  abbrev dy : ℤ
  dy = c.args.target.y -ℤ c.args.own.y

  -- as the machine has them
  abbrev dx' : ℤ
  dx' = held (held c.args.target.x -ℤ held c.args.own.x)

  abbrev dy' : ℤ
  dy' = held (held c.args.target.y -ℤ held c.args.own.y)

  abbrev s' : ℤ
  s' = held (pos 0 -ℤ held c.args.s)

  forward : held c.args.c *ℤ dx' +ℤ held c.args.s *ℤ dy' ≡ c.args.c *ℤ dx +ℤ c.args.s *ℤ dy
  forward = by_machine Γ (search machine depth 20) (search machine depth 20) tt

  left : s' *ℤ dx' +ℤ held c.args.c *ℤ dy' ≡ neg_ℤ c.args.s *ℤ dx +ℤ c.args.c *ℤ dy
  left = by_machine Γ (search machine depth 20) (search machine depth 20) tt

pub returns : goal.returns
unfolding forward_of left_of minus
returns c =
    let b = (goal.at.returns c).Start in
    let f = to_z-of_z {w = w64} (record { sfits = c.near_sum.type_inv }) ∙ c.near_sum.ensures ∙ ap (λ (z : ℤ). near z ONE) (forward b) in
    let l = to_z-of_z {w = w64} (record { sfits = c.near_sum-2.type_inv }) ∙ c.near_sum-2.ensures ∙ ap (λ (z : ℤ). near z ONE) (left b) in
    rw (f, l)
