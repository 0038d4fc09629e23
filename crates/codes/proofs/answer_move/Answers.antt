-- `codes::answer_move` meets its contract, case by case.
use mathlib.Core.Path.{refl, sym, ap, ◌∙◌, subst}
use native.Mathlib.Omega.{arith}
use Prim.Native.Nat.{◌^◌, ◌<◌}
use lib.IntN.{ℤ}
use lib.Signed.{mag}
use mir.Syntax.{w32, w64}
use mir.Val.{SFits}
use mir.Facts.{sfits_widen}
use Rattle.model.specs.declared.Move.{Move}
use Rattle.model.specs.Records.{put_all}
use Rattle.model.specs.Answers.{code, paper_of_move}
use Rattle.model.specs.Calls.{forward_at, move_bytes}
use Rattle.run.proofs.Narrow.{narrow_fits}
use Rattle.codes.specs.Codes.{Movable}
use Rattle.codes.proofs.Casts.{then_two}
use Rattle.codes.proofs.answer_move.Goals as goal

-- a number of 32 bits is one of 64
wide_of : (z : ℤ) → SFits w32 z → mag z < 2 ^ 63
wide_of z f = (sfits_widen {w = w32} {w' = w64} (tt {0}) f).sfits

pub put_two-requires : goal.put_two-requires
put_two-requires c =
    let v = c.requires.movable.values c.in-By.is in record { at_in_bounds = omega (arith, c.requires.room_len); sfits = search (narrow_fits, wide_of, v); sfits_2 = search (narrow_fits, wide_of, v) }

pub code_of-requires : goal.code_of-requires
unfolding paper_of_move
code_of-requires c =
    let k = (subst Movable c.in-Refused.is c.requires.movable).coded in
    record { number = k.number; place = k.place }

pub returns-in-By : goal.returns-in-By
unfolding code paper_of_move move_bytes put_all
returns-in-By c =
    let e = c.in-By.is in
    let v = c.requires.movable.values e in
    let room = c.args.room.now in
    record { value = sym (ap (λ (m : Move). code (paper_of_move m)) e); room_after = then_two {l = room} forward_at c.in-By.forward c.in-By.left (wide_of _ v.0) (wide_of _ v.1) refl c.put_two.ensures ∙ sym (ap (λ (m : Move). move_bytes m room) e) }

pub returns-in-Refused : goal.returns-in-Refused
unfolding code paper_of_move move_bytes
returns-in-Refused c =
    let e = c.in-Refused.is in record { value = c.code_of.ensures ∙ sym (ap (λ (m : Move). code (paper_of_move m)) e); room_after = sym (ap (λ (m : Move). move_bytes m c.args.room.now) e) }
