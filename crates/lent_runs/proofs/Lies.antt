-- A run in a local of the caller's: as what a borrow of it holds, and back.
use Prim.Native.Nat.{ℕ}
use mathlib.Core.List.{[], ◌∷◌, List}
use seplogic.Ra.Ura.{Ura}
use base.Fraction.{full_share}
use mir.Val.{Val}
use base.Logic.{ent, guard}
use base.Fml.{fsep, fat}
use types.Logic.{Logic, sem}
use types.Kit.{‵, ◌$◌, ◌∵◌, !, qed, move, drop, use1, fsplit, fjoin, fpick, fpack, check, done}
use denote.Laws.{Is, shows}
use denote.Memory.{cell_at, part_at, part_of}
use denote.Steps.{owned, peeks}
use denote.Struct.Steps.{spelt}
use denote.Struct.Laws as LL
use Rattle.model.specs.declared.Run.{Run}
use Rattle.model.specs.contracts.Run as T
use Rattle.model.proofs.Run.TheLaws as T'

-- the machine value of a run
abbrev pub mach : Run → Val
mach r = LL.val T.the_type T'.the_laws r

module _ {M : Type 1} {𝓤 : Ura M} (𝓛 : Logic 𝓤) (h : Run) (b : ℕ) where
  pub lies_in : Is T.the_row h (mach h ∷ []) → ent 𝓤 (sem 𝓛 (fat full_share T'.mir b 0 (mach h))) (sem 𝓛 (part_at T.the_row full_share h b 0))
  unfolding part_of
  lies_in was =
      qed 𝓛 (‵ (fat full_share T'.mir b 0 (mach h)) ∷ []) ∵
      use1 𝓛 (‵ (cell_at full_share (T.the_row).mir (mach h ∷ []) b 0)) (𝓛.laws.at_raw full_share T'.mir b 0 (mach h)) $
      owned ! T.the_row (Is T.the_row) ((LL.makes T.the_type T'.the_plain) 𝓛) h _ was $ move ! (1 ∷ 0 ∷ []) $ fjoin ! $
      fpack ! (List Val) (λ us. fsep (cell_at full_share (T.the_row).mir us b 0) ((T.the_row).own_val h us)) (mach h ∷ []) $ done !

  pub lies_out : ent 𝓤 (sem 𝓛 (part_at T.the_row full_share h b 0)) (guard 𝓤 (Is T.the_row h (mach h ∷ [])) (sem 𝓛 (fat full_share T'.mir b 0 (mach h))))
  unfolding part_of
  lies_out =
      qed 𝓛 (‵ (part_at T.the_row full_share h b 0) ∷ []) ∵ fpick ! (λ vs. fsplit ! $
      spelt ! T.the_row (Is T.the_row) (shows 𝓛 T.the_row) (LL.vals T.the_type T'.the_laws) (LL.tells T.the_type T'.the_laws) full_share h vs b 0 $
      use1 𝓛 (‵ (fat full_share T'.mir b 0 (mach h))) (𝓛.laws.raw_at full_share T'.mir b 0 (mach h)) $
      move ! (1 ∷ []) $ peeks ! T.the_row (Is T.the_row) (shows 𝓛 T.the_row) h (mach h ∷ []) (λ is. drop ! $ check ! is $ done !))
