-- One changed byte of a sound block is seen. Among bytes 0 to 507 it changes their sum by less than 256, so that A is another number modulo 65,536; of the last four it changes a stored sum, and the sums stay as they were.
use Prim.Native.Nat.{ℕ, zero, suc, ◌+◌, ◌-◌, ◌≤◌, ◌<◌}
use mathlib.Core.Bool.{Bool, true, false}
use mathlib.Core.List.{List, [], ◌∷◌}
use mathlib.Core.Logic.{◌≢◌}
use mathlib.Core.Path.{◌≡◌, refl, sym, ap, ◌∙◌}
use native.Mathlib.Decide.{dec_lt}
use native.Mathlib.Omega.{arith}
use lib.ListN.{length, take, drop, set, length-set}
use lib.Seq.{length-take-le, take-set-lt, take-set-le, get_or-take, get_or-drop, get_or-set_same, get_or-set_other}
use Rattle.model.specs.Records.{byte_at, u16_at, sum_of, sum_a, sum_b}
use Rattle.model.specs.Acceptance.{sums_agree}
use Rattle.fields.proofs.Bytes.{AllBytes, set_bytes}
use Rattle.blocks.proofs.OneBlock.{same_sums, stored_sums}
use Rattle.blocks.proofs.BlockRules.{sums_agree_lem}

-- the sum takes the new byte for the old one
sum_set : (l : List ℕ) (i v : ℕ) → i < length l → sum_of (set l i v) + byte_at l i ≡ sum_of l + v
unfolding sum_of
sum_set [] i v h = absurd (omega arith)
sum_set (b ∷ l) zero v h = omega arith
sum_set (b ∷ l) (suc i) v h = omega (arith, sum_set l i v (omega arith))

module _ (l : List ℕ) (i v : ℕ) (bytes : AllBytes l) (size : length l ≡ 512) (within : i < 512) (small : v < 256) where
  -- bytes 0 to 507
  same_sum_a : i < 508 → sum_a (set l i v) ≡ sum_a l → v ≡ byte_at l i
  unfolding sum_a
  same_sum_a h e =
      let s = sum_set (take 508 l) i v (rw (length-take-le 508 l (omega arith)) h) in
      let t = get_or-take 508 l i 0 h in
      let d = rw (take-set-lt 508 l i v h) at e in
      omega (arith, bytes.below i)

  -- bytes 508 to 511
  same_stored : 508 ≤ i → drop 508 (set l i v) ≡ drop 508 l → v ≡ byte_at l i
  same_stored h e =
      let k : 508 + (i - 508) ≡ i = omega arith in
      let f = sym (get_or-drop 508 (set l i v) (i - 508) 0) ∙ ap (λ x. byte_at x (i - 508)) e ∙ get_or-drop 508 l (i - 508) 0 in
      sym (get_or-set_same l i v 0 (omega arith)) ∙ (rw k at f)

  -- sums that agree before and after tell that nothing was changed
  unchanged : sums_agree l ≡ true → sums_agree (set l i v) ≡ true → v ≡ byte_at l i
  unchanged e f = go (dec_lt i 508)
    where
      old : (u16_at l 508 ≡ sum_a l) × (u16_at l 510 ≡ sum_b l)
      old = (sums_agree_lem l).0 e

      new : (u16_at (set l i v) 508 ≡ sum_a (set l i v)) × (u16_at (set l i v) 510 ≡ sum_b (set l i v))
      new = (sums_agree_lem (set l i v)).0 f

      go : Dec (i < 508) → v ≡ byte_at l i
      go (yes h) =
          let stored : u16_at (set l i v) 508 ≡ u16_at l 508 = rw (get_or-set_other l i 508 v 0 (omega arith), get_or-set_other l i 509 v 0 (omega arith)) in
          same_sum_a h (sym new.0 ∙ stored ∙ old.0)
      go (no h) =
          let s = same_sums (set l i v) l (take-set-le 508 l i v (omega arith)) in
          let d₁ = stored_sums l bytes size old.0 old.1 in
          let d₂ = stored_sums (set l i v) (set_bytes l i v bytes (omega arith) small) (rw length-set size) new.0 new.1 in
          same_stored (omega arith) ((rw (s.0, s.1) at d₂) ∙ sym d₁)

-- Any single changed byte of a block makes its A or B wrong.
pub single_byte : (block : List ℕ) (i v : ℕ) → AllBytes block → length block ≡ 512 → sums_agree block ≡ true → i < 512 → v < 256 → v ≢ byte_at block i → sums_agree (set block i v) ≡ false
single_byte block i v bytes size e within small other = go (sums_agree (set block i v)) refl
  where
    go : (t : Bool) → sums_agree (set block i v) ≡ t → t ≡ false
    go true f = absurd (other (unchanged block i v bytes size within small e f))
    go false f = refl
