-- A field at a place of a list: where the list goes on with the bytes of a number, the field there is the number, and where it has a field, it goes on with the bytes of that.
use Prim.Native.Nat.{ℕ, suc, ◌+◌, ◌≤◌, ◌<◌}
use mathlib.Core.List.{List, ◌∷◌, ◌++◌}
use mathlib.Core.Path.{◌≡◌, sym, ap, ◌∙◌}
use native.Mathlib.Nat.{add-zero, add_assoc}
use native.Mathlib.Numerals.{add-one}
use native.Mathlib.Omega.{arith}
use lib.ListN.{length, drop}
use lib.Seq.{get_or-drop, drop-cons}
use Rattle.model.specs.Records.{byte_at, u16_at, u32_at, u16_bytes, u32_bytes}
use Rattle.fields.proofs.Bytes.{AllBytes}
use Rattle.fields.proofs.NumberBytes.{u16_back, u32_back, u16_same, u32_same}

-- ---- bytes at a place and what l goes on with there

byte_after : (l r : List ℕ) (at k : ℕ) → drop at l ≡ r → byte_at l (at + k) ≡ byte_at r k
byte_after l r at k e = sym (get_or-drop at l k 0) ∙ ap (λ x. byte_at x k) e

byte_here : (l r : List ℕ) (at : ℕ) → drop at l ≡ r → byte_at l at ≡ byte_at r 0
byte_here l r at e = rw add-zero at (byte_after l r at 0 e)

two_bytes : (l : List ℕ) (at : ℕ) → at + 2 ≤ length l → drop at l ≡ byte_at l at ∷ byte_at l (at + 1) ∷ drop (at + 2) l
two_bytes l at h =
    let e : suc (at + 1) ≡ at + 2 = omega arith in
    rw (drop-cons l at 0 (omega arith), ← add-one at, drop-cons l (at + 1) 0 (omega arith), e)

four_bytes : (l : List ℕ) (at : ℕ) → at + 4 ≤ length l → drop at l ≡ byte_at l at ∷ byte_at l (at + 1) ∷ byte_at l (at + 2) ∷ byte_at l (at + 3) ∷ drop (at + 4) l
four_bytes l at h = rw (two_bytes l at (omega arith), two_bytes l (at + 2) (omega arith), add_assoc at 2 1, add_assoc at 2 2)

-- ---- Where l goes on with the bytes of n, its field there is n.

pub u16_read : (l rest : List ℕ) (at n : ℕ) → n < 65536 → drop at l ≡ u16_bytes n ++ rest → u16_at l at ≡ n
u16_read l rest at n h e = rw (byte_here l _ at e, byte_after l _ at 1 e) (u16_back n h)

pub u32_read : (l rest : List ℕ) (at n : ℕ) → n < 4294967296 → drop at l ≡ u32_bytes n ++ rest → u32_at l at ≡ n
u32_read l rest at n h e = rw (byte_here l _ at e, byte_after l _ at 1 e, byte_after l _ at 2 e, byte_after l _ at 3 e) (u32_back n h)

-- ---- Where l has a field, it goes on with the field's bytes.

pub u16_written : (l : List ℕ) (at : ℕ) → AllBytes l → at + 2 ≤ length l → drop at l ≡ u16_bytes (u16_at l at) ++ drop (at + 2) l
u16_written l at h k =
    two_bytes l at k ∙ ap (λ r. r ++ drop (at + 2) l) (sym (u16_same (byte_at l at) (byte_at l (at + 1)) (h.below at) (h.below (at + 1))))

pub u32_written : (l : List ℕ) (at : ℕ) → AllBytes l → at + 4 ≤ length l → drop at l ≡ u32_bytes (u32_at l at) ++ drop (at + 4) l
u32_written l at h k =
    four_bytes l at k ∙ ap (λ r. r ++ drop (at + 4) l) (sym (u32_same _ _ _ _ (h.below at) (h.below (at + 1)) (h.below (at + 2)) (h.below (at + 3))))
