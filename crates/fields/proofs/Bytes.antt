-- Bytes are numbers below 256. So are the bytes of their parts, and those after the store of a byte: each byte of these is one of the list's, the byte stored, or the 0 past the end.
use Prim.Native.Nat.{ℕ, zero, suc, ◌+◌, ◌/◌, ◌%◌, ◌<◌}
use mathlib.Core.List.{List, [], ◌∷◌, ◌++◌}
use mathlib.Core.Path.{◌≡◌}
use native.Mathlib.Nat.{mod-lt}
use native.Mathlib.Omega.{arith}
use native.Mathlib.Decide.{dec_lt, ℕ_discrete}
use lib.ListN.{length, drop, set, replicate, length-take, get_or-eq_default}
use lib.Seq.{get_or-drop, get_or-take, get_or-set_same, get_or-set_other, take-append_seam, drop-append_seam}
use Rattle.model.specs.Records.{byte_at, part, u16_bytes, u32_bytes}

pub record AllBytes (l : List ℕ) : Type 0 where
  pub below : (at : ℕ) → byte_at l at < 256

pub part_bytes : (l : List ℕ) (at n : ℕ) → AllBytes l → AllBytes (part l at n)
part_bytes l at n h = record { below = λ i. go i (dec_lt i n) }
  where
    go : (i : ℕ) → Dec (i < n) → byte_at (part l at n) i < 256
    go i (yes p) = rw (get_or-take n (drop at l) i 0 p, get_or-drop at l i 0) (h.below (at + i))
    go i (no p) = rw (get_or-eq_default (part l at n) 0 {n = i} (rw length-take (omega arith))) (omega arith)

pub drop_bytes : (n : ℕ) (l : List ℕ) → AllBytes l → AllBytes (drop n l)
drop_bytes n l h = record { below = λ i. rw (get_or-drop n l i 0) (h.below (n + i)) }

pub front_bytes : (p q : List ℕ) → AllBytes (p ++ q) → AllBytes p
front_bytes p q h = rw take-append_seam at (part_bytes (p ++ q) 0 (length p) h)

pub back_bytes : (p q : List ℕ) → AllBytes (p ++ q) → AllBytes q
back_bytes p q h = rw drop-append_seam at (drop_bytes (length p) (p ++ q) h)

pub set_bytes : (l : List ℕ) (i v : ℕ) → AllBytes l → i < length l → v < 256 → AllBytes (set l i v)
set_bytes l i v h k b = record { below = λ j. go j (ℕ_discrete j i) }
  where
    go : (j : ℕ) → Dec (j ≡ i) → byte_at (set l i v) j < 256
    go j (yes e) = rw (e, get_or-set_same l i v 0 k) b
    go j (no n) = rw (get_or-set_other l i j v 0 n) (h.below j)

-- ---- bytes one after another: those of a field are remainders modulo 256

pub none_bytes : AllBytes []
none_bytes = record { below = λ i. omega arith }

more_bytes : {a : ℕ} {l : List ℕ} → a < 256 → AllBytes l → AllBytes (a ∷ l)
more_bytes {a} {l} h b = record { below = go }
  where
    go : (i : ℕ) → byte_at (a ∷ l) i < 256
    go zero = h
    go (suc i) = b.below i

pub append_bytes : (p : List ℕ) {q : List ℕ} → AllBytes p → AllBytes q → AllBytes (p ++ q)
append_bytes [] b c = c
append_bytes (a ∷ p) b c = more_bytes (b.below 0) (append_bytes p (record { below = λ i. b.below (suc i) }) c)

pub zeros_bytes : (n : ℕ) → AllBytes (replicate n 0)
zeros_bytes zero = none_bytes
zeros_bytes (suc n) = more_bytes (omega arith) (zeros_bytes n)

digit_bytes : (n : ℕ) {l : List ℕ} → AllBytes l → AllBytes (n % 256 ∷ l)
digit_bytes n b = more_bytes (mod-lt n (omega arith)) b

pub u16_bytes_lem : (n : ℕ) → AllBytes (u16_bytes n)
u16_bytes_lem n = digit_bytes n (digit_bytes (n / 256) none_bytes)

pub u32_bytes_lem : (n : ℕ) → AllBytes (u32_bytes n)
u32_bytes_lem n = digit_bytes n (digit_bytes (n / 256) (digit_bytes (n / 65536) (digit_bytes (n / 16777216) none_bytes)))
