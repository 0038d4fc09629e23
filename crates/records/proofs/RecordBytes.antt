-- The 32 bytes of an accepted record are those of its element: the kind gives byte 0, the reserved bytes are zero, and the bytes of every other field are those of its
-- number. So records of which each is accepted are those of their elements.
use Prim.Native.Nat.{ℕ, zero, suc, ◌+◌, ◌*◌, ◌<◌}
use native.Mathlib.Omega.{arith}
use mathlib.Core.Bool.{and-eq-true_iff}
use mathlib.Core.List.{List}
use mathlib.Core.Path.{◌≡◌, refl, sym, subst}
use lib.ListN.{length, drop, get_or}
use lib.Seq.{take-add, drop-drop}
use Rattle.model.specs.Records.{part, record_of}
use Rattle.model.specs.Acceptance.{element_of, record_fields, element_bytes, reserved_zero, record_rules, element_at, elements_from, elements_bytes}
use Rattle.model.proofs.Verdict.{AllHold, more}
use Rattle.model.proofs.KindBytes.{kind_same}
use Rattle.fields.proofs.Bytes.{AllBytes}
use Rattle.fields.proofs.NumberBytes.{u32_same, i32_same}
use Rattle.fields.proofs.Listed.{list_of, written_out}
use Rattle.fields.proofs.Zeros.{part_zero}

listed_same : (f : ℕ → ℕ) (r : ℕ) → ((i : ℕ) → f i < 256) → AllHold (record_rules (list_of 32 f) r) → element_bytes (element_of (list_of 32 f)) ≡ list_of 32 f
unfolding list_of element_bytes element_of record_rules reserved_zero
listed_same f r b (more damaged (more later (more reserved a))) =
    let zeros = (and-eq-true_iff _ _).0 reserved in
    (λ i.
    record_fields
    (kind_same (f 0) damaged later i)
    (sym ((part_zero (list_of 32 f) 1 3 (omega arith)).0 zeros.0) i)
    (u32_same (f 4) (f 5) (f 6) (f 7) (b 4) (b 5) (b 6) (b 7) i)
    (i32_same (f 8) (f 9) (f 10) (f 11) (b 8) (b 9) (b 10) (b 11) i)
    (i32_same (f 12) (f 13) (f 14) (f 15) (b 12) (b 13) (b 14) (b 15) i)
    (i32_same (f 16) (f 17) (f 18) (f 19) (b 16) (b 17) (b 18) (b 19) i)
    (i32_same (f 20) (f 21) (f 22) (f 23) (b 20) (b 21) (b 22) (b 23) i)
    (i32_same (f 24) (f 25) (f 26) (f 27) (b 24) (b 25) (b 26) (b 27) i)
    (sym ((part_zero (list_of 32 f) 28 4 (omega arith)).0 zeros.1) i))

pub record_same : (l : List ℕ) (r : ℕ) → length l ≡ 32 → AllBytes l → AllHold (record_rules l r) → element_bytes (element_of l) ≡ l
record_same l r e b =
    subst (λ (m : List ℕ). AllHold (record_rules m r) → element_bytes (element_of m) ≡ m) (sym (written_out l 32 e)) (listed_same (λ i. get_or l i 0) r b.below)

-- ---- all records

pub each_same : (n r : ℕ) (bytes : List ℕ) → ((k : ℕ) → k < r + n → element_bytes (element_at bytes k) ≡ record_of bytes k) → elements_bytes (elements_from n r bytes) ≡ part bytes (32 * r) (32 * n)
unfolding elements_from elements_bytes
each_same zero r bytes h = refl
each_same (suc n) r bytes h =
    let long : 32 * suc n ≡ 32 + 32 * n = omega arith in
    let after : 32 * (r + 1) ≡ 32 * r + 32 = omega arith in
    rw (h r (omega arith), each_same n (r + 1) bytes (λ k l. h k (omega arith)), long, after, take-add 32 (32 * n) (drop (32 * r) bytes), drop-drop 32 (32 * r) bytes)
