-- The two rules of a block, as facts: its sums are the stored ones, and its fields are those of block b of n. Each test of the rules says one of these facts.
use Prim.Native.Nat.{ℕ, ◌+◌, ◌-◌, ◌*◌, ◌≤◌, ◌<◌}
use mathlib.Core.Bool.{Bool, true, false, cond, ◌&&◌, and-eq-true_iff}
use mathlib.Core.List.{List}
use mathlib.Core.Logic.{◌↔◌}
use mathlib.Core.Path.{◌≡◌, refl}
use native.Mathlib.Omega.{arith}
use lib.Dec.{leb, eqb}
use lib.ListN.{length, take}
use lib.Seq.{length-take-le}
use borrow.Author.Tests.{eqb-true, eq-eqb, ne_eqb}
use Rattle.model.specs.Records.{u16_at, u32_at, part, all_zero, sum_a, sum_b, used_in}
use Rattle.model.specs.Writer.{block}
use Rattle.model.specs.Acceptance.{sums_agree, use_fits, fields_fit}
use Rattle.integers.proofs.Tests.{eq_test, le_test, both_tests}
use Rattle.fields.proofs.Bytes.{AllBytes}
use Rattle.fields.proofs.Zeros.{part_zero}
use Rattle.blocks.proofs.OneBlock.{Fields, fields_block}

-- ---- records in use

between : (a b c : ℕ) → ((leb a b && leb b c) ≡ true) ↔ ((a ≤ b) × (b ≤ c))
between a b c = both_tests (le_test a b) (le_test b c)

-- "the last 1 to 15"
pub last_uses : (n b u : ℕ) → b + 1 ≡ n → (use_fits n b u ≡ true) ↔ ((1 ≤ u) × (u ≤ 15))
unfolding use_fits
last_uses n b u e = rw (eq-eqb (b + 1) n e) (between 1 u 15)

-- "Every block but the last uses 15 records"
pub earlier_uses : (n b u : ℕ) → b + 1 < n → (use_fits n b u ≡ true) ↔ (u ≡ 15)
unfolding use_fits
earlier_uses n b u h = rw (ne_eqb (b + 1) n (omega arith)) (eq_test u 15)

pub uses_few : (n b u : ℕ) → use_fits n b u ≡ true → u ≤ 15
unfolding use_fits
uses_few n b u h = go (eqb (b + 1) n) h
  where
    go : (t : Bool) → cond t (leb 1 u && leb u 15) (eqb u 15) ≡ true → u ≤ 15
    go true e = ((between 1 u 15).0 e).1
    go false e = omega (arith, eqb-true u 15 e)

-- ---- both rules

-- l is accepted as block b of n
pub record Sound (n b : ℕ) (l : List ℕ) : Type 0 where
  pub size : length l ≡ 512
  pub sums : sums_agree l ≡ true
  pub fields : fields_fit n b l ≡ true

pub sums_agree_lem : (l : List ℕ) → (sums_agree l ≡ true) ↔ ((u16_at l 508 ≡ sum_a l) × (u16_at l 510 ≡ sum_b l))
unfolding sums_agree
sums_agree_lem l = both_tests (eq_test _ _) (eq_test _ _)

-- five tests in a row
five_true : (a b c d e : Bool) → ((a && b && c && d && e) ≡ true) ↔ ((a ≡ true) × (b ≡ true) × (c ≡ true) × (d ≡ true) × (e ≡ true))
five_true a b c d e = (
  λ t.
      let f = (and-eq-true_iff (a && b && c && d) e).0 t in
      let g = (and-eq-true_iff (a && b && c) d).0 f.0 in
      let h = (and-eq-true_iff (a && b) c).0 g.0 in
      let i = (and-eq-true_iff a b).0 h.0 in
      (i.0, i.1, h.1, g.1, f.1),
  λ t. rw (t.0, t.1, t.2, t.3, t.4),
)

fields_fit_lem : (n b : ℕ) (l : List ℕ) → (fields_fit n b l ≡ true) ↔ ((eqb (u16_at l 480) b ≡ true) × (use_fits n b (used_in l) ≡ true) × (eqb (u32_at l 484) 1 ≡ true) × (all_zero (part l 488 20) ≡ true) × (all_zero (part l (32 * used_in l) (480 - 32 * used_in l)) ≡ true))
unfolding fields_fit
fields_fit_lem n b l = five_true _ _ _ _ _

pub sound_uses : {n b : ℕ} {l : List ℕ} → Sound n b l → use_fits n b (used_in l) ≡ true
sound_uses {n} {b} {l} s = ((fields_fit_lem n b l).0 s.fields).1

-- A sound block has a block's fields.
sound→fields : {n b : ℕ} {l : List ℕ} → Sound n b l → Fields l b (used_in l) (take (32 * used_in l) l)
sound→fields {n} {b} {l} s =
    let (number, uses, edition, reserved, unused) = (fields_fit_lem n b l).0 s.fields in
    let few = uses_few n b (used_in l) uses in
    let sums = (sums_agree_lem l).0 s.sums in
    let size = s.size in
    record {
      first = refl;
      unused = (part_zero l (32 * used_in l) (480 - 32 * used_in l) (omega arith)).0 unused;
      number = eqb-true _ _ number;
      used = refl;
      edition = eqb-true _ _ edition;
      reserved = (part_zero l 488 20 (omega arith)).0 reserved;
      agree_a = sums.0;
      agree_b = sums.1;
    }

-- It is the block that the writer makes of its records in use.
pub sound_block : {n b : ℕ} {l : List ℕ} → Sound n b l → AllBytes l → l ≡ block b (take (32 * used_in l) l)
sound_block {n} {b} {l} s bytes =
    let few = uses_few n b (used_in l) (sound_uses s) in
    let size = s.size in
    fields_block b (used_in l) (take (32 * used_in l) l) (length-take-le (32 * used_in l) l (omega arith)) few l bytes size (sound→fields s)

-- 512 bytes with a block's fields, of which a fitting number of records is in use, are a sound block.
pub fields→sound : {n b u : ℕ} {l records : List ℕ} → length l ≡ 512 → use_fits n b u ≡ true → Fields l b u records → Sound n b l
fields→sound {n} {b} {u} {l} size uses f =
    let few = uses_few n b u uses in
    record {
      size = size;
      sums = (sums_agree_lem l).1 (f.agree_a, f.agree_b);
      fields = (fields_fit_lem n b l).1 (
        eq-eqb _ _ f.number,
        rw f.used uses,
        eq-eqb _ _ f.edition,
        (part_zero l 488 20 (omega arith)).1 f.reserved,
        rw f.used ((part_zero l (32 * u) (480 - 32 * u) (omega arith)).1 f.unused),
      );
    }
