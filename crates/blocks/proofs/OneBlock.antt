-- A list of 512 bytes has the fields of a block exactly when it is these fields' bytes, one after the other. So a block whose fields and sums are right is the block that the writer makes of its used records.
use Prim.Native.Nat.{ℕ, ◌+◌, ◌-◌, ◌*◌, ◌/◌, ◌≤◌, ◌<◌}
use mathlib.Core.List.{List, [], ◌++◌, append_assoc}
use mathlib.Core.Path.{◌≡◌, refl, sym, ap, ◌∙◌}
use native.Mathlib.Nat.{mod-lt}
use native.Mathlib.Omega.{arith}
use lib.ListN.{length, take, drop, replicate, length-append, length-replicate, take-append-drop, drop_of_length-le}
use lib.Seq.{drop_at, take_at, take_all}
use Rattle.model.specs.Records.{u16_at, u32_at, u16_bytes, u32_bytes, part, sum_a, sum_b, used_in}
use Rattle.model.specs.Writer.{block_body, with_sums, block}
use Rattle.fields.proofs.Bytes.{AllBytes}
use Rattle.fields.proofs.FieldAt.{u16_read, u32_read, u16_written, u32_written}
use Rattle.fields.proofs.PartsOf.{drop_past, part_here, part_then}

-- What l has at the places of a block's fields: number b, and u records in use.
pub record Fields (l : List ℕ) (b u : ℕ) (records : List ℕ) : Type 0 where
  pub first : take (32 * u) l ≡ records
  pub unused : part l (32 * u) (480 - 32 * u) ≡ replicate (480 - 32 * u) 0
  pub number : u16_at l 480 ≡ b
  pub used : used_in l ≡ u
  pub edition : u32_at l 484 ≡ 1
  pub reserved : part l 488 20 ≡ replicate 20 0
  pub agree_a : u16_at l 508 ≡ sum_a l
  pub agree_b : u16_at l 510 ≡ sum_b l

-- ---- the sums

sums_small : (l : List ℕ) → (sum_a l < 65536) × (sum_b l < 65536)
unfolding sum_a sum_b
sums_small l = (mod-lt _ (omega arith), mod-lt _ (omega arith))

-- they depend on the first 508 bytes only
pub same_sums : (l m : List ℕ) → take 508 l ≡ take 508 m → (sum_a l ≡ sum_a m) × (sum_b l ≡ sum_b m)
unfolding sum_a sum_b
same_sums l m e = (rw e, rw e)

-- where they agree with the stored ones, these are the last four bytes
pub stored_sums : (l : List ℕ) → AllBytes l → length l ≡ 512 → u16_at l 508 ≡ sum_a l → u16_at l 510 ≡ sum_b l → drop 508 l ≡ u16_bytes (sum_a l) ++ u16_bytes (sum_b l)
stored_sums l bytes size a b =
    let e₁ : drop 508 l ≡ u16_bytes (sum_a l) ++ drop 510 l = rw a at (u16_written l 508 bytes (omega arith)) in
    let e₂ : drop 510 l ≡ u16_bytes (sum_b l) ++ drop 512 l = rw b at (u16_written l 510 bytes (omega arith)) in
    let e₃ : drop 512 l ≡ [] = drop_of_length-le l {i = 512} (omega arith) in
    cc

-- ---- the bytes of block b with u records and two sums, one field after the other

abbrev laid_out : ℕ → ℕ → List ℕ → ℕ → ℕ → List ℕ
laid_out b u records A B =
    records ++ (replicate (480 - 32 * u) 0 ++ (u16_bytes b ++ (u16_bytes u ++ (u32_bytes 1 ++ (replicate 20 0 ++ (u16_bytes A ++ u16_bytes B))))))

block_is : (b : ℕ) (records : List ℕ) → block b records ≡ block_body b records ++ (u16_bytes (sum_a (block_body b records)) ++ u16_bytes (sum_b (block_body b records)))
unfolding block with_sums
block_is b records = refl

pub length_body : (b : ℕ) (records : List ℕ) → length records ≤ 480 → length (block_body b records) ≡ 508
unfolding block_body
length_body b records h = simp (length-append, length-replicate) (omega arith)

module _ (b u : ℕ) (records : List ℕ) (long : length records ≡ 32 * u) (few : u ≤ 15) where
  body_length : length (block_body b records) ≡ 508
  body_length = length_body b records (omega arith)

  body_laid_out : (A B : ℕ) → block_body b records ++ (u16_bytes A ++ u16_bytes B) ≡ laid_out b u records A B
  unfolding block_body
  body_laid_out A B =
      let e : 32 * u / 32 ≡ u = omega arith in
      simp (append_assoc, long, e)

  body_sums : (l rest : List ℕ) → l ≡ block_body b records ++ rest → (sum_a l ≡ sum_a (block_body b records)) × (sum_b l ≡ sum_b (block_body b records))
  body_sums l rest e =
      same_sums l (block_body b records) (rw (e, take_at (block_body b records) rest 508 body_length, take_all 508 (block_body b records) (omega (arith, body_length))))

  block_laid_out : block b records ≡ laid_out b u records (sum_a (block b records)) (sum_b (block b records))
  block_laid_out =
      let s = body_sums (block b records) _ (block_is b records) in
      block_is b records ∙ rw (s.0, s.1) (body_laid_out _ _)

  laid_out_block : (l : List ℕ) → l ≡ laid_out b u records (sum_a l) (sum_b l) → l ≡ block b records
  laid_out_block l e =
      let f = e ∙ sym (body_laid_out (sum_a l) (sum_b l)) in
      let s = body_sums l _ f in
      f ∙ rw (s.0, s.1) (sym (block_is b records))

  pub block_length : length (block b records) ≡ 512
  block_length = rw (block_is b records, length-append, body_length)

  -- the unused records end where the fields begin
  to_480 : 32 * u + (480 - 32 * u) ≡ 480
  to_480 = omega arith

  laid_out→fields : (l : List ℕ) → b < 65536 → l ≡ laid_out b u records (sum_a l) (sum_b l) → Fields l b u records
  laid_out→fields l small e =
      let d₀ = ap (λ x. drop (32 * u) x) e ∙ drop_at records _ (32 * u) long in
      let d₁ = rw to_480 at (drop_past l (replicate (480 - 32 * u) 0) _ (32 * u) (480 - 32 * u) (length-replicate (480 - 32 * u) 0) d₀) in
      let d₂ = drop_past l (u16_bytes b) _ 480 2 refl d₁ in
      let d₃ = drop_past l (u16_bytes u) _ 482 2 refl d₂ in
      let d₄ = drop_past l (u32_bytes 1) _ 484 4 refl d₃ in
      let d₅ = drop_past l (replicate 20 0) _ 488 20 refl d₄ in
      let d₆ = drop_past l (u16_bytes (sum_a l)) _ 508 2 refl d₅ in
      record {
        first = ap (λ x. take (32 * u) x) e ∙ take_at records _ (32 * u) long;
        unused = part_here l (replicate (480 - 32 * u) 0) _ (32 * u) (480 - 32 * u) (length-replicate (480 - 32 * u) 0) d₀;
        number = u16_read l _ 480 b small d₁;
        used = u16_read l _ 482 u (omega arith) d₂;
        edition = u32_read l _ 484 1 (omega arith) d₃;
        reserved = part_here l (replicate 20 0) _ 488 20 refl d₄;
        agree_a = u16_read l _ 508 (sum_a l) (sums_small l).0 d₅;
        agree_b = u16_read l _ 510 (sum_b l) (sums_small l).1 d₆;
      }

  fields→laid_out : (l : List ℕ) → AllBytes l → length l ≡ 512 → Fields l b u records → l ≡ laid_out b u records (sum_a l) (sum_b l)
  fields→laid_out l bytes size f =
      let e₀ : l ≡ records ++ drop (32 * u) l = rw (← f.first) (sym (take-append-drop (32 * u) l)) in
      let e₁ : drop (32 * u) l ≡ replicate (480 - 32 * u) 0 ++ drop 480 l = rw (f.unused, to_480) at (part_then l (32 * u) (480 - 32 * u)) in
      let e₂ : drop 480 l ≡ u16_bytes b ++ drop 482 l = rw f.number at (u16_written l 480 bytes (omega arith)) in
      let e₃ : drop 482 l ≡ u16_bytes u ++ drop 484 l = rw f.used at (u16_written l 482 bytes (omega arith)) in
      let e₄ : drop 484 l ≡ u32_bytes 1 ++ drop 488 l = rw f.edition at (u32_written l 484 bytes (omega arith)) in
      let e₅ : drop 488 l ≡ replicate 20 0 ++ drop 508 l = rw f.reserved at (part_then l 488 20) in
      let e₆ = stored_sums l bytes size f.agree_a f.agree_b in
      cc

  -- The writer's block has its fields, and no other 512 bytes have them.
  pub block_fields : b < 65536 → Fields (block b records) b u records
  block_fields small = laid_out→fields (block b records) small block_laid_out

  pub fields_block : (l : List ℕ) → AllBytes l → length l ≡ 512 → Fields l b u records → l ≡ block b records
  fields_block l bytes size f = laid_out_block l (fields→laid_out l bytes size f)
