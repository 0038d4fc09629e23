-- What is put block by block is the file: each block starts where the one before it ends.
use Prim.Native.Nat.{ℕ, suc, ◌+◌, ◌-◌, ◌*◌, ◌≤◌, ◌<◌, min}
use mathlib.Core.List.{List, [], ◌++◌, append_assoc, append-nil}
use mathlib.Core.Path.{◌≡◌, refl, sym, ap, ◌∙◌}
use native.Mathlib.Decide.{dec_le}
use native.Mathlib.Omega.{arith}
use lib.ListN.{length, take, drop, length-append, length-drop, length-take, drop_of_length-le}
use lib.Seq.{drop-drop, take_all, take-length, take_at, drop_at}
use Rattle.model.specs.Records.{put}
use Rattle.model.specs.Writer.{block, blocks_from, blocks_needed, file_of}
use Rattle.blocks.proofs.OneBlock.{block_length}
use Rattle.fields.proofs.Puts.{put_none, put_length, put_then}

take_min : (n : ℕ) (l : List ℕ) → take (min n (length l)) l ≡ take n l
take_min n l = go (dec_le n (length l))
  where
    go : Dec (n ≤ length l) → take (min n (length l)) l ≡ take n l
    go (yes h) = let e : min n (length l) ≡ n = omega arith in rw e
    go (no h) =
        let e : min n (length l) ≡ length l = omega arith in
        rw (e, take-length l, take_all n l (omega arith))

drop_min : (n : ℕ) (l : List ℕ) → drop (min n (length l)) l ≡ drop n l
drop_min n l = go (dec_le n (length l))
  where
    go : Dec (n ≤ length l) → drop (min n (length l)) l ≡ drop n l
    go (yes h) = let e : min n (length l) ≡ n = omega arith in rw e
    go (no h) =
        let e : min n (length l) ≡ length l = omega arith in
        rw (e, drop_of_length-le l {i = length l} (omega arith), drop_of_length-le l {i = n} (omega arith))

-- a block's records, as the records are cut into them: up to 480 bytes off the front of what is left
pub next_chunk : (records part after : List ℕ) (b : ℕ) → drop (480 * b) records ≡ part ++ after → length part ≡ min 480 (length (drop (480 * b) records)) → (part ≡ take 480 (drop (480 * b) records)) × (after ≡ drop (480 * (b + 1)) records)
next_chunk records part after b e h =
    let rest = drop (480 * b) records in
    let later : 480 * b + 480 ≡ 480 * (b + 1) = omega arith in (
      sym (sym (take_min 480 rest) ∙ ap (take (min 480 (length rest))) e ∙ take_at part after (min 480 (length rest)) h),
      sym (ap (λ k. drop k records) (sym later) ∙ sym (drop-drop 480 (480 * b) records) ∙ sym (drop_min 480 rest) ∙ ap (drop (min 480 (length rest))) e ∙ drop_at part after (min 480 (length rest)) h),
    )

-- the first b blocks of the file stand at the front of the room
pub record BlocksWritten (records room₀ room : List ℕ) (b : ℕ) : Type 0 where
  pub blocks : List ℕ
  pub within : b ≤ blocks_needed records
  pub size : length blocks ≡ 512 * b
  pub same : length room ≡ length room₀
  pub here : room ≡ put room₀ 0 blocks
  pub rest : file_of records ≡ blocks ++ blocks_from (blocks_needed records - b) b (drop (480 * b) records)

module _ (records room₀ : List ℕ) where
  pub none_written : BlocksWritten records room₀ room₀ 0
  unfolding file_of
  none_written =
      let e : blocks_needed records - 0 ≡ blocks_needed records = omega arith in
      record { blocks = []; within = omega arith; size = omega arith; same = refl; here = sym (put_none room₀ 0); rest = rw e }

  pub one_more_written : (c : ℕ) {room after : List ℕ} {b : ℕ} → length records ≡ 32 * c → 512 * blocks_needed records ≤ length room₀ → b < blocks_needed records → after ≡ put room (512 * b) (block b (take 480 (drop (480 * b) records))) → BlocksWritten records room₀ room b → BlocksWritten records room₀ after (b + 1)
  unfolding blocks_from
  one_more_written c {room} {after} {b} long fits h e w =
      let mine = take 480 (drop (480 * b) records) in
      let n : length mine ≡ 32 * min 15 (c - 15 * b) = rw (length-take, length-drop) (omega arith) in
      let s = block_length b (min 15 (c - 15 * b)) mine n (omega arith) in
      let ws = w.size in
      let row : put room (512 * b) (block b mine) ≡ put room₀ 0 (w.blocks ++ block b mine) = rw w.here (put_then room₀ 0 (512 * b) w.blocks (block b mine) (omega arith) (omega arith)) in
      let total : length (w.blocks ++ block b mine) ≡ 512 * (b + 1) = rw length-append (omega arith) in
      let step : blocks_needed records - b ≡ suc (blocks_needed records - (b + 1)) = omega arith in
      let later : 480 * b + 480 ≡ 480 * (b + 1) = omega arith in
      record {
        blocks = w.blocks ++ block b mine;
        within = omega arith;
        size = total;
        same = ap length (e ∙ row) ∙ put_length room₀ 0 _ (omega arith);
        here = e ∙ row;
        rest = rw (step, drop-drop 480 (480 * b) records, later) at w.rest ∙ sym (append_assoc w.blocks (block b mine) _);
      }

  pub all_written : {room : List ℕ} {b : ℕ} → blocks_needed records ≤ b → BlocksWritten records room₀ room b → room ≡ put room₀ 0 (file_of records)
  unfolding blocks_from
  all_written {room} {b} h w =
      let e : blocks_needed records - b ≡ 0 = omega arith in
      let f : file_of records ≡ w.blocks = rw (e, append-nil) at w.rest in
      rw f w.here
