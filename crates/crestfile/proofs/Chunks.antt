-- The blocks of a file, as the file is cut into them.
use Prim.Native.Nat.{ℕ, zero, suc, ◌+◌, ◌*◌, ◌<◌}
use mathlib.Core.List.{List}
use mathlib.Core.Path.{◌≡◌, refl, ap, ◌∙◌}
use native.Mathlib.Omega.{arith}
use lib.ListN.{get_or, take, drop}
use lib.Seq.{drop-drop}
use Rattle.std.specs.Simd.{first_chunks}
use Rattle.model.specs.Records.{block_of}

pub chunk_block : (file : List ℕ) (n b : ℕ) (d : List ℕ) → b < n → get_or (first_chunks 512 n file) b d ≡ block_of file b
chunk_block file zero b d h = absurd (omega arith)
chunk_block file (suc n) zero d h = refl
chunk_block file (suc n) (suc b) d h =
    let e : 512 + 512 * b ≡ 512 * suc b = omega arith in
    chunk_block (drop 512 file) n b d (omega arith) ∙ ap (take 512) (drop-drop (512 * b) 512 file ∙ ap (λ k. drop k file) e)
