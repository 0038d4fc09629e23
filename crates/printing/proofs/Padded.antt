-- A line's room after a word is put at its end: the bytes, and zeros after them.
use Prim.Native.Nat.{ℕ, ◌+◌, ◌-◌, ◌≤◌}
use mathlib.Core.List.{List, ◌++◌, append_assoc}
use mathlib.Core.Path.{◌≡◌, sym, ap, ◌∙◌}
use native.Mathlib.Omega.{arith}
use lib.ListN.{length, take, drop, replicate, length-append, length-take}
use lib.Seq.{drop-append-add}
use Rattle.std.proofs.lemmas.List.{drop-replicate}
use Rattle.model.specs.Records.{put}
use Rattle.printing.specs.Text.{padded, IsFilled}
use Rattle.printing.proofs.Texts.{put_at_end}

pub within : (room : List ℕ) (len : ℕ) → IsFilled room len → len ≤ length room
within room len h = omega (arith, h.held, length-take len room)

-- what lies past a word that is put at the end
zeros_left : (room : List ℕ) (len k : ℕ) → IsFilled room len → drop (len + k) room ≡ replicate (128 - (len + k)) 0
zeros_left room len k h =
    let t : List ℕ = take len room in
    let zeros : List ℕ = replicate (128 - length t) 0 in
    ap (drop (len + k)) (sym h.whole) ∙ ap (λ m. drop (m + k) (t ++ zeros)) (sym h.held) ∙ drop-append-add t zeros k ∙ drop-replicate k (128 - length t) 0 ∙ ap (λ m. replicate m 0) (omega (arith, h.held))

pub put_filled : (room : List ℕ) (len : ℕ) (word : List ℕ) → IsFilled room len → len + length word ≤ 128 → IsFilled (put room len word) (len + length word)
unfolding put
put_filled room len word h fits =
    let t : List ℕ = take len room in
    let n : ℕ = len + length word in
    let bytes : take n (put room len word) ≡ t ++ word = put_at_end room len word (within room len h) in
    let size : length (t ++ word) ≡ n = length-append t word ∙ ap (λ m. m + length word) h.held in
    let zeros : replicate (128 - length (t ++ word)) 0 ≡ drop n room = ap (λ m. replicate (128 - m) 0) size ∙ sym (zeros_left room len (length word) h) in
    let whole : padded (t ++ word) ≡ put room len word = ap (λ z. (t ++ word) ++ z) zeros ∙ append_assoc t word (drop n room) in
    record { fits = fits; held = ap length bytes ∙ size; whole = ap padded bytes ∙ whole }
