-- Bytes written one after another are written as one: what is put at the end of what was put before makes one row with it.
use Prim.Native.Nat.{ℕ, suc, ◌+◌, ◌-◌, ◌≤◌, ◌<◌}
use mathlib.Core.List.{List, [], ◌∷◌, ◌++◌, append_assoc, append-nil}
use mathlib.Core.Path.{◌≡◌, sym, ap, ◌∙◌}
use native.Mathlib.Nat.{add-zero, zero-add}
use native.Mathlib.Numerals.{add-one}
use native.Mathlib.Omega.{arith}
use borrow.Rule.Slice.PartMut.{put_mid}
use lib.ListN.{length, take, drop, set, length-append, length-take, length-drop, take-append-drop, drop_of_length-le}
use lib.Seq.{take_at, drop-drop, drop-append-add, set_split, take-suc, length-take-le}
use Rattle.model.specs.Records.{byte_at, put}

pub put_none : (l : List ℕ) (at : ℕ) → put l at [] ≡ l
unfolding put
put_none l at = rw add-zero (take-append-drop at l)

pub put_length : (l : List ℕ) (at : ℕ) (bytes : List ℕ) → at + length bytes ≤ length l → length (put l at bytes) ≡ length l
unfolding put
put_length l at bytes h = simp (length-append, length-take, length-drop) (omega arith)

-- bytes that are as long as the list are all of it
pub put_whole : (l bytes : List ℕ) → length l ≤ length bytes → put l 0 bytes ≡ bytes
unfolding put
put_whole l bytes h = rw (zero-add, drop_of_length-le l {i = length bytes} h) (append-nil bytes)

-- ---- at a seam, and so after other bytes

put_seam : (f d q : List ℕ) (k : ℕ) → length f ≡ k → put (f ++ d) k q ≡ f ++ (q ++ drop (length q) d)
unfolding put
put_seam f d q k h = rw (take_at f d k h, ← h, drop-append-add f d (length q))

put_row : (l : List ℕ) (at k : ℕ) (p : List ℕ) → at + length p ≡ k → put l at p ≡ (take at l ++ p) ++ drop k l
unfolding put
put_row l at k p e = rw e (sym (append_assoc (take at l) p (drop k l)))

pub put_then : (l : List ℕ) (at k : ℕ) (p q : List ℕ) → at ≤ length l → at + length p ≡ k → put (put l at p) k q ≡ put l at (p ++ q)
unfolding put
put_then l at k p q h e =
    let front : length (take at l ++ p) ≡ k = rw (length-append, length-take-le at l h) e in
    let i : at + length (p ++ q) ≡ k + length q = rw length-append (omega arith) in
    ap (λ x. put x k q) (put_row l at k p e)
    ∙ put_seam (take at l ++ p) (drop k l) q k front
    ∙ rw (i, drop-drop (length q) k l) (simp append_assoc)

-- what was lent from `at` to `at + n` comes back as it was left there
pub lent_back : (l : List ℕ) (at n : ℕ) (left : List ℕ) → length left ≡ n → put_mid at (at + n - at) l left ≡ put l at left
unfolding put
lent_back l at n left h =
    let e : at + (at + n - at) ≡ at + length left = omega arith in
    rw (drop-drop (at + n - at) at l, e)

-- ---- one byte more

store_put : (l : List ℕ) (at k : ℕ) (p : List ℕ) (x : ℕ) → at + length p ≡ k → k < length l → set (put l at p) k x ≡ put l at (p ++ (x ∷ []))
unfolding put
store_put l at k p x e h =
    let n : k < length (put l at p) = rw (put_length l at p (omega arith)) h in
    let one : put (put l at p) k (x ∷ []) ≡ take k (put l at p) ++ (x ∷ drop (suc k) (put l at p)) = rw (add-one k) in
    set_split (put l at p) k x n ∙ sym one ∙ put_then l at k p (x ∷ []) (omega arith) e

pub copied_more : (l : List ℕ) (at : ℕ) (bytes : List ℕ) (i : ℕ) → i < length bytes → at + length bytes ≤ length l → set (put l at (take i bytes)) (at + i) (byte_at bytes i) ≡ put l at (take (i + 1) bytes)
copied_more l at bytes i h fits =
    let n = length-take-le i bytes (omega arith) in
    store_put l at (at + i) (take i bytes) (byte_at bytes i) (omega arith) (omega arith)
    ∙ ap (λ p. put l at p) (rw add-one (sym (take-suc bytes i 0 h)))
