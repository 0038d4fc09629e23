-- What l holds from a place on, and its parts there.
use Prim.Native.Nat.{ℕ, ◌+◌, ◌-◌, ◌≤◌}
use mathlib.Core.List.{List, ◌++◌}
use mathlib.Core.Path.{◌≡◌, sym, ap, ◌∙◌}
use native.Mathlib.Omega.{arith}
use lib.ListN.{length, take, drop, length-drop, take-append-drop}
use lib.Seq.{drop-drop, drop_at, take_at, length-take-le}
use Rattle.model.specs.Records.{part}

pub drop_past : (l p q : List ℕ) (at n : ℕ) → length p ≡ n → drop at l ≡ p ++ q → drop (at + n) l ≡ q
drop_past l p q at n h e = sym (drop-drop n at l) ∙ ap (λ x. drop n x) e ∙ drop_at p q n h

pub part_here : (l p q : List ℕ) (at n : ℕ) → length p ≡ n → drop at l ≡ p ++ q → part l at n ≡ p
part_here l p q at n h e = ap (λ x. take n x) e ∙ take_at p q n h

pub part_then : (l : List ℕ) (at n : ℕ) → drop at l ≡ part l at n ++ drop (at + n) l
part_then l at n = sym (take-append-drop n (drop at l)) ∙ ap (λ x. part l at n ++ x) (drop-drop n at l)

pub length_part : (l : List ℕ) (at n : ℕ) → at + n ≤ length l → length (part l at n) ≡ n
length_part l at n h = length-take-le n (drop at l) (rw length-drop (omega arith))

-- the part that is lent from `at` to `at + n`
pub lent_part : (l : List ℕ) (at n : ℕ) → take (at + n - at) (drop at l) ≡ part l at n
lent_part l at n = let e : at + n - at ≡ n = omega arith in ap (λ k. take k (drop at l)) e

pub lent_length : (l : List ℕ) (at n : ℕ) → at + n ≤ length l → length (take (at + n - at) (drop at l)) ≡ n
lent_length l at n h = ap length (lent_part l at n) ∙ length_part l at n h
