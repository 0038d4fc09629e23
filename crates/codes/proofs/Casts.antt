-- A point of two numbers of 32 bits is kept by the casts to 64 bits and back, and so is a field or two that hold such numbers.
use Prim.Native.Nat.{ℕ, ◌^◌, ◌<◌}
use mathlib.Core.List.{List}
use mathlib.Core.Path.{◌≡◌, ap, ap₂, ◌∙◌}
use lib.IntN.{ℤ}
use lib.Signed.{mag}
use mir.Syntax.{w32, w64}
use mir.Val.{SFits, to_z, of_z}
use mir.ValLaws.{to_z-of_z}
use Rattle.model.specs.declared.Point.{Point}
use Rattle.model.specs.Records.{put, i32_bytes}
use Rattle.run.proofs.Narrow.{narrow}
use Rattle.codes.specs.Codes.{put_two}

-- a point of two arguments, as the call gets them
pub as_came : {p : Point} {x y : ℤ} → SFits w32 x → SFits w32 y → p ≡ record { x = to_z w32 (of_z w32 x); y = to_z w32 (of_z w32 y) } → p ≡ record { x = x; y = y }
as_came {p} {x} {y} f g e = e ∙ rw (to_z-of_z w32 x f, to_z-of_z w32 y g)

-- a field stored by a cast, after what the store before it left
pub then_put : {l k m : List ℕ} (at : ℕ) (z : ℤ) → SFits w64 z → SFits w32 z → l ≡ k → m ≡ put l at (i32_bytes (to_z w32 (of_z w32 (to_z w64 (of_z w64 z))))) → m ≡ put k at (i32_bytes z)
then_put {l} at z widened fits e f = f ∙ ap (λ (y : ℤ). put l at (i32_bytes y)) (narrow z widened.sfits fits) ∙ ap (λ (x : List ℕ). put x at (i32_bytes z)) e

-- two numbers of 32 bits through their 64, after what the call before left
pub then_two : {l k m : List ℕ} (at : ℕ) (a b : ℤ) → mag a < 2 ^ 63 → mag b < 2 ^ 63 → l ≡ k → m ≡ put_two l at (to_z w64 (of_z w64 a)) (to_z w64 (of_z w64 b)) → m ≡ put_two k at a b
then_two {l} at a b s t e f =
    f ∙ ap₂ (λ (x y : ℤ). put_two l at x y) (to_z-of_z w64 a (record { sfits = s })) (to_z-of_z w64 b (record { sfits = t })) ∙ ap (λ (x : List ℕ). put_two x at a b) e
