-- How far a three-term sum moves between two places whose lengths z₁ and z₂ are at most j apart, and whose turns are m₁/q and m₂/q.
-- Where y moves by at most n j p, y (2m) moves by at most (n + 2) j p q; so the three terms of a sum, which are two powers of 2m apart, move by n, n + 4 and n + 8.
use mathlib.Core.Path.{◌≡◌, refl, ◌∙◌, ap, ap₂, subst, subst₂}
use mathlib.Core.List.{[], ◌∷◌}
use Prim.Native.Nat.{ℕ, ◌+◌, ◌*◌, ◌<◌, ◌≤◌, ◌^◌}
use native.Mathlib.Omega.{arith}
use native.Mathlib.Nat.{le_trans, le_refl, le_of_eq, mul-le-mul_left, mul_left_comm, mul-pos, pow-le-pow_left}
use lib.IntN.{ℤ, pos, nat_abs, ◌+ℤ◌, ◌-ℤ◌, ◌*ℤ◌}
use Rattle.integers.proofs.Abs.{nat_abs-*}
use Rattle.integers.proofs.Ranges.{abs_within}
use Rattle.integers.proofs.Written.{writing, identity, identityℕ}
use Rattle.model.specs.Series.{Fraction}
use Rattle.model.specs.Bound.{three_terms, along_sum, aside_sum}

abbrev pub twice : ℤ → ℤ
twice m = pos 2 *ℤ m

-- ---- sixteen times a sum, by powers of 2m

abbrev weighed : ℕ → ℕ → ℕ → ℤ → ℤ → ℤ → ℤ
weighed a b c x y z = pos a *ℤ x -ℤ pos b *ℤ y +ℤ pos c *ℤ z

weighed_sub : (a b c : ℕ) (x y z x' y' z' : ℤ) → weighed a b c x y z -ℤ weighed a b c x' y' z' ≡ weighed a b c (x -ℤ x') (y -ℤ y') (z -ℤ z')
weighed_sub a b c x y z x' y' z' = identity {ρ = x ∷ y ∷ z ∷ x' ∷ y' ∷ z' ∷ pos a ∷ pos b ∷ pos c ∷ []} (search writing depth 20) (search writing depth 20) tt

weighed-≤ : (a b c : ℕ) (x y z : ℤ) {k l m : ℕ} → nat_abs x ≤ k → nat_abs y ≤ l → nat_abs z ≤ m → nat_abs (weighed a b c x y z) ≤ a * k + b * l + c * m
weighed-≤ a b c x y z {k} {l} {m} hx hy hz =
    abs_within
    {ρ = x ∷ y ∷ z ∷ pos a ∷ pos b ∷ pos c ∷ []}
    (k ∷ l ∷ m ∷ a ∷ b ∷ c ∷ [])
    (weighed a b c x y z)
    (weighed a b c x y z)
    refl
    (hx, (hy, (hz, (le_refl a, (le_refl b, (le_refl c, tt))))))
    (search writing depth 20)
    refl

-- with the coefficients of 16 a b q⁴ (1 − φ²/a + φ⁴/b)
abbrev sixteen_terms : ℕ → ℕ → ℕ → ℤ → ℤ → ℤ → ℤ
sixteen_terms a b q = weighed (16 * (a * b) * q ^ 4) (4 * b * q ^ 2) a

-- y (2m)²
abbrev square_on : ℤ → ℤ → ℤ
square_on m y = y *ℤ twice m *ℤ twice m

sixteenfold : (a b q : ℕ) (m y : ℤ) → pos 16 *ℤ (y *ℤ three_terms a b m q) ≡ sixteen_terms a b q y (square_on m y) (square_on m (square_on m y))
unfolding three_terms
sixteenfold a b q m y = identity {ρ = y ∷ m ∷ pos q ∷ pos a ∷ pos b ∷ []} (search writing depth 20 fits 5000) (search writing depth 20 fits 5000) tt

sixteenfold_sub : (r a b q : ℕ) (m₁ m₂ y₁ y₂ : ℤ) →
    pos 16 *ℤ (pos r *ℤ y₁ *ℤ three_terms a b m₁ q -ℤ pos r *ℤ y₂ *ℤ three_terms a b m₂ q)
    ≡ pos r *ℤ sixteen_terms a b q (y₁ -ℤ y₂) (square_on m₁ y₁ -ℤ square_on m₂ y₂) (square_on m₁ (square_on m₁ y₁) -ℤ square_on m₂ (square_on m₂ y₂))
sixteenfold_sub r a b q m₁ m₂ y₁ y₂ =
    let t₁ = three_terms a b m₁ q in
    let t₂ = three_terms a b m₂ q in
    let s₁ = square_on m₁ y₁ in
    let s₂ = square_on m₂ y₂ in
    identity {ρ = y₁ ∷ y₂ ∷ pos r ∷ t₁ ∷ t₂ ∷ []} {b = pos r *ℤ (pos 16 *ℤ (y₁ *ℤ t₁) -ℤ pos 16 *ℤ (y₂ *ℤ t₂))} (search writing depth 20) (search writing depth 20) tt
    ∙ ap₂ (λ x y. pos r *ℤ (x -ℤ y)) (sixteenfold a b q m₁ y₁) (sixteenfold a b q m₂ y₂)
    ∙ ap (λ x. pos r *ℤ x) (weighed_sub (16 * (a * b) * q ^ 4) (4 * b * q ^ 2) a y₁ s₁ (square_on m₁ s₁) y₂ s₂ (square_on m₂ s₂))

-- the three terms together, where y moves by n, and y (2m)² and y (2m)⁴ by n + 4 and n + 8
abbrev pub share : ℕ → ℕ → ℕ → ℕ
share n a b = 16 * n * (a * b) + 4 * (n + 4) * b + (n + 8) * a

gathered : (n j p q a b : ℕ) →
    16 * (a * b) * q ^ 4 * (n * (j * p)) + 4 * b * q ^ 2 * ((n + 2 + 2) * (j * (p * q * q))) + a * ((n + 2 + 2 + 2 + 2) * (j * (p * q * q * q * q)))
    ≡ j * (p * q ^ 4) * share n a b
gathered n j p q a b = identityℕ {ρ = pos n ∷ pos j ∷ pos p ∷ pos q ∷ pos a ∷ pos b ∷ []} (search writing depth 20 fits 5000) (search writing depth 20 fits 5000) tt

-- 50 z (2m) is 100 z m
doubled : (z : ℕ) (m t : ℤ) → pos 50 *ℤ (pos z *ℤ twice m) *ℤ t ≡ pos (100 * z) *ℤ m *ℤ t
doubled z m t = identity {ρ = pos z ∷ m ∷ t ∷ []} (search writing depth 20) (search writing depth 20) tt

-- ---- two places

-- the lengths are at most j apart and the turns at most 1/2, and z₁ times the change of twice the turn is at most 2 j
pub record Turning (z₁ z₂ j q : ℕ) (m₁ m₂ : ℤ) : Type 0 where
  pub apart : nat_abs (pos z₁ -ℤ pos z₂) ≤ j
  pub small₁ : nat_abs (twice m₁) ≤ q
  pub small₂ : nat_abs (twice m₂) ≤ q
  pub turns : nat_abs (pos z₁ *ℤ (twice m₁ -ℤ twice m₂)) ≤ 2 * (j * q)

-- the fraction moves by at most n
pub record Moved (n : ℕ) (f g : Fraction) : Type 0 where
  pub same : f.denominator ≡ g.denominator
  pub above : 0 < f.denominator
  pub moved : nat_abs (f.numerator -ℤ g.numerator) ≤ n * f.denominator

-- y moves by at most n j p, and times the change of 2m by at most 2 j p q
record Moves (j q n p : ℕ) (m₁ m₂ y₁ y₂ : ℤ) : Type 0 where
  moves : nat_abs (y₁ -ℤ y₂) ≤ n * (j * p)
  turns : nat_abs (y₁ *ℤ (twice m₁ -ℤ twice m₂)) ≤ 2 * (j * (p * q))

module _ {z₁ z₂ j q : ℕ} {m₁ m₂ : ℤ} (t : Turning z₁ z₂ j q m₁ m₂) where
  length_moves : Moves j q 1 1 m₁ m₂ (pos z₁) (pos z₂)
  length_moves = record { moves = omega (arith, t.apart); turns = omega (arith, t.turns) }

  next_moves : {n p : ℕ} {y₁ y₂ : ℤ} → Moves j q n p m₁ m₂ y₁ y₂ → Moves j q (n + 2) (p * q) m₁ m₂ (y₁ *ℤ twice m₁) (y₂ *ℤ twice m₂)
  next_moves {n} {p} {y₁} {y₂} h =
      let d = y₁ -ℤ y₂ in
      let g = y₁ *ℤ (twice m₁ -ℤ twice m₂) in
      record {
        moves =
            abs_within
            {ρ = d ∷ twice m₂ ∷ g ∷ []}
            (n * (j * p) ∷ q ∷ 2 * (j * (p * q)) ∷ [])
            (y₁ *ℤ twice m₁ -ℤ y₂ *ℤ twice m₂)
            (d *ℤ twice m₂ +ℤ g)
            (identity {ρ = y₁ ∷ y₂ ∷ m₁ ∷ m₂ ∷ []} (search writing depth 20) (search writing depth 20) tt)
            (h.moves, (t.small₂, (h.turns, tt)))
            (search writing depth 20)
            (identityℕ {ρ = pos n ∷ pos j ∷ pos p ∷ pos q ∷ []} (search writing depth 20) (search writing depth 20) tt);
        turns =
            abs_within
            {ρ = g ∷ twice m₁ ∷ []}
            (2 * (j * (p * q)) ∷ q ∷ [])
            (y₁ *ℤ twice m₁ *ℤ (twice m₁ -ℤ twice m₂))
            (g *ℤ twice m₁)
            (identity {ρ = y₁ ∷ m₁ ∷ m₂ ∷ []} (search writing depth 20) (search writing depth 20) tt)
            (h.turns, (t.small₁, tt))
            (search writing depth 20)
            (identityℕ {ρ = pos j ∷ pos p ∷ pos q ∷ []} (search writing depth 20) (search writing depth 20) tt);
      }

  -- r y (1 − φ²/a + φ⁴/b) moves by at most c j
  sum_moves : {n p : ℕ} {y₁ y₂ : ℤ} → Moves j q n p m₁ m₂ y₁ y₂ → (r a b c d : ℕ) → r * share n a b ≤ 16 * (c * d) →
      nat_abs (pos r *ℤ y₁ *ℤ three_terms a b m₁ q -ℤ pos r *ℤ y₂ *ℤ three_terms a b m₂ q) ≤ c * j * (d * (p * q ^ 4))
  sum_moves {n} {p} {y₁} {y₂} h r a b c d k =
      let h₂ = next_moves (next_moves h) in
      let h₄ = next_moves (next_moves h₂) in
      let s₁ = square_on m₁ y₁ in
      let s₂ = square_on m₂ y₂ in
      let u = y₁ -ℤ y₂ in
      let v = s₁ -ℤ s₂ in
      let w = square_on m₁ s₁ -ℤ square_on m₂ s₂ in
      let e = j * (p * q ^ 4) in
      let below = weighed-≤ (16 * (a * b) * q ^ 4) (4 * b * q ^ 2) a u v w h.moves h₂.moves h₄.moves in
      let regrouped : e * (16 * (c * d)) ≡ 16 * (c * j * (d * (p * q ^ 4))) = identityℕ {ρ = pos j ∷ pos c ∷ pos d ∷ pos p ∷ pos q ∷ []} (search writing depth 20) (search writing depth 20) tt in
      omega (
        arith,
        nat_abs-* (pos 16) (pos r *ℤ y₁ *ℤ three_terms a b m₁ q -ℤ pos r *ℤ y₂ *ℤ three_terms a b m₂ q),
        ap nat_abs (sixteenfold_sub r a b q m₁ m₂ y₁ y₂),
        nat_abs-* (pos r) (sixteen_terms a b q u v w),
        mul-le-mul_left r (le_trans below (le_of_eq (gathered n j p q a b))),
        mul_left_comm r e (share n a b),
        mul-le-mul_left e k,
        regrouped,
      )

  pub along_moves : 0 < q → (a b c : ℕ) → 0 < a * b → 100 * share 1 a b ≤ 16 * (c * (a * b)) → Moved (c * j) (along_sum a b z₁ m₁ q) (along_sum a b z₂ m₂ q)
  unfolding along_sum
  along_moves h a b c g k =
      record {
        same = refl;
        above = mul-pos g (pow-le-pow_left h 4);
        moved = le_trans (sum_moves length_moves 100 a b c (a * b) k) (omega arith);
      }

  pub aside_moves : 0 < q → (k a b c : ℕ) → 0 < k * (a * b) → 50 * share 3 a b ≤ 16 * (c * (k * (a * b))) → Moved (c * j) (aside_sum k a b z₁ m₁ q) (aside_sum k a b z₂ m₂ q)
  unfolding aside_sum
  aside_moves h k a b c g l =
      let d : k * (a * b) * (1 * q * q ^ 4) ≡ k * (a * b * q ^ 5) = identityℕ {ρ = pos k ∷ pos a ∷ pos b ∷ pos q ∷ []} (search writing depth 20) (search writing depth 20) tt in
      record {
        same = refl;
        above = subst (λ x. 0 < x) d (mul-pos g (mul-pos (mul-pos (omega arith) h) (pow-le-pow_left h 4)));
        moved =
            subst₂
            (λ x y. nat_abs x ≤ c * j * y)
            (ap₂ ◌-ℤ◌ (doubled z₁ m₁ (three_terms a b m₁ q)) (doubled z₂ m₂ (three_terms a b m₂ q)))
            d
            (sum_moves (next_moves length_moves) 50 a b c (k * (a * b)) l);
      }
