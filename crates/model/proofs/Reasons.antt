-- A number that one rule of an order gives, and no other, is given exactly when that rule is the first that does not hold: by induction over the rules before it.
use mathlib.Core.Bool.{Bool, true, false}
use mathlib.Core.List.{List, [], ◌∷◌, ◌++◌}
use mathlib.Core.Logic.{◌↔◌, ◌≢◌}
use mathlib.Core.Path.{◌≡◌, refl, ap}
use Prim.Native.Nat.{ℕ}
use Rattle.integers.proofs.Order.{clash}
use Rattle.model.specs.declared.Refusal.{Refusal}
use Rattle.model.specs.declared.Outcome.TheVariants.{Refused}
use Rattle.model.specs.Refusals.{Rule, number, refusal, Gives, none, more, or_refused, verdict}
use Rattle.model.proofs.Verdict.{AllHold, none as All-none, more as All-more, first→refused}

-- ---- rules that hold

pub first_holds : {r : Rule} {rs : List Rule} → AllHold (r ∷ rs) → r.holds ≡ true
first_holds (All-more h a) = h

pub rest_hold : {r : Rule} {rs : List Rule} → AllHold (r ∷ rs) → AllHold rs
rest_hold (All-more h a) = a

-- ---- the number that is given

-- no rule of the list gives the number n
pub data Lacks (n : ℕ) : List Rule → Type 0 where
  empty : Lacks n []
  other : {r : Rule} {rs : List Rule} → number r.why ≢ n → Lacks n rs → Lacks n (r ∷ rs)

pub lacks-++ : {n : ℕ} {rs ss : List Rule} → Lacks n rs → Lacks n ss → Lacks n (rs ++ ss)
lacks-++ empty l = l
lacks-++ (other h k) l = other h (lacks-++ k l)

-- rules lack every number but those that they give
pub lacks_other : {t : ℕ → Bool} {n : ℕ} {rs : List Rule} → Gives t rs → t n ≡ false → Lacks n rs
lacks_other none h = empty
lacks_other {t} (more {r} k a) h = other {r = r} (λ e. clash (cc (ap t e))) (lacks_other a h)

-- a refusal of an order that begins with r comes from r, or from the rules after it
data Source (r : Rule) (rs : List Rule) (w : Refusal) : Type 0 where
  from_first : r.holds ≡ false → number r.why ≡ w.number → Source r rs w
  from_rest : r.holds ≡ true → verdict rs ≡ Refused w → Source r rs w

source : (r : Rule) (rs : List Rule) (w : Refusal) → verdict (r ∷ rs) ≡ Refused w → Source r rs w
unfolding verdict or_refused refusal
source r rs w e = go r.holds refl e
  where
    go : (b : Bool) → r.holds ≡ b → or_refused b r.why r.place (verdict rs) ≡ Refused w → Source r rs w
    go true h f = from_rest h f
    go false h f = from_first h (cc)

pub lacks→not_given : {w : Refusal} {rs : List Rule} → Lacks w.number rs → verdict rs ≡ Refused w → ⊥
unfolding verdict
lacks→not_given empty e = clash cc
lacks→not_given {w} (other {r} {rs} h l) e = go (lacks→not_given l) (source r rs w e)
  where
    go : (verdict rs ≡ Refused w → ⊥) → Source r rs w → ⊥
    go rest (from_first f n) = h n
    go rest (from_rest f d) = rest d

module _ (r : Rule) (after : List Rule) (l : Lacks (number r.why) after) where
  first_failing : (before : List Rule) → Lacks (number r.why) before → verdict (before ++ (r ∷ after)) ≡ Refused (refusal r.why r.place) → AllHold before × (r.holds ≡ false)
  unfolding refusal
  first_failing [] empty e = go (source r after (refusal r.why r.place) e)
    where
      go : Source r after (refusal r.why r.place) → AllHold [] × (r.holds ≡ false)
      go (from_first f n) = (All-none, f)
      go (from_rest f d) = absurd (lacks→not_given l d)
  first_failing (b ∷ bs) (other h k) e = go (first_failing bs k) (source b (bs ++ (r ∷ after)) (refusal r.why r.place) e)
    where
      go : (verdict (bs ++ (r ∷ after)) ≡ Refused (refusal r.why r.place) → AllHold bs × (r.holds ≡ false)) → Source b (bs ++ (r ∷ after)) (refusal r.why r.place) → AllHold (b ∷ bs) × (r.holds ≡ false)
      go rest (from_first f n) = absurd (h n)
      go rest (from_rest f d) = let x = rest d in (All-more f x.0, x.1)

  pub given_exactly : (before : List Rule) → Lacks (number r.why) before → (verdict (before ++ (r ∷ after)) ≡ Refused (refusal r.why r.place)) ↔ (AllHold before × (r.holds ≡ false))
  given_exactly before k = (first_failing before k, (λ x. first→refused (record { before = before; after = after; split = refl; hold = x.0; fails = x.1 })))
