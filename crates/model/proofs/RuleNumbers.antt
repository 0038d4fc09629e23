-- An order of refusals gives only the numbers of its rules: by induction over the rules. Those on a crest's own bytes give its own, 1 to 9.
use Prim.Native.Nat.{ℕ, zero, suc, ◌+◌, ◌-◌, ◌≤◌}
use mathlib.Core.Bool.{Bool, true, false, and-false}
use mathlib.Core.List.{List, ◌++◌}
use mathlib.Core.Path.{◌≡◌, refl, sym, ◌∙◌, ap, subst}
use native.Mathlib.Omega.{arith}
use lib.Dec.{T, leb, leb→le}
use mir.Facts.{and_yes}
use borrow.Author.Tests.{lt-leb}
use Rattle.integers.proofs.Order.{clash}
use Rattle.model.specs.declared.Refusal.{Refusal}
use Rattle.model.specs.declared.Outcome.TheVariants.{Refused}
use Rattle.model.specs.Records.{count_of, block_count}
use Rattle.model.specs.Refusals.{last_number, Rule, number, refusal, Gives, none, more, or_refused, verdict, for_each}
use Rattle.model.specs.Acceptance.{record_rules, join_rules, each_record, each_join, records_rules, sum_rules, field_rules, blocks_rules}
use Rattle.model.specs.Crest.{is_own}

pub gives-++ : {t : ℕ → Bool} {rs ss : List Rule} → Gives t rs → Gives t ss → Gives t (rs ++ ss)
gives-++ none b = b
gives-++ (more h a) b = more h (gives-++ a b)

-- of a wider test
pub gives_wider : {t u : ℕ → Bool} {rs : List Rule} → ((n : ℕ) → t n ≡ true → u n ≡ true) → Gives t rs → Gives u rs
gives_wider w none = none
gives_wider w (more {r} h a) = more {r = r} (w (number r.why) h) (gives_wider w a)

gives_for_each : {t : ℕ → Bool} {f : ℕ → List Rule} → ((i : ℕ) → Gives t (f i)) → (k i : ℕ) → Gives t (for_each f k i)
unfolding for_each
gives_for_each h zero i = none
gives_for_each h (suc k) i = gives-++ (h i) (gives_for_each h k (i + 1))

-- so the number of a refusal is one of them
pub given : {t : ℕ → Bool} {rs : List Rule} (w : Refusal) → Gives t rs → verdict rs ≡ Refused w → t w.number ≡ true
unfolding verdict or_refused refusal
given w none e = clash cc
given {t} w (more {r} {rs} h a) e = either r.holds (given w a) e
  where
    either : (b : Bool) → (verdict rs ≡ Refused w → t w.number ≡ true) → or_refused b r.why r.place (verdict rs) ≡ Refused w → t w.number ≡ true
    either true rest e = rest e
    either false rest e = let n : number r.why ≡ w.number = cc in sym (ap t n) ∙ h

-- ---- a crest's own

-- They are the table's, and none of 10 to 18, which are the questions', the run's and the writer's. Nothing else is used of which they are.
pub own_numbered : (n : ℕ) → is_own n ≡ true → (1 ≤ n) × (n ≤ last_number)
unfolding is_own
own_numbered n h = let k = and_yes (leb 1 n) (leb n 9) (subst T (sym h) tt) in (omega (arith, leb→le), omega (arith, leb→le))

pub own_apart : (n : ℕ) → 10 ≤ n → n ≤ 18 → is_own n ≡ false
unfolding is_own
own_apart n low high = rw (lt-leb n 9 (omega arith)) (and-false (leb 1 n))

pub records_own : (bytes : List ℕ) → Gives is_own (records_rules bytes)
unfolding records_rules each_record each_join record_rules join_rules number is_own
records_own bytes =
    gives-++
    (gives_for_each (λ r. more refl (more refl (more refl (more refl (more refl none))))) (count_of bytes) 0)
    (gives_for_each (λ r. more refl (more refl none)) (count_of bytes - 1) 0)

pub blocks_own : (file : List ℕ) → Gives is_own (blocks_rules file)
unfolding blocks_rules sum_rules field_rules number is_own
blocks_own file =
    more refl
    (gives-++
    (gives_for_each (λ b. more refl none) (block_count file) 0)
    (gives_for_each (λ b. more refl none) (block_count file) 0))
