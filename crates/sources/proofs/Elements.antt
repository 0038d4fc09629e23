-- The elements of record bytes: how many they are, and the one of record i among them.
use Prim.Native.Nat.{ℕ, zero, suc, ◌+◌, ◌<◌}
use mathlib.Core.List.{List, ◌∷◌}
use mathlib.Core.Path.{◌≡◌, refl, ap}
use native.Mathlib.Nat.{add-zero, zero-add}
use native.Mathlib.Omega.{arith}
use lib.ListN.{length, drop}
use Rattle.model.specs.Records.{count_of, record_of}
use Rattle.model.specs.Refusals.{for_each}
use Rattle.model.specs.Acceptance.{element_at, record_rules, each_record, elements_from, elements_of}
use Rattle.model.specs.Accepted.{Accepted, AllAccepted}
use Rattle.model.proofs.Verdict.{AllHold, all→done}
use Rattle.model.proofs.Accepted.{record_accepted}
use Rattle.model.proofs.ForEach.{append_all}

module _ (bytes : List ℕ) where
  from_length : (n r : ℕ) → length (elements_from n r bytes) ≡ n
  unfolding elements_from
  from_length zero r = refl
  from_length (suc n) r = ap suc (from_length n (r + 1))

  pub elements_length : length (elements_of bytes) ≡ count_of bytes
  unfolding elements_of
  elements_length = from_length (count_of bytes) 0

  from_at : (n r i : ℕ) → i < n → drop i (elements_from n r bytes) ≡ element_at bytes (r + i) ∷ drop (suc i) (elements_from n r bytes)
  unfolding elements_from
  from_at zero r i h = absurd (omega arith)
  from_at (suc n) r zero h = rw add-zero
  from_at (suc n) r (suc i) h = let e : r + suc i ≡ r + 1 + i = omega arith in rw e (from_at n (r + 1) i (omega arith))

  -- those from the i-th on begin with the element of record i
  pub elements_at : (i : ℕ) → i < count_of bytes → drop i (elements_of bytes) ≡ element_at bytes i ∷ drop (suc i) (elements_of bytes)
  unfolding elements_of
  elements_at i h = rw zero-add at (from_at (count_of bytes) 0 i h)

  from_each : (n r : ℕ) → AllAccepted (elements_from n r bytes) → (i : ℕ) → i < n → Accepted (element_at bytes (r + i))
  unfolding elements_from AllAccepted
  from_each zero r a i h = absurd (omega arith)
  from_each (suc n) r a zero h = rw add-zero a.0
  from_each (suc n) r a (suc i) h = let e : r + suc i ≡ r + 1 + i = omega arith in rw e (from_each n (r + 1) a.1 i (omega arith))

  pub each_accepted : AllAccepted (elements_of bytes) → (i : ℕ) → i < count_of bytes → Accepted (element_at bytes i)
  unfolding elements_of
  each_accepted a i h = rw zero-add at (from_each (count_of bytes) 0 a i h)

  from_accepted : (n r : ℕ) → AllHold (for_each (λ i. record_rules (record_of bytes i) i) n r) → AllAccepted (elements_from n r bytes)
  unfolding for_each elements_from element_at AllAccepted
  from_accepted zero r a = tt
  from_accepted (suc n) r a =
      let x = append_all (record_rules (record_of bytes r) r) a in
      (record_accepted (record_of bytes r) r (all→done x.0), from_accepted n (r + 1) x.1)

  -- the elements of records that refuse nothing are accepted
  pub elements_accepted : AllHold (each_record bytes) → AllAccepted (elements_of bytes)
  unfolding elements_of each_record
  elements_accepted a = from_accepted (count_of bytes) 0 a
