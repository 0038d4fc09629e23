-- The place of a crest's own refusal is at most 60: a file has at most 4 blocks and 60 records, since its length and its blocks are looked at first.
use Prim.Native.Nat.{ℕ, zero, suc, ◌+◌, ◌-◌, ◌≤◌, ◌<◌}
use native.Mathlib.Omega.{arith}
use mathlib.Core.Bool.{Bool, true, false}
use mathlib.Core.List.{List, [], ◌∷◌, ◌++◌}
use mathlib.Core.Path.{◌≡◌, refl, sym, ◌∙◌}
use lib.ListN.{length}
use Rattle.integers.proofs.Order.{clash}
use Rattle.model.specs.declared.Element.{Element}
use Rattle.model.specs.declared.Refusal.{Refusal}
use Rattle.model.specs.declared.Outcome.{Outcome}
use Rattle.model.specs.declared.Outcome.TheVariants.{Done, Refused}
use Rattle.model.specs.Refusals.{byte_count, Rule, rule₀, refusal, or_refused, verdict, for_each}
use Rattle.model.specs.Records.{most_records, block_count, count_of, record_of}
use Rattle.model.specs.Acceptance.{element_at, length_fits, record_rules, join_rules, each_record, each_join, records_rules, sum_rules, field_rules, blocks_rules}
use Rattle.model.proofs.Verdict.{verdict_after, refused_before, done→all}
use Rattle.model.proofs.ForEach.{holds_one}
use Rattle.crestfile.proofs.SoundFile.{fits→blocks}

-- ---- orders of refusals

-- what an order refuses has a place up to 60
abbrev pub PlacedOrder : List Rule → Type 0
PlacedOrder rs = (why : Refusal) → verdict rs ≡ Refused why → why.place ≤ most_records

pub none_placed : PlacedOrder []
unfolding verdict
none_placed why e = clash cc

one_placed : (r : Rule) → r.place ≤ most_records → PlacedOrder (r ∷ [])
unfolding verdict or_refused refusal
one_placed r h why e = go r.holds e
  where
    go : (b : Bool) → or_refused b r.why r.place Done ≡ Refused why → why.place ≤ most_records
    go true e = clash cc
    go false e = let p : r.place ≡ why.place = cc in omega arith

-- one part of an order after another
pub then_placed : (rs ss : List Rule) → PlacedOrder rs → (verdict rs ≡ Done → PlacedOrder ss) → PlacedOrder (rs ++ ss)
then_placed rs ss p q = go (verdict rs) refl
  where
    go : (o : Outcome) → verdict rs ≡ o → PlacedOrder (rs ++ ss)
    go Done e = λ why h. q e why (sym (verdict_after rs ss e) ∙ h)
    go (Refused x) e = λ why h. p why (e ∙ (sym (refused_before rs ss e) ∙ h))

-- a rule before others
pub rule_placed : (r : Rule) (rs : List Rule) → r.place ≤ most_records → (verdict (r ∷ []) ≡ Done → PlacedOrder rs) → PlacedOrder (r ∷ rs)
rule_placed r rs h q = then_placed (r ∷ []) rs (one_placed r h) q

each_placed : (f : ℕ → List Rule) (n i : ℕ) → ((j : ℕ) → j < i + n → PlacedOrder (f j)) → PlacedOrder (for_each f n i)
unfolding for_each
each_placed f zero i p = none_placed
each_placed f (suc n) i p = then_placed (f i) (for_each f n (i + 1)) (p i (omega arith)) (λ d. each_placed f n (i + 1) (λ j h. p j (omega arith)))

-- ---- a file

module _ (file : List ℕ) where
  sums_placed : (b : ℕ) → b ≤ most_records → PlacedOrder (sum_rules file b)
  unfolding sum_rules
  sums_placed b h = rule_placed _ [] h (λ d. none_placed)

  fields_placed : (b : ℕ) → b ≤ most_records → PlacedOrder (field_rules file b)
  unfolding field_rules
  fields_placed b h = rule_placed _ [] h (λ d. none_placed)

  few_blocks : verdict (rule₀ byte_count (length_fits (length file)) ∷ []) ≡ Done → block_count file ≤ 4
  few_blocks d = (fits→blocks (length file) (holds_one (done→all _ d))).at_most

  pub blocks_placed : PlacedOrder (blocks_rules file)
  unfolding blocks_rules
  blocks_placed =
      let n = block_count file in
      rule_placed _ (for_each (sum_rules file) n 0 ++ for_each (field_rules file) n 0) (omega arith)
      (λ d.
      let few = few_blocks d in
      then_placed (for_each (sum_rules file) n 0) (for_each (field_rules file) n 0) (each_placed (sum_rules file) n 0 (λ b h. sums_placed b (omega arith)))
      (λ e. each_placed (field_rules file) n 0 (λ b h. fields_placed b (omega arith))))

record_placed : (this : List ℕ) (r : ℕ) → r ≤ most_records → PlacedOrder (record_rules this r)
unfolding record_rules
record_placed this r h =
    rule_placed _ _ h (λ a. rule_placed _ _ h (λ b. rule_placed _ _ h (λ c. rule_placed _ _ h (λ d. rule_placed _ [] h (λ e. none_placed)))))

join_placed : (e f : Element) (r : ℕ) → r ≤ most_records → PlacedOrder (join_rules e f r)
unfolding join_rules
join_placed e f r h = rule_placed _ _ h (λ a. rule_placed _ [] h (λ b. none_placed))

pub records_placed : (bytes : List ℕ) → count_of bytes ≤ most_records → PlacedOrder (records_rules bytes)
unfolding records_rules each_record each_join
records_placed bytes few =
    let records : ℕ → List Rule = λ r. record_rules (record_of bytes r) r in
    let joins : ℕ → List Rule = λ r. join_rules (element_at bytes r) (element_at bytes (r + 1)) r in
    let n = count_of bytes in
    then_placed (for_each records n 0) (for_each joins (n - 1) 0) (each_placed records n 0 (λ r h. record_placed (record_of bytes r) r (omega arith)))
    (λ d. each_placed joins (n - 1) 0 (λ r h. join_placed (element_at bytes r) (element_at bytes (r + 1)) r (omega arith)))
