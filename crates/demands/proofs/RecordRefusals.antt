-- When a record and a join are refused, and with which number: the rules of a record and of a join each give their number exactly when those before them hold, and the
-- records and joins before it are passed. So it is in every order that has them, a file's and the writer's.
use Prim.Native.Nat.{ℕ, ◌+◌, ◌-◌, ◌≤◌, ◌<◌}
use mathlib.Core.Bool.{true, false, not}
use mathlib.Core.List.{List, [], ◌∷◌, ◌++◌, append_assoc}
use mathlib.Core.Logic.Iff
use mathlib.Core.Logic.{◌≢◌, ◌⊎◌, ⊎_map, ◌↔◌}
use mathlib.Core.Path.{◌≡◌, refl, sym, ap}
use native.Mathlib.Nat.{zero-add}
use native.Mathlib.Omega.{arith}
use borrow.Author.Tests.{not-true, not-false}
use Rattle.model.specs.declared.KindByte.{KindByte}
use Rattle.model.specs.declared.KindByte.TheVariants.{Damaged, Known, Later}
use Rattle.model.specs.declared.Element.{Element}
use Rattle.model.specs.declared.Outcome.TheVariants.{Done, Refused}
use Rattle.model.specs.Kinds.{decide}
use Rattle.model.specs.Records.{byte_at, count_of, record_of}
use Rattle.model.specs.Refusals.{Reason, damaged_record, later_kind, field_out_of_range, not_unit, gap, kink, Rule, rule, number, refusal, verdict, for_each}
use Rattle.model.specs.Acceptance.{is_damaged, is_later, element_of, reserved_zero, ranges_good, is_unit, record_rules, meets, continues, join_rules, element_at, each_record, each_join, records_rules}
use Rattle.model.proofs.Verdict.{AllHold, none, more, done→all, all→done}
use Rattle.model.proofs.ForEach.{all_append, append_all, each→all, all→each}
use Rattle.model.proofs.Reasons.{Lacks, empty, other, lacks-++, first_holds, rest_hold, given_exactly}
use Rattle.model.proofs.AfterCrest.{first_given}
use Rattle.demands.proofs.Places.{two_parts, lacks_rule, lacks_for_each, AllAt, nowhere, here, given_at_place}

-- ---- one record

-- its kind is one of the four known
abbrev pub KindKnown : List ℕ → Type 0
KindKnown this = (is_damaged (decide (byte_at this 0)) ≡ false) × (is_later (decide (byte_at this 0)) ≡ false)

-- "damaged kind, or a nonzero byte 1 to 3 or 28 to 31 of a used record"; a later kind is refused with 5, before its reserved bytes are
abbrev pub RecordGives4 : List ℕ → Type 0
RecordGives4 this = (is_damaged (decide (byte_at this 0)) ≡ true) ⊎ (KindKnown this × (reserved_zero this ≡ false))

-- "kind 5 to 15"
abbrev pub RecordGives5 : List ℕ → Type 0
RecordGives5 this = is_later (decide (byte_at this 0)) ≡ true

-- "length, radius, x or y out of range"
abbrev pub RecordGives6 : List ℕ → Type 0
RecordGives6 this = KindKnown this × (reserved_zero this ≡ true) × (ranges_good (element_of this) ≡ false)

-- "direction not a unit (record ..)"
abbrev pub RecordGives7 : List ℕ → Type 0
RecordGives7 this = KindKnown this × (reserved_zero this ≡ true) × (ranges_good (element_of this) ≡ true) × (is_unit (element_of this).c (element_of this).s ≡ false)

not_both : (k : KindByte) → is_later k ≡ true → is_damaged k ≡ false
unfolding is_later is_damaged
not_both Damaged e = sym e
not_both (Known kind) e = refl
not_both Later e = refl

module _ (this : List ℕ) (r : ℕ) where
  abbrev damaged : Rule
  damaged = rule damaged_record r (not (is_damaged (decide (byte_at this 0))))

  abbrev later : Rule
  later = rule later_kind r (not (is_later (decide (byte_at this 0))))

  abbrev reserved : Rule
  reserved = rule damaged_record r (reserved_zero this)

  abbrev ranges : Rule
  ranges = rule field_out_of_range r (ranges_good (element_of this))

  abbrev unit : Rule
  unit = rule not_unit r (is_unit (element_of this).c (element_of this).s)

  pub record_gives_4 : (verdict (record_rules this r) ≡ Refused (refusal damaged_record r)) ↔ RecordGives4 this
  unfolding record_rules number
  record_gives_4 =
      let one = first_given damaged [] empty in
      let two = given_exactly reserved (ranges ∷ unit ∷ []) (other (omega arith) (other (omega arith) empty)) (later ∷ []) (other (omega arith) empty) in
      Iff.trans (two_parts (damaged ∷ []) (later ∷ reserved ∷ ranges ∷ unit ∷ []) (refusal damaged_record r)) (
        ⊎_map (λ e. not-false _ (one.0 e))
            (λ x. let y = two.0 x.1 in ((not-true _ (first_holds (done→all (damaged ∷ []) x.0)), not-true _ (first_holds y.0)), y.1)),
        ⊎_map (λ e. one.1 (ap not e))
            (λ x. (all→done (more (ap not x.0.0) none), two.1 (more (ap not x.0.1) none, x.1))),
      )

  pub record_gives_5 : (verdict (record_rules this r) ≡ Refused (refusal later_kind r)) ↔ RecordGives5 this
  unfolding record_rules number
  record_gives_5 =
      Iff.trans
      (given_exactly later (reserved ∷ ranges ∷ unit ∷ []) (other (omega arith) (other (omega arith) (other (omega arith) empty))) (damaged ∷ []) (other (omega arith) empty)) (
        (λ x. not-false _ x.1),
        (λ e. (more (ap not (not_both (decide (byte_at this 0)) e)) none, ap not e)),
      )

  known : {rs : List Rule} → AllHold (damaged ∷ later ∷ rs) ↔ (KindKnown this × AllHold rs)
  known = (
    (λ a. ((not-true _ (first_holds a), not-true _ (first_holds (rest_hold a))), rest_hold (rest_hold a))),
    (λ x. more (ap not x.0.0) (more (ap not x.0.1) x.1)),
  )

  pub record_gives_6 : (verdict (record_rules this r) ≡ Refused (refusal field_out_of_range r)) ↔ RecordGives6 this
  unfolding record_rules number
  record_gives_6 =
      Iff.trans
      (given_exactly ranges (unit ∷ []) (other (omega arith) empty) (damaged ∷ later ∷ reserved ∷ []) (other (omega arith) (other (omega arith) (other (omega arith) empty)))) (
        (λ x. let (k, a) = known.0 x.0 in (k, first_holds a, x.1)),
        (λ x. (known.1 (x.0, more x.1 none), x.2)),
      )

  pub record_gives_7 : (verdict (record_rules this r) ≡ Refused (refusal not_unit r)) ↔ RecordGives7 this
  unfolding record_rules number
  record_gives_7 =
      Iff.trans
      (given_exactly unit [] empty (damaged ∷ later ∷ reserved ∷ ranges ∷ []) (other (omega arith) (other (omega arith) (other (omega arith) (other (omega arith) empty))))) (
        (λ x. let (k, a) = known.0 x.0 in (k, first_holds a, first_holds (rest_hold a), x.1)),
        (λ x. (known.1 (x.0, more x.1 (more x.2 none)), x.3)),
      )

-- ---- one join

-- "gap .. at a join"
abbrev pub JoinGives8 : Element → Element → Type 0
JoinGives8 e f = meets e f ≡ false

-- "kink at a join", with "8 before 9"
abbrev pub JoinGives9 : Element → Element → Type 0
JoinGives9 e f = (meets e f ≡ true) × (continues e f ≡ false)

module _ (e f : Element) (r : ℕ) where
  pub join_gives_8 : (verdict (join_rules e f r) ≡ Refused (refusal gap r)) ↔ JoinGives8 e f
  unfolding join_rules number
  join_gives_8 = first_given (rule gap r (meets e f)) (rule kink r (continues e f) ∷ []) (other (omega arith) empty)

  pub join_gives_9 : (verdict (join_rules e f r) ≡ Refused (refusal kink r)) ↔ JoinGives9 e f
  unfolding join_rules number
  join_gives_9 =
      Iff.trans
      (given_exactly (rule kink r (continues e f)) [] empty (rule gap r (meets e f) ∷ []) (other (omega arith) empty))
      ((λ x. (first_holds x.0, x.1)), (λ x. (more x.0 none, x.1)))

-- ---- in an order: "record by record its kind, reserved bytes, 6, 7; then joins from the first, 8 before 9"

-- record k is refused with none of 4 to 7, and the join after it with neither 8 nor 9
abbrev pub RecordPasses : List ℕ → ℕ → Type 0
RecordPasses bytes k = verdict (record_rules (record_of bytes k) k) ≡ Done

abbrev pub JoinPasses : List ℕ → ℕ → Type 0
JoinPasses bytes k = verdict (join_rules (element_at bytes k) (element_at bytes (k + 1)) k) ≡ Done

-- what comes before the records refuses nothing, nor do the records before r
pub record RecordReached (before : List Rule) (bytes : List ℕ) (r : ℕ) : Type 0 where
  pub first : verdict before ≡ Done
  pub within : r < count_of bytes
  pub earlier : (k : ℕ) → k < r → RecordPasses bytes k

-- nor does any record, nor the joins before that of r and r + 1
pub record JoinReached (before : List Rule) (bytes : List ℕ) (r : ℕ) : Type 0 where
  pub first : verdict before ≡ Done
  pub records : (k : ℕ) → k < count_of bytes → RecordPasses bytes k
  pub within : r + 1 < count_of bytes
  pub earlier : (k : ℕ) → k < r → JoinPasses bytes k

record_lacks : (this : List ℕ) (r : ℕ) {n : ℕ} → ((m : ℕ) → 4 ≤ m → m ≤ 7 → m ≢ n) → Lacks n (record_rules this r)
unfolding record_rules number
record_lacks this r h =
    let four = h 4 (omega arith) (omega arith) in
    lacks_rule damaged_record four
    (lacks_rule later_kind (h 5 (omega arith) (omega arith))
    (lacks_rule damaged_record four (lacks_rule field_out_of_range (h 6 (omega arith) (omega arith)) (lacks_rule not_unit (h 7 (omega arith) (omega arith)) empty))))

join_lacks : (e f : Element) (r : ℕ) {n : ℕ} → ((m : ℕ) → 8 ≤ m → m ≤ 9 → m ≢ n) → Lacks n (join_rules e f r)
unfolding join_rules number
join_lacks e f r h = lacks_rule gap (h 8 (omega arith) (omega arith)) (lacks_rule kink (h 9 (omega arith) (omega arith)) empty)

pub records_lack : (bytes : List ℕ) {n : ℕ} → n ≤ 3 → Lacks n (records_rules bytes)
unfolding records_rules each_record each_join
records_lack bytes h =
    lacks-++
    (lacks_for_each (λ k. record_lacks (record_of bytes k) k (λ m a b. omega arith)) (count_of bytes) 0)
    (lacks_for_each (λ k. join_lacks (element_at bytes k) (element_at bytes (k + 1)) k (λ m a b. omega arith)) (count_of bytes - 1) 0)

module _ (before after : List Rule) (bytes : List ℕ) (why : Reason) (r : ℕ) (lacks : Lacks (number why) before) (lacks-after : Lacks (number why) after) where
  abbrev own : ℕ → List Rule
  own k = record_rules (record_of bytes k) k

  abbrev join : ℕ → List Rule
  join k = join_rules (element_at bytes k) (element_at bytes (k + 1)) k

  abbrev records : List Rule
  records = for_each own (count_of bytes) 0

  abbrev joins : List Rule
  joins = for_each join (count_of bytes - 1) 0

  own_at : (k : ℕ) → AllAt k (own k)
  unfolding record_rules
  own_at k = here refl (here refl (here refl (here refl (here refl nowhere))))

  join_at_lem : (k : ℕ) → AllAt k (join k)
  unfolding join_rules
  join_at_lem k = here refl (here refl nowhere)

  -- 4 to 7, with what makes a record give the number
  pub given_at_record : {P : Type 0} → number why ≤ 7 → (verdict (record_rules (record_of bytes r) r) ≡ Refused (refusal why r)) ↔ P →
      (verdict (before ++ (records_rules bytes ++ after)) ≡ Refused (refusal why r)) ↔ (RecordReached before bytes r × P)
  unfolding records_rules each_record each_join refusal
  given_at_record low gives =
      let beyond = lacks-++ (lacks_for_each (λ k. join_lacks (element_at bytes k) (element_at bytes (k + 1)) k (λ m a b. omega arith)) (count_of bytes - 1) 0) lacks-after in
      Iff.trans
      (rw (← append_assoc records joins after) at (given_at_place own own_at (refusal why r) before (joins ++ after) (count_of bytes) lacks beyond)) (
        (λ x. (record { first = x.0; within = x.1; earlier = x.2 }, gives.0 x.3)),
        (λ x. (x.0.first, x.0.within, x.0.earlier, gives.1 x.1)),
      )

  -- 8 and 9, with what makes a join give the number
  pub given_at_join : {P : Type 0} → 8 ≤ number why → (verdict (join_rules (element_at bytes r) (element_at bytes (r + 1)) r) ≡ Refused (refusal why r)) ↔ P →
      (verdict (before ++ (records_rules bytes ++ after)) ≡ Refused (refusal why r)) ↔ (JoinReached before bytes r × P)
  unfolding records_rules each_record each_join refusal
  given_at_join high gives =
      let lacks_records : Lacks (number why) records = lacks_for_each (λ k. record_lacks (record_of bytes k) k (λ m a b. omega arith)) (count_of bytes) 0 in
      Iff.trans
      (rw (append_assoc before records (joins ++ after), ← append_assoc records joins after) at (given_at_place join join_at_lem (refusal why r) (before ++ records) after (count_of bytes - 1) (lacks-++ lacks lacks_records) lacks-after)) (
        (λ x.
            let (a, b) = append_all before (done→all (before ++ records) x.0) in (
              record {
                first = all→done a;
                records = λ k h. all→done (rw zero-add at (all→each own (count_of bytes) 0 b k h));
                within = omega (arith, x.1);
                earlier = x.2;
              },
              gives.0 x.3,
            )),
        (λ x. (
          all→done (all_append (done→all before x.0.first) (each→all own (count_of bytes) 0 (λ k h. rw zero-add (done→all (own k) (x.0.records k h))))),
          omega (arith, x.0.within),
          x.0.earlier,
          gives.1 x.1,
        )),
      )
