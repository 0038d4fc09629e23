-- An order of refusals has one outcome: the refusal of the first rule that does not hold, or none where all hold.
use Prim.Native.Nat.{ℕ, ◌≤◌}
use mathlib.Core.Bool.{Bool, true, false}
use mathlib.Core.List.{List, [], ◌∷◌, ◌++◌}
use mathlib.Core.Logic.{◌⊎◌, inl, inr}
use mathlib.Core.Path.{◌≡◌, refl, sym, ◌∙◌, ap}
use native.Mathlib.Omega.{arith}
use Rattle.integers.proofs.Order.{clash}
use Rattle.model.specs.declared.Refusal.{Refusal}
use Rattle.model.specs.declared.Outcome.{Outcome}
use Rattle.model.specs.declared.Outcome.TheVariants.{Done, Refused}
use Rattle.model.specs.Refusals.{Reason, byte_count, checksum, block_field, damaged_record, later_kind, field_out_of_range, not_unit, gap, kink, not_whole, outside_frame, too_far, before_start, after_end, asked_out_of_range, run_full, record_count, wrong_room, number, last_number, Rule, refusal, or_refused, verdict}

-- a number of the table is one of 1 to the last
pub reason_numbered : (why : Reason) → (1 ≤ number why) × (number why ≤ last_number)
unfolding number
reason_numbered byte_count = (omega arith, omega arith)
reason_numbered checksum = (omega arith, omega arith)
reason_numbered block_field = (omega arith, omega arith)
reason_numbered damaged_record = (omega arith, omega arith)
reason_numbered later_kind = (omega arith, omega arith)
reason_numbered field_out_of_range = (omega arith, omega arith)
reason_numbered not_unit = (omega arith, omega arith)
reason_numbered gap = (omega arith, omega arith)
reason_numbered kink = (omega arith, omega arith)
reason_numbered not_whole = (omega arith, omega arith)
reason_numbered outside_frame = (omega arith, omega arith)
reason_numbered too_far = (omega arith, omega arith)
reason_numbered before_start = (omega arith, omega arith)
reason_numbered after_end = (omega arith, omega arith)
reason_numbered asked_out_of_range = (omega arith, omega arith)
reason_numbered run_full = (omega arith, omega arith)
reason_numbered record_count = (omega arith, omega arith)
reason_numbered wrong_room = (omega arith, omega arith)

-- every rule of the list holds
pub data AllHold : List Rule → Type 0 where
  none : AllHold []
  more : {r : Rule} {rs : List Rule} → r.holds ≡ true → AllHold rs → AllHold (r ∷ rs)

-- r is the first rule of the list that does not hold: those before it do
pub record FirstFailing (rs : List Rule) (r : Rule) : Type 0 where
  pub before : List Rule
  pub after : List Rule
  pub split : rs ≡ before ++ (r ∷ after)
  pub hold : AllHold before
  pub fails : r.holds ≡ false

step : (b : Bool) (why : Reason) (place : ℕ) (o : Outcome) → or_refused b why place o ≡ Done → (b ≡ true) × (o ≡ Done)
unfolding or_refused
step true why place o e = (refl, e)
step false why place o e = clash cc

pub done→all : (rs : List Rule) → verdict rs ≡ Done → AllHold rs
unfolding verdict
done→all [] e = none
done→all (r ∷ rs) e = let s = step r.holds r.why r.place (verdict rs) e in more s.0 (done→all rs s.1)

pub all→done : {rs : List Rule} → AllHold rs → verdict rs ≡ Done
unfolding verdict or_refused
all→done none = refl
all→done (more {r} {rs} h a) = ap (λ b. or_refused b r.why r.place (verdict rs)) h ∙ all→done a

-- rules that all hold leave the outcome to those after them
pub verdict_after : (rs ss : List Rule) → verdict rs ≡ Done → verdict (rs ++ ss) ≡ verdict ss
unfolding verdict or_refused
verdict_after [] ss e = refl
verdict_after (r ∷ rs) ss e =
    let s = step r.holds r.why r.place (verdict rs) e in
    ap (λ b. or_refused b r.why r.place (verdict (rs ++ ss))) s.0 ∙ verdict_after rs ss s.1

-- rules that refuse decide the outcome, whatever comes after them
pub refused_before : (rs ss : List Rule) {x : Refusal} → verdict rs ≡ Refused x → verdict (rs ++ ss) ≡ Refused x
unfolding verdict or_refused
refused_before [] ss e = clash cc
refused_before (r ∷ rs) ss {x} e = go r.holds (refused_before rs ss) e
  where
    go : (b : Bool) → (verdict rs ≡ Refused x → verdict (rs ++ ss) ≡ Refused x) → or_refused b r.why r.place (verdict rs) ≡ Refused x → or_refused b r.why r.place (verdict (rs ++ ss)) ≡ Refused x
    go true rest e = rest e
    go false rest e = e

-- The outcome of the first rule that does not hold is its refusal.
pub first→refused : {rs : List Rule} {r : Rule} → FirstFailing rs r → verdict rs ≡ Refused (refusal r.why r.place)
unfolding verdict or_refused
first→refused {rs} {r} f = ap verdict f.split ∙ go f.before f.hold
  where
    go : (bs : List Rule) → AllHold bs → verdict (bs ++ (r ∷ f.after)) ≡ Refused (refusal r.why r.place)
    go [] none = ap (λ b. or_refused b r.why r.place (verdict f.after)) f.fails
    go (b ∷ bs) (more h a) = ap (λ x. or_refused x b.why b.place (verdict (bs ++ (r ∷ f.after)))) h ∙ go bs a

-- a refusal comes from some rule: the first that does not hold
pub record Cause (rs : List Rule) (why : Refusal) : Type 0 where
  pub rule : Rule
  pub first : FirstFailing rs rule
  pub gives : why ≡ refusal rule.why rule.place

later : {r : Rule} {rs : List Rule} {why : Refusal} → r.holds ≡ true → Cause rs why → Cause (r ∷ rs) why
later {r} h c =
    record {
      rule = c.rule;
      first = record {
        before = r ∷ c.first.before;
        after = c.first.after;
        split = ap (λ l. r ∷ l) c.first.split;
        hold = more h c.first.hold;
        fails = c.first.fails;
      };
      gives = c.gives;
    }

here : (r : Rule) (rs : List Rule) (why : Refusal) → r.holds ≡ false → Refused (refusal r.why r.place) ≡ Refused why → Cause (r ∷ rs) why
here r rs why h e =
    record { rule = r; first = record { before = []; after = rs; split = refl; hold = none; fails = h }; gives = cc }

pub refused→first : (rs : List Rule) (why : Refusal) → verdict rs ≡ Refused why → Cause rs why
unfolding verdict or_refused
refused→first [] why e = clash cc
refused→first (r ∷ rs) why e = go (λ d. refused→first rs why d) r.holds refl
  where
    at : (b : Bool) → r.holds ≡ b → or_refused b r.why r.place (verdict rs) ≡ Refused why
    at b h = sym (ap (λ x. or_refused x r.why r.place (verdict rs)) h) ∙ e

    go : (verdict rs ≡ Refused why → Cause rs why) → (b : Bool) → r.holds ≡ b → Cause (r ∷ rs) why
    go rest true h = later h (rest (at true h))
    go rest false h = here r rs why h (at false h)

-- Every order has one outcome: nothing is refused where all rules hold, and else the first that does not gives the refusal.
pub order_outcome : (rs : List Rule) → (verdict rs ≡ Done × AllHold rs) ⊎ ((why : Refusal) × (verdict rs ≡ Refused why) × Cause rs why)
order_outcome rs = go (verdict rs) refl
  where
    go : (o : Outcome) → verdict rs ≡ o → (verdict rs ≡ Done × AllHold rs) ⊎ ((why : Refusal) × (verdict rs ≡ Refused why) × Cause rs why)
    go Done e = inl (e, done→all rs e)
    go (Refused why) e = inr (why, e, refused→first rs why e)
