-- The programs that document 01 shuts out by name, each refuted by the definitions at a named input, computed.
use Prim.Native.Nat.{ℕ}
use mathlib.Core.Bool.{false}
use mathlib.Core.List.{List, [], ◌∷◌, map}
use mathlib.Core.Path.{◌≡◌, refl, sym, ◌∙◌, ap}
use native.Mathlib.Omega.{arith}
use lib.ListN.{get_or, replicate}
use lib.IntN.{ℤ, pos}
use Rattle.integers.proofs.Order.{clash}
use Rattle.model.specs.declared.Kind.TheVariants.{Line}
use Rattle.model.specs.declared.Element.{Element}
use Rattle.model.specs.declared.Point.{Point}
use Rattle.model.specs.declared.Refusal.{Refusal}
use Rattle.model.specs.declared.Outcome.{Outcome}
use Rattle.model.specs.declared.Outcome.TheVariants.{Done, Refused}
use Rattle.model.specs.declared.Located.{Located}
use Rattle.model.specs.declared.Located.TheVariants.{At, Refused as LocatedRefused}
use Rattle.model.specs.declared.ReadingAnswer.TheVariants.{Refused as AnswerRefused}
use Rattle.model.specs.declared.Run.{Run}
use Rattle.model.specs.Rounding.{ONE}
use Rattle.model.specs.Refusals.{refusal, before_start, verdict}
use Rattle.model.specs.Acceptance.{crest_rules, crest_elements}
use Rattle.model.specs.Crest.{file_crest, check_of}
use Rattle.model.specs.Writer.{written}
use Rattle.model.specs.Stations.{total, D}
use Rattle.model.specs.Judged.{judged}
use Rattle.model.specs.Walk.{first_visits, visit_count}
use Rattle.model.specs.Answers.{answer_after, point_question, located}
use Rattle.model.specs.Run.{Shown, shown_of, answers, counted, acknowledged}
use Rattle.model.specs.Calls.{acknowledge_call}
use Rattle.marked_examples.specs.Examples.{K, crest, one_record, point}

-- a line as K of 10 mm
unfoldable pub short : List ℕ
unfolding crest
short = crest 1 10 (pos 0)

-- ---- "a program that refuses everything (the table's "exactly when")"

pub refuses_all_files : (f : List ℕ → Outcome) → ((file : List ℕ) → (why : Refusal) × (f file ≡ Refused why)) → ((file : List ℕ) → f file ≡ check_of (file_crest file)) → ⊥
unfolding verdict crest_rules K
refuses_all_files f refuses meets =
    let r = refuses K in
    let accepted : check_of (file_crest K) ≡ Done = refl in
    clash (cc (r.1, meets K, accepted))

-- what a point 5.12 mm along and 3 mm to the left of `short` is answered
answered : Located
answered = At 5 (pos 300) (pos 12) 12

short_answered : located (file_crest short) (point (pos 512) (pos 300)) ≡ answered
unfolding answer_after point_question crest_rules crest_elements short answered
short_answered = refl

pub refuses_all_points : (f : List ℕ → Point → Located) → ((file : List ℕ) (p : Point) → (why : Refusal) × (f file p ≡ LocatedRefused why)) → ((file : List ℕ) (p : Point) → f file p ≡ located (file_crest file) p) → ⊥
unfolding answered
refuses_all_points f refuses meets =
    let p = point (pos 512) (pos 300) in
    clash (cc ((refuses short p).1, meets short p, short_answered))

-- ---- "one that always answers station 0 (demand 3)": station 0 wherever it answers

pub always_station_0 : (f : List ℕ → Point → Located) → ((file : List ℕ) (p : Point) (s : ℕ) (o r : ℤ) (v : ℕ) → f file p ≡ At s o r v → s ≡ 0) → ((file : List ℕ) (p : Point) → f file p ≡ located (file_crest file) p) → ⊥
unfolding answered
always_station_0 f zero meets =
    let p = point (pos 512) (pos 300) in
    let z : ◌≡◌ {A = ℕ} 5 0 = zero short p 5 (pos 300) (pos 12) 12 (meets short p ∙ short_answered) in
    omega arith

-- ---- "a writer or acknowledgement that does nothing (demand 2, run rule)"

pub writer_does_nothing : (f : List ℕ → List ℕ → List ℕ) → ((records room : List ℕ) → f records room ≡ room) → ((records room : List ℕ) → f records room ≡ written records room) → ⊥
unfolding written one_record
writer_does_nothing f nothing meets =
    let records = one_record 1 10000 (pos 0) in
    let room : List ℕ = replicate 512 0 in
    let first : get_or (written records room) 0 0 ≡ 1 = refl in
    let z : ◌≡◌ {A = ℕ} 0 1 = ap (λ l. get_or l 0 0) (sym (nothing records room) ∙ meets records room) ∙ first in
    omega arith

-- a run whose first refusal, 13, was its second reading
pending : Run
pending = record { answered = 1; refused = 1; latest = 13; first = 13; reading = 2; one = pos 0; two = pos 0; three = pos 0 }

pub acknowledgement_does_nothing : (f : Run → Run) → ((run : Run) → f run ≡ run) → ((run : Run) → f run ≡ acknowledged run) → ⊥
unfolding acknowledged pending
acknowledgement_does_nothing f nothing meets =
    let z : ◌≡◌ {A = ℕ} 13 0 = ap (λ (run : Run). run.first) (sym (nothing pending) ∙ meets pending) in
    omega arith

-- the same on 24 lent bytes, all 1
pub acknowledge_call_does_nothing : (f : List ℕ → List ℕ) → ((run : List ℕ) → f run ≡ run) → ((run : List ℕ) → f run ≡ (acknowledge_call run).1) → ⊥
unfolding acknowledge_call
acknowledge_call_does_nothing f nothing meets =
    let run : List ℕ = replicate 24 1 in
    let z : ◌≡◌ {A = ℕ} 1 0 = ap (λ l. get_or l 6 0) (sym (nothing run) ∙ meets run) in
    omega arith

-- ---- "a walk that does its first pass and makes up the second, or a made-up visit count (the walk's count, demand 3)"

-- Two crests of 5 mm, whose first passes see the same distances: one line, and three whose middle begins again at the anchor.
line : ℕ → ℤ → Element
line length x = record { kind = Line; length = length; x = x; y = pos 0; c = pos ONE; s = pos 0; radius = pos 0 }

unfoldable pub whole : List Element
unfolding line
whole = line 5 (pos 0) ∷ []

unfoldable pub broken : List Element
unfolding line
broken = line 1 (pos 0) ∷ line 3 (pos 0) ∷ line 1 (pos 400) ∷ []

-- what the first pass sees
abbrev pub seen : List Element → Point → List ℕ
seen es p = map (D es p) (first_visits (total es))

-- No count is made of the length, the point and what the first pass sees.
pub made_up_count : (f : ℕ → Point → List ℕ → ℕ) → ((es : List Element) (p : Point) → f (total es) p (seen es p) ≡ visit_count es p) → ⊥
unfolding visit_count whole broken total D first_visits
made_up_count f meets =
    let p = point (pos 0) (pos 0) in
    let a : f 5 p (0 ∷ 250000 ∷ []) ≡ 6 = meets whole p in
    let b : f 5 p (0 ∷ 250000 ∷ []) ≡ 7 = meets broken p in
    omega arith

-- And no station is.
pub made_up_second_pass : (f : ℕ → Point → List ℕ → ℕ) → ((es : List Element) (p : Point) → f (total es) p (seen es p) ≡ judged es p) → ⊥
unfolding judged whole broken total D first_visits
made_up_second_pass f meets =
    let p = point (pos 250) (pos 300) in
    let a : f 5 p (152500 ∷ 152500 ∷ []) ≡ 2 = meets whole p in
    let b : f 5 p (152500 ∷ 152500 ∷ []) ≡ 3 = meets broken p in
    omega arith

-- ---- "Keeping the previous offset in a refused answer."

pub keeps_the_offset : (f : Shown → Run → Run) → ((o : Shown) (run : Run) → answers o ≡ false → (f o run).two ≡ run.two) → ((o : Shown) (run : Run) → f o run ≡ counted o run) → ⊥
unfolding counted shown_of refusal
keeps_the_offset f keeps meets =
    let run : Run = record { answered = 1; refused = 0; latest = 0; first = 0; reading = 0; one = pos 5; two = pos 300; three = pos 12 } in
    let o = shown_of (AnswerRefused (refusal before_start 0)) in
    let z : pos 300 ≡ pos 0 = sym (keeps o run refl) ∙ ap (λ (r : Run). r.two) (meets o run) in
    let n : ◌≡◌ {A = ℕ} 300 0 = cc in
    omega arith
