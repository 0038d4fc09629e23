-- docs/RULES.md, chapter 8; document 01, "Refusal numbers": the table as data, and what an order of refusals means.
use Rattle.std.specs.Prelude.{ℕ, zero, suc, ◌+◌, Bool, true, false, List, [], ◌∷◌, ◌++◌, ◌≡◌}
use Prim.Native.String.{String}
use Rattle.model.specs.declared.Refusal.{Refusal}
use Rattle.model.specs.declared.Outcome.{Outcome}
use Rattle.model.specs.declared.Outcome.TheVariants.{Done, Refused}

-- the table's refusals, in its order
pub data Reason : Type 0 where
  byte_count checksum block_field damaged_record later_kind field_out_of_range not_unit gap kink not_whole outside_frame too_far before_start after_end asked_out_of_range run_full record_count wrong_room : Reason

-- its column "no."
unfoldable pub number : Reason → ℕ
number byte_count = 1
number checksum = 2
number block_field = 3
number damaged_record = 4
number later_kind = 5
number field_out_of_range = 6
number not_unit = 7
number gap = 8
number kink = 9
number not_whole = 10
number outside_frame = 11
number too_far = 12
number before_start = 13
number after_end = 14
number asked_out_of_range = 15
number run_full = 16
number record_count = 17
number wrong_room = 18

-- the last number of the table
abbrev pub last_number : ℕ
last_number = 18

-- the table's words, as document 01 has them; messages have those of include/crest_text.h, and the conditions themselves are the rules of the chapters
unfoldable pub sentence : Reason → String
sentence byte_count = "byte count not 512, 1024, 1536 or 2048"
sentence checksum = "a block's A or B is wrong"
sentence block_field = "block number, use count, edition, or a byte that must be zero outside used records"
sentence damaged_record = "damaged kind, or a nonzero byte 1 to 3 or 28 to 31 of a used record"
sentence later_kind = "kind 5 to 15"
sentence field_out_of_range = "length, radius, x or y out of range"
sentence not_unit = "direction not a unit (record or heading)"
sentence gap = "gap, kink at a join"
sentence kink = "gap, kink at a join"
sentence not_whole = "a reading's number not finite or not whole"
sentence outside_frame = "plane point outside the frame, given or resulting"
sentence too_far = "least D above 400,000,000,000,000"
sentence before_start = "station judged 0 with residual below −100"
sentence after_end = "station judged T with residual above 100"
sentence asked_out_of_range = "station, offset or record number out of range"
sentence run_full = "run full"
sentence record_count = "writer's record bytes not 32 times 1 to 60"
sentence wrong_room = "room below the blocks needed, a run's bytes not 24, or a C move's not 8"

-- "A refusal returns its number and a place .. else 0"
unfoldable pub refusal : Reason → ℕ → Refusal
unfolding number
refusal why place = record { number = number why; place = place }

-- One condition of an order of refusals: where it does not hold, the refusal `why` is given, with its place.
pub record Rule : Type 0 where
  pub why : Reason
  pub place : ℕ
  pub holds : Bool

abbrev pub rule : Reason → ℕ → Bool → Rule
rule why place holds = record { why = why; place = place; holds = holds }

-- a rule whose refusal has no place
abbrev pub rule₀ : Reason → Bool → Rule
rule₀ why holds = rule why 0 holds

-- each rule of the list gives a number for which the test holds
pub data Gives (test : ℕ → Bool) : List Rule → Type 0 where
  none : Gives test []
  more : {r : Rule} {rs : List Rule} → test (number r.why) ≡ true → Gives test rs → Gives test (r ∷ rs)

-- the refusal where a rule does not hold, and else the outcome of the rules after it
unfoldable pub or_refused : Bool → Reason → ℕ → Outcome → Outcome
unfolding refusal
or_refused true why place o = o
or_refused false why place o = Refused (refusal why place)

-- "Order: ..": the refusal of the first rule that does not hold, if there is one.
unfoldable pub verdict : List Rule → Outcome
unfolding or_refused
verdict [] = Done
verdict (r ∷ rs) = or_refused r.holds r.why r.place (verdict rs)

-- the rules that f gives for n places from i on, in their order
unfoldable pub for_each : (ℕ → List Rule) → ℕ → ℕ → List Rule
for_each f zero i = []
for_each f (suc n) i = f i ++ for_each f n (i + 1)
