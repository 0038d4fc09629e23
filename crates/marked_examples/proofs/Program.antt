-- What the program prints: document 01's example ("For K, readings 1 and 4 above"), and the sentences that no example shows.
use Prim.Native.Nat.{ℕ, zero, suc, ◌+◌, ◌*◌, ◌/◌, ◌≤◌, ◌<◌}
use mathlib.Core.Bool.{true, false}
use mathlib.Core.List.{List, [], ◌∷◌, ◌++◌}
use mathlib.Core.Path.{◌≡◌, refl, ◌∙◌, ap, ap₂}
use native.Mathlib.Omega.{arith}
use lib.ListN.{length, drop, length-append, length-drop, get_or-append}
use lib.Seq.{drop-append-le}
use lib.IntN.{pos}
use lib.Ieee.{Float, binary64, of_bits}
use Rattle.model.specs.declared.Reading.{Reading}
use Rattle.model.specs.declared.Run.{Run}
use Rattle.model.specs.declared.Reading.TheVariants.{PlanePoint}
use Rattle.model.specs.declared.Outcome.TheVariants.{Done}
use Rattle.model.specs.Records.{u32_at}
use Rattle.model.specs.Refusals.{refusal, verdict, or_refused}
use Rattle.model.specs.Crest.{Crest, file_crest}
use Rattle.model.specs.Acceptance.{crest_rules, crest_elements}
use Rattle.model.specs.Answers.{answer_after, point_question, located_on}
use Rattle.model.specs.Readings.{number_rules, reading_question, answer_on, answer_to, from_located, value_of, whole_of}
use Rattle.model.specs.Run.{Shown, fresh, is_full, full_rules, shown_of, counted, noted, noted_if}
use Rattle.model.specs.Program.{ascii, decimal, line, first_words, heading, reading_line, last_line, reading_at, readings_from, readings_of, print_from, printed}
use Rattle.marked_examples.specs.Examples.{K, point}
use Rattle.model.proofs.Answers.{rules_hold, plane_asked}
use Rattle.marked_examples.proofs.Examples.{elements_k, accepted_k, read_k}

-- x and y of examples 1 and 4 as f64: (512, 300) and (−101, 0)
unfoldable pub readings_k : List ℕ
readings_k =
    (0 ∷ 0 ∷ 0 ∷ 0 ∷ 0 ∷ 0 ∷ 0x80 ∷ 0x40 ∷ [])
    ++ ((0 ∷ 0 ∷ 0 ∷ 0 ∷ 0 ∷ 0xC0 ∷ 0x72 ∷ 0x40 ∷ []) ++ ((0 ∷ 0 ∷ 0 ∷ 0 ∷ 0 ∷ 0x40 ∷ 0x59 ∷ 0xC0 ∷ []) ++ (0 ∷ 0 ∷ 0 ∷ 0 ∷ 0 ∷ 0 ∷ 0 ∷ 0 ∷ [])))

-- what the reading (x, y) on K comes to
abbrev on_K : Float → Float → Shown
on_K x y = shown_of (from_located (located_on elements_k (point (value_of (whole_of x)) (value_of (whole_of y)))))

-- a reading on K whose numbers are whole
module _ (x y : Float) (w : verdict (number_rules x y) ≡ Done) where
  answer_on_K : answer_to (file_crest K) (PlanePoint x y) ≡ from_located (located_on elements_k (point (value_of (whole_of x)) (value_of (whole_of y))))
  answer_on_K =
      rules_hold (reading_question (PlanePoint x y) (crest_elements K)) (crest_rules K) accepted_k
      ∙ ap (λ es. answer_on es (PlanePoint x y)) read_k
      ∙ plane_asked [] x y elements_k
      ∙ ap from_located (rules_hold (point_question (point (value_of (whole_of x)) (value_of (whole_of y))) elements_k) (number_rules x y) w)

  -- its line, where the run is not full, and what follows
  taken : (i : ℕ) (run : Run) (rs : List Reading) → is_full run ≡ false →
      print_from (file_crest K) i run (PlanePoint x y ∷ rs) ≡ reading_line i (on_K x y) ++ print_from (file_crest K) (i + 1) (counted (on_K x y) run) rs
  unfolding print_from noted noted_if verdict or_refused full_rules
  taken i run rs h = rw (h, answer_on_K)

abbrev double : ℕ → Float
double bits = of_bits binary64 bits

-- the two readings, by the bits of their numbers
abbrev x₁ : Float
x₁ = double 0x4080_0000_0000_0000

abbrev y₁ : Float
y₁ = double 0x4072_C000_0000_0000

abbrev x₄ : Float
x₄ = double 0xC059_4000_0000_0000

abbrev y₄ : Float
y₄ = double 0

readings_read : readings_of readings_k ≡ PlanePoint x₁ y₁ ∷ PlanePoint x₄ y₄ ∷ []
unfolding readings_of readings_k
readings_read = refl

whole_1 : verdict (number_rules x₁ y₁) ≡ Done
unfolding verdict number_rules of_bits
whole_1 = refl

whole_4 : verdict (number_rules x₄ y₄) ≡ Done
unfolding verdict number_rules of_bits
whole_4 = refl

-- what they come to
abbrev o₁ : Shown
o₁ = record { number = 0; one = pos 5; two = pos 300; three = pos 12 }

abbrev o₄ : Shown
o₄ = record { number = 13; one = pos 0; two = pos 0; three = pos 0 }

came_1 : on_K x₁ y₁ ≡ o₁
unfolding shown_of from_located answer_after point_question elements_k value_of whole_of of_bits
came_1 = refl

came_4 : on_K x₄ y₄ ≡ o₄
unfolding shown_of from_located answer_after point_question elements_k value_of whole_of of_bits
came_4 = refl

abbrev run₁ : Run
run₁ = record { answered = 1; refused = 0; latest = 0; first = 0; reading = 0; one = pos 5; two = pos 300; three = pos 12 }

second_line : print_from (file_crest K) 2 run₁ (PlanePoint x₄ y₄ ∷ []) ≡ reading_line 2 o₄ ++ last_line (counted o₄ run₁)
unfolding print_from is_full
second_line = taken x₄ y₄ whole_4 2 run₁ [] refl ∙ ap (λ o. reading_line 2 o ++ last_line (counted o run₁)) came_4

both_lines : print_from (file_crest K) 1 fresh (PlanePoint x₁ y₁ ∷ PlanePoint x₄ y₄ ∷ []) ≡ reading_line 1 o₁ ++ (reading_line 2 o₄ ++ last_line (counted o₄ run₁))
unfolding is_full counted
both_lines =
    taken x₁ y₁ whole_1 1 fresh (PlanePoint x₄ y₄ ∷ []) refl
    ∙ ap (λ o. reading_line 1 o ++ print_from (file_crest K) 2 (counted o fresh) (PlanePoint x₄ y₄ ∷ [])) came_1
    ∙ ap (λ t. reading_line 1 o₁ ++ t) second_line

pub printed_example : printed K readings_k ≡ ascii "reading station offset residual\n1 5 300 12\n2 refused 13\nanswered 1 refused 1 first 2 13\n"
unfolding printed heading reading_line last_line counted
printed_example = ap (λ rs. heading ++ print_from (file_crest K) 1 fresh rs) readings_read ∙ ap (λ t. heading ++ t) both_lines

-- ---- what no example shows

-- "from a full run on, each reading prints its number in the input and refused 16"
pub full_line : (c : Crest) (i : ℕ) (run : Run) (r : Reading) (rs : List Reading) → is_full run ≡ true → print_from c i run (r ∷ rs) ≡ line (decimal i ∷ ascii "refused" ∷ decimal 16 ∷ []) ++ print_from c (i + 1) run rs
unfolding print_from noted noted_if verdict or_refused full_rules refusal shown_of reading_line
full_line c i run r rs h = rw h

-- "With no refusal the last line ends "first none"."
pub first_none : (run : Run) → run.first ≡ 0 → last_line run ≡ line (ascii "answered" ∷ decimal run.answered ∷ ascii "refused" ∷ decimal run.refused ∷ ascii "first" ∷ ascii "none" ∷ [])
unfolding last_line first_words
first_none run h = rw h

-- "a shorter tail is ignored"
u32_before : (l t : List ℕ) (i : ℕ) → i + 4 ≤ length l → u32_at (l ++ t) i ≡ u32_at l i
u32_before l t i h =
    let before = get_or-append l t 0 in
    rw (before i (omega arith), before (i + 1) (omega arith), before (i + 2) (omega arith), before (i + 3) (omega arith))

reading_before : (l t : List ℕ) → 16 ≤ length l → reading_at (l ++ t) ≡ reading_at l
unfolding reading_at
reading_before l t h =
    rw (u32_before l t 0 (omega arith), u32_before l t 4 (omega arith), u32_before l t 8 (omega arith), u32_before l t 12 (omega arith))

readings_before : (n : ℕ) (l t : List ℕ) → length l ≡ 16 * n → readings_from n (l ++ t) ≡ readings_from n l
unfolding readings_from
readings_before zero l t h = refl
readings_before (suc n) l t h =
    ap₂ ◌∷◌ (reading_before l t (omega arith))
    (ap (readings_from n) (drop-append-le 16 l t (omega arith)) ∙ readings_before n (drop 16 l) t (omega (arith, length-drop 16 l)))

pub tail_ignored : (n : ℕ) (l t : List ℕ) → length l ≡ 16 * n → length t < 16 → readings_of (l ++ t) ≡ readings_of l
unfolding readings_of
tail_ignored n l t h k =
    let m : length (l ++ t) / 16 ≡ n = omega (arith, length-append l t) in
    let o : length l / 16 ≡ n = omega arith in
    rw (m, o) (readings_before n l t h)
