-- What a call comes to by the size of its room: 18 for another size, and else the answer over the crest's bytes, as it is sent.
use Prim.Native.Nat.{ℕ}
use mathlib.Core.List.{List, ◌∷◌}
use mathlib.Core.Path.{◌≡◌, refl, ap, ap₂, ◌∙◌}
use lib.IntN.{ℤ}
use lib.Dec.{eqb}
use lib.ListN.{length}
use borrow.Author.Tests.{eq-eqb, ne_eqb}
use Rattle.model.specs.declared.Element.{Element}
use Rattle.model.specs.declared.Point.{Point}
use Rattle.model.specs.declared.Refusal.{Refusal}
use Rattle.model.specs.declared.Placed.{Placed}
use Rattle.model.specs.declared.Placed.TheVariants.{At as PlacedAt, Refused as PlacedRefused}
use Rattle.model.specs.declared.Located.{Located}
use Rattle.model.specs.declared.Located.TheVariants.{At as LocatedAt, Refused as LocatedRefused}
use Rattle.model.specs.declared.Inverse.{Inverse}
use Rattle.model.specs.declared.Inverse.TheVariants.{At as InverseAt, Refused as InverseRefused}
use Rattle.model.specs.Records.{put_all}
use Rattle.model.specs.Refusals.{refusal, number, rule₀, wrong_room, or_refused, verdict}
use Rattle.model.specs.Crest.{Crest}
use Rattle.model.specs.Answers.{PaperAnswer, code, Question, answer_after, asked, station_question, placed, paper_of_placed, point_question, located, paper_of_located, place_question, inverse, paper_of_inverse}
use Rattle.model.proofs.Answers.{Tells, told_refused, station_tells, point_tells, place_tells}
use Rattle.probes.specs.declared.Reply.{Reply}
use Rattle.probes.specs.Replies.{reply_of_placed, reply_of_located, reply_of_inverse, reply_code, reply_bytes}
use Rattle.probes.specs.ProbeCalls.{two_size, four_size, call_of, placed_bytes, located_bytes, inverse_bytes, position_call, locate_call, inverse_call}

-- what a reply leaves
abbrev pub sent : Reply → List ℕ → ℕ × List ℕ
sent reply room = (reply_code reply, reply_bytes reply room)

pub sent_as : {n : ℕ} {l : List ℕ} {reply same : Reply} (room : List ℕ) → n ≡ reply_code reply → l ≡ reply_bytes reply room → reply ≡ same → ◌≡◌ {A = ℕ × List ℕ} (n, l) (sent same room)
sent_as room e f g = ap₂ (λ (n : ℕ) (l : List ℕ). (n, l)) (e ∙ ap reply_code g) (f ∙ ap (λ (r : Reply). reply_bytes r room) g)

placed_sent : (a : Placed) (room : List ℕ) → ◌≡◌ {A = ℕ × List ℕ} (code (paper_of_placed a), placed_bytes a room) (sent (reply_of_placed a) room)
unfolding code paper_of_placed placed_bytes put_all reply_of_placed reply_code reply_bytes
placed_sent (PlacedAt x y tx ty) room = refl
placed_sent (PlacedRefused why) room = refl

located_sent : (a : Located) (room : List ℕ) → ◌≡◌ {A = ℕ × List ℕ} (code (paper_of_located a), located_bytes a room) (sent (reply_of_located a) room)
unfolding code paper_of_located located_bytes put_all reply_of_located reply_code reply_bytes
located_sent (LocatedAt station offset residual visits) room = refl
located_sent (LocatedRefused why) room = refl

inverse_sent : (a : Inverse) (room : List ℕ) → ◌≡◌ {A = ℕ × List ℕ} (code (paper_of_inverse a), inverse_bytes a room) (sent (reply_of_inverse a) room)
unfolding code paper_of_inverse inverse_bytes put_all reply_of_inverse reply_code reply_bytes
inverse_sent (InverseAt x y) room = refl
inverse_sent (InverseRefused why) room = refl

-- ---- a question of any sort

module _ {A : Type 0} (paper_of : A → PaperAnswer) (bytes : A → List ℕ → List ℕ) (n : ℕ) (question : List Element → Question A) (c : Crest) (room : List ℕ) where
  call_18 : {refused : Refusal → A} → Tells refused paper_of (question c.elements) → ((why : Refusal) → bytes (refused why) room ≡ room) → (length room ≡ n → ⊥) → call_of paper_of bytes n question c room ≡ (18, room)
  unfolding call_of code verdict or_refused refusal number
  call_18 tells keeps other =
      let why = refusal wrong_room 0 in
      ap (λ a. (code (paper_of a), bytes a room)) (told_refused tells (rule₀ wrong_room (eqb (length room) n) ∷ c.rules) (rw (ne_eqb (length room) n other)))
      ∙ ap₂ (λ (p : PaperAnswer) (l : List ℕ). (code p, l)) (tells.zeros why) (keeps why)

  call_asked : length room ≡ n → call_of paper_of bytes n question c room ≡ (code (paper_of (asked question c)), bytes (asked question c) room)
  unfolding call_of answer_after verdict or_refused
  call_asked sized = rw (eq-eqb (length room) n sized)

-- ---- each call

module _ (c : Crest) (room : List ℕ) where
  module _ (other : length room ≡ four_size → ⊥) where
    pub position_18 : (s : ℤ) → position_call c s room ≡ (18, room)
    unfolding placed_bytes
    position_18 s = call_18 paper_of_placed placed_bytes four_size (station_question s) c room (station_tells s c.elements) (λ why. refl) other

    pub locate_18 : (p : Point) → locate_call c p room ≡ (18, room)
    unfolding located_bytes
    locate_18 p = call_18 paper_of_located located_bytes four_size (point_question p) c room (point_tells p c.elements) (λ why. refl) other

  pub inverse_18 : (length room ≡ two_size → ⊥) → (s w : ℤ) → inverse_call c s w room ≡ (18, room)
  unfolding inverse_bytes
  inverse_18 other s w = call_18 paper_of_inverse inverse_bytes two_size (place_question s w) c room (place_tells s w c.elements) (λ why. refl) other

  module _ (sized : length room ≡ four_size) where
    pub position_call_sent : (s : ℤ) → position_call c s room ≡ sent (reply_of_placed (placed c s)) room
    position_call_sent s = call_asked paper_of_placed placed_bytes four_size (station_question s) c room sized ∙ placed_sent (placed c s) room

    pub locate_call_sent : (p : Point) → locate_call c p room ≡ sent (reply_of_located (located c p)) room
    locate_call_sent p = call_asked paper_of_located located_bytes four_size (point_question p) c room sized ∙ located_sent (located c p) room

  pub inverse_call_sent : length room ≡ two_size → (s w : ℤ) → inverse_call c s w room ≡ sent (reply_of_inverse (inverse c s w)) room
  inverse_call_sent sized s w = call_asked paper_of_inverse inverse_bytes two_size (place_question s w) c room sized ∙ inverse_sent (inverse c s w) room
