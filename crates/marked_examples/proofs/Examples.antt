-- The fourteen marked examples of document 01, as one statement over the whole table, by computation. Crest K is accepted and its element read once;
-- each question is then computed on the element.
use mathlib.Core.List.{List, [], ◌∷◌, map}
use mathlib.Core.Path.{◌≡◌, refl, ◌∙◌, ap, ap₂}
use lib.IntN.{ℤ, pos, neg_ℤ}
use Rattle.model.specs.declared.Kind.TheVariants.{Line}
use Rattle.model.specs.declared.Element.{Element}
use Rattle.model.specs.declared.Point.{Point}
use Rattle.model.specs.declared.Outcome.TheVariants.{Done}
use Rattle.model.specs.Rounding.{ONE}
use Rattle.model.specs.Refusals.{verdict}
use Rattle.model.specs.Acceptance.{crest_rules, crest_elements}
use Rattle.model.specs.Crest.{check_of, file_crest}
use Rattle.model.specs.Stations.{D}
use Rattle.model.specs.Answers.{answer_after, point_question, located, located_on, paper_of_located}
use Rattle.marked_examples.specs.Examples.{K, point, first_three, values_by, answer_for, examples, actual, due}
use Rattle.model.proofs.Answers.{rules_hold}

unfoldable pub elements_k : List Element
elements_k = record { kind = Line; length = 10000; x = pos 0; y = pos 0; c = pos ONE; s = pos 0; radius = pos 0 } ∷ []

pub accepted_k : check_of (file_crest K) ≡ Done
unfolding verdict crest_rules K
accepted_k = refl

pub read_k : crest_elements K ≡ elements_k
unfolding crest_elements K elements_k
read_k = refl

on_k : (p : Point) → located (file_crest K) p ≡ located_on elements_k p
on_k p = rules_hold (point_question p (crest_elements K)) (crest_rules K) accepted_k ∙ ap (λ es. located_on es p) read_k

-- of example 2: "(tie with 6)"
pub tie_with_6 : D elements_k (point (pos 550) (pos 300)) 5 ≡ D elements_k (point (pos 550) (pos 300)) 6
unfolding D elements_k
tie_with_6 = refl

-- what examples 1 to 8 ask of a point on K, on K's element
point_on_K : (f : List ℤ → List ℤ) (p : Point) → values_by f (paper_of_located (located (file_crest K) p)) ≡ values_by f (paper_of_located (located_on elements_k p))
point_on_K f p = ap (λ l. values_by f (paper_of_located l)) (on_k p)

-- The fourteen examples, in one statement.
pub examples_hold : map actual examples ≡ map due examples
unfolding answer_for examples answer_after point_question elements_k paper_of_located
examples_hold =
    ap₂ ◌∷◌ (point_on_K first_three (point (pos 512) (pos 300)))
    (ap₂ ◌∷◌ (point_on_K first_three (point (pos 550) (pos 300)))
    (ap₂ ◌∷◌ (point_on_K first_three (point (neg_ℤ (pos 100)) (pos 0)))
    (ap₂ ◌∷◌ (point_on_K first_three (point (neg_ℤ (pos 101)) (pos 0)))
    (ap₂ ◌∷◌ (point_on_K first_three (point (pos 1000100) (pos 0)))
    (ap₂ ◌∷◌ (point_on_K first_three (point (pos 1000101) (pos 0)))
    (ap₂ ◌∷◌ (point_on_K (λ v. []) (point (pos 500000) (pos 20000000)))
    (ap₂ ◌∷◌ (point_on_K (λ v. []) (point (pos 500000) (pos 20000001)))
    refl)))))))
