-- `crestfile::check::check_length` meets its contract: the four lengths are those of the definition.
use Prim.Native.Nat.{ℕ}
use mathlib.Core.Bool.{true, false}
use mathlib.Core.Logic.{◌⊎◌, inl, inr}
use mathlib.Core.Path.{◌≡◌, sym, ap, ◌∙◌}
use borrow.Author.Tests.{ne_eqb}
use borrow.Author.Rules.{rules}
use Rattle.model.specs.Refusals.{refusal, number, byte_count}
use Rattle.model.specs.Acceptance.{length_fits}
use Rattle.model.proofs.InSteps.{one_done, one_refused}
use Rattle.crestfile.proofs.check.check_length.Goals as goal

abbrev OneOfFour : ℕ → Type 0
OneOfFour n = (n ≡ 512) ⊎ (n ≡ 1024) ⊎ (n ≡ 1536) ⊎ (n ≡ 2048)

fits : (n : ℕ) → OneOfFour n → length_fits n ≡ true
unfolding length_fits
fits n (inl e) = ap length_fits e
fits n (inr (inl e)) = ap length_fits e
fits n (inr (inr (inl e))) = ap length_fits e
fits n (inr (inr (inr e))) = ap length_fits e

does_not_fit : (n : ℕ) → (OneOfFour n → ⊥) → length_fits n ≡ false
unfolding length_fits
does_not_fit n none = rw (ne_eqb n 512 (λ e. none (inl e)), ne_eqb n 1024 (λ e. none (inr (inl e))), ne_eqb n 1536 (λ e. none (inr (inr (inl e)))), ne_eqb n 2048 (λ e. none (inr (inr (inr e)))))

pub returns-in-512 : goal.returns-in-512
returns-in-512 c = sym (one_done byte_count 0 (fits _ c.in-512.is))

pub returns-in_default : goal.returns-in_default
unfolding refusal number
returns-in_default c = c.refused.ensures.value ∙ sym (one_refused byte_count 0 (does_not_fit _ (search rules)))
