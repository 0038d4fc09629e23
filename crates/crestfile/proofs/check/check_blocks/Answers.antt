-- `crestfile::check::check_blocks` meets its contract: the rules of the length, then of all sums, then of all fields.
use Prim.Native.Nat.{ℕ, ◌≤◌}
use mathlib.Core.List.{List, [], ◌∷◌}
use mathlib.Core.Path.{◌≡◌, sym, ap, ◌∙◌}
use native.Mathlib.Omega.{arith}
use lib.ListN.{length}
use Rattle.std.proofs.Common.{rules, of_calls}
use Rattle.model.specs.declared.Outcome.{Outcome}
use Rattle.model.specs.declared.Outcome.TheVariants.{Done}
use Rattle.model.specs.Records.{block_count, block_of}
use Rattle.model.specs.Refusals.{rule, rule₀, verdict, byte_count, checksum, block_field}
use Rattle.model.specs.Acceptance.{length_fits, sums_agree, fields_fit, sum_rules, field_rules, blocks_rules}
use Rattle.model.proofs.Verdict.{done→all, verdict_after, refused_before}
use Rattle.model.proofs.Answers.{told_outcome}
use Rattle.model.proofs.ForEach.{holds_one}
use Rattle.crestfile.proofs.SoundFile.{fits→blocks}
use Rattle.crestfile.proofs.check.check_blocks.Goals.{In-Done, In-Done-check_each}
use Rattle.crestfile.proofs.check.check_blocks.Goals as goal

passed : (c : In-Done) → verdict (rule₀ byte_count (length_fits (length c.args.file.now)) ∷ []) ≡ Done
passed c = sym c.check_length.ensures ∙ c.in-Done.is

few_blocks : (c : In-Done) → block_count c.args.file.now ≤ 4
few_blocks c = (fits→blocks _ (holds_one (done→all _ (passed c)))).at_most

-- what the check of a block tells is the block's rule
sums_told : (file : List ℕ) (b : ℕ) {l : List ℕ} {o : Outcome} → o ≡ verdict (rule checksum b (sums_agree l) ∷ []) → l ≡ block_of file b → o ≡ verdict (sum_rules file b)
unfolding sum_rules
sums_told file b e here = e ∙ ap (λ l. verdict (rule checksum b (sums_agree l) ∷ [])) here

fields_told : (file : List ℕ) (b : ℕ) {l : List ℕ} {o : Outcome} → o ≡ verdict (rule block_field b (fields_fit (block_count file) b l) ∷ []) → l ≡ block_of file b → o ≡ verdict (field_rules file b)
unfolding field_rules
fields_told file b e here = e ∙ ap (λ l. verdict (rule block_field b (fields_fit (block_count file) b l) ∷ [])) here

pub returns-in-Refused : goal.returns-in-Refused
unfolding blocks_rules
returns-in-Refused c =
    let told = told_outcome _ (sym (refused_before _ _ (sym c.check_length.ensures ∙ c.in-Refused.is))) in record { value = told.0; paper = told.1 }

pub check_each-requires : goal.check_each-requires
check_each-requires c = λ b block h. omega (arith, few_blocks (goal.at.check_each-requires c).In-Done)

pub returns-in-Refused-check_each : goal.returns-in-Refused-check_each
unfolding blocks_rules
returns-in-Refused-check_each c =
    let e = c.check_each.ensures (sum_rules c.args.file.now) (λ b block told post h here. sums_told _ b post here) in
    let told = told_outcome _ (sym (verdict_after _ _ (passed (goal.at.returns-in-Refused-check_each c).In-Done) ∙ refused_before _ _ (sym e ∙ c.in-Refused-check_each.is))) in record { value = told.0; paper = told.1 }

pub check_each-requires-2 : goal.check_each-requires-2
check_each-requires-2 c = λ b block h. (h, few_blocks (goal.at.check_each-requires-2 c).In-Done)

pub returns : goal.returns
unfolding blocks_rules
returns c =
    let e = c.check_each.ensures (sum_rules c.args.file.now) (λ b block told post h here. sums_told _ b post here) in
    let f = c.check_each-2.ensures (field_rules c.args.file.now) (λ b block told post h here. fields_told _ b (search (rules, of_calls)) here) in
    let told = told_outcome _ (f ∙ sym (verdict_after _ _ (passed (goal.at.returns c).In-Done) ∙ verdict_after _ _ (sym e ∙ c.in-Done-check_each.is))) in record { value = told.0; paper = told.1 }
