-- `checker::body` meets its contract: what is left from here is answered as the whole is. Assumes nothing.
use Rattle.std.specs.Prelude.{ℕ, zero, suc, ◌≤◌, ◌≡◌, Bool, true, false, not, ◌||◌, List, length, get_or, take, refl}
use Rattle.std.specs.List.{list_any}
use Rattle.std.proofs.Common.{sym, ap, ◌∙◌, arith, add-one}
use Rattle.std.proofs.lemmas.List.Folds.{list_any_more}
use Rattle.laws.specs.Sums.{any, any_next}
use Rattle.fields.specs.Refusal.{passed_on}
use Rattle.programs.specs.Limits.{most_outputs, within}
use Rattle.programs.specs.Reading.{within_means}
use Rattle.programs.specs.declared.description.Program.{Program}
use Rattle.checker.specs.Operands.{admit_limits, flagged}
use Rattle.checker.specs.Checking.{checking_none, checking_refused, turn_ready, turn_done}
use Rattle.checker.specs.Checking.{checking_left, checking_unset, checking_done}
use Rattle.checker.proofs.checking.body.Goals as goal

-- a test of the first places of a list is one of each place
listed : {A : Type 0} (p : A → Bool) (d : A) (xs : List A) (n : ℕ) → n ≤ length xs → list_any p (take n xs) ≡ any n (λ i. p (get_or xs i d))
unfolding any
listed p d xs zero h = refl
listed p d xs (suc n) h =
    let t : ℕ → Bool = λ i. p (get_or xs i d) in
    ap (λ k. list_any p (take k xs)) (sym (add-one n)) ∙ (list_any_more p xs n d (omega arith) ∙
    (ap (λ b. b || p (get_or xs n d)) (listed p d xs n (omega arith)) ∙ (sym (any_next n t) ∙ ap (λ k. any k t) (add-one n))))

unset_listed : (p : Program) (s : List Bool) → within p ≡ true → length s ≡ most_outputs →
    list_any not (take p.outputs s) ≡ any p.outputs (λ o. not (flagged s o))
unset_listed p s w l = listed not false s p.outputs (omega (arith, (within_means p w).few_outputs))

pub loop-left-init : goal.loop-left-init
loop-left-init c =
    checking_none _ _ _ _ _ refl c.requires.1 c.fresh-seen.ensures.0 c.fresh-seen.ensures.1

pub returns-in_err-i : goal.returns-in_err-i
returns-in_err-i c =
    passed_on c.from_residual.result _ c.from_residual.ensures.1 ∙
    checking_refused _ _ _ _ _ _ c.loop-left.invariant c.loop-left-test.true _
    c.in_err-i.ensures

pub mark_register-requires : goal.mark_register-requires
mark_register-requires c =
    ((admit_limits _ _ _ _ c.in_ok-i.ensures c.requires.0).0, c.loop-left.invariant.long)

pub mark_output-requires : goal.mark_output-requires
mark_output-requires c =
    ((admit_limits _ _ _ _ c.in_ok-i.ensures c.requires.0).3, c.loop-left.invariant.wide)

pub gate_runs-left-requires : goal.gate_runs-left-requires
gate_runs-left-requires c =
    turn_ready _ _ _ _ _ _ c.loop-left.invariant c.loop-left-test.true _ c.in_ok-i.ensures _ c.length.ensures _ _
    c.mark_register.ensures c.mark_output.ensures c.requires.0

pub loop-left-preserved : goal.loop-left-preserved
loop-left-preserved c =
    turn_done _ _ _ _ _ _ c.loop-left.invariant c.loop-left-test.true _ c.in_ok-i.ensures _ c.length.ensures _ _
    c.mark_register.ensures c.mark_output.ensures _ _ _ c.gate_runs-left.ensures

pub returns-then-left-file : goal.returns-then-left-file
returns-then-left-file c = checking_left _ _ _ _ _ _ c.loop-left.invariant c.loop-left-test.false c.if-left-file.true

pub returns-then-any_unset : goal.returns-then-any_unset
returns-then-any_unset c =
    checking_unset _ _ _ _ _ _ c.loop-left.invariant c.loop-left-test.false c.if-left-file.false
    (sym (c.any_unset.ensures ∙ unset_listed c.args.p c.loop-left.seen.set c.requires.0 c.loop-left.invariant.wide) ∙ c.if-any_unset.true)

pub returns : goal.returns
returns c =
    checking_done _ _ _ _ _ _ c.loop-left.invariant c.loop-left-test.false c.if-left-file.false
    (sym (c.any_unset.ensures ∙ unset_listed c.args.p c.loop-left.seen.set c.requires.0 c.loop-left.invariant.wide) ∙ c.if-any_unset.false)
