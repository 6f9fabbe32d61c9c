-- Every operand of the translation is below its count, and every output is set. Assumes nothing.
use Prim.Native.Nat.{ℕ, zero, suc, ◌+◌, ◌*◌, ◌/◌, ◌%◌, ◌^◌, ◌≤◌, ◌<◌}
use Rattle.std.specs.Prelude.{◌≡◌, refl, List, [], ◌∷◌, ◌++◌}
use Rattle.std.proofs.Common.{inl, inr, ⊎_elim, eq-or-lt_of_le, le_of_suc-le-suc}
use native.Mathlib.Omega.{arith}
use Rattle.laws.specs.Sums.{sum_to}
use Rattle.laws.specs.Lists.{blocks, Each, each_append, each-blocks}
use Rattle.files.specs.Matrix.{ones_in}
use Rattle.programs.specs.declared.description.Instruction.{Instruction}
use Rattle.programs.specs.declared.description.Instruction.TheVariants.{Or, Output}
use Rattle.checker.specs.Accepting.{Fits, Sets, sets-left, sets-right}
use Rattle.compiler.specs.Translation.{reg_h, reg_v, reg_y, clear, begin, apart, split, if_set, spell, mark, marks}
use Rattle.compiler.specs.Translation.{carry, keep, tell, end, live_before, column, translation_of}
use Rattle.compiler.specs.Room.{Roomy, live-le, live-next}

-- ---- what holds of each instruction of a part
module _ (P : Instruction → Type 0) where
  -- of those for a bit, if it holds where the bit is set
  pub each_if : (b : ℕ) (is : List Instruction) → (1 ≤ b → Each P is) → Each P (if_set b is)
  unfolding if_set
  each_if zero is e = tt
  each_if (suc b) is e = e (omega arith)

  -- of the rows' marks, if it holds of the instructions of each set row
  pub each-marks : (k m n : ℕ) →
      ((j : ℕ) → j < n → P (Or reg_h reg_h (reg_y k m j)) × ((t : ℕ) → t < k → P (Or (reg_v t) (reg_v t) (reg_y k m j)))) →
      (bits : ℕ → ℕ) (r j : ℕ) → sum_to r bits + j ≤ n → Each P (marks k m bits r j)
  unfolding marks sum_to
  each-marks k m n f bits zero j h = tt
  each-marks k m n f bits (suc r) j h =
      each_append P (if_set (bits r) (mark k m r j)) (marks k m bits r (j + bits r))
      (each_if (bits r) (mark k m r j)
      (λ l. let p = f j (omega arith) in
      (p.0, each-blocks P (spell k m r j) k (λ t u. each_if (r / 2 ^ t % 2) _ (λ b. (p.1 t u, tt))))))
      (each-marks k m n f bits r (j + bits r) (omega arith))

-- ---- operands
module _ (k m n : ℕ) where
  -- a header with any count
  abbrev In : Instruction → Type 0
  In i = Fits (record { registers = 3 + k + 3 * m; inputs = n; outputs = 1 + k; rows = m; count = 0 }) i

  module _ (bit : ℕ → ℕ → ℕ) (r : Roomy m n bit) where
    column_in : (c : ℕ) → c < n → Each In (column k m bit c)
    unfolding column ones_in
    column_in c h =
        let a = live-le bit m c r.some_rows in
        let b = live-next m n bit r c h in
        let before = split k m c (live_before bit m c) in
        let rows = marks k m (λ v. bit v c) m 0 in
        let w = ones_in bit m c in
        let d = live-le bit m (suc c) r.some_rows in
        each_append In (before ++ rows) (keep k m w (live_before bit m (suc c)))
        (each_append In before rows
        (omega arith, (omega arith, each-blocks In (apart k m) (live_before bit m c) (λ i l. omega arith)))
        (each-marks In k m (2 * m)
        (λ j l. (omega arith, (λ t u. omega arith)))
        (λ v. bit v c) m 0 (omega arith)))
        (each-blocks In (carry k m w) (live_before bit m (suc c)) (λ i l. omega arith))

    -- 3 + k + 3m registers, n inputs and 1 + k outputs
    pub in_range : Each In (translation_of k m n bit)
    in_range =
        let some = r.some_rows in
        each_append In (begin k ++ blocks n (column k m bit)) (end k)
        (each_append In (begin k) (blocks n (column k m bit))
        (omega arith, (omega arith, each-blocks In clear k (λ t l. omega arith))) (each-blocks In (column k m bit) n column_in))
        (omega arith, each-blocks In tell k (λ t l. omega arith))

-- ---- outputs
outputs-set : (n t : ℕ) → t < n → Sets (1 + t) (blocks n tell)
unfolding blocks
outputs-set zero t h = absurd (omega arith)
outputs-set (suc n) t h =
    ⊎_elim
    (λ (q : t ≡ n). sets-right (1 + t) (blocks n tell) (Output (1 + n) (reg_v n) ∷ []) (inl (inl (omega arith))))
    (λ (q : t < n). sets-left (1 + t) (blocks n tell) (Output (1 + n) (reg_v n) ∷ []) (outputs-set n t q))
    (eq-or-lt_of_le (le_of_suc-le-suc h))

end-sets : (k o : ℕ) → o < 1 + k → Sets o (end k)
end-sets k zero h = inl (inl refl)
end-sets k (suc t) h =
    let e : 1 + t ≡ suc t = omega arith in
    inr (rw e at (outputs-set k t (omega arith)))

-- H and each V
pub all_set : (k : ℕ) (before : List Instruction) (o : ℕ) → o < 1 + k → Sets o (before ++ end k)
all_set k before o h = sets-right o before (end k) (end-sets k o h)
