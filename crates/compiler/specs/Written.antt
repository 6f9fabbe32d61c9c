-- No register of the translation is read before an instruction has written it. The registers that are written are followed as two spans of
-- numbers: from B, N or H up into the X, and the first of the Y. Assumes nothing.
use Prim.Native.Nat.{ℕ, zero, suc, ◌+◌, ◌*◌, ◌≤◌, ◌<◌}
use Rattle.std.specs.Prelude.{refl, List, [], ◌∷◌, ◌++◌, ◌⊎◌}
use Rattle.std.proofs.Common.{inl, inr, ⊎_elim}
use Rattle.std.proofs.Math.Logic.{⊎_map}
use native.Mathlib.Omega.{arith}
use Rattle.laws.specs.Tests.{lt-or_ge}
use Rattle.laws.specs.Lists.{blocks, Each, each-blocks}
use Rattle.files.specs.Matrix.{ones_in}
use Rattle.programs.specs.Instructions.{uses}
use Rattle.programs.specs.declared.description.Instruction.{Instruction}
use Rattle.laws.specs.Every.{OneOf}
use Rattle.checker.specs.Accepting.{Ready, Nowhere, ready_more, ready-less, ready-append, ready-blocks, ready_stay}
use Rattle.compiler.specs.Translation.{reg_b, reg_n, reg_h, reg_x, reg_y, clear, begin, apart, split, marks}
use Rattle.compiler.specs.Translation.{carry, keep, tell, end, live_before, column, translation_of}
use Rattle.compiler.specs.Room.{Roomy, live-next}
use Rattle.compiler.specs.Ranges.{each-marks}

-- the numbers from a up to b, and from c up to d
abbrev Spans : ℕ → ℕ → ℕ → ℕ → ℕ → Type 0
Spans a b c d r = ((a ≤ r) × (r < b)) ⊎ ((c ≤ r) × (r < d))

-- a span that grew by one at its end
first_grown : {a b b' c d r : ℕ} → b' ≤ suc b → Spans a b' c d r → OneOf (b ∷ []) r ⊎ Spans a b c d r
first_grown {b = b} {r = r} h (inl x) =
    ⊎_elim (λ (q : r < b). inr (inl (omega arith))) (λ (q : b ≤ r). inl (inl (omega arith))) (lt-or_ge r b)
first_grown h (inr x) = inr (inr x)

second_grown : {a b c d d' r : ℕ} → d' ≤ suc d → Spans a b c d' r → OneOf (d ∷ []) r ⊎ Spans a b c d r
second_grown h (inl x) = inr (inl x)
second_grown {d = d} {r = r} h (inr x) =
    ⊎_elim (λ (q : r < d). inr (inr (omega arith))) (λ (q : d ≤ r). inl (inl (omega arith))) (lt-or_ge r d)

module _ (k m : ℕ) where
  -- between columns: H, each V, and h of the X
  abbrev Held : ℕ → ℕ → Type 0
  Held h r = (2 ≤ r) × (r < reg_x k h)

  -- ---- the beginning
  begun : (r : ℕ) → Spans 2 3 (reg_x k 0) (reg_x k 1) r → OneOf (reg_h ∷ []) r ⊎ (OneOf (reg_x k 0 ∷ []) r ⊎ ⊥)
  begun r (inl x) = inl (inl (omega arith))
  begun r (inr x) = inr (inl (inl (omega arith)))

  begin-ready : Ready Nowhere (begin k) (Held 1)
  begin-ready =
      let zeros : List Instruction = blocks k clear in
      let up_to : ℕ → ℕ → Type 0 = λ t. Spans 2 (3 + t) (reg_x k 0) (reg_x k 1) in (
        tt,
        (
          tt,
          ready-less zeros _ (up_to k) (Held 1)
              (λ r x. ⊎_elim (λ (q : r < 3 + k). inl (omega arith)) (λ (q : 3 + k ≤ r). inr (omega arith)) (lt-or_ge r (3 + k)))
              (ready_more zeros (up_to 0) _ (up_to k) begun
              (ready-blocks up_to clear k
              (λ t l. (tt, (λ r x. first_grown (omega arith) x))))),
        ),
      )

  -- ---- a column with h distances live before it
  module _ (h : ℕ) where
    -- B and N too, and j of the Y
    abbrev Open : ℕ → ℕ → Type 0
    Open j r = Spans 0 (reg_x k h) (reg_y k m 0) (reg_y k m j) r

    opened : (r : ℕ) → Open 0 r → OneOf (reg_n ∷ []) r ⊎ (OneOf (reg_b ∷ []) r ⊎ Held h r)
    opened zero x = inr (inl (inl refl))
    opened (suc zero) x = inl (inl refl)
    opened (suc (suc r)) (inl x) = inr (inr (omega arith))
    opened (suc (suc r)) (inr x) = absurd (omega arith)

    apart_ready : (i : ℕ) → i < h → Ready (Open (2 * i)) (apart k m i) (Open (2 * suc i))
    apart_ready i l = (
      (inl (omega arith), (inl (omega arith), tt)),
      (
        (inr (inl (omega arith)), (inr (inl (omega arith)), tt)),
        (λ r x. ⊎_map (λ y. y)
            (second_grown (omega arith))
            (second_grown (omega arith) x)),
      ),
    )

    split-ready : (c : ℕ) → Ready (Held h) (split k m c h) (Open (2 * h))
    split-ready c =
        let pairs = ready-blocks (λ i. Open (2 * i)) (apart k m) h apart_ready in
        (tt, ((inl (inl refl), tt), ready_more (blocks h (apart k m)) (Open 0) _ (Open (2 * h)) opened pairs))

    -- the first i of the X, and the Y
    abbrev Kept : ℕ → ℕ → Type 0
    Kept i r = Spans 0 (reg_x k i) (reg_y k m 0) (reg_y k m (2 * h)) r

    kept_none : (r : ℕ) → Kept 0 r → Open (2 * h) r
    kept_none r (inl x) = inl (omega arith)
    kept_none r (inr x) = inr x

    keep-ready : (w g : ℕ) → w + g ≤ 2 * h → Ready (Open (2 * h)) (keep k m w g) (Held g)
    keep-ready w g l =
        let kept : List Instruction = blocks g (carry k m w) in
        ready-less kept (Open (2 * h)) (Kept g) (Held g) (λ r x. inl (omega arith))
        (ready_more kept (Kept 0) (Open (2 * h)) (Kept g) kept_none
        (ready-blocks Kept (carry k m w) g
        (λ i u. (
          (inr (omega arith), (inr (omega arith), tt)),
          (λ r x. first_grown (omega arith) x),
        ))))

  module _ (n : ℕ) (bit : ℕ → ℕ → ℕ) (roomy : Roomy m n bit) where
    column-ready : (c : ℕ) → c < n → Ready (Held (live_before bit m c)) (column k m bit c) (Held (live_before bit m (suc c)))
    unfolding column ones_in
    column-ready c l =
        let h : ℕ = live_before bit m c in
        let g : ℕ = live_before bit m (suc c) in
        let met = marks k m (λ v. bit v c) m 0 in
        let next = live-next m n bit roomy c l in
        ready-append (split k m c h ++ met) (keep k m (ones_in bit m c) g) (Held h) (Open h (2 * h)) (Held g)
        (ready-append (split k m c h) met (Held h) (Open h (2 * h)) (Open h (2 * h)) (split-ready h c)
        (ready_stay (Open h (2 * h)) met
        (each-marks (λ i. Each (Open h (2 * h)) (uses i).reads) k m (2 * h)
        (λ j u. ((inl (omega arith), (inr (omega arith), tt)), (λ t w. (inl (omega arith), (inr (omega arith), tt)))))
        (λ v. bit v c) m 0 (omega arith))))
        (keep-ready h (ones_in bit m c) g next)

    -- whatever is live at the end, H and each V are written
    pub written-first : Ready Nowhere (translation_of k m n bit) Nowhere
    unfolding live_before
    written-first =
        let live : ℕ → ℕ = live_before bit m in
        ready-less (translation_of k m n bit) Nowhere (Held 0) Nowhere (λ r x. absurd x)
        (ready-append (begin k ++ blocks n (column k m bit)) (end k) Nowhere (Held (live n)) (Held 0)
        (ready-append (begin k) (blocks n (column k m bit)) Nowhere (Held 1) (Held (live n)) begin-ready
        (ready-blocks (λ c. Held (live c)) (column k m bit) n column-ready))
        (ready_more (end k) (Held 0) (Held (live n)) (Held 0) (λ r x. omega arith) (ready_stay (Held 0) (end k)
        ((omega arith, tt), each-blocks (λ i. Each (Held 0) (uses i).reads) tell k (λ t l. ((omega arith, tt), tt))))))
