-- Rows and columns within their limits: what that says, and how the checks try it. Assumes nothing.
use Rattle.std.specs.Prelude.{ℕ, ◌+◌, ◌*◌, ◌≤◌, ◌<◌, ◌≡◌, refl, false}
use Rattle.std.proofs.Common.{arith, mul-le-mul}
use Rattle.laws.specs.Tests.{neither}
use Rattle.laws.specs.Lists.{row-end}
use Rattle.laws.specs.Outcome.{Outcome, refuse, ◌>>◌, refuse-either}
use Rattle.fields.specs.Limits.{most_columns, outside, within}
use Rattle.fields.specs.Fields.{width}
use Rattle.files.specs.Matrix.{most_rows, sizes_outside}
use Rattle.files.specs.Files.{file_length}

-- what sizes within their limits are
pub record Sized (m n : ℕ) : Type 0 where
  pub some_rows : 1 ≤ m
  pub few_rows : m ≤ most_rows
  pub some_columns : 1 ≤ n
  pub few_columns : n ≤ most_columns

module _ (m n : ℕ) where
  pub sizes-within : sizes_outside m n ≡ false → Sized m n
  sizes-within e =
      let s = neither (outside most_rows m) (outside most_columns n) e in
      let r = within most_rows m s.0 in
      let c = within most_columns n s.1 in
      record { some_rows = r.0; few_rows = r.1; some_columns = c.0; few_columns = c.1 }

  -- the two checks of the sizes are one
  pub sizes-refuse : {A : Type 0} (rest : Outcome A) →
      (refuse 3 (outside most_rows m) >> (refuse 3 (outside most_columns n) >> rest)) ≡ (refuse 3 (sizes_outside m n) >> rest)
  sizes-refuse rest = refuse-either 3 (outside most_rows m) (outside most_columns n) rest

  -- no product of sizes within their limits is large
  pub few-cells : sizes_outside m n ≡ false → m * n ≤ most_rows * most_columns
  few-cells e =
      let s = sizes-within e in
      omega (arith, mul-le-mul {n₁ = m} {m₁ = n} {n₂ = most_rows} {m₂ = most_columns} s.few_rows s.few_columns)

  pub file-small : sizes_outside m n ≡ false → file_length m n ≤ file_length most_rows most_columns
  file-small e =
      let s = sizes-within e in
      let wide : width n ≤ width most_columns = omega (arith, s.few_columns) in
      omega (arith, mul-le-mul {n₁ = m} {m₁ = width n} {n₂ = most_rows} {m₂ = width most_columns} s.few_rows wide)

-- row v behind a header
pub row_place : {v m w size : ℕ} (n : ℕ) → v < m → w ≡ width n → 8 + m * width n ≤ size → 8 + v * w + width n ≤ size
row_place {v} {m} {w} {size} n h e l = rw e (omega (arith, row-end {size = m * width n} (width n) (width n) h refl (omega arith)))

-- place c of row v
pub cell : {v m n c : ℕ} → v < m → c < n → v * n + c < m * n
cell {v} {m} {n} {c} h l = omega (arith, row-end {size = m * n} n n h refl (omega arith))
