-- Matrices as values: m, n and every bit fix a matrix, and any bits make one. Assumes nothing.
use Rattle.std.specs.Prelude.{ℕ, ◌+◌, ◌*◌, ◌^◌, ◌≤◌, ◌<◌, ◌≡◌, List, length, get_or}
use Rattle.std.proofs.Common.{◌∙◌, arith}
use Rattle.laws.specs.Digits.{digit, number_shift}
use Rattle.laws.proofs.Digits.{number-digit}
use Rattle.laws.specs.Lists.{upto, length-upto, get_d_upto, length-blocks, get_d_blocks, blocks-each, table_ext}
use Rattle.files.specs.Matrix.{Matrix, tabled, bit, p}

-- two matrices are equal when m, n and every bit agree
pub equal_bits : (M N : Matrix) → length M.entries ≡ M.rows * M.columns → length N.entries ≡ N.rows * N.columns →
    M.rows ≡ N.rows → M.columns ≡ N.columns → ((v c : ℕ) → v < M.rows → c < M.columns → bit M v c ≡ bit N v c) → M ≡ N
unfolding bit
equal_bits M N a b m n e =
    let same : M.entries ≡ N.entries =
    table_ext 0 M.rows M.columns M.entries N.entries a (rw (m, n) b) (λ v c h l. rw (← n) at (e v c h l)) in
    let fields : matrix M.rows M.columns M.entries ≡ matrix N.rows N.columns N.entries = cc in
    fields
  where
    matrix : ℕ → ℕ → List ℕ → Matrix
    matrix rows columns entries = record { rows = rows; columns = columns; entries = entries }

-- ---- a matrix given bit by bit
module _ (m n : ℕ) (f : ℕ → ℕ → ℕ) where
  wide : (v : ℕ) → length (upto n (f v)) ≡ n
  wide v = length-upto n (f v)

  pub tabled_whole : length (tabled m n f).entries ≡ m * n
  tabled_whole = length-blocks n (λ v. upto n (f v)) wide m

  pub tabled_bit : (v c : ℕ) → v < m → c < n → bit (tabled m n f) v c ≡ f v c
  unfolding bit
  tabled_bit v c h l = get_d_blocks n (λ v. upto n (f v)) wide m v c 0 h l ∙ get_d_upto n (f v) c 0 l

  pub tabled_bits : ((v c : ℕ) → f v c ≤ 1) → (i : ℕ) → i < m * n → get_or (tabled m n f).entries i 0 ≤ 1
  tabled_bits ok =
      blocks-each n (λ v. upto n (f v)) wide (λ (x : ℕ). x ≤ 1) m 0 (λ v c h l. rw (get_d_upto n (f v) c 0 l) (ok v c))

-- and one given row by row, as numbers: row v is the number that it was given
pub numbered_row : (m n : ℕ) (row : ℕ → ℕ) (v : ℕ) → v < m → row v < 2 ^ n → p (tabled m n (λ v. digit n (row v))) v ≡ row v
unfolding p
numbered_row m n row v h small =
    let M = tabled m n (λ v. digit n (row v)) in
    number_shift (bit M v) (digit n (row v)) 0 0 n (λ i l. tabled_bit m n (λ v. digit n (row v)) v (0 + i) h (omega arith)) ∙
    number-digit n (row v) small
