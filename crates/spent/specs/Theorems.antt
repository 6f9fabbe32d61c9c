-- 02, order 1: what holds of the total, for every accepted matrix. Assumes nothing.
use Prim.Native.Nat.{ℕ, ◌*◌, ◌≤◌, ◌<◌}
use Rattle.std.specs.Prelude.{◌≡◌, refl, List, length}
use Rattle.std.proofs.Math.Path.{sym, ap}
use Rattle.std.proofs.Common.{◌∙◌, arith}
use Rattle.laws.specs.Sums.{sum_to, sum-eq, sum_mono, sum_same, sum-le}
use Rattle.laws.specs.Lists.{upto, upto-eq, length-upto, get_d_upto}
use Rattle.laws.specs.Outcome.{gives, gives_inj, then-gives}
use Rattle.fields.specs.Fields.{width, bit_of}
use Rattle.fields.specs.Strings.{strings_of}
use Rattle.files.specs.Matrix.{Matrix}
use Rattle.files.specs.Files.{matrix_of}
use Rattle.files.specs.RoundTrip.{read_accepted}
use Rattle.walk.specs.Walk.{drawn, used, Spending, spending_of, walk_of}
use Rattle.walk.specs.Used.{drawn-used, drawn_unread}
use Rattle.walk.specs.Theorems.{walk_is}
use Rattle.lanes.specs.Slicing.{lanes, string_at, string_bits}
use Rattle.lanes.specs.Lanes.{string-bit, string-sound}
use Rattle.spent.specs.Spent.{used_on, spent_under, spent_of}

module _ (file : List ℕ) (M : Matrix) (e : matrix_of file ≡ gives M) (strings : List ℕ) where
  -- walking the file on string j, cut out by itself, tells what the walk of M on its bits draws and has used
  pub string-walked : strings_of lanes M.columns strings ≡ gives tt → (j : ℕ) → j < lanes →
      walk_of file (string_at M.columns strings j) ≡ gives (spending_of M.columns (drawn M (string_bits M.columns strings j)))
  string-walked s j h =
      walk_is file M e (string_at M.columns strings j) (string-sound M.columns strings j h s) ∙
      ap (λ (l : List ℕ). gives (spending_of M.columns (drawn M l)))
      (upto-eq M.columns (bit_of (string_at M.columns strings j) 0) (bit_of strings (j * width M.columns))
      (λ i l. string-bit M.columns strings j i (omega arith)))

  -- each string has used between 1 and n columns
  used-between : (j : ℕ) → (1 ≤ used_on M strings j) × (used_on M strings j ≤ M.columns)
  used-between j =
      let many : length (string_bits M.columns strings j) ≡ M.columns =
      length-upto M.columns (bit_of strings (j * width M.columns)) in
      rw many at (drawn-used M (string_bits M.columns strings j) (omega (arith, many, (read_accepted file M e).some_columns)))

  module _ (total : ℕ) (g : spent_of file strings ≡ gives total) where
    -- a total is given for strings that are sound, and is the sum of what the 64 walks have used
    given : (strings_of lanes M.columns strings ≡ gives tt) × (gives (sum_to lanes (used_on M strings)) ≡ gives total)
    unfolding spent_under
    given = then-gives (strings_of lanes M.columns strings) (gives (sum_to lanes (used_on M strings))) total (rw e at g)

    -- it lies between 64 and 64 × n
    pub spent_least : lanes ≤ total
    spent_least =
        omega (
          arith,
          gives_inj given.1,
          sum_mono lanes (λ j. 1) (used_on M strings) (λ j h. (used-between j).0),
          sum_same lanes 1 (λ j. 1) (λ j. refl),
        )

    pub spent_most : total ≤ lanes * M.columns
    spent_most = omega (arith, gives_inj given.1, sum-le lanes M.columns (used_on M strings) (λ j h. (used-between j).1))

    -- each string is walked by itself, and what these walks tell to have used is added up
    pub spent_adds_up : (w : ℕ → Spending) → ((j : ℕ) → j < lanes → walk_of file (string_at M.columns strings j) ≡ gives (w j)) →
        total ≡ sum_to lanes (λ j. (w j).used)
    spent_adds_up w t =
        sym (gives_inj given.1) ∙
        sum-eq lanes (used_on M strings) (λ j. (w j).used)
        (λ j h. ap (λ (x : Spending). x.used) (gives_inj (sym (string-walked given.0 j h) ∙ t j h)))

    -- no bit beyond those used counts: 64 other sound strings with the same bits in the columns used spend as much
    pub spent_unread : (other : List ℕ) → strings_of lanes M.columns other ≡ gives tt →
        ((j i : ℕ) → j < lanes → i < used_on M strings j →
        bit_of strings (j * width M.columns) i ≡ bit_of other (j * width M.columns) i) → spent_of file other ≡ gives total
    unfolding spent_under
    spent_unread other s a = rw (e, s) (ap gives (sum-eq lanes (used_on M other) (used_on M strings) same) ∙ given.1)
      where
        same : (j : ℕ) → j < lanes → used_on M other j ≡ used_on M strings j
        same j h =
            let n : ℕ = M.columns in
            let old : ℕ → ℕ = bit_of strings (j * width n) in
            let new : ℕ → ℕ = bit_of other (j * width n) in
            ap (used n)
            (drawn_unread M (upto n old) (upto n new) (length-upto n new ∙ sym (length-upto n old))
            (λ i l.
            let below : i < used_on M strings j = rw (length-upto n old) at l in
            let within : i < n = omega (arith, below, (used-between j).1) in
            get_d_upto n old i 0 within ∙ (a j i h below ∙ sym (get_d_upto n new i 0 within))))
