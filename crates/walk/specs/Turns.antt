-- The turns of the walk's loops, each over plain variables: what is left from here on is what the whole walk draws. Assumes nothing.
use Prim.Native.Nat.{ℕ, suc, ◌+◌, ◌-◌, ◌*◌, ◌≤◌, ◌<◌}
use Rattle.std.specs.Prelude.{◌≡◌, List}
use Rattle.std.proofs.Math.Path.{sym}
use Rattle.std.proofs.Common.{◌∙◌}
use Rattle.std.proofs.Math.Nat.{sub-zero}
use Rattle.std.proofs.Math.Numerals.{add-one}
use native.Mathlib.Omega.{arith}
use Rattle.laws.specs.Lists.{from, upto_from}
use Rattle.fields.specs.Fields.{bit_of, field_of}
use Rattle.walk.specs.Walk.{Drawn, hit, miss, Place, at, scan, then, walk, file_rows, draw_at}
use Rattle.walk.specs.Steps.{at_pass, at-hit, at-near, scan_turn, far}

module _ (bit : ℕ → ℕ → ℕ) (string : ℕ → ℕ) (m n : ℕ) where
  -- the walk from column c on, on the bits that are left
  rest : ℕ → ℕ → Drawn
  rest c d = walk bit m c d (from string c (n - c))

  rest-column : (c d : ℕ) → c < n → rest c d ≡ then c (scan (λ v. bit v c) m (2 * d + string c)) (λ e. rest (c + 1) e)
  unfolding rest walk from
  rest-column c d h =
      let e : n - c ≡ suc (n - (c + 1)) = omega arith in
      rw (e, ← add-one c)

  rest_over : (c d : ℕ) → n ≤ c → rest c d ≡ miss
  unfolding rest walk from
  rest_over c d h =
      let e : n - c ≡ 0 = omega arith in
      rw e

module _ (bit : ℕ → ℕ → ℕ) (string : ℕ → ℕ) (m n : ℕ) (w : Drawn) where
  -- w is what is left before column c at distance d; and in column c with the rows below r left
  pub Left : ℕ → ℕ → Type 0
  Left c d = rest bit string m n c d ≡ w

  pub Within : ℕ → ℕ → ℕ → Type 0
  Within c r d = then c (scan (λ v. bit v c) r d) (λ e. rest bit string m n (c + 1) e) ≡ w

  pub into : (c d b : ℕ) → c < n → b ≡ string c → Left c d → Within c m (2 * d + b)
  unfolding Left Within
  into c d b h e l = rw e (sym (rest-column bit string m n c d h) ∙ l)

  -- one row, in the code's words
  turn : (c b r d : ℕ) (o : Place) → 0 < r → b ≡ bit (r - 1) c → at b (r - 1) d (λ x. scan (λ v. bit v c) (r - 1) x) ≡ o → Within c r d →
      then c o (λ e. rest bit string m n (c + 1) e) ≡ w
  unfolding Within
  turn c b r d o h e q t = rw (← q, e, ← scan_turn (λ v. bit v c) r d h) t

  pub pass : (c b r d : ℕ) → 0 < r → b ≡ bit (r - 1) c → b < 2 → (b ≡ 1 → ⊥) → Within c r d → Within c (r - 1) d
  unfolding Within
  pass c b r d h s l q t = turn c b r d _ h s (at_pass b (r - 1) d (λ x. scan (λ v. bit v c) (r - 1) x) l q) t

  pub near : (c b r d : ℕ) → 0 < r → b ≡ bit (r - 1) c → b ≡ 1 → (d ≡ 0 → ⊥) → Within c r d → Within c (r - 1) (d - 1)
  unfolding Within
  near c b r d h s l q t = turn c b r d _ h s (at-near b (r - 1) d (λ x. scan (λ v. bit v c) (r - 1) x) l q) t

  pub strike : (c b r d : ℕ) → 0 < r → b ≡ bit (r - 1) c → b ≡ 1 → d ≡ 0 → Within c r d → hit (r - 1) c ≡ w
  unfolding then
  strike c b r d h s l q t = turn c b r d _ h s (at-hit b (r - 1) d (λ x. scan (λ v. bit v c) (r - 1) x) l q) t

  -- the next column, and the other ways out
  pub after : (c r d : ℕ) → r ≤ 0 → Within c r d → Left (c + 1) d
  unfolding Left Within then scan
  after c r d h t =
      let e : r ≡ 0 = omega arith in
      rw e at t

  pub lost : (c r d : ℕ) → r ≤ 0 → m ≤ d → Within c r d → miss ≡ w
  unfolding Left rest
  lost c r d h l t = sym (far bit m (c + 1) d (from string (c + 1) (n - (c + 1))) l) ∙ after c r d h t

  pub over : (c d : ℕ) → n ≤ c → Left c d → miss ≡ w
  unfolding Left
  over c d h l = sym (rest_over bit string m n c d h) ∙ l

-- before the first column, with the sizes that the file's fields say
pub start : (file strings : List ℕ) (place m n : ℕ) → m ≡ field_of file 4 → n ≡ field_of file 6 →
    Left (file_rows file n) (bit_of strings place) m n (draw_at file strings place) 0 0
unfolding Left rest draw_at
start file strings place m n a b = rw (← a, ← b, sub-zero n, upto_from n (bit_of strings place))
