-- 02, order 2: what combining four lists of signed samples comes to. Assumes nothing.
use Rattle.std.specs.Prelude.{ℕ, ◌≤◌, ◌≡◌, Bool, true, false, ◌||◌, List, ltb, ℤ, length}
use Rattle.std.proofs.Math.Path.{refl}
use Rattle.std.proofs.Common.{sym, ◌∙◌, ltb-false}
use Rattle.laws.specs.Tests.{neither}
use Rattle.laws.specs.Lists.{upto}
use Rattle.laws.specs.Lay.{lay}
use Rattle.laws.specs.Outcome.{Outcome, refused, gives, refuse, ◌>>◌, mapped, laid, ends-refused, ends-given}
use Rattle.fields.specs.Limits.{outside, within}
use Rattle.lanes.specs.Slicing.{lanes}
use Rattle.combining.specs.Combination.{most_multiplier, result_at, unsound, Samples, sound_samples}

-- whether a multiplier is outside 1 to 1,000
abbrev pub unfit : ℕ → ℕ → Bool
unfit first second = outside most_multiplier first || outside most_multiplier second

-- whether a list or the buffer for the results is under 64
unfoldable pub short : ℕ → ℕ → ℕ → ℕ → ℕ → Bool
short x1 x2 x3 x4 results = ltb x1 lanes || ltb x2 lanes || ltb x3 lanes || ltb x4 lanes || ltb results lanes

-- whether any of their first 64 entries is neither a miss nor from -127 to 127
abbrev pub any_unsound : List ℤ → List ℤ → List ℤ → List ℤ → Bool
any_unsound x1 x2 x3 x4 = unsound x1 || unsound x2 || unsound x3 || unsound x4

-- combining four lists into a buffer of `room` places: 14 for a multiplier, then 13, then 5 for an entry; or the 64 results that are
-- laid down
unfoldable pub combine_of : ℕ → ℕ → List ℤ → List ℤ → List ℤ → List ℤ → ℕ → Outcome (List ℤ)
combine_of first second x1 x2 x3 x4 room = do
  refuse 14 (unfit first second)
  refuse 13 (short (length x1) (length x2) (length x3) (length x4) room)
  refuse 5 (any_unsound x1 x2 x3 x4)
  gives (upto lanes (result_at first second x1 x2 x3 x4))

-- ---- what passed says
pub fit : (first second : ℕ) → unfit first second ≡ false → (first ≤ most_multiplier) × (second ≤ most_multiplier)
fit first second e =
    let s = neither (outside most_multiplier first) (outside most_multiplier second) e in
    ((within most_multiplier first s.0).1, (within most_multiplier second s.1).1)

pub record Long (x1 x2 x3 x4 results : ℕ) : Type 0 where
  pub first : lanes ≤ x1
  pub second : lanes ≤ x2
  pub third : lanes ≤ x3
  pub fourth : lanes ≤ x4
  pub room : lanes ≤ results

pub long : (x1 x2 x3 x4 results : ℕ) (b : Bool) → b ≡ short x1 x2 x3 x4 results → b ≡ false → Long x1 x2 x3 x4 results
unfolding short
long x1 x2 x3 x4 results b is e =
    let r = neither (ltb x1 lanes || ltb x2 lanes || ltb x3 lanes || ltb x4 lanes) (ltb results lanes) (sym is ∙ e) in
    let d = neither (ltb x1 lanes || ltb x2 lanes || ltb x3 lanes) (ltb x4 lanes) r.0 in
    let c = neither (ltb x1 lanes || ltb x2 lanes) (ltb x3 lanes) d.0 in
    let b = neither (ltb x1 lanes) (ltb x2 lanes) c.0 in
    record {
      first = ltb-false x1 lanes b.0;
      second = ltb-false x2 lanes b.1;
      third = ltb-false x3 lanes c.1;
      fourth = ltb-false x4 lanes d.1;
      room = ltb-false results lanes r.1;
    }

pub samples : (x1 x2 x3 x4 : List ℤ) (room : ℕ) → Long (length x1) (length x2) (length x3) (length x4) room →
    any_unsound x1 x2 x3 x4 ≡ false → Samples x1 × Samples x2 × Samples x3 × Samples x4
samples x1 x2 x3 x4 room l e =
    let d = neither (unsound x1 || unsound x2 || unsound x3) (unsound x4) e in
    let c = neither (unsound x1 || unsound x2) (unsound x3) d.0 in
    let b = neither (unsound x1) (unsound x2) c.0 in (
      sound_samples x1 l.first b.0,
      sound_samples x2 l.second b.1,
      sound_samples x3 l.third c.1,
      sound_samples x4 l.fourth d.1,
    )

-- ---- the ways in which code that combines ends: its answer, and what the buffer then holds
module _ (first second : ℕ) (x1 x2 x3 x4 results : List ℤ) where
  abbrev pub outcome : Outcome (List ℤ)
  outcome = combine_of first second x1 x2 x3 x4 (length results)

  abbrev pub Ends : Outcome (Unit {0}) → List ℤ → Type 0
  Ends answer now = (answer ≡ mapped (λ xs. tt) outcome) × (now ≡ lay (laid (λ xs. xs) outcome) results)

  stops : (n : ℕ) → outcome ≡ refused n → Ends (refused n) results
  stops n e = ends-refused (λ xs. tt) (λ xs. xs) n outcome results e

  pub ends-unfit : unfit first second ≡ true → Ends (refused 14) results
  unfolding combine_of
  ends-unfit a = stops 14 (rw a)

  module _ (a : unfit first second ≡ false) where
    pub ends-short : (b : Bool) → b ≡ short (length x1) (length x2) (length x3) (length x4) (length results) → b ≡ true →
        Ends (refused 13) results
    unfolding combine_of
    ends-short b is e = stops 13 (rw (a, ← is, e))

    module _ (b : Bool) (is : b ≡ short (length x1) (length x2) (length x3) (length x4) (length results)) (e : b ≡ false) where
      pub ends-unsound : any_unsound x1 x2 x3 x4 ≡ true → Ends (refused 5) results
      unfolding combine_of
      ends-unsound c = stops 5 (rw (a, ← is, e, c))

      pub ends-all : any_unsound x1 x2 x3 x4 ≡ false → (now : List ℤ) →
          now ≡ lay (upto lanes (result_at first second x1 x2 x3 x4)) results → Ends (gives tt) now
      unfolding combine_of
      ends-all c now l =
          let xs = upto lanes (result_at first second x1 x2 x3 x4) in
          ends-given (λ xs. tt) (λ xs. xs) xs tt outcome results now (rw (a, ← is, e, c)) refl l
