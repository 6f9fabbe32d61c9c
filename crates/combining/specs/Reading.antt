-- Lists that `signed_samples` lays down, whatever the rows, the output words and the sign word are, and any others with 64 samples at their
-- front, are combined and never refused. Assumes nothing.
use Rattle.std.specs.Prelude.{ℕ, ◌≤◌, ◌<◌, ◌≡◌, refl, true, false, not, List, ℤ, pos, length}
use Rattle.std.proofs.Common.{sym, ap, ◌∙◌, subst, inl, inr, arith, le-ltb}
use Rattle.laws.specs.Sums.{any-all}
use Rattle.laws.specs.Words.{bit_at}
use Rattle.laws.specs.Lists.{upto, get_d_upto, length-upto}
use Rattle.laws.specs.Outcome.{gives}
use Rattle.programs.specs.Reading.{suited_means}
use Rattle.walk.specs.Walk.{Answer, sample, missed}
use Rattle.lanes.specs.Slicing.{lanes}
use Rattle.lanes.specs.Samples.{sample_of, signed_code, signed_samples_of}
use Rattle.lanes.specs.Lanes.{Small, given-small, distance, read_lanes}
use Rattle.combining.specs.Combination.{is_sample, sample-is, unsound, result_at, Samples}
use Rattle.combining.specs.Combining.{unfit, short, combine_of}

-- ---- what a lane gives is a sample
pub code-sample : (bit : ℕ) (g : Answer) → Small g → is_sample (signed_code bit g) ≡ true
code-sample bit (sample x) h = (sample-is (signed_code bit (sample x))).1 (inr (omega (arith, distance bit x)))
code-sample bit missed h = (sample-is (pos 32767)).1 (inl refl)

-- ---- a list of them
pub upto_samples : (f : ℕ → ℤ) → ((j : ℕ) → j < lanes → is_sample (f j) ≡ true) → Samples (upto lanes f)
upto_samples f e =
    record {
      long = omega (arith, length-upto lanes f);
      each = λ j h. ap is_sample (get_d_upto lanes f j (pos 0) h) ∙ e j h;
    }

pub read_samples : (rows : ℕ) (outputs : List ℕ) (sign room : ℕ) (xs : List ℤ) → signed_samples_of rows outputs sign room ≡ gives xs →
    Samples xs
read_samples rows outputs sign room xs e =
    let r = read_lanes rows outputs room _ xs e in
    let few = (suited_means rows (length outputs) r.suits).1 in
    subst Samples (sym r.is)
    (upto_samples _ (λ j h. code-sample (bit_at sign j) (sample_of rows outputs j) (given-small rows outputs j few)))

-- ---- such lists are combined
pub samples_combined : (first second room : ℕ) (x1 x2 x3 x4 : List ℤ) → Samples x1 → Samples x2 → Samples x3 → Samples x4 →
    unfit first second ≡ false → lanes ≤ room →
    combine_of first second x1 x2 x3 x4 room ≡ gives (upto lanes (result_at first second x1 x2 x3 x4))
unfolding combine_of short unsound
samples_combined first second room x1 x2 x3 x4 s1 s2 s3 s4 f space =
    rw (
      f,
      le-ltb (length x1) lanes s1.long,
      le-ltb (length x2) lanes s2.long,
      le-ltb (length x3) lanes s3.long,
      le-ltb (length x4) lanes s4.long,
      le-ltb room lanes space,
      sound x1 s1,
      sound x2 s2,
      sound x3 s3,
      sound x4 s4,
    )
  where
    sound : (xs : List ℤ) → Samples xs → unsound xs ≡ false
    sound xs s = any-all lanes _ (λ j h. ap not (s.each j h))
