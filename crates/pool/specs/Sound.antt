-- The records that are not refused: what 3 leaves out, as facts (02, order 9). Assumes nothing.
use Rattle.std.specs.Prelude.{ℕ, ◌≤◌, ◌<◌, ◌≡◌, refl, Bool, true, false, ◌||◌, List, ◌↔◌, ◌⊎◌, ltb, length}
use Rattle.std.proofs.Common.{◌∙◌, ap, inl, inr, ⊎_elim, arith, le-ltb, ltb-false}
use Rattle.std.proofs.Math.ListN.{get_or-eq_default}
use Rattle.laws.specs.Tests.{neither, lt-or_ge}
use Rattle.laws.specs.Sums.{any-all, any_false, sum_mono}
use Rattle.laws.specs.Outcome.{refused, gives, refuse, ◌>>◌, passed, refuse-either}
use Rattle.fields.specs.Limits.{outside, inside, within}
use Rattle.pool.specs.Pool.{most_words, most_signers, sizes_unfit, no_signer, signer_at, claim, sum_of, some_of, reserve_above}
use Rattle.pool.specs.Pool.{drawn_above, drawn_by_all}
use Rattle.pool.specs.Pool.{cleared, open_of, records_of}
use Rattle.pool.specs.declared.signers.Signer.{Signer}

-- ---- one check
refuse_alone : (n : ℕ) (t : Bool) → (refuse n t >> gives tt) ≡ refuse n t
refuse_alone n true = refl
refuse_alone n false = refl

either_way : (n : ℕ) (t : Bool) → (refuse n t ≡ gives tt) ⊎ (refuse n t ≡ refused n)
either_way n true = inr refl
either_way n false = inl refl

-- ---- the facts
-- sizes of a pool
pub record Sized (W n : ℕ) : Type 0 where
  pub words : W ≤ most_words
  pub some : 1 ≤ n
  pub few : n ≤ most_signers

pub sized_iff : (W n : ℕ) → (sizes_unfit W n ≡ false) ↔ Sized W n
sized_iff W n = (there, back)
  where
    there : sizes_unfit W n ≡ false → Sized W n
    there e =
        let s = neither (ltb most_words W) (outside most_signers n) e in
        let k = within most_signers n s.1 in
        record { words = ltb-false most_words W s.0; some = k.0; few = k.1 }

    back : Sized W n → sizes_unfit W n ≡ false
    back z = rw (le-ltb most_words W z.words, inside most_signers n z.some z.few)

-- no signer passes a test that nobody passes
pub none_iff : (t : Signer → Bool) (xs : List Signer) → t no_signer ≡ false →
    (some_of t xs ≡ false) ↔ ((j : ℕ) → t (signer_at xs j) ≡ false)
none_iff t xs z = (
  (λ e j. ⊎_elim (λ (l : j < length xs). any_false (length xs) j (λ j. t (signer_at xs j)) e l)
      (λ (l : length xs ≤ j). rw (get_or-eq_default xs no_signer {n = j} l) z) (lt-or_ge j (length xs))),
  (λ f. any-all (length xs) (λ j. t (signer_at xs j)) (λ j l. f j)),
)

-- records that pass: a pool's sizes, no reserve and nothing drawn above its cap, and claims that are together at most W
pub record Sound (W : ℕ) (xs : List Signer) : Type 0 where
  pub sized : Sized W (length xs)
  pub reserves : (j : ℕ) → (signer_at xs j).reserve ≤ (signer_at xs j).cap
  pub draws : (j : ℕ) → (signer_at xs j).drawn ≤ (signer_at xs j).cap
  pub claims : sum_of claim xs ≤ W

pub sound_iff : (W : ℕ) (xs : List Signer) → (records_of W xs ≡ gives tt) ↔ Sound W xs
unfolding records_of
sound_iff W xs = (there, back)
  where
    there : records_of W xs ≡ gives tt → Sound W xs
    there e =
        let a = passed 3 (sizes_unfit W (length xs)) _ tt e in
        let b = passed 3 (some_of reserve_above xs) _ tt a.1 in
        let c = passed 3 (some_of drawn_above xs) _ tt b.1 in
        let d = passed 3 (ltb W (sum_of claim xs)) _ tt c.1 in
        record {
          sized = (sized_iff W (length xs)).0 a.0;
          reserves = λ j. ltb-false _ _ ((none_iff reserve_above xs refl).0 b.0 j);
          draws = λ j. ltb-false _ _ ((none_iff drawn_above xs refl).0 c.0 j);
          claims = ltb-false W (sum_of claim xs) d.0;
        }

    back : Sound W xs → records_of W xs ≡ gives tt
    back s = rw (
      (sized_iff W (length xs)).1 s.sized,
      (none_iff reserve_above xs refl).1 (λ j. le-ltb _ _ (s.reserves j)),
      (none_iff drawn_above xs refl).1 (λ j. le-ltb _ _ (s.draws j)),
      le-ltb W (sum_of claim xs) s.claims,
    )

-- records are sound or 3: the four checks are one
pub records_one : (W : ℕ) (xs : List Signer) → records_of W xs ≡
    refuse 3 (((sizes_unfit W (length xs) || some_of reserve_above xs) || some_of drawn_above xs) || ltb W (sum_of claim xs))
unfolding records_of
records_one W xs =
    let a = sizes_unfit W (length xs) in
    let b = some_of reserve_above xs in
    let c = some_of drawn_above xs in
    let d = ltb W (sum_of claim xs) in
    refuse-either 3 a b (refuse 3 c >> (refuse 3 d >> gives tt)) ∙ refuse-either 3 (a || b) c (refuse 3 d >> gives tt) ∙
    refuse-either 3 ((a || b) || c) d (gives tt) ∙ refuse_alone 3 (((a || b) || c) || d)

pub sound-or : (W : ℕ) (xs : List Signer) → Sound W xs ⊎ (records_of W xs ≡ refused 3)
sound-or W xs = ⊎_elim (λ e. inl ((sound_iff W xs).0 (records_one W xs ∙ e))) (λ e. inr (records_one W xs ∙ e))
    (either_way 3 (((sizes_unfit W (length xs) || some_of reserve_above xs) || some_of drawn_above xs) || ltb W (sum_of claim xs)))

-- ---- a list that opens: a pool's sizes, no reserve above its cap, and reserves that are together at most W
pub record Opens (W : ℕ) (xs : List Signer) : Type 0 where
  pub sized : Sized W (length xs)
  pub reserves : (j : ℕ) → (signer_at xs j).reserve ≤ (signer_at xs j).cap
  pub together : sum_of (λ s. s.reserve) xs ≤ W

pub opens_one : (W : ℕ) (xs : List Signer) → open_of W xs ≡
    (refuse 3 ((sizes_unfit W (length xs) || some_of reserve_above xs) || ltb W (sum_of (λ s. s.reserve) xs)) >> gives (cleared xs))
unfolding open_of
opens_one W xs =
    let a = sizes_unfit W (length xs) in
    let b = some_of reserve_above xs in
    let c = ltb W (sum_of (λ s. s.reserve) xs) in
    refuse-either 3 a b (refuse 3 c >> gives (cleared xs)) ∙ refuse-either 3 (a || b) c (gives (cleared xs))

pub opens_iff : (W : ℕ) (xs : List Signer) → (open_of W xs ≡ gives (cleared xs)) ↔ Opens W xs
unfolding open_of
opens_iff W xs = (there, back)
  where
    there : open_of W xs ≡ gives (cleared xs) → Opens W xs
    there e =
        let a = passed 3 (sizes_unfit W (length xs)) _ (cleared xs) e in
        let b = passed 3 (some_of reserve_above xs) _ (cleared xs) a.1 in
        let c = passed 3 (ltb W (sum_of (λ s. s.reserve) xs)) _ (cleared xs) b.1 in
        record {
          sized = (sized_iff W (length xs)).0 a.0;
          reserves = λ j. ltb-false _ _ ((none_iff reserve_above xs refl).0 b.0 j);
          together = ltb-false _ _ c.0;
        }

    back : Opens W xs → open_of W xs ≡ gives (cleared xs)
    back o = rw (
      (sized_iff W (length xs)).1 o.sized,
      (none_iff reserve_above xs refl).1 (λ j. le-ltb _ _ (o.reserves j)),
      le-ltb W (sum_of (λ s. s.reserve) xs) o.together,
    )

-- an opening gives the cleared records, or is 3
pub opens-or : (W : ℕ) (xs : List Signer) → (open_of W xs ≡ gives (cleared xs)) ⊎ (open_of W xs ≡ refused 3)
opens-or W xs =
    let test = (sizes_unfit W (length xs) || some_of reserve_above xs) || ltb W (sum_of (λ s. s.reserve) xs) in
    ⊎_elim (λ e. inl (opens_one W xs ∙ ap (λ o. o >> gives (cleared xs)) e))
    (λ e. inr (opens_one W xs ∙ ap (λ o. o >> gives (cleared xs)) e)) (either_way 3 test)

-- ---- what all have drawn, and all reserves, are at most what they have a claim on
pub drawn_claimed : (xs : List Signer) → drawn_by_all xs ≤ sum_of claim xs
drawn_claimed xs = sum_mono (length xs) (λ j. (signer_at xs j).drawn) (λ j. claim (signer_at xs j)) (λ j l. omega arith)

pub reserved_claimed : (xs : List Signer) → sum_of (λ s. s.reserve) xs ≤ sum_of claim xs
reserved_claimed xs = sum_mono (length xs) (λ j. (signer_at xs j).reserve) (λ j. claim (signer_at xs j)) (λ j l. omega arith)

pub sound-opens : (W : ℕ) (xs : List Signer) → Sound W xs → Opens W xs
sound-opens W xs s = record { sized = s.sized; reserves = s.reserves; together = omega (arith, s.claims, reserved_claimed xs) }
