-- Results laid into lent buffers: beyond its own extent a result changes nothing. Assumes nothing.
use Rattle.std.specs.Prelude.{ℕ, ◌+◌, ◌*◌, ◌≤◌, ◌<◌, ◌≡◌, get_or, set}
use Rattle.std.proofs.Math.Path.{refl, sym, ap}
use Rattle.std.proofs.Common.{◌∙◌, add_assoc, add-zero, zero-add, add-one, arith, length-drop, take-append-drop, drop_of_length-le}
use Rattle.std.proofs.Common.{length-take-le}
use mathlib.Core.List.{List, [], ◌∷◌, ◌++◌, append_assoc, append-nil}
use Rattle.std.proofs.Math.ListN.{length, take, drop, length-append, length-take, get_or-append}
use Rattle.std.proofs.Math.Seq.{take_at, take-append_seam, drop_at, drop-append-add, drop-append_seam, drop-drop, set_split}
use borrow.Rule.Slice.PartMut.{put_mid}
use Rattle.laws.specs.Tests.{reached}
use Rattle.laws.specs.Lists.{blocks, upto, blocks_more, length-blocks, upto_more, upto-split, length-upto}

module _ {A : Type 0} where
  -- xs in place of what stands in buf from place k on
  unfoldable pub lay_at : ℕ → List A → List A → List A
  lay_at k xs buf = take k buf ++ (xs ++ drop (k + length xs) buf)

  -- xs at the front of buf: what a lent buffer holds after a result; [] for a refusal, which changes nothing
  unfoldable pub lay : List A → List A → List A
  lay xs buf = xs ++ drop (length xs) buf

  -- ---- one result after another
  pub length-lay_at : (k : ℕ) (xs buf : List A) → k + length xs ≤ length buf → length (lay_at k xs buf) ≡ length buf
  unfolding lay_at
  length-lay_at k xs buf h = simp (length-append, length-take, length-drop) (omega arith)

  pub length-lay : (xs buf : List A) → length xs ≤ length buf → length (lay xs buf) ≡ length buf
  unfolding lay
  length-lay xs buf h = simp (length-append, length-drop) (omega arith)

  -- what a result holds at a place is what the buffer then holds there
  pub at_front : (xs buf : List A) (i : ℕ) (d : A) → i < length xs → get_or (lay xs buf) i d ≡ get_or xs i d
  unfolding lay
  at_front xs buf i d h = get_or-append xs (drop (length xs) buf) d i h

  pub take-lay : (n : ℕ) (xs buf : List A) → length xs ≡ n → take n (lay xs buf) ≡ xs
  unfolding lay
  take-lay n xs buf e = take_at xs (drop (length xs) buf) n e

  -- of two results as long as each other the later is left
  pub lay-again : (xs ys buf : List A) → length xs ≡ length ys → lay ys (lay xs buf) ≡ lay ys buf
  unfolding lay
  lay-again xs ys buf e = ap (λ (l : List A). ys ++ l) (rw (← e) (drop-append_seam xs (drop (length xs) buf)))

  pub lay-nothing : (buf : List A) → buf ≡ lay [] buf
  unfolding lay
  lay-nothing buf = refl

  -- a result as long as the buffer is all that it then holds
  pub lay-whole : (xs buf : List A) → length buf ≤ length xs → lay xs buf ≡ xs
  unfolding lay
  lay-whole xs buf h = rw (drop_of_length-le buf {i = length xs} h) (append-nil xs)

  pub lay-is : (xs buf : List A) → lay_at 0 xs buf ≡ lay xs buf
  unfolding lay lay_at
  lay-is xs buf = rw (zero-add (length xs))

  pub lay_at-nothing : (k : ℕ) (buf : List A) → buf ≡ lay_at k [] buf
  unfolding lay_at
  lay_at-nothing k buf = rw (add-zero k) (sym (take-append-drop k buf))

  -- what is laid at a place stands there
  pub drop-laid : (k : ℕ) (xs buf : List A) → k ≤ length buf → drop k (lay_at k xs buf) ≡ xs ++ drop (k + length xs) buf
  unfolding lay_at
  drop-laid k xs buf h = drop_at (take k buf) (xs ++ drop (k + length xs) buf) k (length-take-le k buf h)

  -- what already stands at a place, laid there, changes nothing
  pub laid-back : (k : ℕ) (xs rest buf : List A) → drop k buf ≡ xs ++ rest → lay_at k xs buf ≡ buf
  unfolding lay_at
  laid-back k xs rest buf e =
      let behind : drop (k + length xs) buf ≡ rest =
      sym (drop-drop (length xs) k buf) ∙ (ap (drop (length xs)) e ∙ drop-append_seam xs rest) in
      rw (behind, ← e) (take-append-drop k buf)

  -- behind what stands at the front
  behind : (front rest ys : List A) (n : ℕ) → length front ≡ n → lay_at n ys (front ++ rest) ≡ front ++ (ys ++ drop (length ys) rest)
  unfolding lay_at
  behind front rest ys n e = rw (← e, take-append_seam, drop-append-add)

  -- the law by which results compose
  pub lay_at-after : (k : ℕ) (xs ys buf : List A) → k + length xs ≤ length buf →
      lay_at (k + length xs) ys (lay_at k xs buf) ≡ lay_at k (xs ++ ys) buf
  unfolding lay_at
  lay_at-after k xs ys buf h =
      let long : length (take k buf ++ xs) ≡ k + length xs = simp (length-append, length-take) (omega arith) in
      ap (lay_at (k + length xs) ys) (sym (append_assoc (take k buf) xs (drop (k + length xs) buf))) ∙
      (behind (take k buf ++ xs) (drop (k + length xs) buf) ys (k + length xs) long ∙
      simp (append_assoc, drop-drop, length-append, add_assoc))

  pub set_is : (k : ℕ) (x : A) (buf : List A) → k < length buf → set buf k x ≡ lay_at k (x ∷ []) buf
  unfolding lay_at
  set_is k x buf h = set_split buf k x h ∙ ap (λ (n : ℕ). take k buf ++ x ∷ drop n buf) (sym (add-one k))

-- What code that lays xs at k has done so far. A record, so that its parameters are found from the goal and its length by search.
pub record Laid {A : Type 0} (k : ℕ) (xs buf now : List A) : Type 0 where
  pub long : length now ≡ length buf
  pub is : now ≡ lay_at k xs buf

module _ {A : Type 0} (k : ℕ) where
  pub laid_none : (buf : List A) → Laid k [] buf buf
  laid_none buf = record { long = refl; is = lay_at-nothing k buf }

  -- a callee laid ys behind xs
  pub laid-after : (at : ℕ) (xs ys buf now now' : List A) → at ≡ k + length xs → at + length ys ≤ length buf → now' ≡ lay_at at ys now →
      Laid k xs buf now → Laid k (xs ++ ys) buf now'
  laid-after at xs ys buf now now' e h q l =
      let same : now' ≡ lay_at k (xs ++ ys) buf = rw (q, e, l.is) (lay_at-after k xs ys buf (omega arith)) in
      record {
        long = ap length same ∙ length-lay_at k (xs ++ ys) buf (rw (length-append xs ys) (omega arith));
        is = same;
      }

  -- a callee laid block n behind the blocks before it
  pub laid_block : (w at n : ℕ) (f : ℕ → List A) (buf now now' : List A) → ((v : ℕ) → length (f v) ≡ w) →
      at ≡ k + n * w → at + w ≤ length buf → now' ≡ lay_at at (f n) now → Laid k (blocks n f) buf now → Laid k (blocks (n + 1) f) buf now'
  laid_block w at n f buf now now' wide e h q l =
      rw (blocks_more n f)
      (laid-after at (blocks n f) (f n) buf now now' (omega (arith, length-blocks w f wide n)) (omega (arith, wide n)) q l)

  -- a callee filled the part of the buffer that is block n's
  pub laid_part : (w at size n : ℕ) (f : ℕ → List A) (buf now ys : List A) → ((v : ℕ) → length (f v) ≡ w) → at ≡ k + n * w →
      at + w ≤ length buf → size ≡ w → ys ≡ f n → Laid k (blocks n f) buf now → Laid k (blocks (n + 1) f) buf (put_mid at size now ys)
  unfolding lay_at
  laid_part w at size n f buf now ys wide e h s q l =
      laid_block w at n f buf now (put_mid at size now ys) wide e h (rw (q, s, wide n, drop-drop w at now)) l

  -- a callee laid m elements behind the n before them
  pub laid_more : (at n m : ℕ) (f : ℕ → A) (buf now now' : List A) → at ≡ k + n → at + m ≤ length buf →
      now' ≡ lay_at at (upto m (λ i. f (n + i))) now → Laid k (upto n f) buf now → Laid k (upto (n + m) f) buf now'
  laid_more at n m f buf now now' e h q l =
      rw (upto-split n m f)
      (laid-after at (upto n f) (upto m (λ i. f (n + i))) buf now now' (omega (arith, length-upto n f))
      (omega (arith, length-upto m (λ i. f (n + i)))) q l)

  -- a store behind the elements before it
  pub laid_store : (at n : ℕ) (f : ℕ → A) (x : A) (buf now : List A) → at ≡ k + n → at < length buf → x ≡ f n →
      Laid k (upto n f) buf now → Laid k (upto (n + 1) f) buf (set now at x)
  laid_store at n f x buf now e h q l =
      rw (upto_more n f)
      (laid-after at (upto n f) (f n ∷ []) buf now (set now at x) (omega (arith, length-upto n f)) (omega arith)
      (ap (set now at) q ∙ set_is at (f n) now (omega (arith, l.long))) l)

  pub upto-none : (f : ℕ → A) (buf : List A) → Laid k (upto 0 f) buf buf
  unfolding upto blocks
  upto-none f buf = laid_none buf

  pub blocks-none : (f : ℕ → List A) (buf : List A) → Laid k (blocks 0 f) buf buf
  unfolding blocks
  blocks-none f buf = laid_none buf

  pub upto_done : (i n : ℕ) (f : ℕ → A) (buf now : List A) → i ≤ n → n ≤ i → Laid k (upto i f) buf now → now ≡ lay_at k (upto n f) buf
  upto_done i n f buf now a b l = reached (λ m. now ≡ lay_at k (upto m f) buf) i n a b l.is

  pub blocks-done : (i n : ℕ) (f : ℕ → List A) (buf now : List A) → i ≤ n → n ≤ i → Laid k (blocks i f) buf now →
      now ≡ lay_at k (blocks n f) buf
  blocks-done i n f buf now a b l = reached (λ m. now ≡ lay_at k (blocks m f) buf) i n a b l.is

-- a buffer that is filled to its end
pub upto_filled : {A : Type 0} (i : ℕ) (f : ℕ → A) (buf now : List A) → i ≤ length buf → length buf ≤ i → Laid 0 (upto i f) buf now →
    now ≡ upto (length buf) f
unfolding lay_at
upto_filled i f buf now a b l =
    let xs = upto (length buf) f in
    let all : length buf ≤ 0 + length xs = omega (arith, length-upto (length buf) f) in
    upto_done 0 i (length buf) f buf now a b l ∙ rw (drop_of_length-le buf {i = 0 + length xs} all) (append-nil xs)
