-- 01, "Files": a record is a row of 16-bit fields. Assumes nothing.
use Rattle.std.specs.Prelude.{ℕ, ◌+◌, ◌*◌, ◌/◌, ◌%◌, ◌≤◌, ◌<◌, ◌≡◌, refl, List, [], ◌∷◌, ◌++◌, length, get_or, take, set}
use Rattle.std.proofs.Common.{sym, ap, ◌∙◌, arith, length-take-le}
use Rattle.std.proofs.lemmas.List.{take_more}
use Rattle.laws.specs.Lay.{Laid, laid-after}
use Rattle.fields.specs.Fields.{field_bytes, field-laid}

-- the bytes of a record's fields
unfoldable pub record_bytes : List ℕ → List ℕ
record_bytes [] = []
record_bytes (x ∷ xs) = field_bytes x ++ record_bytes xs

-- ---- writing
pub length_record : (xs : List ℕ) → length (record_bytes xs) ≡ 2 * length xs
unfolding record_bytes
length_record [] = refl
length_record (x ∷ xs) = omega (arith, length_record xs)

record_snoc : (xs : List ℕ) (x : ℕ) → record_bytes (xs ++ x ∷ []) ≡ record_bytes xs ++ field_bytes x
unfolding record_bytes
record_snoc [] x = refl
record_snoc (y ∷ ys) x = ap (λ (z : List ℕ). y % 256 ∷ y / 256 ∷ z) (record_snoc ys x)

-- code that stores a record field by field: the next of the fields xs, its two bytes behind those that are laid at `at`
pub field_next : (at i : ℕ) (xs buf now bytes : List ℕ) → i < length xs → at + 2 * length xs ≤ length buf →
    bytes ≡ field_bytes (get_or xs i 0) → Laid at (record_bytes (take i xs)) buf now →
    Laid at (record_bytes (take (i + 1) xs)) buf (set (set now (at + 2 * i) (get_or bytes 0 0)) (at + 2 * i + 1) (get_or bytes 1 0))
field_next at i xs buf now bytes h room e l =
    let x : ℕ = get_or xs i 0 in
    let front : at + length (record_bytes (take i xs)) ≡ at + 2 * i = omega (arith, length_record (take i xs), length-take-le i xs) in
    let next : record_bytes (take (i + 1) xs) ≡ record_bytes (take i xs) ++ field_bytes x =
    ap record_bytes (take_more xs i 0 h) ∙ record_snoc (take i xs) x in
    let stored = field-laid now (at + 2 * i) (x % 256) (x / 256) (omega (arith, l.long)) in
    rw (e, next)
    (laid-after at (at + 2 * i) (record_bytes (take i xs)) (field_bytes x) buf now _ (sym front) (omega (arith, l.long)) stored l)
