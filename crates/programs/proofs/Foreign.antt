-- 02, order 3: the header's answers that are others now that the kind is tried before shortness. Assumes nothing.
use Rattle.std.specs.Prelude.{ℕ, List, ltb, length}
use Rattle.std.proofs.Common.{arith}
use borrow.Author.Tests.{lt-ltb, ltb-true}
use Rattle.laws.specs.Changes.{Changed}
use Rattle.fields.specs.Foreign.{Foreign, kind-first}
use Rattle.programs.specs.Header.{header_length, header_kind, numbers_of, limits_of, header_under, header_of}
use Rattle.programs.specs.Foreign.{Short, header_short_first}

-- ---- the answers that changed
pub header_changed : (file : List ℕ) → Changed (Foreign header_kind file × Short file) 1 2 (header_short_first file) (header_of file)
unfolding header_short_first header_under
header_changed file =
    kind-first header_kind file (Short file) (ltb (length file) header_length)
    (ltb-true (length file) header_length, lt-ltb (length file) header_length) (λ h. omega arith) (limits_of file (numbers_of file))
