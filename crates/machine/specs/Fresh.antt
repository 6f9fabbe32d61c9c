-- 01, "Language form for each place": the words of a fresh state. Assumes nothing.
use Rattle.std.specs.Prelude.{ℕ, ◌≡◌, List, length, replicate}
use Rattle.std.proofs.Common.{ap, ◌∙◌}
use Rattle.std.proofs.lemmas.List.{length-replicate}

-- n words of 0; shut, since a thousand of them in a goal help nobody
unfoldable pub zeroed : ℕ → List ℕ
zeroed n = replicate n 0

pub zeroed-long : (n : ℕ) (xs : List ℕ) → xs ≡ zeroed n → length xs ≡ n
unfolding zeroed
zeroed-long n xs e = ap length e ∙ length-replicate n 0
