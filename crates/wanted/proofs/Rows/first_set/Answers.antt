-- `wanted::Rows::first_set` meets its contract: no column before the one found is set. Assumes nothing.
use Rattle.std.proofs.Common.{rules, ℕ, Bool, ◌≡◌, eqb, true, false}
use borrow.Author.Tests.{tests}
use Rattle.std.proofs.lemmas.Iterator.{first_from_Range}
use Rattle.walk.specs.Walk.{file_rows}
use Rattle.wanted.specs.Ways.{first_column_found}
use Rattle.wanted.proofs.Rows.first_set.Goals as goal

pub returns : goal.returns
returns c =
    let test : ℕ → Bool = λ v. eqb (file_rows c.args.self.file.now c.args.self.columns c.args.row v) 1 in
    first_column_found _ test _
    (first_from_Range _ _ _ _ (λ v. test v ≡ true) (λ v. test v ≡ false) c.find.ensures.ran (λ x q k. search (rules, tests))
    (λ x q k. search (rules, tests)))
