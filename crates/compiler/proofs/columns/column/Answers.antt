-- `compiler::column` meets its contract: split, marks and keep, one after another. Assumes nothing.
use borrow.Author.Rules.{rules}
use Rattle.compiler.specs.EmittingColumns.{split-space, marks-space, keep-space, column_emitted}
use Rattle.compiler.proofs.columns.column.Goals as goal

pub split-to-requires : goal.split-to-requires
split-to-requires c =
    let space = c.requires.0 in
    (split-space _ c.count_column-passed.ensures space, search rules, search rules, search rules)

pub marks-to-requires : goal.marks-to-requires
marks-to-requires c =
    let space = c.requires.0 in
    (marks-space _ c.count_column-passed.ensures space c.split-to.ensures, search rules)

pub keep-to-requires : goal.keep-to-requires
keep-to-requires c =
    let space = c.requires.0 in (
      keep-space _ c.count_column-passed.ensures space c.split-to.ensures c.marks-to.ensures,
      search rules,
      search rules,
      search rules,
    )

pub returns : goal.returns
returns c =
    let passed = c.count_column-passed.ensures in
    (column_emitted _ passed c.split-to.ensures c.marks-to.ensures c.keep-to.ensures, passed.after)
