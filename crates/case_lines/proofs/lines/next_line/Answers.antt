-- `case_lines::lines::next_line` meets its contract: what is read is the front of the bytes that are left. Assumes nothing.
use Rattle.std.proofs.Common.{rules}
use Rattle.case_lines.proofs.lines.next_line.Goals as goal

pub returns : goal.returns
returns g c = record {
  fits = search rules;
  reads = λ xs e. rw (c.take.ensures.inner, c.take.ensures.limit, e, c.new-line.ensures.items) at c.in_ok-n.ensures.bytes;
}
