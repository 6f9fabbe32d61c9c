-- `programs::store_header` meets its contract: the fields are the header's. Assumes nothing.
use Rattle.programs.specs.Header.{header_bytes}
use Rattle.programs.proofs.headers.store_header.Goals as goal

pub returns : goal.returns
unfolding header_bytes
returns c = c.put_fields.ensures
