-- Theorems of specs/ that rest on which check comes when, and by which number: a wrong check is to be seen at the functions, so no
-- definition of specs/ stands on them.
pub mod Reading
pub mod Foreign
pub mod Raised
