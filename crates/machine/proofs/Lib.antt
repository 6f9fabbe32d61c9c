-- Theorems about what instructions and runs do: a wrong meaning of specs/ is to be seen at the functions, so no definition of specs/
-- stands on them.
pub mod Calls
pub mod GateSteps
pub mod Turns
pub mod Answers
pub mod Resuming
pub mod Numbers
pub mod Unseen
pub mod LaneLaw
