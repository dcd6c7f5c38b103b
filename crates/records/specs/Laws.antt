-- What is proved of the definitions.
pub mod ByteSteps
pub mod Records
