pub mod Rows
pub mod LineSteps
pub mod Writing
pub mod FrameKinds
pub mod Postfix
pub mod Encoding
pub mod Worths
