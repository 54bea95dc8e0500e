pub mod Intake
pub mod RunLines
pub mod Replies
