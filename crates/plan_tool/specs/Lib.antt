pub mod Files
pub mod Subjects
