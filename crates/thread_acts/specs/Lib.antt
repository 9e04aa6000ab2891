pub mod ThreadDeeds
pub mod ThreadRuns
