pub mod Spans
pub mod SpansLemmas
