pub mod GivenLemmas
pub mod FailingLemmas
pub mod CountsLaws
pub mod WholeLemmas
