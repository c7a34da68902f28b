pub mod AnswerLemmas
pub mod RunLemmas
pub mod ShownLemmas
pub mod ClauseLemmas
pub mod Gathering
pub mod ReplyLemmas
