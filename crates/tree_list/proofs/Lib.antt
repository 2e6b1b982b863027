-- Laws that the operations' proofs apply.
pub mod Records
pub mod Entries
pub mod StepsInPlace
pub mod StepsInOrder
pub mod SoundRows
pub mod Checked
pub mod AnswerNew
pub mod AnswerCount
pub mod AnswerRelease
pub mod AnswerFetch
pub mod AnswerOpen
pub mod Turns
pub mod AnswerClose
pub mod UpdateTests
pub mod AnswerUpdate
