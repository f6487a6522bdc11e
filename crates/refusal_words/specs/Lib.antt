pub mod RefusalWords
