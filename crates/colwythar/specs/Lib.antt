pub mod Words
pub mod BankWords
