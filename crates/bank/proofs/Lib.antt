pub mod Parts
pub mod OnAccount
pub mod Sums
pub mod Grants
pub mod GrantFaults
pub mod BankCalls
pub mod RowAllowance
