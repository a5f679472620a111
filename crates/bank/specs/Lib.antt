pub mod Accounts
pub mod Granting
pub mod Bank
pub mod GrantFaults
pub mod BankCalls
pub mod SessionGrants
pub mod RowAllowance
pub mod Steps
