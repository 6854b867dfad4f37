pub mod BankLaws
pub mod AfterLaws
