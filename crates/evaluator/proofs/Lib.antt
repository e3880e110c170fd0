pub mod ContractLaws
pub mod ActionLaws
