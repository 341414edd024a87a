pub mod DirectLaws
pub mod FlagLaws
pub mod Refusals
pub mod TaskLaws
pub mod TransferLaws
