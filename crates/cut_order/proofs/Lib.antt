pub mod FrontLaws
pub mod StateLaws
pub mod EventLaws
pub mod LeftLaws
