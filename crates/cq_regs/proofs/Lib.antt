pub mod RingLaws
pub mod RungLaws
pub mod ProgressLaws
pub mod CalmLaws
pub mod BitLaws
