mod WriteLemmas
mod StepLemmas
mod OpeningLemmas
mod CallLemmas
pub mod Standing
mod Looking
