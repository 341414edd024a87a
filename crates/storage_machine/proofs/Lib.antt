pub mod Masks
pub mod Changes
mod FirstFlags
mod LowestPuts
mod OwnPuts
mod SectorLists
mod UnusedLines
