pub mod Dues
mod SetUps
mod Helds
mod Parts
mod Tags
pub mod Endings
pub mod Crossings
pub mod Events
mod Jobs
pub mod Blocks
mod Dones
pub mod Closes
pub mod Directs
mod Ties
mod Passing
mod Moves
mod Tolds
mod Few
mod Phased
mod BlockTells
mod Stopping
mod StopTells
mod BlockStops
mod BlockAll
mod Darks
mod BlockDarks
mod KeptStops
mod CloseStops
mod DirectLost
mod LostDirects
mod Slotted
mod Finished
mod Orders
mod FinishState
mod FinishData
mod FinishTells
mod CloseEnds
mod DirectLeft
mod DirectStops
mod DirectDarks
mod DirectEnds
mod DirectEvents
mod DirectDone
mod DirectDones
