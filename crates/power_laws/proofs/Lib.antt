mod Pages
mod Stored
mod UnderWay
mod PhaseEnds
mod ReadOff
pub mod NothingToDo
mod Losing
mod Darks
mod CardEvents
mod FlushEvents
mod CutLines
