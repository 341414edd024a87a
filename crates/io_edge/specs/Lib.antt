pub mod AnySource
pub mod Counter
pub mod MemSink
pub mod MemSource
pub mod Sink
pub mod Source
pub mod StdEdge
