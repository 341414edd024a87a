mod Fresh
mod Opened
mod Ends
mod Flushed
