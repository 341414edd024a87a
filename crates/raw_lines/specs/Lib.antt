pub mod RawLine
