pub mod EngineMapped
pub mod DriverMapped
