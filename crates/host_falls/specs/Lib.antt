pub mod HostFalls
