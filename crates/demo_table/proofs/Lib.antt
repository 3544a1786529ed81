pub mod Binds
pub mod Found
pub mod Owned
pub mod Thawed
