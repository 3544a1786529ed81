pub mod FrozenFile
