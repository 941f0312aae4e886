pub mod Action
pub mod App
pub mod Reading
pub mod CommandLine
