-- Lines of an input. `Lines` says what they are, `Taking` what `take_line` claims; `Passed` and `Running` are for programs over them.
pub mod Lines
pub mod Taking
pub mod Passed
pub mod Running
