-- Recovery. `Replay` says what is found in bytes, `Scan` and `Apply` what the two passes over them claim, chunk by chunk; `Cut` has the words of the promises.
pub mod Replay
pub mod Scan
pub mod Apply
pub mod Parts
pub mod Cut
