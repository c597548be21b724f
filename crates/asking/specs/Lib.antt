-- Lines to calls. `Text` has all that the public claim says, and the files below it what follows from that.
pub mod Text
pub mod Parts
