pub mod Frame
pub mod OneLatch
pub mod LatchLoop
