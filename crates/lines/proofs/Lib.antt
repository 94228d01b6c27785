pub mod EndBytes
pub mod Judge
pub mod Marks
pub mod LinesLoop
pub mod OneLine
pub mod RowLoop
pub mod Numbers
