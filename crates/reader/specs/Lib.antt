pub mod TreeFile
