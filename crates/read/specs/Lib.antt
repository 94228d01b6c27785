pub mod body
