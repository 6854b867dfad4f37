pub mod Touch
