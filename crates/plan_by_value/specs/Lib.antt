pub mod Call
pub mod Form
