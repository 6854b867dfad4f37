pub mod WordRoundTrip
