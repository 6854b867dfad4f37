pub mod NearLaws
pub mod PlaceLaws
pub mod ViewLaws
pub mod BoundLaws
