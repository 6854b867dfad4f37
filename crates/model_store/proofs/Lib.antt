pub mod MaskLaws
pub mod PlaceLaws
pub mod TouchLaws
