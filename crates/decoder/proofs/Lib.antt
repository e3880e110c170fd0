pub mod SearchLaws
pub mod PlaceLaws
pub mod NestingLaws
pub mod DecodeLaws
