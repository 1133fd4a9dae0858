pub mod CalledOnParts
pub mod Failed
pub mod MovedToFront
