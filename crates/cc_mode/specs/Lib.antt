-- which definitions are surely small enough
pub mod Long
