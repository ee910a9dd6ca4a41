-- Linear's moves are moves of a layer
pub mod Layer
