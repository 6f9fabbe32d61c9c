-- Laws that rest on the order of a header's checks: an edit of that order is refused here.
pub mod Order
pub mod Foreign
