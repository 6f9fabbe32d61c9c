-- Laws that rest on what an edit of a definition turns: the edit is refused here.
pub mod Digits
