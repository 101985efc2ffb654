-- Document 01's machine over a table and what is kept: who is before whom, what each event does and answers, and when it is turned away.
pub mod Order
pub mod Reply
pub mod Event
pub mod Fields
pub mod Numbers
pub mod Machine
pub mod Moves
pub mod Away
