-- What an Add leaves of a disk that was read before (Added), why bytes are the file of no unit (Unread), what an unpacked unit leaves
-- (Unpacked), and the lines of units one after another (Lines).
pub mod Added
pub mod Unread
pub mod Unpacked
pub mod Lines
