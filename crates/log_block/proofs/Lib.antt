pub mod CountLaws
pub mod BlockLaws
pub mod WriteLaws
pub mod ReadLaws
pub mod OneBlock
pub mod LogThenList
pub mod ListThenLog
pub mod Worked
