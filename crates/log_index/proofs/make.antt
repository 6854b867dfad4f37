pub mod MakeLaws
