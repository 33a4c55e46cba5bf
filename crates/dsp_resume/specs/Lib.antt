pub mod ResumeState
