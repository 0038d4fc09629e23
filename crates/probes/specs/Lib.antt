-- For the calls of tests and tools only: what each returns and leaves in its room. The answers stand in `model`.
pub mod ProbeCalls
pub mod Replies
