-- The saved brick. Brick: the abstract brick. Image: its blocks. Parse: opening. Opening: the answers, by the refusal's number. SavedTheorem: the
-- statements. Workers: the inner workers.
pub mod Brick
pub mod Image
pub mod ImageAnswers
pub mod Opening
pub mod PanelAnswer
pub mod Parse
pub mod SavedTheorem
pub mod Workers
