-- What a message asks of a brick and changes in it. BrickRules: the rules, on the abstract brick. AnswerTheorem: answers are as before the
-- comparisons were named. Workers: what the inner workers ask and give.
pub mod BrickRules
pub mod AnswerTheorem
pub mod Workers
