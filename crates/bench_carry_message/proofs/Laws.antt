-- A message at its brick: what the answer tells, and the ways of a carried message.
pub mod ReplyKeptLaws
pub mod PastLimitLaws
pub mod ReachingLaws
pub mod DeliverLaws
