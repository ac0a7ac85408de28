-- Records: the record with nothing in it, kinds of operations. CountedRules: what a counted reply keeps. Sound: refusal 6.
-- SoundParts: the same, rule by rule.
pub mod Records
pub mod CountedRules
pub mod Sound
pub mod SoundParts
