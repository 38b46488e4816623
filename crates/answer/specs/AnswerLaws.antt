-- Laws of the numbered answers.
--     number_least, number_most    the numbers of refusals are from 1 to 25
--     answer_most                  no number is above 25
--     item_none                    every answer but 6 and 16 has the item 0
-- Assumes nothing.
use Rattle.std.specs.Prelude.{◌≡◌, refl, ◌≤◌}
use Rattle.std.proofs.Common.{arith}
use Rattle.std.specs.Prelude.{Result, Ok, Err}
use Rattle.answer.specs.Answer.{refusal_number, refusal_item, number_of, item_of}
use Rattle.answer.specs.declared.Refusal.{Refusal}
use Rattle.answer.specs.declared.Refusal.TheVariants.{NotASubmission, BadSubmission, BadOperatorLine, WindowPastTop, BadMemoryMap, NoHeader, UnknownRequest, UndefinedBits, NoAddressFields, HeaderCutOff, LoadBeforeImage, LoadPastImage, BssBelowLoadEnd, BadElf, BadProgramHeader, SegmentsOverlap, EntryOutsideLoad, KernelNotOpen, NoRoomForModule, NoRoomForBlock}

refusal_none : (a : Refusal) → (refusal_number a ≡ 6 → ⊥) → (refusal_number a ≡ 16 → ⊥) → refusal_item a ≡ 0
refusal_none NotASubmission h l = refl
refusal_none BadSubmission h l = refl
refusal_none BadOperatorLine h l = refl
refusal_none WindowPastTop h l = refl
refusal_none BadMemoryMap h l = refl
refusal_none (NoHeader n) h l = absurd (h refl)
refusal_none UnknownRequest h l = refl
refusal_none UndefinedBits h l = refl
refusal_none NoAddressFields h l = refl
refusal_none HeaderCutOff h l = refl
refusal_none LoadBeforeImage h l = refl
refusal_none LoadPastImage h l = refl
refusal_none BssBelowLoadEnd h l = refl
refusal_none BadElf h l = refl
refusal_none BadProgramHeader h l = refl
refusal_none SegmentsOverlap h l = refl
refusal_none EntryOutsideLoad h l = refl
refusal_none KernelNotOpen h l = refl
refusal_none (NoRoomForModule i) h l = absurd (l refl)
refusal_none NoRoomForBlock h l = refl

pub number_most : (a : Refusal) → refusal_number a ≤ 25
number_most NotASubmission = omega arith
number_most BadSubmission = omega arith
number_most BadOperatorLine = omega arith
number_most WindowPastTop = omega arith
number_most BadMemoryMap = omega arith
number_most (NoHeader n) = omega arith
number_most UnknownRequest = omega arith
number_most UndefinedBits = omega arith
number_most NoAddressFields = omega arith
number_most HeaderCutOff = omega arith
number_most LoadBeforeImage = omega arith
number_most LoadPastImage = omega arith
number_most BssBelowLoadEnd = omega arith
number_most BadElf = omega arith
number_most BadProgramHeader = omega arith
number_most SegmentsOverlap = omega arith
number_most EntryOutsideLoad = omega arith
number_most KernelNotOpen = omega arith
number_most (NoRoomForModule i) = omega arith
number_most NoRoomForBlock = omega arith

pub number_least : (a : Refusal) → 1 ≤ refusal_number a
number_least NotASubmission = omega arith
number_least BadSubmission = omega arith
number_least BadOperatorLine = omega arith
number_least WindowPastTop = omega arith
number_least BadMemoryMap = omega arith
number_least (NoHeader n) = omega arith
number_least UnknownRequest = omega arith
number_least UndefinedBits = omega arith
number_least NoAddressFields = omega arith
number_least HeaderCutOff = omega arith
number_least LoadBeforeImage = omega arith
number_least LoadPastImage = omega arith
number_least BssBelowLoadEnd = omega arith
number_least BadElf = omega arith
number_least BadProgramHeader = omega arith
number_least SegmentsOverlap = omega arith
number_least EntryOutsideLoad = omega arith
number_least KernelNotOpen = omega arith
number_least (NoRoomForModule i) = omega arith
number_least NoRoomForBlock = omega arith

-- the same of an answer
pub answer_most : {A : Type 0} → (a : Result A Refusal) → number_of a ≤ 25
answer_most (Ok x) = omega arith
answer_most (Err r) = number_most r

pub item_none : {A : Type 0} → (a : Result A Refusal) → (number_of a ≡ 6 → ⊥) → (number_of a ≡ 16 → ⊥) → item_of a ≡ 0
item_none (Ok x) h l = refl
item_none (Err r) h l = refusal_none r h l
