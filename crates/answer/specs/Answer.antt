-- The numbers and items of the answers.                                               rule: ANSWERS
--     refusal_number    the number of a refusal; 11 is not given
--     refusal_item      how many false headers there are for 6, the module's index for 16, else 0
--     number_of         0 for a load, else the number of the refusal
--     item_of           0 for a load, else the item of the refusal
-- Assumes nothing.
use Rattle.std.specs.Prelude.{ℕ, Result, Ok, Err}
use Rattle.answer.specs.declared.Refusal.{Refusal}
use Rattle.answer.specs.declared.Refusal.TheVariants.{NotASubmission, BadSubmission, BadOperatorLine, WindowPastTop, BadMemoryMap, NoHeader, UnknownRequest, UndefinedBits, NoAddressFields, HeaderCutOff, LoadBeforeImage, LoadPastImage, BssBelowLoadEnd, BadElf, BadProgramHeader, SegmentsOverlap, EntryOutsideLoad, KernelNotOpen, NoRoomForModule, NoRoomForBlock}

abbrev pub refusal_number : Refusal → ℕ
refusal_number NotASubmission = 1
refusal_number BadSubmission = 2
refusal_number BadOperatorLine = 3
refusal_number WindowPastTop = 4
refusal_number BadMemoryMap = 5
refusal_number (NoHeader n) = 6
refusal_number UnknownRequest = 7
refusal_number UndefinedBits = 25
refusal_number NoAddressFields = 8
refusal_number HeaderCutOff = 9
refusal_number LoadBeforeImage = 10
refusal_number LoadPastImage = 12
refusal_number BssBelowLoadEnd = 13
refusal_number BadElf = 18
refusal_number BadProgramHeader = 19
refusal_number SegmentsOverlap = 20
refusal_number EntryOutsideLoad = 14
refusal_number KernelNotOpen = 15
refusal_number (NoRoomForModule i) = 16
refusal_number NoRoomForBlock = 17

abbrev pub refusal_item : Refusal → ℕ
refusal_item NotASubmission = 0
refusal_item BadSubmission = 0
refusal_item BadOperatorLine = 0
refusal_item WindowPastTop = 0
refusal_item BadMemoryMap = 0
refusal_item (NoHeader n) = n
refusal_item UnknownRequest = 0
refusal_item UndefinedBits = 0
refusal_item NoAddressFields = 0
refusal_item HeaderCutOff = 0
refusal_item LoadBeforeImage = 0
refusal_item LoadPastImage = 0
refusal_item BssBelowLoadEnd = 0
refusal_item BadElf = 0
refusal_item BadProgramHeader = 0
refusal_item SegmentsOverlap = 0
refusal_item EntryOutsideLoad = 0
refusal_item KernelNotOpen = 0
refusal_item (NoRoomForModule i) = i
refusal_item NoRoomForBlock = 0

abbrev pub number_of : {A : Type 0} → Result A Refusal → ℕ
number_of (Ok a) = 0
number_of (Err r) = refusal_number r

abbrev pub item_of : {A : Type 0} → Result A Refusal → ℕ
item_of (Ok a) = 0
item_of (Err r) = refusal_item r
