-- The rules of a submission, in propositions.                                      rule: SUBMISSION
--     Marked            the rules behind 1
--     GoodSubmission    the rules behind 2
--     NoZero            no byte is zero
-- Assumes nothing.
use Rattle.std.specs.Prelude.{◌≡◌, List, ◌∷◌, [], ◌⊎◌, ℕ, ◌≤◌, ◌<◌, length, take, get_or}
use Rattle.submission.specs.Format.{version, module_count, line_length, data_length, string_length, ceiling, parts_end, line_bytes, string_bytes}

-- no byte is zero
abbrev pub NoZero : List ℕ → Type 0
NoZero s = (i : ℕ) → i < length s → get_or s i 0 ≡ 0 → ⊥

-- at least 12 bytes, the mark `KSB`, version 1 or 2
pub record Marked (s : List ℕ) : Type 0 where
  pub long : 12 ≤ length s
  pub mark : take 3 s ≡ 0x4B ∷ 0x53 ∷ 0x42 ∷ []
  pub version : (version s ≡ 1) ⊎ (version s ≡ 2)

-- every other rule
pub record GoodSubmission (s : List ℕ) : Type 0 where
  pub count : module_count s ≤ 16
  pub line : line_length s ≤ 255
  pub bytes : (i : ℕ) → i < module_count s → 1 ≤ data_length s i
  pub string : (i : ℕ) → i < module_count s → string_length s i ≤ 127
  pub zeros : version s ≡ 1 → (i : ℕ) → i < module_count s → ceiling s i ≡ 0
  pub end : parts_end s ≡ length s
  pub line_text : NoZero (line_bytes s)
  pub string_text : (i : ℕ) → i < module_count s → NoZero (string_bytes s i)
