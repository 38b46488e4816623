-- What is promised of every load, in propositions for all addresses. Start here.
--     Conditions, OfHeader, OfFields, OfLoad, OfElf
--                                     the condition of each refusal
--     Answered    1. the first condition that holds gives the number; a refusal changes nothing
--     Counted     how many false headers are told, in a load and in 6
--     OnMemory    where none before 15 holds: the kernel, 15, and the places of the modules and of the information block
--     Placing     3. each at its lowest place, and "no room" exactly where there is none
--     Planned     the plan of a load
--     Apart       nothing of a load shares a byte
--     Written     2. every byte of the window after a load
--     ReadBack    2. what the kernel finds there, and what it is handed
--     Promised    all of it: PromisesLaws says that it holds
-- x is what is lent, d the decision on it and q its plan; w is the window before and v after; s is the submission.
-- Assumes nothing.
use Rattle.std.specs.Prelude.{◌≡◌, Bool, true, false, cond, List, [], ◌∷◌, ◌++◌, ◌↔◌, ◌⊎◌, ℕ, ◌+◌, ◌*◌, ◌-◌, ◌/◌, ◌%◌, ◌^◌, ◌≤◌, ◌<◌, min, eqb, length, get_or, take, drop, Err}
use Rattle.laws.specs.HowMany.{HowMany}
use Rattle.number.specs.Number.{number_at}
use Rattle.address.specs.Span.{no_span, span_no, Holds}
use Rattle.address.specs.declared.Span.{Span}
use Rattle.answer.specs.Answer.{number_of, item_of}
use Rattle.answer.specs.Chain.{check_order, place_in, Before}
use Rattle.answer.specs.declared.Refusal.TheVariants.{NoRoomForModule, NoRoomForBlock}
use Rattle.submission.specs.Format.{module_count, data_length, string_length, ceiling, data_start, image_bytes, string_bytes}
use Rattle.submission.specs.GoodSubmission.{NoZero, Marked, GoodSubmission}
use Rattle.command_line.specs.LineInForce.{line_in_force}
use Rattle.header.specs.HeaderAt.{HeaderAt, FalseHeaderAt}
use Rattle.elf.specs.Elf.{elf_header, program_header_no}
use Rattle.elf.specs.GoodElf.{SegmentAt, GoodElf, GoodHeader, Takes}
use Rattle.elf.specs.Tabled.{Tabled}
use Rattle.image.specs.declared.load.AddressFields.{AddressFields}
use Rattle.kernel.specs.declared.Kernel.{Kernel}
use Rattle.image.specs.Load.{fields_at, load_offset, load_length}
use Rattle.kernel.specs.Kernel.{segment_no, extent_no}
use Rattle.image.specs.Calculated.{Announced, Calculated}
use Rattle.memory_map.specs.GoodMap.{GoodMap}
use Rattle.usable.specs.UsableAddress.{Usable, Stretch}
use Rattle.placement.specs.Placing.{Suits, Stands}
use Rattle.decision.specs.declared.Plan.{Plan}
use Rattle.decision.specs.Lent.{Lent}
use Rattle.decision.specs.Plan.{Decision, no_plan, plan_given}
use Rattle.block.specs.TextSize.{text_size, strings_size}

-- an address is open: usable, inside the window, and not below 0x500
pub record Open (x : Lent) (a : ℕ) : Type 0 where
  pub usable : Usable x.map a
  pub window : (x.first ≤ a) × (a < x.first + x.size)
  pub low : 0x500 ≤ a

-- the conditions on the load by address fields, 12 to 14: h are the address fields, `len` bytes go from `offset` on, n is the image's length
pub record OfLoad (h : AddressFields) (offset len n : ℕ) (c : ℕ → Bool) : Type 0 where
  pub c12 : (c 12 ≡ true) ↔ (((h.load_end_addr.0 ≡ 0 → ⊥) × (h.load_end_addr.0 < h.load_addr.0)) ⊎ (n < offset + len))
  pub c13 : (c 13 ≡ true) ↔ ((h.bss_end_addr.0 ≡ 0 → ⊥) × (h.bss_end_addr.0 < h.load_addr.0 + len))
  pub c14 : (c 14 ≡ true) ↔ ((h.entry_addr.0 < h.load_addr.0) ⊎ (h.load_addr.0 + len ≤ h.entry_addr.0))

-- the conditions on the address fields of the header at o, 9 and 10, and on the load that they ask for; 18 to 20 do not exist
pub record OfFields (image : List ℕ) (o : ℕ) (c : ℕ → Bool) : Type 0 where
  pub c9 : (c 9 ≡ true) ↔ ((8192 < o + 32) ⊎ (length image < o + 32))
  pub c10 : (c 10 ≡ true) ↔ ((number_at 4 image (o + 12) < number_at 4 image (o + 16)) ⊎ (o < number_at 4 image (o + 12) - number_at 4 image (o + 16)))
  pub load : OfLoad (fields_at image o) (load_offset (fields_at image o) o) (load_length (fields_at image o) (load_offset (fields_at image o) o) (length image)) (length image) c
  pub no_elf : (k : ℕ) → 18 ≤ k → k ≤ 20 → c k ≡ false

-- the conditions on an ELF image, 18 to 20 and 14; 9 to 13 do not exist
pub record OfElf (image : List ℕ) (c : ℕ → Bool) : Type 0 where
  pub c18 : (c 18 ≡ true) ↔ (GoodElf image → ⊥)
  pub c19 : (c 19 ≡ true) ↔ (((i : ℕ) → i < (elf_header image).e_phnum → (program_header_no image i).p_type ≡ 1 → GoodHeader (program_header_no image i) (length image)) → ⊥)
  pub c20 : (c 20 ≡ true) ↔ (((i j : ℕ) → i < j → SegmentAt image i → SegmentAt image j → (a : ℕ) → Takes (program_header_no image i) a → Takes (program_header_no image j) a → ⊥) → ⊥)
  pub c14 : (c 14 ≡ true) ↔ ((i : ℕ) → SegmentAt image i → ((program_header_no image i).p_paddr.0 ≤ (elf_header image).e_entry.0) × ((elf_header image).e_entry.0 < (program_header_no image i).p_paddr.0 + (program_header_no image i).p_filesz) → ⊥)
  pub no_fields : (k : ℕ) → 9 ≤ k → k ≤ 13 → c k ≡ false

-- flag bit 16 of the header at o
abbrev pub bit16 : List ℕ → ℕ → ℕ
bit16 image o = number_at 4 image (o + 4) / 2 ^ 16 % 2

-- the conditions on the header at o, 7, 25 and 8, and on what flag bit 16 chooses; an ELF image begins 7F 45 4C 46
pub record OfHeader (image : List ℕ) (o : ℕ) (c : ℕ → Bool) : Type 0 where
  pub c7 : (c 7 ≡ true) ↔ (number_at 4 image (o + 4) / 2 ^ 2 % 2 ^ 14 ≡ 0 → ⊥)
  pub c25 : (c 25 ≡ true) ↔ (number_at 4 image (o + 4) / 2 ^ 17 % 2 ^ 15 ≡ 0 → ⊥)
  pub c8 : (c 8 ≡ true) ↔ ((bit16 image o ≡ 0) × (number_at 4 image 0 ≡ 0x464C457F → ⊥))
  pub fields : bit16 image o ≡ 1 → OfFields image o c
  pub elf : bit16 image o ≡ 0 → OfElf image c

-- c k is whether the condition of the refusal k holds; those from 7 on speak of the lowest header
pub record Conditions (x : Lent) (c : ℕ → Bool) : Type 0 where
  pub c1 : (c 1 ≡ true) ↔ (Marked x.submission → ⊥)
  pub c2 : (c 2 ≡ true) ↔ (GoodSubmission x.submission → ⊥)
  pub c3 : (c 3 ≡ true) ↔ ((length x.operator ≤ 255) × NoZero x.operator → ⊥)
  pub c4 : (c 4 ≡ true) ↔ (0xFFFFF000 < x.first + x.size)
  pub c5 : (c 5 ≡ true) ↔ (GoodMap x.map → ⊥)
  pub c6 : (c 6 ≡ true) ↔ ((o : ℕ) → HeaderAt (image_bytes x.submission) o → ⊥)
  pub header : (o : ℕ) → HeaderAt (image_bytes x.submission) o → ((p : ℕ) → p < o → HeaderAt (image_bytes x.submission) p → ⊥) → OfHeader (image_bytes x.submission) o c

-- 1. the answer
pub record Answered (d : Decision) (w v : List ℕ) (c : ℕ → Bool) : Type 0 where
  -- the number k is given exactly where its condition holds, and none that is checked before it
  pub refusal : (k : ℕ) → 1 ≤ k → (number_of d ≡ k) ↔ ((c k ≡ true) × ((j : ℕ) → Before j k → c j ≡ false))
  -- 0 is given exactly where none holds
  pub load : (number_of d ≡ 0) ↔ ((k : ℕ) → c k ≡ false)
  -- a number that is not in the order of checks has no condition, so that it is not given
  pub other : (k : ℕ) → length check_order ≤ place_in check_order k → c k ≡ false
  -- 11 is such a number: no load with load_end_addr 0 is empty
  pub no_eleven : number_of d ≡ 11 → ⊥
  -- every answer but 6 and 16 has the item 0
  pub item : (number_of d ≡ 6 → ⊥) → (number_of d ≡ 16 → ⊥) → item_of d ≡ 0
  -- a refusal's plan is zeros, and a refusal leaves the window as it was
  pub plan : (number_of d ≡ 0 → ⊥) → plan_given d ≡ no_plan
  pub window : (number_of d ≡ 0 → ⊥) → v ≡ w

-- so many numbers k have a false header at 4k: a load's plan counts those below its header, the item of 6 those in the first
-- 8,192 bytes; Announced says that the header is the lowest
pub record Counted (image : List ℕ) (d : Decision) : Type 0 where
  pub load : number_of d ≡ 0 → HowMany (λ k. FalseHeaderAt image (4 * k)) ((plan_given d).kernel.header.0 / 4) (plan_given d).kernel.false_headers
  pub none : number_of d ≡ 6 → HowMany (λ k. FalseHeaderAt image (4 * k)) 2048 (item_of d)

-- the command line in force, and the length of the information block: structure, entries, map, name, command line, strings
abbrev pub line_of : Lent → List ℕ
line_of x = line_in_force x.operator x.submission

abbrev pub texts_offset : Lent → ℕ
texts_offset x = 88 + 16 * module_count x.submission + length x.map + 8

abbrev pub string_place : Lent → ℕ → ℕ
string_place x i = texts_offset x + text_size (length (line_of x)) + strings_size x.submission i

abbrev pub block_size : Lent → ℕ
block_size x = string_place x (module_count x.submission)

-- the ceiling of a module as an address: so many MiB, or, where it has none, 2^32, since no address from there on is open
abbrev pub module_ceiling : Lent → ℕ → ℕ
module_ceiling x i = cond (eqb (ceiling x.submission i) 0) (2 ^ 32) (ceiling x.submission i * 2 ^ 20)

-- no two of the kernel's extents, the modules and the block, in this order, share an address
abbrev pub Apart : List Span → ℕ → Type 0
Apart spans n = (i j : ℕ) → i < j → j < n → (a : ℕ) → Holds (span_no spans i) a → Holds (span_no spans j) a → ⊥

-- the plan of a load: the kernel and the spans where everything stands, zeros past the last module, and what is handed over
pub record Planned (x : Lent) (k : Kernel) (spans : List Span) (q : Plan) : Type 0 where
  pub kernel : q.kernel ≡ k
  pub modules : (i : ℕ) → i < module_count x.submission → span_no q.modules i ≡ span_no spans (k.count + i)
  pub past : (i : ℕ) → module_count x.submission ≤ i → span_no q.modules i ≡ no_span
  pub block : q.block ≡ span_no spans (k.count + module_count x.submission)
  pub eax : q.eax ≡ 0x2BADB002
  pub ebx : q.ebx ≡ q.block.start.0
  -- the entry lies in the load bytes of this segment
  pub entered : ℕ
  pub entry : (entered < k.count) × ((segment_no k entered).start.0 ≤ k.entry.0) × (k.entry.0 < (segment_no k entered).load_end.0)
  pub bss : (i : ℕ) → i < k.count → ((segment_no k i).start.0 ≤ (segment_no k i).load_end.0) × ((segment_no k i).load_end.0 ≤ (segment_no k i).extent_end.0) × ((segment_no k i).start.0 < (segment_no k i).extent_end.0)
  pub apart : Apart spans (k.count + (module_count x.submission + 1))

-- 3. the places: `done` of the modules from index 0 and of the block behind them found room
pub record Placing (x : Lent) (k : Kernel) (d : Decision) : Type 0 where
  pub spans : List Span
  pub done : ℕ
  -- the kernel's extents come first
  pub kernel : (j : ℕ) → j < k.count → span_no spans j ≡ extent_no k j
  -- each module stands at its lowest place, on a boundary of 4,096 where pages are asked for, else of 4, and under its ceiling;
  -- the block at its lowest place on a boundary of 4, without a ceiling
  pub modules : (i : ℕ) → i < module_count x.submission → i < done → Stands (Open x) spans (k.count + i) (data_length x.submission i) (cond k.pages 4096 4) (module_ceiling x i)
  pub block : module_count x.submission < done → Stands (Open x) spans (k.count + module_count x.submission) (block_size x) 4 (2 ^ 32)
  -- with those before it placed, no room is answered exactly where no address suits
  pub no_room : (i : ℕ) → i < module_count x.submission → i ≤ done → (d ≡ Err (NoRoomForModule i)) ↔ ((a : ℕ) → Suits (Open x) spans (k.count + i) (data_length x.submission i) (cond k.pages 4096 4) (module_ceiling x i) a → ⊥)
  pub no_room_block : module_count x.submission ≤ done → (d ≡ Err NoRoomForBlock) ↔ ((a : ℕ) → Suits (Open x) spans (k.count + module_count x.submission) (block_size x) 4 (2 ^ 32) a → ⊥)
  -- placing ended at the one that the answer names
  pub at_module : (i : ℕ) → d ≡ Err (NoRoomForModule i) → (done ≡ i) × (i < module_count x.submission)
  pub at_block : d ≡ Err NoRoomForBlock → done ≡ module_count x.submission
  -- in a load all did, and this is its plan
  pub load : number_of d ≡ 0 → (done ≡ module_count x.submission + 1) × Planned x k spans (plan_given d)

-- where none before 15 holds, the kernel is the one that the header asks for, by address fields or by the table of an ELF
-- image; 15 is that not all of its extents are open
pub record OnMemory (x : Lent) (d : Decision) (c : ℕ → Bool) : Type 0 where
  pub kernel : Kernel
  pub announced : Announced (image_bytes x.submission) kernel
  pub calculated : bit16 (image_bytes x.submission) kernel.header.0 ≡ 1 → Calculated (image_bytes x.submission) kernel
  pub tabled : bit16 (image_bytes x.submission) kernel.header.0 ≡ 0 → Tabled (image_bytes x.submission) kernel
  pub c15 : (c 15 ≡ true) ↔ (((i : ℕ) → i < kernel.count → (a : ℕ) → Holds (extent_no kernel i) a → Open x a) → ⊥)
  pub placing : c 15 ≡ false → Placing x kernel d

-- the address belongs to nothing of the load
pub record Elsewhere (x : Lent) (q : Plan) (a : ℕ) : Type 0 where
  pub kernel : (i : ℕ) → i < q.kernel.count → Holds (extent_no q.kernel i) a → ⊥
  pub modules : (i : ℕ) → i < module_count x.submission → Holds (span_no q.modules i) a → ⊥
  pub block : Holds q.block a → ⊥

-- the byte at an address of a window
abbrev pub byte_at : Lent → List ℕ → ℕ → ℕ
byte_at x v a = get_or v (a - x.first) 0

-- 2. the window after a load: the kernel's load bytes, zeros over its bss, the modules, and beside the block what was there
pub record Written (x : Lent) (q : Plan) (w v : List ℕ) : Type 0 where
  pub size : length v ≡ length w
  pub loaded : (i : ℕ) → i < q.kernel.count → (a : ℕ) → (segment_no q.kernel i).start.0 ≤ a → a < (segment_no q.kernel i).load_end.0
      → byte_at x v a ≡ get_or (image_bytes x.submission) ((segment_no q.kernel i).offset.0 + (a - (segment_no q.kernel i).start.0)) 0
  pub bss : (i : ℕ) → i < q.kernel.count → (a : ℕ) → (segment_no q.kernel i).load_end.0 ≤ a → a < (segment_no q.kernel i).extent_end.0 → byte_at x v a ≡ 0
  pub modules : (i : ℕ) → i < module_count x.submission → (a : ℕ) → Holds (span_no q.modules i) a
      → byte_at x v a ≡ get_or x.submission (data_start x.submission i + (a - (span_no q.modules i).start.0)) 0
  pub elsewhere : (a : ℕ) → x.first ≤ a → a < x.first + x.size → Elsewhere x q a → byte_at x v a ≡ byte_at x w a
  -- nothing changes below 0x500, where the interrupt vectors and the BIOS data area lie
  pub bios_data : (a : ℕ) → x.first ≤ a → a < 0x500 → byte_at x v a ≡ byte_at x w a

-- the number of four bytes at an offset of the information block, found by the value handed over in EBX
abbrev pub word_at : Lent → Plan → List ℕ → ℕ → ℕ
word_at x q v o = number_at 4 v (q.ebx - x.first + o)

-- so many bytes of a window from an address on
abbrev pub bytes_from : Lent → List ℕ → ℕ → ℕ → List ℕ
bytes_from x v a n = take n (drop (a - x.first) v)

-- 2. the information block, each of its bytes: the 22 words of the structure, four for each module, and what they point to
pub record ReadBack (x : Lent) (q : Plan) (v : List ℕ) : Type 0 where
  pub flags : length (line_of x) ≡ 0 → word_at x q v 0 ≡ 0x249
  pub flags_line : (length (line_of x) ≡ 0 → ⊥) → word_at x q v 0 ≡ 0x24D
  -- usable addresses in a row from 0 on and from 1 MiB on, in whole KiB, the first at most 640
  pub lower : ℕ
  pub lower_row : Stretch x.map 0 lower
  pub lower_word : word_at x q v 4 ≡ min (lower / 1024) 640
  pub upper : ℕ
  pub upper_row : Stretch x.map 0x100000 upper
  pub upper_word : word_at x q v 8 ≡ upper / 1024
  pub cmdline : length (line_of x) ≡ 0 → word_at x q v 16 ≡ 0
  pub cmdline_line : (length (line_of x) ≡ 0 → ⊥) → word_at x q v 16 ≡ q.ebx + texts_offset x
  pub mods_count : word_at x q v 20 ≡ module_count x.submission
  pub mods_addr : word_at x q v 24 ≡ q.ebx + 88
  pub mmap_length : word_at x q v 44 ≡ length x.map
  pub mmap_addr : word_at x q v 48 ≡ q.ebx + (88 + 16 * module_count x.submission)
  pub boot_loader_name : word_at x q v 64 ≡ q.ebx + (88 + 16 * module_count x.submission + length x.map)
  pub zeros : (k : ℕ) → k < 22 → ((i : ℕ) → i < 9 → get_or (0 ∷ 4 ∷ 8 ∷ 16 ∷ 20 ∷ 24 ∷ 44 ∷ 48 ∷ 64 ∷ []) i 0 ≡ 4 * k → ⊥) → word_at x q v (4 * k) ≡ 0
  -- the entry of each module: its start, its end, the address of its string, and 0
  pub starts : (i : ℕ) → i < module_count x.submission → word_at x q v (88 + 16 * i) ≡ (span_no q.modules i).start.0
  pub ends : (i : ℕ) → i < module_count x.submission → word_at x q v (88 + 16 * i + 4) ≡ (span_no q.modules i).end.0
  pub no_string : (i : ℕ) → i < module_count x.submission → string_length x.submission i ≡ 0 → word_at x q v (88 + 16 * i + 8) ≡ 0
  pub string : (i : ℕ) → i < module_count x.submission → (string_length x.submission i ≡ 0 → ⊥) → word_at x q v (88 + 16 * i + 8) ≡ q.ebx + string_place x i
  pub reserved : (i : ℕ) → i < module_count x.submission → word_at x q v (88 + 16 * i + 12) ≡ 0
  -- what stands at these addresses: the map as it was lent, `shelf 1` and a zero, and with their zeros the command line and the strings
  pub map_bytes : bytes_from x v (word_at x q v 48) (length x.map) ≡ x.map
  pub name_bytes : bytes_from x v (word_at x q v 64) 8 ≡ 115 ∷ 104 ∷ 101 ∷ 108 ∷ 102 ∷ 32 ∷ 49 ∷ 0 ∷ []
  pub line_bytes : (length (line_of x) ≡ 0 → ⊥) → bytes_from x v (word_at x q v 16) (length (line_of x) + 1) ≡ line_of x ++ (0 ∷ [])
  pub string_bytes : (i : ℕ) → i < module_count x.submission → (string_length x.submission i ≡ 0 → ⊥)
      → bytes_from x v (word_at x q v (88 + 16 * i + 8)) (string_length x.submission i + 1) ≡ string_bytes x.submission i ++ (0 ∷ [])

-- all of it, for a window of the size that was lent
pub record Promised (x : Lent) (w : List ℕ) (d : Decision) (v : List ℕ) : Type 0 where
  pub holds : ℕ → Bool
  pub conditions : Conditions x holds
  pub answered : Answered d w v holds
  pub counted : Counted (image_bytes x.submission) d
  pub memory : ((k : ℕ) → Before k 15 → holds k ≡ false) → OnMemory x d holds
  pub written : number_of d ≡ 0 → Written x (plan_given d) w v
  pub read_back : number_of d ≡ 0 → ReadBack x (plan_given d) v
